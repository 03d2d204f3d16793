use Rattle.std.proofs.Common.{◌≡◌, ◌∷◌, ◌+◌, List, get_or, drop, subst, arith}
use Rattle.dns_records.specs.Types.{Field}
use Rattle.dns_records.specs.Fields.{StringsLast, stated_field, stated_fields}
use Rattle.dns_wire.specs.Fields.{SomeFields}
use Rattle.dns_wire.proofs.Appended.{Joins, joined_next}
use Rattle.dns_wire.proofs.FieldSteps.{field_low, fields_less, fields_first, last_behind}
use Rattle.dns_wire.proofs.Parts.{no_field, parts_left}
use Rattle.dns_wire.proofs.owned.append_fields.Goals as goal

pub append_field-requires-clause-there : goal.append_field-requires-clause-there
append_field-requires-clause-there c =
    let m = c.args.message.now in
    let parts = c.args.fields.now in
    let i = c.loop-field.field-index in
    let first : Field = stated_field (get_or parts i no_field) in
    let rest : List Field = stated_fields (drop (i + 1) parts) in
    let left : stated_fields (drop i parts) ≡ first ∷ rest = parts_left parts i no_field (omega arith) in
    let one = fields_first m c.loop-field.next first rest c.args.stop (subst StringsLast left c.loop-field.invariant.last) (subst (λ (fs : List Field). SomeFields m c.loop-field.next fs c.args.stop) left c.loop-field.invariant.left) in
    (one.0, one.1)

pub loop-field-preserved : goal.loop-field-preserved
loop-field-preserved c =
    let m = c.args.message.now in
    let parts = c.args.fields.now in
    let i = c.loop-field.field-index in
    let at = c.loop-field.next in
    let next = c.in_ok-next.next in
    let stop = c.args.stop in
    let first : Field = stated_field (get_or parts i no_field) in
    let rest : List Field = stated_fields (drop (i + 1) parts) in
    let left : stated_fields (drop i parts) ≡ first ∷ rest = parts_left parts i no_field (omega arith) in
    let last : StringsLast (first ∷ rest) = subst StringsLast left c.loop-field.invariant.last in
    let found = c.in_ok-next.ensures.part in
    record {
      up = field_low m at first next stop found.0;
      last = last_behind first rest last;
      left = fields_less m at first rest next stop last found.0 (subst (λ (fs : List Field). SomeFields m at fs stop) left c.loop-field.invariant.left);
      few = omega (arith, c.append_field.ensures.size, c.loop-field.invariant.few);
      known = c.append_field.ensures.known;
      joins = joined_next m c.args.at (stated_fields parts) stop at first rest next c.args.out.now.items c.loop-field.out.items c.append_field.new.out.items (subst (λ (fs : List Field). Joins m c.args.at (stated_fields parts) stop at fs c.args.out.now.items c.loop-field.out.items) left c.loop-field.invariant.joins) found.0 found.1;
    }
