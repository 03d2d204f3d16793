use Rattle.std.proofs.Common.{◌≡◌, ℕ, Bool, true, false, List, length, refl, sym, ap, ◌∙◌}
use Rattle.std.specs.Prelude.{not, ◌&&◌, ◌==◌}
use Rattle.dns_records.specs.Types.{type_cname, type_any}
use Rattle.dns_records.specs.Record.{Record}
use Rattle.dns_lookup.proofs.AtNode.{followed, is_alias, is_no_data, is_answers}
use Rattle.dns_lookup.proofs.outcome.kind_by.Goals as goal

tested : (t : ℕ) (aliases : List Record) (none b : Bool) → none ≡ (length aliases == 0) → (not none && not (t == type_cname) && not (t == type_any)) ≡ b → (not (length aliases == 0) && not (t == type_cname) && not (t == type_any)) ≡ b
tested t aliases none b is e = ap (λ (x : Bool). not x && not (t == type_cname) && not (t == type_any)) (sym is) ∙ e

pub returns-then-is_empty-qtype : goal.returns-then-is_empty-qtype
returns-then-is_empty-qtype c = λ set node name ordered lent.
    let t = c.args.qtype in
    let aliases = c.of_type-aliases.result.now in
    let are = c.of_type-aliases.ensures set node ordered lent in
    (is_alias set node name t (sym (followed set node t aliases are) ∙ tested t aliases c.is_empty.result true c.is_empty.ensures c.if-is_empty-qtype.true), are)

pub returns-then-is_empty : goal.returns-then-is_empty
returns-then-is_empty c = λ set node name ordered lent.
    let t = c.args.qtype in
    let aliases = c.of_type-aliases.result.now in
    let are = c.of_type-aliases.ensures set node ordered lent in
    let found = c.asked-found.ensures set node ordered lent in
    (is_no_data set node name t (sym (followed set node t aliases are) ∙ tested t aliases c.is_empty.result false c.is_empty.ensures c.if-is_empty-qtype.false) (ap (λ (rs : List Record). length rs == 0) (sym found) ∙ sym c.is_empty-2.ensures ∙ c.if-is_empty.true), refl)

pub returns : goal.returns
returns c = λ set node name ordered lent.
    let t = c.args.qtype in
    let aliases = c.of_type-aliases.result.now in
    let are = c.of_type-aliases.ensures set node ordered lent in
    let found = c.asked-found.ensures set node ordered lent in
    (is_answers set node name t (sym (followed set node t aliases are) ∙ tested t aliases c.is_empty.result false c.is_empty.ensures c.if-is_empty-qtype.false) (ap (λ (rs : List Record). length rs == 0) (sym found) ∙ sym c.is_empty-2.ensures ∙ c.if-is_empty.false), found)
