use Rattle.std.proofs.Common.{◌≡◌, ◌++◌, ◌+◌, ℕ, sym, subst}
use Rattle.std.specs.Prelude.{IfOk}
use Rattle.dns_names.specs.Name.{Labels, wire}
use Rattle.dns_records.specs.Types.{Name, UncompressedName}
use Rattle.dns_records.specs.Fields.{stated_field, stated_values}
use Rattle.dns_records.specs.declared.parts.Field.{Field}
use Rattle.dns_wire.specs.NameAt.{FullNameAt}
use Rattle.dns_wire.specs.Fields.{SomeField}
use Rattle.dns_wire.proofs.Appended.{values_appended, name_appended, target_appended, strings_appended}
use Rattle.std.proofs.lemmas.Result.{IfOk-weaker}
use Rattle.dns_wire.proofs.owned.append_field.Goals as goal

pub returns-in_ok-extend_from_slice-in-Some-clause-part : goal.returns-in_ok-extend_from_slice-in-Some-clause-part
returns-in_ok-extend_from_slice-in-Some-clause-part c =
    let m = c.args.message.now in
    let h = rw c.in-Values.is at c.requires.there in
    subst (λ (f : Field). (part : SomeField m c.args.at (stated_field f) (c.args.at + c.in-Some.count) c.args.stop) × (c.extend_from_slice.new.self.items ≡ c.args.out.now.items ++ part.plain)) (sym c.in-Values.is)
    (values_appended m (stated_values c.in-Values.values.now) c.args.at c.in-Some.count h.0 c.args.stop c.args.out.now.items c.extend_from_slice.new.self.items c.in-Some.ensures.0 h.1 c.requires.inside c.in_ok-extend_from_slice-in-Some.ensures.items)

pub returns-in-Name-clause-part : goal.returns-in-Name-clause-part
returns-in-Name-clause-part c =
    let m = c.args.message.now in
    let h = rw c.in-Name.is at c.requires.there in
    let old = c.args.out.now.items in
    let new = c.append_name.new.out.items in
    subst (λ (f : Field). IfOk c.append_name.result (λ mid. (part : SomeField m c.args.at (stated_field f) mid c.args.stop) × (new ≡ old ++ part.plain))) (sym c.in-Name.is)
    (IfOk-weaker c.append_name.result (λ (end : ℕ). (name : Labels) × FullNameAt m c.args.at name end × (new ≡ old ++ wire name)) (λ (end : ℕ). (part : SomeField m c.args.at Name end c.args.stop) × (new ≡ old ++ part.plain)) (λ end k. name_appended m c.args.at h.0 c.args.stop end old new h.1 k) c.append_name.ensures.name)

pub returns-in-UncompressedName-clause-part : goal.returns-in-UncompressedName-clause-part
returns-in-UncompressedName-clause-part c =
    let m = c.args.message.now in
    let h = rw c.in-UncompressedName.is at c.requires.there in
    let old = c.args.out.now.items in
    let new = c.append_name-in-UncompressedName.new.out.items in
    subst (λ (f : Field). IfOk c.append_name-in-UncompressedName.result (λ mid. (part : SomeField m c.args.at (stated_field f) mid c.args.stop) × (new ≡ old ++ part.plain))) (sym c.in-UncompressedName.is)
    (IfOk-weaker c.append_name-in-UncompressedName.result (λ (end : ℕ). (name : Labels) × FullNameAt m c.args.at name end × (new ≡ old ++ wire name)) (λ (end : ℕ). (part : SomeField m c.args.at UncompressedName end c.args.stop) × (new ≡ old ++ part.plain)) (λ end k. target_appended m c.args.at h.0 c.args.stop end old new h.1 k) c.append_name-in-UncompressedName.ensures.name)

pub returns-in_ok-extend_from_slice-in-Strings-clause-part : goal.returns-in_ok-extend_from_slice-in-Strings-clause-part
returns-in_ok-extend_from_slice-in-Strings-clause-part c =
    let m = c.args.message.now in
    let h = rw c.in-Strings.is at c.requires.there in
    subst (λ (f : Field). (part : SomeField m c.args.at (stated_field f) c.args.stop c.args.stop) × (c.extend_from_slice-in-Strings.new.self.items ≡ c.args.out.now.items ++ part.plain)) (sym c.in-Strings.is)
    (strings_appended m c.args.at h.0 c.args.stop c.args.out.now.items c.extend_from_slice-in-Strings.new.self.items h.1 c.in_ok-extend_from_slice-in-Strings.ensures.items)
