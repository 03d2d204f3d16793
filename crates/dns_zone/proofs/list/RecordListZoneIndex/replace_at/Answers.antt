use Rattle.std.proofs.Common.{◌≡◌, true, List, sym, subst}
use Rattle.std.specs.Prelude.{Result, Ok, Err, OnOk, OnErr}
use Rattle.std.specs.List.{AllByRecursion}
use Rattle.std.proofs.Math.Logic.{∥∥₁_map}
use Rattle.dns_records.specs.Record.{Record, IsRecord}
use Rattle.dns_zone.specs.Records.{is_ordered, others, united}
use Rattle.dns_zone.proofs.Replaced.{replaced_ordered, replaced_valid}
use Rattle.dns_zone.proofs.list.RecordListZoneIndex.replace_at.Goals as goal

either : {T E : Type 0} (P : List Record → Type 0) (r : Result T E) (new there old : List Record) → OnOk r (new ≡ there) → OnErr r (new ≡ old) → P there → P old → P new
either P (Ok t) new there old a b f g = subst P (sym a) f
either P (Err e) new there old a b f g = subst P (sym b) g

pub invariant_of-self : goal.invariant_of-self
invariant_of-self c =
    let old = c.args.self.now.items.items in
    let come = c.args.come.items in
    let name = c.args.name.now in
    let new = c.replace_owned.new.items.items in
    let there = united (others old name) come in
    let ok = c.replace_owned.ensures.ok in
    let err = c.replace_owned.ensures.err in
    record {
      in_order = either (λ xs. is_ordered xs ≡ true) c.replace_owned.result new there old ok err (replaced_ordered name old come c.args.self.now.in_order) c.args.self.now.in_order;
      each_valid = either (λ xs. ∥ AllByRecursion IsRecord xs ∥₁) c.replace_owned.result new there old ok err (∥∥₁_map c.args.self.now.each_valid (λ h. replaced_valid name old come h (subst (AllByRecursion IsRecord) c.deref.ensures.value c.are_valid.ensures))) c.args.self.now.each_valid;
    }
