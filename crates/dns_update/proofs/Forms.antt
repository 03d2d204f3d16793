-- The data of the records of a message has the form of its type.
use Rattle.std.proofs.Common.{◌≡◌, ℕ, ◌+◌, ◌≤◌, Bool, true, false, not, ◌&&◌, ◌||◌, inl, inr, List, [], ◌∷◌, Option, Some, None, length, refl, sym, ap, subst, ◌∙◌, arith}
use Rattle.std.specs.Prelude.{◌==◌, nat_lt, is_some, IfSome, if◌then◌else◌}
use Rattle.std.specs.List.{AllByRecursion}
use Rattle.std.proofs.lemmas.Bool.Decides.{nat_tests}
use Rattle.dns_names.specs.Name.{Labels, under}
use Rattle.dns_records.specs.Types.{Field, form, is_known, is_data_type, type_ns, type_any, class_in}
use Rattle.dns_records.specs.Record.{AreFields, IsRData}
use Rattle.dns_zone.specs.Order.{number_itself}
use Rattle.dns_zone.proofs.OneSoa.{past, untrue}
use Rattle.dns_zone.specs.Zone.{is_wildcard}
use Rattle.dns_wire.specs.Message.{ResourceRecord, Message}
use Rattle.dns_wire.specs.Reads.{ResourceRecordAt, ResourceRecordsAt, Reads}
use Rattle.dns_wire.proofs.Formed.{data_formed}
use Rattle.dns_wire.specs.declared.codes.Rcode.{Rcode}
use Rattle.dns_wire.specs.declared.codes.Rcode.TheVariants.{FormErr, Refused, NotZone}
use Rattle.dns_update.specs.ResourceRecord.{HasForm, is_empty, is_meta}
use Rattle.dns_update.specs.Prescan.{prescan_fault, addition_fault}
use Rattle.dns_zone.proofs.Alone.{neither}

items_formed : (m : List ℕ) (at : ℕ) (items : List ResourceRecord) (stop : ℕ) → ResourceRecordsAt m at items stop → AllByRecursion HasForm items
items_formed m at [] stop h = tt
items_formed m at (i ∷ items) stop (mid, item, more) =
    let here : ResourceRecordAt m at i mid = item in
    (data_formed m (here.mid + 10) i.rtype here.rdlength i.rdata here.rdata, items_formed m mid items stop more)

pub updates_formed : (octets : List ℕ) (m : Message) → Reads octets m → AllByRecursion HasForm m.authorities
updates_formed octets m h = let reads : Reads octets m = h in items_formed octets reads.second m.authorities reads.third reads.authorities

-- ---- what is to be added
chosen : (b : Bool) (x y : Option Rcode) → b ≡ true → (if b then x else y) ≡ None → x ≡ None
chosen true x y e f = f
chosen false x y e f = absurd cc

filled : (a b : Bool) → a ≡ true → (a && b) ≡ false → b ≡ false
filled true b e f = f
filled false b e f = absurd cc

within : (n : ℕ) → nat_lt 4096 n ≡ false → n ≤ 4096
within n e = grind (arith, nat_tests)

pub record IsFit (apex : Labels) (i : ResourceRecord) : Type 0 where
  pub rtype : is_data_type i.rtype ≡ true
  pub short : length i.rdata ≤ 4096
  pub form : IsRData i.rtype i.rdata
  pub inside : under i.owner apex ≡ true
  pub server : (i.rtype == type_ns && is_wildcard i.owner) ≡ false

-- data that may be empty only where it has no form
formed : (i : ResourceRecord) → HasForm i → (is_known i.rtype && is_empty i) ≡ false → IsRData i.rtype i.rdata
formed i (inr form) e = form
formed i (inl none) e = go (form i.rtype) refl
  where
    go : (f : Option (List Field)) → form i.rtype ≡ f → IsRData i.rtype i.rdata
    go None f = subst (λ (o : Option (List Field)). IfSome o (λ fields. AreFields fields i.rdata)) (sym f) tt
    go (Some fields) f = (let some = filled (is_known i.rtype) (is_empty i) (ap is_some f) e in let empty : is_empty i ≡ true = ap (λ (n : ℕ). n == 0) none in absurd cc)

pub fit : (apex : Labels) (i : ResourceRecord) → i.class ≡ class_in → prescan_fault apex i ≡ None → HasForm i → IsFit apex i
fit apex i c e h =
    let inside = past (not (under i.owner apex)) NotZone _ e in
    let class : (i.class == class_in) ≡ true = ap (λ (n : ℕ). n == class_in) c ∙ number_itself class_in in
    let added = chosen (i.class == class_in) (addition_fault i) _ class inside.1 in
    let one = past (i.rtype == type_any || is_meta i.rtype || is_known i.rtype && is_empty i) FormErr _ added in
    let two = past (not (is_data_type i.rtype) || nat_lt 4096 (length i.rdata) || i.rtype == type_ns && is_wildcard i.owner) Refused _ one.1 in
    let refused = neither (not (is_data_type i.rtype) || nat_lt 4096 (length i.rdata)) _ two.0 in
    let limits = neither (not (is_data_type i.rtype)) (nat_lt 4096 (length i.rdata)) refused.0 in
    record {
      rtype = untrue (is_data_type i.rtype) limits.0;
      short = within (length i.rdata) limits.1;
      form = formed i h (neither (i.rtype == type_any || is_meta i.rtype) _ one.0).1;
      inside = untrue (under i.owner apex) inside.0;
      server = refused.1;
    }
