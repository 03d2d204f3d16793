-- Laws of equality and order of data and records.
use Rattle.std.proofs.Common.{◌≡◌, ℕ, Bool, List, sym, ap, ◌∙◌}
use Rattle.std.specs.Prelude.{◌==◌, ◌&&◌}
use Rattle.std.specs.Bool.{Decides}
use Rattle.std.specs.Ordering.{nat_cmp, eq_by_cmp, as_partial_cmp, ordering_then}
use Rattle.std.specs.declared.cmp.Ordering.{Ordering}
use Rattle.std.specs.Cmp.{IsPartialEquivalence, IsEquivalence, IsPartialOrder, IsTotalOrder}
use Rattle.std.specs.Cmp.{partial_equiv_from_equiv, and_equiv, on_equiv, nat_eq_equiv, po, on_total}
use Rattle.std.specs.Cmp.{then_total, nat_cmp_total, unsigned_ties, both_tied, first_so, second_so}
use borrow.Author.Tests.{eqb-true}
use Rattle.std.specs.Cmp.Lexicographic.{pointwise, slice_cmp, bytes_decides, nat_list_cmp_total}
use Rattle.std.specs.Cmp.Lexicographic.{nat_list_eq_equiv, texts_ties}
use Rattle.dns_names.specs.Name.{Labels, names_eq}
use Rattle.dns_names.specs.Compare.{names_eq-Decides, names_eq-equiv}
use Rattle.dns_records.specs.Record.{Data, Record, data_of}

-- Whether two data are the same.
abbrev pub same_data : Data → Data → Bool
same_data a b = a.rtype == b.rtype && pointwise ◌==◌ a.octets b.octets

-- Data in order of type and octets.
abbrev pub data_cmp : Data → Data → Ordering
data_cmp a b = ordering_then (nat_cmp a.rtype b.rtype) (slice_cmp nat_cmp a.octets b.octets)

-- Whether two records are the same, with their TTLs.
abbrev pub same_record : Record → Record → Bool
same_record a b = names_eq a.owner b.owner && a.ttl == b.ttl && same_data (data_of a) (data_of b)

pub same_data-equiv : IsEquivalence same_data
same_data-equiv =
    and_equiv (on_equiv (λ (d : Data). d.rtype) nat_eq_equiv)
    (on_equiv (λ (d : Data). d.octets) nat_list_eq_equiv)

pub same_data-per : IsPartialEquivalence same_data
same_data-per = partial_equiv_from_equiv same_data-equiv

abbrev made : ℕ → List ℕ → Data
made rtype octets = record { rtype = rtype; octets = octets }

pub same_data-Decides : (a b : Data) → Decides (same_data a b) (a ≡ b)
same_data-Decides a b = (
  λ t.
      ap (λ (k : ℕ). made k a.octets)
      (eqb-true a.rtype b.rtype (first_so (a.rtype == b.rtype) (pointwise ◌==◌ a.octets b.octets) t))
      ∙ ap (made b.rtype)
      ((bytes_decides a.octets b.octets).0 (second_so (a.rtype == b.rtype) (pointwise ◌==◌ a.octets b.octets)
      t)),
  λ e. ap (same_data a) (sym e) ∙ same_data-equiv.refl a,
)

pub data_cmp-total : IsTotalOrder data_cmp
data_cmp-total =
    then_total (on_total (λ (d : Data). d.rtype) nat_cmp_total)
    (on_total (λ (d : Data). d.octets) nat_list_cmp_total)

pub data_cmp-ties : (a b : Data) → same_data a b ≡ eq_by_cmp data_cmp a b
data_cmp-ties a b =
    both_tied (a.rtype == b.rtype) (pointwise ◌==◌ a.octets b.octets) (nat_cmp a.rtype b.rtype)
    (slice_cmp nat_cmp a.octets b.octets) (unsigned_ties a.rtype b.rtype) (texts_ties a.octets b.octets)

pub data_cmp-po : IsPartialOrder same_data (as_partial_cmp data_cmp)
data_cmp-po = po data_cmp-total data_cmp-ties

pub same_record-equiv : IsEquivalence same_record
same_record-equiv =
    and_equiv (and_equiv (on_equiv (λ (r : Record). r.owner) names_eq-equiv)
    (on_equiv (λ (r : Record). r.ttl) nat_eq_equiv))
    (on_equiv (λ (r : Record). data_of r) same_data-equiv)

pub same_record-per : IsPartialEquivalence same_record
same_record-per = partial_equiv_from_equiv same_record-equiv

abbrev record_of_data : Labels → ℕ → Data → Record
record_of_data owner ttl d = record { owner = owner; rtype = d.rtype; ttl = ttl; rdata = d.octets }

pub same_record-Decides : (a b : Record) → Decides (same_record a b) (a ≡ b)
same_record-Decides a b = (
  λ t.
      let front =
      first_so (names_eq a.owner b.owner && a.ttl == b.ttl) (same_data (data_of a) (data_of b)) t in
      ap (λ (n : Labels). record_of_data n a.ttl (data_of a)) ((names_eq-Decides a.owner b.owner).0
      (first_so (names_eq a.owner b.owner) (a.ttl == b.ttl) front))
      ∙ ap (λ (k : ℕ). record_of_data b.owner k (data_of a)) (eqb-true a.ttl b.ttl
      (second_so (names_eq a.owner b.owner) (a.ttl == b.ttl) front))
      ∙ ap (record_of_data b.owner b.ttl) ((same_data-Decides (data_of a) (data_of b)).0
      (second_so (names_eq a.owner b.owner && a.ttl == b.ttl) (same_data (data_of a) (data_of b)) t)),
  λ e. ap (same_record a) (sym e) ∙ same_record-equiv.refl a,
)
