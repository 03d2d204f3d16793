-- What makes records a valid zone, and how it stays where records come and go.
use Rattle.std.proofs.Common.{◌≡◌, Bool, true, false, not, ◌&&◌, ◌||◌, inl, inr, List, [], ◌∷◌, Some, None, length, refl, sym, ap, subst, ◌∙◌}
use Rattle.std.specs.Prelude.{filter, ◌==◌, nat_lt, if◌then◌else◌}
use Rattle.std.specs.List.{list_any}
use Rattle.std.specs.FinMap.Entries.{by_order}
use Rattle.std.specs.declared.cmp.Ordering.TheVariants.{Less, Equal, Greater}
use Rattle.dns_names.specs.Name.{Labels, names_eq, under}
use Rattle.dns_records.specs.Types.{type_ns, type_soa}
use Rattle.dns_records.specs.Record.{Record, record_cmp}
use Rattle.dns_zone.specs.Records.{put, contains, owns_type}
use Rattle.dns_zone.specs.Zone.{soas, zone_fault}
use Rattle.dns_zone.specs.declared.ZoneError.TheVariants.{NoSoa, ManySoa, NoNs, OutOfZone, Duplicate, CnameAndOther, WildcardNs, TooMany}
use Rattle.dns_zone.specs.Order.{names_same, names_itself, tied_key}
use Rattle.dns_zone.specs.Owned.{owns_no_type}
use Rattle.dns_zone.specs.Sets.{Sorted, either_true, filter_contains}
use Rattle.dns_zone.specs.Twice.{any_by, once}
use Rattle.dns_zone.specs.Soa.{HasSoa}
use Rattle.dns_zone.proofs.Kept.{any_kept}
use Rattle.dns_zone.proofs.OneSoa.{Conditions, soa_here}
use Rattle.dns_zone.proofs.Alone.{AreAlone, is_alias, is_wild, later, refuted, of_all, all_of, of_none, none_of, put_from, alone_from, from_alone}
use Rattle.dns_update.proofs.Gone.{IsOfKey}

abbrev pub is_server : Labels → Record → Bool
is_server apex r = names_eq r.owner apex && r.rtype == type_ns

-- a record that a zone of that apex may have
pub record IsPlaced (apex : Labels) (r : Record) : Type 0 where
  pub inside : under r.owner apex ≡ true
  pub server : is_wild r ≡ false

pub record IsSound (apex : Labels) (xs : List Record) : Type 0 where
  pub sorted : Sorted xs
  pub soa : HasSoa apex xs
  pub server : list_any (is_server apex) xs ≡ true
  pub placed : (r : Record) → contains xs r ≡ true → IsPlaced apex r
  pub alone : AreAlone xs

-- ---- tests
pub and_first : (a b : Bool) → (b ≡ true → a ≡ true) → (a && b) ≡ b
and_first true b h = refl
and_first false true h = h refl
and_first false false h = refl

-- ---- a record that comes
pub put_any : (p : Record → Bool) → IsOfKey p → (r : Record) (xs : List Record) → list_any p xs ≡ true → list_any p (put r xs) ≡ true
put_any p key r [] h = absurd cc
put_any p key r (x ∷ xs) h =
    elim (record_cmp r x) as (λ o. record_cmp r x ≡ o → list_any p (by_order o (r ∷ x ∷ xs) (r ∷ xs) (x ∷ put r xs)) ≡ true) [
      | Less ↦ λ e. later (p r) (list_any p (x ∷ xs)) h
      | Equal ↦ λ e. ap (λ b. b || list_any p xs) (key r x e) ∙ h
      | Greater ↦ λ e. elim (either_true (p x) (list_any p xs) h) [
        | inl s ↦ ap (λ b. b || list_any p (put r xs)) s
        | inr s ↦ later (p x) (list_any p (put r xs)) (put_any p key r xs s)
      ]
    ] refl

-- ---- records that stay
pub kept_any : (p q : Record → Bool) (xs : List Record) → ((r : Record) → p r ≡ true → q r ≡ true) → list_any p xs ≡ true → list_any p (filter q xs) ≡ true
kept_any p q xs h e = any_kept p q xs ∙ any_by (λ r. q r && p r) p (λ r. and_first (q r) (p r) (h r)) xs ∙ e

pub server_key : (apex : Labels) → IsOfKey (is_server apex)
server_key apex a b e = let key = tied_key a b e in λ i. names_eq (key.owner i) apex && key.rtype i == type_ns

pub kept_alone : (xs : List Record) (q : Record → Bool) → AreAlone xs → AreAlone (filter q xs)
kept_alone xs q h r s there here e o = h r s (filter_contains r q xs there).1 (filter_contains s q xs here).1 e o

-- a record comes to a name that a CNAME has no part in
pub record AreApart (r s : Record) : Type 0 where
  pub coming : is_alias r ≡ false
  pub there : is_alias s ≡ false

pub put_alone : (r : Record) (xs : List Record) → AreAlone xs → ((s : Record) → contains xs s ≡ true → names_eq s.owner r.owner ≡ true → AreApart r s) → AreAlone (put r xs)
put_alone r xs h apart a b there here e o = elim (put_from r xs a there) [
  | inl f ↦ elim (put_from r xs b here) [
    | inl g ↦ g ∙ sym f
    | inr g ↦ refuted (is_alias r) (ap is_alias (sym f) ∙ e) (apart b g (ap (λ (x : Record). names_eq b.owner x.owner) (sym f) ∙ o)).coming
  ]
  | inr f ↦ elim (put_from r xs b here) [
    | inl g ↦ refuted (is_alias a) e (apart a f (flipped a b r g o)).there
    | inr g ↦ h a b f g e o
  ]
]
  where
    flipped : (a b r : Record) → b ≡ r → names_eq b.owner a.owner ≡ true → names_eq a.owner r.owner ≡ true
    flipped a b r g o =
        let same : a.owner ≡ r.owner = sym (names_same b.owner a.owner o) ∙ ap (λ (x : Record). x.owner) g in
        subst (λ (n : Labels). names_eq a.owner n ≡ true) same (names_itself a.owner)

pub put_placed : (apex : Labels) (r : Record) (xs : List Record) → IsPlaced apex r → ((s : Record) → contains xs s ≡ true → IsPlaced apex s) → (a : Record) → contains (put r xs) a ≡ true → IsPlaced apex a
put_placed apex r xs p h a e = elim (put_from r xs a e) [ inl f ↦ subst (IsPlaced apex) (sym f) p | inr f ↦ h a f ]

-- ---- the conditions of a zone
-- a valid zone is sound
pub sound_from : (apex : Labels) (xs : List Record) → Sorted xs → HasSoa apex xs → Conditions apex xs → IsSound apex xs
sound_from apex xs h soa c = record {
  sorted = h;
  soa = soa;
  server = c.ns;
  placed = λ r e. record { inside = of_all (λ x. under x.owner apex) xs c.inside r e; server = of_none is_wild xs c.servers r e };
  alone = alone_from xs c.alone;
}

-- and what is sound is a valid zone, but for the number of its records
pub fault_of_sound : (apex : Labels) (xs : List Record) → IsSound apex xs → zone_fault apex xs ≡ (if nat_lt 65536 (length xs) then Some TooMany else None)
fault_of_sound apex xs h =
    let soa : not (owns_type xs apex type_soa) ≡ false = sym (owns_no_type xs apex type_soa) ∙ ap (λ (ys : List Record). length ys == 0) (soa_here apex xs h.soa) in
    let one : nat_lt 1 (length (soas xs)) ≡ false = ap (λ (ys : List Record). nat_lt 1 (length ys)) (h.soa).one in
    let inside = all_of (λ r. under r.owner apex) xs (λ r e. (h.placed r e).inside) in
    let twice = once xs h.sorted in
    let alias = from_alone xs h.sorted h.alone in
    let wild = none_of is_wild xs (λ r e. (h.placed r e).server) in
    λ i. if soa i then Some NoSoa else if one i then Some ManySoa else if not (h.server i) then Some NoNs else if not (inside i) then Some OutOfZone else if twice i then Some Duplicate else if alias i then Some CnameAndOther else if wild i then Some WildcardNs else if nat_lt 65536 (length xs) then Some TooMany else None
