-- The one SOA of a zone stays one, at the apex.
use Rattle.std.proofs.Common.{◌≡◌, ℕ, Bool, true, false, not, ◌&&◌, ◌||◌, inl, inr, List, [], ◌∷◌, length, refl, sym, ap, ◌∙◌, cond}
use Rattle.std.specs.Prelude.{filter, ◌==◌, if◌then◌else◌}
use Rattle.std.specs.List.{list_any}
use Rattle.std.specs.Ordering.{is_eq}
use Rattle.std.specs.FinMap.Entries.{by_order}
use Rattle.std.specs.declared.cmp.Ordering.TheVariants.{Less, Equal, Greater}
use Rattle.dns_names.specs.Name.{Labels, names_eq}
use Rattle.dns_records.specs.Types.{type_ns, type_cname, type_soa, type_any, class_in, class_any}
use Rattle.dns_records.specs.Record.{Record, record_cmp, serial_of, with_serial}
use Rattle.dns_zone.specs.Records.{put, without, rrset, owns_type}
use Rattle.dns_zone.specs.Zone.{soas}
use Rattle.dns_zone.specs.Order.{record_total, both_true, names_same, names_itself, tied_key}
use Rattle.dns_zone.specs.Sets.{equal_is, true_or_false}
use Rattle.dns_zone.specs.Twice.{any_by}
use Rattle.dns_wire.specs.Message.{ResourceRecord}
use Rattle.dns_serial.specs.Serial.{greater, next_serial}
use Rattle.dns_update.specs.ResourceRecord.{as_record}
use Rattle.dns_update.specs.Effect.{is_of, replaced, owns_other, succeeds, added, is_vital, deleted_set, deleted, effect, effects}
use Rattle.std.specs.Cmp.{tied_itself}
use Rattle.dns_update.specs.Verdict.{with_next_serial}
use Rattle.dns_zone.specs.Soa.{HasSoa}
use Rattle.dns_zone.proofs.Kept.{any_kept, numbers_same}
use Rattle.dns_zone.proofs.OneSoa.{is_soa, commute, is_one}
use Rattle.dns_update.proofs.Gone.{IsOfKey}

pub soa_key : IsOfKey is_soa
soa_key a b e = ap (λ (n : ℕ). n == type_soa) (tied_key a b e).rtype

-- a record put in that fails a test leaves those that pass it
pub put_out : (s : Record → Bool) → IsOfKey s → (r : Record) → s r ≡ false → (xs : List Record) → filter s (put r xs) ≡ filter s xs
put_out s key r e [] = ap (λ b. cond b (r ∷ []) []) e
put_out s key r e (x ∷ xs) =
    elim (record_cmp r x) as (λ o. record_cmp r x ≡ o → filter s (by_order o (r ∷ x ∷ xs) (r ∷ xs) (x ∷ put r xs)) ≡ filter s (x ∷ xs)) [
      | Less ↦ λ f. ap (λ b. cond b (r ∷ filter s (x ∷ xs)) (filter s (x ∷ xs))) e
      | Equal ↦ λ f. ap (λ b. cond b (r ∷ filter s xs) (filter s xs)) e ∙ sym (ap (λ b. cond b (x ∷ filter s xs) (filter s xs)) (sym (key r x f) ∙ e))
      | Greater ↦ λ f. ap (λ (ys : List Record). cond (s x) (x ∷ ys) ys) (put_out s key r e xs)
    ] refl

-- and one that passes it is alone where none did
pub put_alone : (s : Record → Bool) → IsOfKey s → (r : Record) → s r ≡ true → (xs : List Record) → filter s xs ≡ [] → filter s (put r xs) ≡ r ∷ []
put_alone s key r e [] h = ap (λ b. cond b (r ∷ []) []) e
put_alone s key r e (x ∷ xs) h = at (s x) refl h (put_alone s key r e xs)
  where
    at : (b : Bool) → s x ≡ b → cond b (x ∷ filter s xs) (filter s xs) ≡ [] → (filter s xs ≡ [] → filter s (put r xs) ≡ r ∷ []) → filter s (put r (x ∷ xs)) ≡ r ∷ []
    at true f g rest = absurd cc
    at false f g rest =
        elim (record_cmp r x) as (λ o. record_cmp r x ≡ o → filter s (by_order o (r ∷ x ∷ xs) (r ∷ xs) (x ∷ put r xs)) ≡ r ∷ []) [
          | Less ↦ λ o. ap (λ b. cond b (r ∷ filter s (x ∷ xs)) (filter s (x ∷ xs))) e ∙ ap (λ (ys : List Record). r ∷ ys) h
          | Equal ↦ λ o. (let same = key r x o in absurd cc)
          | Greater ↦ λ o. ap (λ b. cond b (x ∷ filter s (put r xs)) (filter s (put r xs))) f ∙ rest g
        ] refl

-- ---- the SOA of a zone
module _ (apex : Labels) where
  pub keeps : (xs : List Record) (h : HasSoa apex xs) (p : Record → Bool) → p h.soa ≡ true → HasSoa apex (filter p xs)
  keeps xs h p e = record {
    soa = h.soa;
    one = commute is_soa p xs ∙ ap (filter p) h.one ∙ ap (λ b. cond b (h.soa ∷ []) []) e;
    owner = h.owner;
  }

  pub puts : (xs : List Record) → HasSoa apex xs → (r : Record) → is_soa r ≡ false → HasSoa apex (put r xs)
  puts xs h r e = record { soa = h.soa; one = put_out is_soa soa_key r e xs ∙ h.one; owner = h.owner }

  pub replaces : (xs : List Record) → HasSoa apex xs → (r : Record) → is_soa r ≡ true → list_any (succeeds r) xs ≡ true → HasSoa apex (replaced xs r)
  replaces xs h r i e =
      let rtype : r.rtype ≡ type_soa = numbers_same r.rtype type_soa i in
      let goes : is_of r.owner r.rtype h.soa ≡ true = (λ j. names_eq (h.soa).owner (at_owner j) && (rtype j == type_any || (h.soa).rtype == rtype j)) ∙ of_soa in
      let none : soas (filter (λ s. not (is_of r.owner r.rtype s)) xs) ≡ [] =
      commute is_soa (λ s. not (is_of r.owner r.rtype s)) xs ∙ ap (filter (λ s. not (is_of r.owner r.rtype s))) h.one ∙ ap (λ b. cond (not b) (h.soa ∷ []) []) goes in
      record { soa = r; one = put_alone is_soa soa_key r i (filter (λ s. not (is_of r.owner r.rtype s)) xs) none; owner = at_owner ∙ h.owner }
    where
      -- the SOA that it succeeds is the one
      any_soa : list_any (λ s. names_eq s.owner r.owner && greater (serial_of r) (serial_of s)) (soas xs) ≡ true
      any_soa = any_kept (λ s. names_eq s.owner r.owner && greater (serial_of r) (serial_of s)) is_soa xs ∙ any_by _ (succeeds r) (λ s. turned (names_eq s.owner r.owner) (is_soa s) (greater (serial_of r) (serial_of s))) xs ∙ e
        where
          turned : (a b d : Bool) → (b && (a && d)) ≡ ((a && b) && d)
          turned true b d = refl
          turned false true d = refl
          turned false false d = refl

      one_any : ((names_eq (h.soa).owner r.owner && greater (serial_of r) (serial_of h.soa)) || false) ≡ true
      one_any = ap (list_any (λ s. names_eq s.owner r.owner && greater (serial_of r) (serial_of s))) (sym h.one) ∙ any_soa

      at_owner : r.owner ≡ (h.soa).owner
      at_owner = sym (names_same (h.soa).owner r.owner (both_true (names_eq (h.soa).owner r.owner) (greater (serial_of r) (serial_of h.soa)) (alone _ one_any)).0)
        where
          alone : (b : Bool) → (b || false) ≡ true → b ≡ true
          alone true f = refl
          alone false f = f

      of_soa : (names_eq (h.soa).owner (h.soa).owner && (type_soa == type_any || (h.soa).rtype == type_soa)) ≡ true
      of_soa = λ j. names_itself (h.soa).owner j && is_one apex xs h j

  other_type : (xs : List Record) (h : HasSoa apex xs) (t : ℕ) → (t == type_soa) ≡ false → ((h.soa).rtype == t) ≡ false
  other_type xs h t e = elim (true_or_false ((h.soa).rtype == t)) [
    | inr f ↦ f
    | inl f ↦ (let same = numbers_same (h.soa).rtype t f in
        let soa = is_one apex xs h in
        let both : (t == type_soa) ≡ true = ap (λ (n : ℕ). n == type_soa) (sym same) ∙ soa in absurd cc)
  ]

  -- a CNAME replaces no SOA
  pub aliases : (xs : List Record) → HasSoa apex xs → (r : Record) → (r.rtype == type_cname) ≡ true → HasSoa apex (replaced xs r)
  aliases xs h r e =
      let rtype = numbers_same r.rtype type_cname e in
      let none : is_of r.owner r.rtype h.soa ≡ false = (λ i. names_eq (h.soa).owner r.owner && (rtype i == type_any || (h.soa).rtype == rtype i)) ∙ ap (λ b. names_eq (h.soa).owner r.owner && b) (other_type xs h type_cname refl) ∙ never (names_eq (h.soa).owner r.owner) in
      puts (filter (λ s. not (is_of r.owner r.rtype s)) xs) (keeps xs h (λ s. not (is_of r.owner r.rtype s)) (ap not none)) r (ap (λ (n : ℕ). n == type_soa) rtype)
    where
      never : (b : Bool) → (b && false) ≡ false
      never true = refl
      never false = refl

  adds : (xs : List Record) → HasSoa apex xs → (r : Record) → HasSoa apex (added xs r)
  adds xs h r = at (r.rtype == type_cname) (owns_other xs r.owner type_cname) (owns_type xs r.owner type_cname) (is_soa r) (list_any (succeeds r) xs) refl refl refl
    where
      at : (a b d e f : Bool) → (r.rtype == type_cname) ≡ a → is_soa r ≡ e → list_any (succeeds r) xs ≡ f
          → HasSoa apex (if a then (if b then xs else replaced xs r) else if d then xs else if e then (if f then replaced xs r else xs) else put r xs)
      at true true d e f p q s = h
      at true false d e f p q s = aliases xs h r p
      at false b true e f p q s = h
      at false b false true true p q s = replaces xs h r q s
      at false b false true false p q s = h
      at false b false false f p q s = puts xs h r q

  vital : (xs : List Record) (h : HasSoa apex xs) → is_vital apex h.soa ≡ true
  vital xs h = (λ i. names_eq (h.owner i) apex && (is_one apex xs h i || (h.soa).rtype == type_ns)) ∙ ap (λ b. b && true) (names_itself apex)

  pub deletes_set : (xs : List Record) → HasSoa apex xs → (name : Labels) (t : ℕ) → HasSoa apex (deleted_set apex xs name t)
  deletes_set xs h name t = keeps xs h (λ r. not (is_of name t r && not (is_vital apex r))) (ap (λ b. not (is_of name t h.soa && not b)) (vital xs h) ∙ stays (is_of name t h.soa))
    where
      stays : (b : Bool) → not (b && false) ≡ true
      stays true = refl
      stays false = refl

  pub deletes : (xs : List Record) → HasSoa apex xs → (r : Record) → HasSoa apex (deleted apex xs r)
  deletes xs h r = at (is_soa r) (r.rtype == type_ns && names_eq r.owner apex && length (rrset xs apex type_ns) == 1) refl
    where
      untied : is_soa r ≡ false → is_eq (record_cmp r h.soa) ≡ false
      untied e = elim (true_or_false (is_eq (record_cmp r h.soa))) [
        | inr f ↦ f
        | inl f ↦ (let same = soa_key r h.soa (equal_is (record_cmp r h.soa) f) in let one = is_one apex xs h in absurd cc)
      ]

      at : (a b : Bool) → is_soa r ≡ a → HasSoa apex (if a || b then xs else without r xs)
      at true b e = h
      at false true e = h
      at false false e = keeps xs h (λ s. not (is_eq (record_cmp r s))) (ap not (untied e))

  takes_effect : (xs : List Record) → HasSoa apex xs → (i : ResourceRecord) → HasSoa apex (effect apex xs i)
  takes_effect xs h i = at (i.class == class_in) (i.class == class_any)
    where
      at : (a b : Bool) → HasSoa apex (if a then added xs (as_record i) else if b then deleted_set apex xs i.owner i.rtype else deleted apex xs (as_record i))
      at true b = adds xs h (as_record i)
      at false true = deletes_set xs h i.owner i.rtype
      at false false = deletes xs h (as_record i)

  -- with the next serial it is one still
  pub next_alone : (xs : List Record) (h : HasSoa apex xs) → soas (with_next_serial (soas xs) xs) ≡ with_serial h.soa (next_serial (serial_of h.soa)) ∷ []
  next_alone xs h =
      let s = h.soa in
      let next = with_serial s (next_serial (serial_of s)) in
      let none : soas (without s xs) ≡ [] =
      commute is_soa (λ r. not (is_eq (record_cmp s r))) xs ∙ ap (filter (λ r. not (is_eq (record_cmp s r)))) h.one ∙ ap (λ o. cond (not (is_eq o)) (s ∷ []) []) (tied_itself record_total s) in
      ap (λ (ss : List Record). soas (with_next_serial ss xs)) h.one ∙ put_alone is_soa soa_key next (is_one apex xs h) (without s xs) none

  pub next_soa : (xs : List Record) → HasSoa apex xs → HasSoa apex (with_next_serial (soas xs) xs)
  next_soa xs h = record { soa = with_serial h.soa (next_serial (serial_of h.soa)); one = next_alone xs h; owner = h.owner }

  -- after all items the zone has one SOA still
  pub soa_stays : (xs : List Record) → HasSoa apex xs → (items : List ResourceRecord) → HasSoa apex (effects apex xs items)
  soa_stays xs h [] = h
  soa_stays xs h (i ∷ rest) = soa_stays (effect apex xs i) (takes_effect xs h i) rest
