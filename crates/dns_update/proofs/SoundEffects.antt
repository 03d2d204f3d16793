-- What makes records a valid zone stays after each item of an update (RFC 2136 3.4.2).
use Rattle.std.proofs.Common.{◌≡◌, ℕ, Bool, true, false, not, ◌&&◌, ◌||◌, inl, inr, List, [], ◌∷◌, None, length, refl, sym, ap, subst, ◌∙◌}
use Rattle.std.specs.Prelude.{filter, ◌==◌, if◌then◌else◌}
use Rattle.std.specs.List.{AllByRecursion, list_any}
use Rattle.std.specs.Ordering.{is_eq}
use Rattle.std.specs.declared.cmp.Ordering.TheVariants.{Less}
use Rattle.dns_names.specs.Name.{Labels, names_eq}
use Rattle.dns_records.specs.Types.{type_ns, type_cname, type_soa, type_any, class_in, class_any}
use Rattle.dns_records.specs.Record.{Record, record_cmp, serial_of, with_serial}
use Rattle.dns_zone.specs.Records.{put, contains, without, rrset, owns_type}
use Rattle.dns_zone.specs.Zone.{soas}
use Rattle.dns_zone.specs.Order.{both_true, number_itself, names_same, names_itself, same_itself}
use Rattle.dns_zone.specs.Owned.{none_passes}
use Rattle.dns_zone.specs.Sets.{Sorted, ties, true_or_false, joins, equal_is, filter_contains, contains_filter, sorted_put, sorted_filter}
use Rattle.dns_zone.specs.Soa.{HasSoa}
use Rattle.dns_zone.proofs.Kept.{numbers_same}
use Rattle.dns_zone.proofs.OneSoa.{is_soa, is_one, untrue}
use Rattle.dns_changes.specs.Applied.{not_true, one_in}
use Rattle.dns_wire.specs.Message.{ResourceRecord}
use Rattle.dns_serial.specs.Serial.{next_serial}
use Rattle.dns_update.specs.ResourceRecord.{HasForm, as_record, first_fault}
use Rattle.dns_update.specs.Prescan.{prescan_fault}
use Rattle.dns_update.specs.Effect.{is_of, replaced, owns_other, succeeds, added, is_vital, deleted_set, is_spared, deleted, effect, effects}
use Rattle.dns_update.specs.Verdict.{with_next_serial}
use Rattle.dns_update.proofs.ResourceRecords.{no_fault}
use Rattle.dns_update.proofs.Forms.{fit}
use Rattle.dns_update.proofs.OneSoa.{puts, aliases, replaces, deletes_set, deletes, next_soa}
use Rattle.dns_zone.proofs.Alone.{is_alias, later, refuted, of_none, one_any}
use Rattle.dns_update.proofs.Sound.{IsSound, IsPlaced, AreApart, is_server, put_any, kept_any, server_key, put_alone, put_placed, kept_alone}

never : (b : Bool) → (b && false) ≡ false
never true = refl
never false = refl

over_left : (a b : Bool) → (a || b) ≡ false → b ≡ false
over_left true b e = absurd cc
over_left false b e = e

-- of two records and more of a set one is left after one that goes
one_left : (ys : List Record) (r : Record) → Sorted ys → (length ys == 0) ≡ false → (length ys == 1) ≡ false → (a : Record) × (contains ys a ≡ true) × (ties r a ≡ false)
one_left [] r h some more = absurd cc
one_left (a ∷ []) r h some more = absurd cc
one_left (a ∷ b ∷ ys) r h some more = elim (true_or_false (ties r a)) [
  | inr f ↦ (a, ap (λ c. c || contains (b ∷ ys) a) (same_itself a), f)
  | inl f ↦ elim (true_or_false (ties r b)) [
    | inr g ↦ (b, later _ (contains (b ∷ ys) b) (ap (λ c. c || contains ys b) (same_itself b)), g)
    | inl g ↦ (let tied = joins r a b f g in let less : record_cmp a b ≡ Less = h.0.0 in absurd cc)
  ]
]

module _ (apex : Labels) (xs : List Record) (h : IsSound apex xs) where
  -- some of the records stay
  stay : (q : Record → Bool) → HasSoa apex (filter q xs) → list_any (is_server apex) (filter q xs) ≡ true → IsSound apex (filter q xs)
  stay q soa server = record {
    sorted = sorted_filter q xs h.sorted;
    soa = soa;
    server = server;
    placed = λ r e. h.placed r (filter_contains r q xs e).1;
    alone = kept_alone xs q h.alone;
  }

  -- one comes to some that stay
  comes : (r : Record) (q : Record → Bool) → IsPlaced apex r → HasSoa apex (put r (filter q xs)) → list_any (is_server apex) (filter q xs) ≡ true
      → ((s : Record) → contains (filter q xs) s ≡ true → names_eq s.owner r.owner ≡ true → AreApart r s) → IsSound apex (put r (filter q xs))
  comes r q p soa server apart = record {
    sorted = sorted_put r (filter q xs) (sorted_filter q xs h.sorted);
    soa = soa;
    server = put_any (is_server apex) (server_key apex) r (filter q xs) server;
    placed = put_placed apex r (filter q xs) p (λ s e. h.placed s (filter_contains s q xs e).1);
    alone = put_alone r (filter q xs) (kept_alone xs q h.alone) apart;
  }

  -- no CNAME is there
  no_alias : (r s : Record) → is_alias r ≡ false → owns_type xs r.owner type_cname ≡ false → contains xs s ≡ true → names_eq s.owner r.owner ≡ true → AreApart r s
  no_alias r s e none there o = record { coming = e; there = ap (λ b. b && is_alias s) (sym o) ∙ of_none (λ x. names_eq x.owner r.owner && x.rtype == type_cname) xs none s there }

  server_stays : (r s : Record) (t : ℕ) → r.rtype ≡ t → (t == type_any) ≡ false → (type_ns == t) ≡ false → is_server apex s ≡ true → not (is_of r.owner r.rtype s) ≡ true
  server_stays r s t e any other p =
      let ns = numbers_same s.rtype type_ns (both_true (names_eq s.owner apex) (s.rtype == type_ns) p).1 in
      (λ i. not (names_eq s.owner r.owner && (e i == type_any || ns i == e i))) ∙ (λ i. not (names_eq s.owner r.owner && (any i || other i))) ∙ ap not (never (names_eq s.owner r.owner))

  -- ---- additions
  alias_comes : (r : Record) → IsPlaced apex r → is_alias r ≡ true → owns_other xs r.owner type_cname ≡ false → IsSound apex (replaced xs r)
  alias_comes r p e none = comes r goes p (aliases apex xs h.soa r e) (kept_any (is_server apex) goes xs (λ s f. server_stays r s type_cname rtype refl refl f) h.server) apart
    where
      goes : Record → Bool
      goes = λ s. not (is_of r.owner r.rtype s)

      rtype : r.rtype ≡ type_cname
      rtype = numbers_same r.rtype type_cname e

      apart : (s : Record) → contains (filter (λ x. not (is_of r.owner r.rtype x)) xs) s ≡ true → names_eq s.owner r.owner ≡ true → AreApart r s
      apart s there o =
          let away = filter_contains s (λ x. not (is_of r.owner r.rtype x)) xs there in
          let same : not (is_alias s) ≡ false = ap (λ b. b && not (is_alias s)) (sym o) ∙ of_none (λ x. names_eq x.owner r.owner && not (x.rtype == type_cname)) xs none s away.1 in
          let alias = untrue (is_alias s) same in
          let types : s.rtype ≡ r.rtype = numbers_same s.rtype type_cname alias ∙ sym rtype in
          let of : is_of r.owner r.rtype s ≡ true = (λ i. o i && (r.rtype == type_any || types i == r.rtype)) ∙ later (r.rtype == type_any) (r.rtype == r.rtype) (number_itself r.rtype) in
          refuted (is_of r.owner r.rtype s) of (not_true (is_of r.owner r.rtype s) away.0)

  soa_comes : (r : Record) → IsPlaced apex r → is_alias r ≡ false → owns_type xs r.owner type_cname ≡ false → is_soa r ≡ true → list_any (succeeds r) xs ≡ true → IsSound apex (replaced xs r)
  soa_comes r p e none i after =
      comes r (λ s. not (is_of r.owner r.rtype s)) p (replaces apex xs h.soa r i after)
      (kept_any (is_server apex) (λ s. not (is_of r.owner r.rtype s)) xs (λ s f. server_stays r s type_soa (numbers_same r.rtype type_soa i) refl refl f) h.server)
      (λ s there o. no_alias r s e none (filter_contains s (λ x. not (is_of r.owner r.rtype x)) xs there).1 o)

  record_comes : (r : Record) → IsPlaced apex r → is_alias r ≡ false → owns_type xs r.owner type_cname ≡ false → is_soa r ≡ false → IsSound apex (put r xs)
  record_comes r p e none i = record {
    sorted = sorted_put r xs h.sorted;
    soa = puts apex xs h.soa r i;
    server = put_any (is_server apex) (server_key apex) r xs h.server;
    placed = put_placed apex r xs p h.placed;
    alone = put_alone r xs h.alone (λ s there o. no_alias r s e none there o);
  }

  adds : (r : Record) → IsPlaced apex r → IsSound apex (added xs r)
  adds r p = at (is_alias r) (owns_other xs r.owner type_cname) (owns_type xs r.owner type_cname) (is_soa r) (list_any (succeeds r) xs) refl refl refl refl refl
    where
      at : (a b d e f : Bool) → is_alias r ≡ a → owns_other xs r.owner type_cname ≡ b → owns_type xs r.owner type_cname ≡ d → is_soa r ≡ e → list_any (succeeds r) xs ≡ f
          → IsSound apex (if a then (if b then xs else replaced xs r) else if d then xs else if e then (if f then replaced xs r else xs) else put r xs)
      at true true d e f a' b' d' e' f' = h
      at true false d e f a' b' d' e' f' = alias_comes r p a' b'
      at false b true e f a' b' d' e' f' = h
      at false b false true true a' b' d' e' f' = soa_comes r p a' d' e' f'
      at false b false true false a' b' d' e' f' = h
      at false b false false f a' b' d' e' f' = record_comes r p a' d' e'

  -- ---- deletions
  set_goes : (name : Labels) (t : ℕ) → IsSound apex (deleted_set apex xs name t)
  set_goes name t = stay (λ r. not (is_of name t r && not (is_vital apex r))) (deletes_set apex xs h.soa name t) (kept_any (is_server apex) (λ r. not (is_of name t r && not (is_vital apex r))) xs vital h.server)
    where
      vital : (r : Record) → is_server apex r ≡ true → not (is_of name t r && not (is_vital apex r)) ≡ true
      vital r e =
          let both = both_true (names_eq r.owner apex) (r.rtype == type_ns) e in
          let is : is_vital apex r ≡ true = (λ i. both.0 i && (r.rtype == type_soa || both.1 i)) ∙ later (r.rtype == type_soa) true refl in
          ap (λ b. not (is_of name t r && not b)) is ∙ ap not (never (is_of name t r))

  -- where it is an NS of the apex, another is left
  other_left : (r : Record) → is_server apex r ≡ true → (length (rrset xs apex type_ns) == 1) ≡ false → list_any (is_server apex) (without r xs) ≡ true
  other_left r e more =
      let some : (length (rrset xs apex type_ns) == 0) ≡ false = none_passes (is_server apex) xs ∙ ap not h.server in
      let left = one_left (rrset xs apex type_ns) r (sorted_filter (is_server apex) xs h.sorted) some more in
      let there = filter_contains left.0 (is_server apex) xs left.1 in
      one_any (is_server apex) (without r xs) left.0 (contains_filter left.0 (λ s. not (is_eq (record_cmp r s))) xs there.1 (ap not left.2)) there.0

  servers_left : (r : Record) → is_spared apex xs r ≡ false → list_any (is_server apex) (without r xs) ≡ true
  servers_left r e = elim (true_or_false (is_server apex r)) [
    | inr f ↦ kept_any (is_server apex) (λ s. not (is_eq (record_cmp r s))) xs (λ s g. elim (true_or_false (is_eq (record_cmp r s))) [
      | inr k ↦ ap not k
      | inl k ↦ refuted (is_server apex r) (server_key apex r s (equal_is (record_cmp r s) k) ∙ g) f
    ]) h.server
    | inl f ↦
        (let both = both_true (names_eq r.owner apex) (r.rtype == type_ns) f in
        let last = over_left (is_soa r) (r.rtype == type_ns && names_eq r.owner apex && length (rrset xs apex type_ns) == 1) e in
        other_left r f ((λ i. sym both.1 i && sym both.0 i && length (rrset xs apex type_ns) == 1) ∙ last))
  ]

  one_goes : (r : Record) → IsSound apex (deleted apex xs r)
  one_goes r = at (is_spared apex xs r) refl
    where
      at : (b : Bool) → is_spared apex xs r ≡ b → IsSound apex (if b then xs else without r xs)
      at true e = h
      at false e = stay (λ s. not (is_eq (record_cmp r s))) (subst (λ b. HasSoa apex (if b then xs else without r xs)) e (deletes apex xs h.soa r)) (servers_left r e)

  -- ---- an item
  takes_effect : (i : ResourceRecord) → (i.class ≡ class_in → IsPlaced apex (as_record i)) → IsSound apex (effect apex xs i)
  takes_effect i p = at (i.class == class_in) (i.class == class_any) refl
    where
      at : (a b : Bool) → (i.class == class_in) ≡ a → IsSound apex (if a then added xs (as_record i) else if b then deleted_set apex xs i.owner i.rtype else deleted apex xs (as_record i))
      at true b e = adds (as_record i) (p (numbers_same i.class class_in e))
      at false true e = set_goes i.owner i.rtype
      at false false e = one_goes (as_record i)

  -- ---- the next serial
  next_sound : IsSound apex (with_next_serial (soas xs) xs)
  next_sound = subst (λ (ss : List Record). IsSound apex (with_next_serial ss xs)) (sym s.one) (comes next (λ r. not (is_eq (record_cmp s.soa r))) placed
      (subst (λ (ss : List Record). HasSoa apex (with_next_serial ss xs)) s.one (next_soa apex xs s)) (kept_any (is_server apex) (λ r. not (is_eq (record_cmp s.soa r))) xs no_server h.server) apart)
    where
      s : HasSoa apex xs
      s = h.soa

      next : Record
      next = with_serial (h.soa).soa (next_serial (serial_of (h.soa).soa))

      placed : IsPlaced apex (with_serial (h.soa).soa (next_serial (serial_of (h.soa).soa)))
      placed = let here = h.placed (h.soa).soa (one_in xs (h.soa).soa (h.soa).one).1 in record { inside = here.inside; server = here.server }

      no_server : (r : Record) → is_server apex r ≡ true → not (is_eq (record_cmp (h.soa).soa r)) ≡ true
      no_server r e = elim (true_or_false (is_eq (record_cmp (h.soa).soa r))) [
        | inr f ↦ ap not f
        | inl f ↦
            (let is = server_key apex (h.soa).soa r (equal_is (record_cmp (h.soa).soa r) f) ∙ e in
            let ns = numbers_same ((h.soa).soa).rtype type_ns (both_true (names_eq ((h.soa).soa).owner apex) (((h.soa).soa).rtype == type_ns) is).1 in
            refuted (is_soa (h.soa).soa) (is_one apex xs h.soa) (ap (λ (n : ℕ). n == type_soa) ns))
      ]

      not_alias : is_alias (h.soa).soa ≡ false
      not_alias = ap (λ (n : ℕ). n == type_cname) (numbers_same ((h.soa).soa).rtype type_soa (is_one apex xs h.soa))

      apart : (r : Record) → contains (without (h.soa).soa xs) r ≡ true → names_eq r.owner ((h.soa).soa).owner ≡ true → AreApart (with_serial (h.soa).soa (next_serial (serial_of (h.soa).soa))) r
      apart r there o = record {
        coming = not_alias;
        there = elim (true_or_false (is_alias r)) [
          | inr f ↦ f
          | inl f ↦
              (let here = (filter_contains r (λ x. not (is_eq (record_cmp (h.soa).soa x))) xs there).1 in
              let owners = names_same r.owner ((h.soa).soa).owner o in
              let flipped : names_eq ((h.soa).soa).owner r.owner ≡ true = ap (names_eq ((h.soa).soa).owner) owners ∙ names_itself ((h.soa).soa).owner in
              let is = h.alone r (h.soa).soa here (one_in xs (h.soa).soa (h.soa).one).1 f flipped in
              refuted (is_alias (h.soa).soa) (ap is_alias is ∙ f) not_alias)
        ];
      }

-- all items
pub sound_stays : (apex : Labels) (xs : List Record) → IsSound apex xs → (items : List ResourceRecord) → first_fault (prescan_fault apex) items ≡ None → AllByRecursion HasForm items → IsSound apex (effects apex xs items)
sound_stays apex xs h [] e f = h
sound_stays apex xs h (i ∷ rest) e f =
    let both = no_fault (prescan_fault apex i) (first_fault (prescan_fault apex) rest) e in
    let placed = λ (c : i.class ≡ class_in). let fits = fit apex i c both.0 f.0 in let at : IsPlaced apex (as_record i) = record { inside = fits.inside; server = fits.server } in at in
    sound_stays apex (effect apex xs i) (takes_effect apex xs h i placed) rest both.1 f.1

pub next_is_sound : (apex : Labels) (xs : List Record) → IsSound apex xs → IsSound apex (with_next_serial (soas xs) xs)
next_is_sound apex xs h = next_sound apex xs h
