-- The answer to whoever holds nothing, or a version that is followed, means the version that is shown.
use Rattle.std.proofs.Common.{◌≡◌, ℕ, ◌+◌, ◌^◌, ◌<◌, ◌⊎◌, inl, inr, true, false, not, ◌||◌, List, [], ◌∷◌, ◌++◌, map, Option, Some, None, refl, sym, ap, subst, ◌∙◌, arith}
use Rattle.std.specs.Prelude.{◌==◌, if◌then◌else◌}
use Rattle.std.specs.List.{AllByRecursion}
use Rattle.dns_names.specs.Name.{Labels}
use Rattle.dns_records.specs.Record.{Record, IsRecord, serial_of}
use Rattle.dns_serial.specs.Serial.{greater}
use Rattle.dns_zone.specs.Soa.{HasSoa}
use Rattle.dns_zone.specs.Zone.{Zone, IsZone, soas}
use Rattle.dns_zone.proofs.OneSoa.{zone_soa}
use Rattle.dns_changes.specs.Change.{Change}
use Rattle.dns_changes.specs.Version.{serial_in}
use Rattle.dns_wire.specs.Message.{record_of_item}
use Rattle.dns_wire.specs.Valid.{item_of}
use Rattle.dns_transfer.specs.Form.{Current, Incremental, Full, advances, since, form_since, form_of}
use Rattle.dns_transfer.specs.Records.{transfer_answer, transfer_from, transfer_of, all_but_soa, sequences}
use Rattle.dns_transfer.proofs.Since.{same_number, other_number}
use Rattle.dns_secondary.specs.Step.{IsFit}
use Rattle.dns_secondary.specs.Rest.{is_current}
use Rattle.dns_secondary.specs.Taken.{IsCurrent, IsWholeZone, IsChanged}
use Rattle.dns_theorem.specs.Versions.{LeadTo, EndAlike}
use Rattle.dns_theorem.specs.Copies.{IsFollowed, answer_for, TransferIsTaken}
use Rattle.dns_theorem.proofs.Serials.{not_itself, zone_small, greater_by, not_greater_by}
use Rattle.dns_theorem.proofs.Chains.{last_zone, first_zone, first_soa, steps_up, went, since_is, leads}
use Rattle.dns_theorem.proofs.Wholes.{soa_at, is_whole}

-- records of a zone are read again as they were sent
pub back_again : (rs : List Record) → map record_of_item (map item_of rs) ≡ rs
back_again [] = refl
back_again (r ∷ rs) = ap (λ (xs : List Record). r ∷ xs) (back_again rs)

pub all_fit : (rs : List Record) → AllByRecursion IsRecord rs → AllByRecursion IsFit (map item_of rs)
all_fit [] h = tt
all_fit (r ∷ rs) h =
    (record { class = refl; data_is = record { rtype = h.0.rtype; octets = h.0.octets; short = h.0.short; form = h.0.rdata } }, all_fit rs h.1)

abbrev pub Means : Labels → Option Zone → List Record → List Record → Type 0
Means apex held answer set = IsCurrent apex held answer set ⊎ IsWholeZone apex answer set ⊎ IsChanged apex held answer set

-- an answer longer than its SOA is of one who has an older version
abbrev pub IsNewer : Option Zone → List Record → Type 0
IsNewer held [] = Unit {0}
IsNewer held (soa ∷ []) = Unit {0}
IsNewer held (soa ∷ r ∷ rest) = is_current held soa ≡ false

longer : (held : Option Zone) (soa : Record) (rest : List Record) → is_current held soa ≡ false → IsNewer held (soa ∷ rest)
longer held soa [] e = tt
longer held soa (r ∷ rest) e = e

-- the answer of a form has that meaning, and is longer than its SOA only for one who is pending
pub record IsGood (apex : Labels) (held : Option Zone) (answer set : List Record) : Type 0 where
  pub means : Means apex held answer set
  pub newer : IsNewer held answer

good_at : (apex : Labels) (held : Option Zone) (a b set : List Record) → a ≡ b → IsGood apex held a set → IsGood apex held b set
good_at apex held a b set e h = subst (λ (xs : List Record). IsGood apex held xs set) e h

full_good : (apex : Labels) (held : Option Zone) (v : List Record) (h : HasSoa apex v) → IsZone (record { apex = apex; records = v })
    → is_current held h.soa ≡ false → IsGood apex held (transfer_answer h.soa v Full) v
full_good apex held v h z pending = record { means = inr (inl (is_whole apex v h z)); newer = longer held h.soa (all_but_soa v ++ h.soa ∷ []) pending }

with_soa : (v : List Record) (kept : List Change) (client : Option ℕ) (soa : Record) → soas v ≡ soa ∷ [] → transfer_answer soa v (form_of (serial_of soa) kept client) ≡ transfer_of v kept client
with_soa v kept client soa one = sym (ap (λ (xs : List Record). transfer_from xs v kept client) one)

-- the version that is shown is held
same_good : (apex : Labels) (z : Zone) (kept : List Change) (shown : List Record) (h : HasSoa apex shown) → IsZone (record { apex = apex; records = shown })
    → shown ≡ z.records → IsGood apex (Some z) (transfer_answer h.soa shown (form_of (serial_of h.soa) kept (Some (serial_in (soas z.records))))) shown
same_good apex z kept shown h valid is =
    let soa = h.soa in
    let held_soa : soas z.records ≡ soa ∷ [] = sym (ap soas is) ∙ h.one in
    let serial : serial_in (soas z.records) ≡ serial_of soa = ap serial_in held_soa in
    let one : (serial_of soa == serial_in (soas z.records)) ≡ true = same_number (serial_of soa) (serial_in (soas z.records)) (sym serial) in
    let small = zone_small apex shown soa valid h.one in
    let not_newer : is_current (Some z) soa ≡ true = ap (λ n. not (greater (serial_of soa) n)) serial ∙ ap not (not_itself (serial_of soa) small) in
    let s = serial_in (soas z.records) in
    let form : form_of (serial_of soa) kept (Some s) ≡ Current =
    ap (λ b. if b || greater s (serial_of soa) then Current else if not (greater (serial_of soa) s) then Full else form_since (since s kept)) one in
    good_at apex (Some z) (soa ∷ []) _ shown (ap (transfer_answer soa shown) (sym form))
    (record { means = inl (record { soa = soa; alone = refl; at_apex = soa_at apex shown h; not_newer = not_newer; stays = is }); newer = tt })

module _ (apex : Labels) (z : Zone) (base shown : List Record) (kept : List Change) (c : Change) (rest : List Change) (h : HasSoa apex shown)
    (valid : IsZone (record { apex = apex; records = shown })) (from_base : LeadTo apex base kept shown) (from : LeadTo apex z.records (c ∷ rest) shown)
    (less : advances (c ∷ rest) < 2 ^ 31) where
  old_serial : serial_in (soas z.records) ≡ serial_of c.old_soa
  old_serial = ap serial_in (first_soa apex z.records c rest shown from)

  old_small : serial_of c.old_soa < 2 ^ 32
  old_small = zone_small apex z.records c.old_soa (first_zone apex z.records (c ∷ rest) shown from) (first_soa apex z.records c rest shown from)

  up : 0 < advances (c ∷ rest)
  up = omega (arith, steps_up z.records from.1 c from.2)

  gone : (serial_of c.old_soa + advances (c ∷ rest) ≡ serial_of h.soa) ⊎ (serial_of c.old_soa + advances (c ∷ rest) ≡ serial_of h.soa + 2 ^ 32)
  gone = went apex z.records (c ∷ rest) shown c.old_soa h.soa from less (first_soa apex z.records c rest shown from) h.one

  soa_small : serial_of h.soa < 2 ^ 32
  soa_small = zone_small apex shown h.soa valid h.one

  is_greater : greater (serial_of h.soa) (serial_in (soas z.records)) ≡ true
  is_greater = ap (greater (serial_of h.soa)) old_serial ∙ greater_by (serial_of c.old_soa) (advances (c ∷ rest)) (serial_of h.soa) old_small soa_small up less gone

  is_behind : is_current (Some z) h.soa ≡ false
  is_behind = ap not is_greater

  apart : (s a last : ℕ) → 0 < a → a < 2 ^ 31 → (s + a ≡ last) ⊎ (s + a ≡ last + 2 ^ 32) → last ≡ s → ⊥
  apart s a last up less (inl e) f = omega arith
  apart s a last up less (inr e) f = omega arith

  other : (serial_of h.soa == serial_of c.old_soa) ≡ false
  other = other_number (serial_of h.soa) (serial_of c.old_soa) (λ e. apart (serial_of c.old_soa) (advances (c ∷ rest)) (serial_of h.soa) up less gone e)

  form_is : form_of (serial_of h.soa) kept (Some (serial_in (soas z.records))) ≡ form_since (since (serial_of c.old_soa) kept)
  form_is =
      let s = serial_in (soas z.records) in
      let not_same : (serial_of h.soa == s) ≡ false = ap (λ n. serial_of h.soa == n) old_serial ∙ other in
      let not_back : greater s (serial_of h.soa) ≡ false =
      ap (λ n. greater n (serial_of h.soa)) old_serial ∙ not_greater_by (serial_of c.old_soa) (advances (c ∷ rest)) (serial_of h.soa) old_small soa_small up less gone in
      (λ i. if not_same i || not_back i then Current else if not (is_greater i) then Full else form_since (since s kept))
      ∙ ap (λ n. form_since (since n kept)) old_serial

  changed_good : IsGood apex (Some z) (transfer_answer h.soa shown (Incremental (c ∷ rest))) shown
  changed_good = record {
    means = inr (inr (record {
      form = record {
        soa = h.soa;
        changes = c ∷ rest;
        framed = refl;
        at_apex = soa_at apex shown h;
        from = z;
        held_is = refl;
        first = c.old_soa;
        more = [];
        first_is = first_soa apex z.records c rest shown from;
        other_serial = other;
        leads = leads apex z.records c rest shown h.soa from less h.one;
      };
      valid = valid;
    }));
    newer = longer (Some z) h.soa (sequences (c ∷ rest) ++ h.soa ∷ []) is_behind;
  }

  pub later_good : EndAlike (c ∷ rest) kept → IsGood apex (Some z) (transfer_answer h.soa shown (form_of (serial_of h.soa) kept (Some (serial_in (soas z.records))))) shown
  later_good ends = good_at apex (Some z) _ _ shown (ap (transfer_answer h.soa shown) (sym form_is)) (at (since_is apex base z.records kept c rest shown h.soa from_base from less h.one ends))
    where
      at : (since (serial_of c.old_soa) kept ≡ Some (c ∷ rest)) ⊎ (since (serial_of c.old_soa) kept ≡ None)
          → IsGood apex (Some z) (transfer_answer h.soa shown (form_since (since (serial_of c.old_soa) kept))) shown
      at (inl e) = good_at apex (Some z) _ _ shown (ap (λ o. transfer_answer h.soa shown (form_since o)) (sym e)) changed_good
      at (inr e) = good_at apex (Some z) _ _ shown (ap (λ o. transfer_answer h.soa shown (form_since o)) (sym e)) (full_good apex (Some z) shown h valid is_behind)

pub is_good : (apex : Labels) (held : Option Zone) (base : List Record) (kept : List Change) (shown : List Record) → LeadTo apex base kept shown → IsFollowed apex held kept shown
    → IsGood apex held (answer_for held kept shown) shown
is_good apex None base kept shown k f =
    let valid = last_zone apex base kept shown k in
    let h = zone_soa (record { apex = apex; records = shown }) valid in
    good_at apex None _ _ shown (with_soa shown kept None h.soa h.one) (full_good apex None shown h valid refl)
is_good apex (Some z) base kept shown k f =
    let valid = last_zone apex base kept shown k in
    let h = zone_soa (record { apex = apex; records = shown }) valid in
    good_at apex (Some z) _ _ shown (with_soa shown kept (Some (serial_in (soas z.records))) h.soa h.one) (at h valid f.0 f.1 f.2 f.3)
  where
    at : (h : HasSoa apex shown) → IsZone (record { apex = apex; records = shown }) → (later : List Change) → LeadTo apex z.records later shown → advances later < 2 ^ 31 → EndAlike later kept
        → IsGood apex (Some z) (transfer_answer h.soa shown (form_of (serial_of h.soa) kept (Some (serial_in (soas z.records))))) shown
    at h valid [] from less ends = same_good apex z kept shown h valid from.1
    at h valid (c ∷ rest) from less ends = later_good apex z base shown kept c rest h valid k from less ends

pub transfer_is_taken : TransferIsTaken
transfer_is_taken apex held base kept shown k f each =
    let good = is_good apex held base kept shown k f in
    record {
      fit = all_fit (answer_for held kept shown) each;
      form = subst (λ (xs : List Record). Means apex held xs shown) (sym (back_again (answer_for held kept shown))) good.means;
    }
