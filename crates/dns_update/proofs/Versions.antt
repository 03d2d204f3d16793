-- What an accepted update leaves is the next version of the zone.
use Rattle.std.proofs.Common.{◌≡◌, Bool, true, false, inl, inr, List, [], ◌∷◌, Ok, Err, None, refl, sym, ap, subst, ◌∙◌}
use Rattle.std.specs.Prelude.{◌==◌, Result, IfOk, if◌then◌else◌}
use Rattle.std.specs.List.{AllByRecursion}
use Rattle.std.proofs.Math.Logic.{∥∥₁_elim, ∥∥₁_map}
use Rattle.std.proofs.Math.Bool.{Bool-set}
use Rattle.dns_names.specs.Name.{Labels}
use Rattle.dns_records.specs.Types.{type_soa}
use Rattle.dns_records.specs.Record.{Record, IsRecord, serial_of, with_serial}
use Rattle.dns_zone.specs.Records.{contains, same, without}
use Rattle.dns_zone.specs.Zone.{Zone, IsZone, soas}
use Rattle.dns_zone.specs.Order.{same_is}
use Rattle.dns_zone.specs.Sets.{either_true, sorted_from}
use Rattle.dns_zone.specs.Soa.{HasSoa}
use Rattle.dns_zone.proofs.Kept.{numbers_same}
use Rattle.dns_zone.proofs.Listed.{ordered_from, put_valid, without_valid}
use Rattle.dns_zone.proofs.OneSoa.{is_one, zone_soa, conditions}
use Rattle.dns_changes.specs.Applied.{one_in, change_leads}
use Rattle.dns_changes.specs.Change.{Change, IsChange}
use Rattle.dns_serial.specs.Serial.{greater, next_serial}
use Rattle.dns_wire.specs.Message.{ResourceRecord}
use Rattle.dns_update.specs.declared.Judged.{Judged}
use Rattle.dns_update.specs.declared.Judged.TheVariants as judged
use Rattle.dns_wire.specs.declared.codes.Rcode.TheVariants as code
use Rattle.dns_update.specs.ResourceRecord.{HasForm, first_fault}
use Rattle.dns_update.specs.Prescan.{prescan_fault}
use Rattle.dns_update.specs.Effect.{effects}
use Rattle.dns_update.specs.Verdict.{Verdict, Refuses, Keeps, Leaves, IsVerdict, same_set, versioned, with_next_serial}
use Rattle.dns_changes.specs.Version.{serial_in, IsVersion, IsVersionAfter}
use Rattle.dns_update.proofs.OneSoa.{next_alone}
use Rattle.dns_update.proofs.Sound.{IsSound, sound_from, fault_of_sound}
use Rattle.dns_update.proofs.SoundEffects.{sound_stays, next_is_sound}
use Rattle.dns_update.proofs.Serials.{next_greater, next_small, serial_small, soa_long, serial_is, next_valid}

each_is : (xs : List Record) (r : Record) → AllByRecursion IsRecord xs → contains xs r ≡ true → IsRecord r
each_is [] r h e = absurd cc
each_is (x ∷ xs) r h e = elim (either_true (same r x) (contains xs r) e) [
  | inl s ↦ subst IsRecord (sym (same_is r x s)) h.0
  | inr s ↦ each_is xs r h.1 s
]

module _ (apex : Labels) (xs : List Record) (h : HasSoa apex xs) where
  soa_type : (h.soa).rtype ≡ type_soa
  soa_type = numbers_same (h.soa).rtype type_soa (is_one apex xs h)

  soa_valid : AllByRecursion IsRecord xs → IsRecord h.soa
  soa_valid all = each_is xs h.soa all (one_in xs h.soa h.one).1

  next : Record
  next = with_serial h.soa (next_serial (serial_of h.soa))

  pub each_next : AllByRecursion IsRecord xs → AllByRecursion IsRecord (with_next_serial (soas xs) xs)
  each_next all = subst (λ (ss : List Record). AllByRecursion IsRecord (with_next_serial ss xs)) (sym h.one)
      (put_valid (with_serial h.soa (next_serial (serial_of h.soa))) (without h.soa xs) (next_valid h.soa (next_serial (serial_of h.soa)) (soa_valid all) soa_type) (without_valid h.soa xs all))

  serial_next : AllByRecursion IsRecord xs → greater (serial_in (soas (with_next_serial (soas xs) xs))) (serial_in (soas xs)) ≡ true
  serial_next all =
      let k = serial_of h.soa in
      let valid = soa_valid all in
      let is : serial_in (soas (with_next_serial (soas xs) xs)) ≡ next_serial k = ap serial_in (next_alone apex xs h) ∙ serial_is h.soa (next_serial k) (next_small k) (soa_long h.soa valid soa_type) in
      (λ i. greater (is i) (serial_in (h.one i))) ∙ next_greater k (serial_small h.soa valid)

module _ (z : Zone) (after : List Record) (h : IsSound z.apex after) (each : ∥ AllByRecursion IsRecord after ∥₁) where
  advanced : serial_in (soas after) ≡ serial_in (soas z.records) → IsVersion z (with_next_serial (soas after) after)
  advanced e =
      let sound = next_is_sound z.apex after h in
      record {
        ordered = ordered_from (with_next_serial (soas after) after) sound.sorted;
        each = ∥∥₁_map each (each_next z.apex after h.soa);
        valid = fault_of_sound z.apex (with_next_serial (soas after) after) sound;
        serial = ap (greater (serial_in (soas (with_next_serial (soas after) after)))) (sym e)
            ∙ ∥∥₁_elim each (Bool-set (greater (serial_in (soas (with_next_serial (soas after) after))) (serial_in (soas after))) true) (serial_next z.apex after h.soa);
      }

  as_is : greater (serial_in (soas after)) (serial_in (soas z.records)) ≡ true → IsVersion z after
  as_is e = record { ordered = ordered_from after h.sorted; each = each; valid = fault_of_sound z.apex after h; serial = e }

  pub version_of : (xs : List Record) → versioned z.records after ≡ Leaves xs → IsVersion z xs
  version_of xs = at (same_set z.records after) (serial_in (soas after) == serial_in (soas z.records)) (greater (serial_in (soas after)) (serial_in (soas z.records))) refl refl
    where
      at : (a b d : Bool) → (serial_in (soas after) == serial_in (soas z.records)) ≡ b → greater (serial_in (soas after)) (serial_in (soas z.records)) ≡ d
          → (if a then Keeps else if b then Leaves (with_next_serial (soas after) after) else if d then Leaves after else Refuses code.Refused) ≡ Leaves xs → IsVersion z xs
      at true b d e f is = absurd cc
      at false true d e f is = (let left : with_next_serial (soas after) after ≡ xs = cc in subst (IsVersion z) left (advanced (numbers_same _ _ e)))
      at false false true e f is = (let left : after ≡ xs = cc in subst (IsVersion z) left (as_is f))
      at false false false e f is = absurd cc

-- a change to a version is one that leads to it
next_from : {X : Type 0} (records : X → List Record) (z : Zone) → IsZone z → (v : Verdict) → ((xs : List Record) → v ≡ Leaves xs → IsVersion z xs) → (j : Judged X) → IsVerdict records z.records v j → (c : Change) (next : X) → j ≡ judged.Accepted c next → IsVersionAfter z c (records next)
next_from records z h (Refuses rcode) f j t c next e = absurd cc
next_from records z h Keeps f j t c next e = absurd cc
next_from records z h (Leaves after) f j (d, left, is, holds, change) c next e =
    let same : d ≡ c = cc in
    let other : left ≡ next = cc in
    let version = f after refl in
    let there : records next ≡ after = ap records (sym other) ∙ holds in
    let leads = change_leads z.records after c h.ordered version.ordered (subst (IsChange z.records after) same change) in
    subst (IsVersionAfter z c) (sym there) (record { leads = leads; version = version })

-- what the items of an update that is not refused leave
pub sound_after : (z : Zone) → IsZone z → (items : List ResourceRecord) → first_fault (prescan_fault z.apex) items ≡ None → AllByRecursion HasForm items → IsSound z.apex (effects z.apex z.records items)
sound_after z h items e f = sound_stays z.apex z.records (sound_from z.apex z.records (sorted_from z.records h.ordered) (zone_soa z h) (conditions z.apex z.records h.valid)) items e f

pub next_told : {X : Type 0} {E : Type 0} (records : X → List Record) (z : Zone) → IsZone z → (after : List Record) → IsSound z.apex after → ∥ AllByRecursion IsRecord after ∥₁ → (r : Result (Judged X) E)
    → IfOk r (IsVerdict records z.records (versioned z.records after)) → IfOk r (λ j. (c : Change) (next : X) → j ≡ judged.Accepted c next → IsVersionAfter z c (records next))
next_told records z h after sound each (Ok j) t = next_from records z h (versioned z.records after) (version_of z after sound each) j t
next_told records z h after sound each (Err e) t = tt
