-- The next version beside the newest one.
use Rattle.std.proofs.Common.{◌≡◌, ◌≤◌, ◌<◌, ◌+◌, ◌-◌, ◌*◌, ◌^◌, ℕ, Bool, true, List, [], ◌∷◌, ◌++◌, Option, Some, None, length, refl, sym, ap, subst, ◌∙◌, arith, append-nil, append_assoc}
use Rattle.std.specs.Prelude.{nat_le, nat_lt, false, if◌then◌else◌}
use Rattle.dns_zone.specs.declared.ZoneError.TheVariants.{TooMany}
use Rattle.std.proofs.Math.Bool.{Bool-set}
use Rattle.std.proofs.Math.Logic.{∥∥₁_elim}
use Rattle.std.proofs.lemmas.Bool.Decides.{nat_tests}
use Rattle.dns_records.specs.Record.{Record}
use Rattle.dns_zone.specs.Zone.{Zone, IsZone}
use Rattle.dns_zone.specs.Sets.{sorted_from}
use Rattle.dns_changes.specs.Change.{Change, IsChange}
use Rattle.dns_changes.specs.Version.{IsVersionAfter}
use Rattle.dns_store.specs.Versions.{Kept, Versions, newest_after, newest_of, staged_with}
use Rattle.dns_store.specs.Room.{entry_between, sectors_left}
use Rattle.dns_store.specs.Staged.{newest_append}
use Rattle.dns_versions.specs.Staging.{has_room}
use Rattle.dns_store.specs.Plain.{octets_of, sectors_of_snapshot}
use Rattle.dns_versions.specs.Held.{HasVersions, IsTip, newer, newest_zone, shown_zone}
use Rattle.dns_versions.specs.declared.zone_versions.ZoneVersions.{ZoneVersions}
use Rattle.dns_store.proofs.Counts.{counts}
use Rattle.dns_store.proofs.Chosen.{short_all}

pub tip_newest : (zone : Zone) (o : Option Zone) (k : Kept) → zone ≡ shown_zone k → IsTip o k → newer zone o ≡ newest_zone k
tip_newest zone None k is none = is ∙ λ i. record { apex = k.shape.apex; records = newest_after k.loaded ((sym (append-nil k.shown) ∙ sym (ap (λ (vs : Versions). k.shown ++ vs) none)) i) }
tip_newest zone (Some tip) k is none = none

pub newer_is : {I S : Type 0} (keeps : S → Kept → Type 0) (zone : Zone) (b : ZoneVersions I S) (k : Kept) → HasVersions keeps zone b k → newer zone b.tip ≡ newest_zone k
newer_is keeps zone b k held = tip_newest zone b.tip k held.zone_is held.tip_is

-- what is counted beside a version are its octets, where it has so few records
pub counted : (before : Zone) (octets n : ℕ) (after : List Record) (c : Change) → IsZone before → IsVersionAfter before c after → IsChange before.records after c → octets ≡ octets_of before.records
    → ((kept : ℕ) → octets ≡ octets_of (c.old_soa ∷ c.removed) + kept → octets_of (c.new_soa ∷ c.added) + kept < 2 ^ 64 → n ≡ octets_of (c.new_soa ∷ c.added) + kept) → length after ≤ 65536 → n ≡ octets_of after
counted before octets n after c valid next change is moved few =
    let sum = counts before.records after c (sorted_from before.records valid.ordered) (sorted_from after next.version.ordered) change in
    let test : nat_le (octets_of after) (4359 * length after) ≡ true = ∥∥₁_elim next.version.each (Bool-set (nat_le (octets_of after) (4359 * length after)) true) (λ all. let short = short_all after all in grind (arith, nat_tests, short)) in
    let short : octets_of after ≤ 4359 * length after = grind (arith, nat_tests, test) in
    moved sum.kept (is ∙ sum.old) (omega (arith, short, few, sum.new)) ∙ sym sum.new

within : (b : Bool) → b ≡ false → (if b then Some TooMany else None) ≡ None
within true e = absurd (cc e)
within false e = refl

-- the next version is valid where it is not too large
pub next_valid : (before : Zone) (after : List Record) (c : Change) → IsVersionAfter before c after → length after ≤ 65536 → IsZone (record { apex = before.apex; records = after })
next_valid before after c next few = record {
  ordered = next.version.ordered;
  each = next.version.each;
  valid = next.version.valid ∙ within (nat_lt 65536 (length after)) (grind (arith, nat_tests, few));
}

pub room_number : (k : Kept) (after : List Record) → has_room k after ≡ true → length k.shown + length k.staged < 2 ^ 64 - 1
room_number k after e = grind (arith, nat_tests, e)

pub room_fits : (k : Kept) (after : List Record) → has_room k after ≡ true → sectors_of_snapshot after ≤ k.shape.snapshot
room_fits k after e = grind (arith, nat_tests, e)

pub staged_newest : (k : Kept) (after : List Record) → newest_of (staged_with after k) ≡ after
staged_newest k after = ap (λ (vs : Versions). newest_after k.loaded vs) (sym (append_assoc k.shown k.staged (after ∷ []))) ∙ newest_append k.loaded (k.shown ++ k.staged) after
