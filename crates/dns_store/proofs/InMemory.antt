-- What is read of a store, whatever the device is.
use Rattle.std.proofs.Common.{◌≡◌, ◌≤◌, ◌+◌, ◌-◌, ℕ, zero, suc, List, [], ◌∷◌, ◌++◌, length, take, drop, refl, sym, ◌∙◌, ap, subst, arith, length-append}
use Rattle.std.proofs.lemmas.List.{append-nil}
use Rattle.std.proofs.lemmas.List.Sums.{sum_by_push}
use Rattle.std.specs.Prelude.{None, sum_by}
use Rattle.dns_records.specs.Record.{Record}
use Rattle.dns_zone.specs.Zone.{Zone, IsZone}
use Rattle.dns_changes.specs.Change.{Change, IsChange, applied, change_fault}
use Rattle.dns_changes.specs.Entry.{HasEntry, entry}
use Rattle.dns_sectors.specs.declared.device.Sectors.{Ghosts}
use Rattle.dns_layout.specs.Sector.{entry_sectors_in, snapshot_sectors, old_snapshot_sectors, snapshot_sectors_in}
use Rattle.dns_layout.specs.declared.format.Format.{Format}
use Rattle.dns_layout.specs.declared.format.Format.TheVariants.{One, Two}
use Rattle.dns_layout.specs.declared.root.Root.{Root}
use Rattle.dns_journal.specs.Bank.{sectors_for}
use Rattle.dns_journal.specs.State.{newest_number_of}
use Rattle.dns_journal.specs.declared.read.Cursor.{Cursor}
use Rattle.dns_store.specs.Versions.{Versions, Shape, Kept, Opened, newest_after, shown_of}
use Rattle.dns_store.specs.Room.{entries_along}
use Rattle.dns_store.specs.Staged.{newest_append}
use Rattle.dns_store.specs.Plain.{sectors_of_snapshot_in}
use Rattle.dns_store.specs.Opens.{base_of, fresh}
use Rattle.dns_store.specs.Recovered.{AreLed}
use Rattle.dns_store.specs.Checkpoint.{AllZones, AllFit}
use Rattle.dns_store.specs.Reading.{AllFitIn, IsReadBy, IsOpenSo, MayBeVersions, sectors_for_in}
use Rattle.dns_store.specs.Holding.{HoldsInMemory}
use Rattle.dns_store.specs.Opening.{IsFoundSo, keeps, store_device}
use Rattle.dns_store.specs.declared.kept_store.KeptStore.{KeptStore}
use Rattle.dns_store.proofs.Places.{along_drop}
use Rattle.dns_store.proofs.Lent.{led_sums}
use Rattle.dns_store.proofs.Made.{made_is}
use Rattle.dns_store.proofs.Holding.{led_append, zones_append}

fit_in_append : (f : Format) (room : ℕ) (vs : Versions) (v : List Record) → AllFitIn f room vs → sectors_of_snapshot_in f v ≤ room → AllFitIn f room (vs ++ v ∷ [])
fit_in_append f room [] v fit le = (le, tt)
fit_in_append f room (w ∷ vs) v fit le = (fit.0, fit_in_append f room vs v fit.1 le)

pub fit_two : (room : ℕ) (vs : Versions) → AllFitIn Two room vs → AllFit room vs
fit_two room [] fit = tt
fit_two room (v ∷ vs) fit = (fit.0, fit_two room vs fit.1)

-- a shorter snapshot takes no more sectors
pub sectors_grow_in : (f : Format) (a b : ℕ) → a ≤ b → snapshot_sectors_in f a ≤ snapshot_sectors_in f b
unfolding snapshot_sectors old_snapshot_sectors
sectors_grow_in One a b le = omega (arith, le)
sectors_grow_in Two a b le = omega (arith, le)

-- nothing was read so far
pub read_none : (f : Format) (at : Cursor) (base : Zone) (room : ℕ) → IsReadBy f at at base room base.records []
read_none f at base room = record { versions = []; version_is = omega arith; position = omega arith; newest_is = refl; zones = tt; fit = tt; led = tt }

-- one change more
pub read_more : (f : Format) (old mid new : Cursor) (base : Zone) (room : ℕ) (before after : List Record) (changes : List Change) (c : Change)
    → IsReadBy f old mid base room before changes → IsZone (record { apex = base.apex; records = before })
    → new.version ≡ mid.version + 1 → new.at ≡ mid.at + entry_sectors_in f (length (entry c))
    → HasEntry c → change_fault c before ≡ None → applied c before ≡ after → IsZone (record { apex = base.apex; records = after })
    → sectors_of_snapshot_in f after ≤ room → IsReadBy f old new base room after (changes ++ c ∷ [])
read_more f old mid new base room before after changes c so was number place written applies makes valid fits = record {
  versions = so.versions ++ after ∷ [];
  version_is = omega (arith, number, so.version_is, length-append so.versions (after ∷ []));
  position = place ∙ ap (λ n. n + entry_sectors_in f (length (entry c))) so.position ∙ omega arith
      ∙ ap (λ n. old.at + n) (sym (sum_by_push (sectors_for_in f) changes c));
  newest_is = sym (newest_append base.records so.versions after);
  zones = zones_append base.apex so.versions after so.zones valid;
  fit = fit_in_append f room so.versions after so.fit fits;
  led = led_append base.records so.versions changes after c so.led
      (subst (λ (b : List Record). IsChange b after c) so.newest_is (made_is base.apex before after c was valid written.formed applies makes));
}

-- What was read are those versions.
pub found_so : (shape : Shape) (o : Opened) (start end next : Cursor) (root : Root) (base : Zone) (newest : List Record) (changes : List Change)
    (so : IsReadBy Two start end base shape.snapshot newest changes)
    → start.until ≡ start.at + shape.journal → end.until ≡ start.until → next.at ≡ end.at → next.until ≡ end.until → next.version ≡ length o.versions
    → root.snapshot_room ≡ shape.snapshot → root.journal_room ≡ shape.journal → base.apex ≡ shape.apex → sectors_of_snapshot_in Two base.records ≤ shape.snapshot
    → o.base + length so.versions ≡ length o.versions → base_of o ≡ base.records → drop o.base o.versions ≡ so.versions → IsFoundSo shape o next root base changes
found_so shape o start end next root base newest changes so place until at_is until_is count snapshot journal apex base_fits number base_is rest =
    let leads : AreLed (base_of o) (drop o.base o.versions) changes =
    subst (λ (b : List Record). AreLed b (drop o.base o.versions) changes) (sym base_is) (subst (λ (vs : Versions). AreLed base.records vs changes) (sym rest) so.led) in
    let sums : sum_by sectors_for changes ≡ sum_by (λ (n : ℕ). n) (drop o.base (entries_along o.loaded (o.versions ++ []))) =
    led_sums (base_of o) (drop o.base o.versions) changes 0 leads ∙ ap (λ (ns : List ℕ). sum_by (λ (n : ℕ). n) ns) (sym (along_drop o.base o.loaded o.versions))
    ∙ ap (λ (vs : Versions). sum_by (λ (n : ℕ). n) (drop o.base (entries_along o.loaded vs))) (sym (append-nil o.versions)) in
    let moved : end.at ≡ start.at + sum_by sectors_for changes = so.position in
    let left : next.until - next.at ≡ shape.journal - sum_by sectors_for changes = omega (arith, place, until, at_is, until_is, moved) in
    record {
      number_is = count;
      left_is = left ∙ ap (λ n. shape.journal - n) sums;
      snapshot_room_is = snapshot;
      journal_room_is = journal;
      so_far = omega (arith, number);
      base_is = λ i. record { apex = apex i; records = sym base_is i };
      base_fits = subst (λ (b : List Record). sectors_of_snapshot_in Two b ≤ shape.snapshot) (sym base_is) base_fits;
      led = leads;
      zones = subst (λ (vs : Versions). AllZones shape.apex vs) (sym rest) (subst (λ a. AllZones a so.versions) apex so.zones);
      fit = subst (λ (vs : Versions). AllFit shape.snapshot vs) (sym rest) (fit_two shape.snapshot so.versions so.fit);
    }

-- ---- which versions there were before the base is not known: they may be copies of it
abbrev copies : ℕ → List Record → Versions → Versions
copies zero base vs = vs
copies (suc n) base vs = base ∷ copies n base vs

copies_count : (n : ℕ) (base : List Record) (vs : Versions) → length (copies n base vs) ≡ n + length vs
copies_count zero base vs = omega arith
copies_count (suc n) base vs = omega (arith, copies_count n base vs)

copies_rest : (n : ℕ) (base : List Record) (vs : Versions) → drop n (copies n base vs) ≡ vs
copies_rest zero base [] = refl
copies_rest zero base (v ∷ vs) = refl
copies_rest (suc n) base vs = copies_rest n base vs

copies_base : (n : ℕ) (base : List Record) (vs : Versions) → newest_after base (take n (copies n base vs)) ≡ base
copies_base zero base [] = refl
copies_base zero base (v ∷ vs) = refl
copies_base (suc n) base vs = copies_base n base vs

copies_newest : (n : ℕ) (base : List Record) (vs : Versions) → newest_after base (copies n base vs) ≡ newest_after base vs
copies_newest zero base vs = refl
copies_newest (suc n) base vs = copies_newest n base vs

-- The store holds these versions in memory, of which this is the newest.
pub record IsHeldAs {D I : Type 0} {g : Ghosts D} (shape : Shape) (store : KeptStore D I g) (newest : Zone) : Type 0 where
  pub opened : Opened
  pub number_is : newest_number_of store.journal ≡ length opened.versions
  pub newest_is : newest ≡ record { apex = shape.apex; records = shown_of (fresh shape opened) }
  pub memory : HoldsInMemory store.journal store.base store.changes.items (fresh shape opened)

-- So it is of each store that was opened.
pub held_as : {D I : Type 0} {g : Ghosts D} (shape : Shape) (store : KeptStore D I g) (newest : Zone)
    → IsOpenSo shape store newest → IsHeldAs shape store newest
held_as {D} {I} {g} shape store newest so =
    let base = store.base.records in
    let n = newest_number_of store.journal - length so.versions in
    let count = copies_count n base so.versions in
    let o : Opened = record { loaded = base; versions = copies n base so.versions; base = n; openings = 0; altered = [] } in
    let number : length (copies n base so.versions) ≡ newest_number_of store.journal = omega (arith, count, so.few) in
    let may : MayBeVersions store so.versions o = record {
      count = number;
      base_number = sym count;
      base_is = copies_base n base so.versions;
      rest_is = copies_rest n base so.versions;
    } in
    record {
      opened = o;
      number_is = sym number;
      newest_is = so.newest_is ∙ (λ i. record { apex = shape.apex; records = sym (copies_newest n base so.versions) i });
      memory = so.holds o may;
    }

-- A store on a device that isn't honest keeps what it holds in memory.
pub kept_in_memory : {D I : Type 0} {g : Ghosts D} (store : KeptStore D I g) (k : Kept)
    → HoldsInMemory store.journal store.base store.changes.items k → (g.is_honest (store_device store) → ⊥) → keeps store k
kept_in_memory {D} {I} {g} store k memory not = record { memory = memory; keeps = λ honest. absurd (not honest) }
