-- Reading that reaches a sector goes on to it.
use Rattle.std.proofs.Common.{◌≡◌, inl, inr, ℕ, ◌≤◌, ◌<◌, List, [], ◌∷◌, None, refl, sym, ◌∙◌, ap, subst, arith}
use Rattle.dns_names.specs.Name.{Labels}
use Rattle.dns_records.specs.Record.{Record}
use Rattle.dns_zone.specs.Zone.{IsZone}
use Rattle.dns_changes.specs.Change.{Change, applied, change_fault}
use Rattle.dns_changes.specs.Entry.{HasEntry, entry}
use Rattle.dns_sectors.specs.Device.{Content}
use Rattle.dns_layout.specs.Sector.{sector_at}
use Rattle.dns_layout.specs.Own.{IsIntactIn}
use Rattle.dns_layout.specs.Journal.{IsNextHeadIn}
use Rattle.dns_layout.specs.declared.format.Format.{Format}
use Rattle.dns_journal.specs.Reads.{IsJournalEnd, FindsEntry, NamesSpoilt, IsThat, IsSectorReached as IsReachedAt}
use Rattle.dns_journal.specs.declared.read.Cursor.{Cursor}
use Rattle.dns_journal.specs.declared.read.ReadError.{ReadError}
use Rattle.dns_journal.proofs.Heads.{finds_once}
use Rattle.dns_store.specs.declared.root.OpenError.{OpenError}
use Rattle.dns_store.specs.Root.{open_error}
use Rattle.dns_store.specs.Plain.{sectors_of_snapshot_in}
use Rattle.dns_store.specs.Damage.{NamesSector, ReadChange, AreStepsIn, IsReachedEntryIn}
use Rattle.dns_store.proofs.Damage.{sector_named}

-- The change with these octets can be made, and makes a valid zone that takes at most so many sectors.
pub record IsTaken (f : Format) (apex : Labels) (room : ℕ) (before : List Record) (octets : List ℕ) (d : Change) : Type 0 where
  pub written : HasEntry d
  pub octets_are : entry d ≡ octets
  pub applies : change_fault d before ≡ None
  pub valid : IsZone (record { apex = apex; records = applied d before })
  pub fits : sectors_of_snapshot_in f (applied d before) ≤ room

module _ (f : Format) (apex : Labels) (room : ℕ) (d : Content) where
  steps_rise : (from : Cursor) (base : List Record) (steps : List ReadChange) (at : Cursor) (newest : List Record) → AreStepsIn f apex room d from base steps at newest → from.at ≤ at.at
  steps_rise from base [] at newest read = omega (arith, ap (λ (k : Cursor). k.at) read.0)
  steps_rise from base (s ∷ steps) at newest read = omega (arith, read.0.found.position, steps_rise s.behind s.after steps at newest read.1)

  module _ (base : List Record) (at : Cursor) (position : ℕ) where
    -- where reading an entry is refused
    pub reach_refused : IsReachedEntryIn f apex room base at d position → (e : ReadError) (r : OpenError) → r ≡ open_error e → (at.at < at.until → IsReachedAt f at d position → IsThat position e)
        → ((new : Cursor) (octets : List ℕ) → FindsEntry f at new d octets → NamesSpoilt f d at.at new.at e) → NamesSector position r
    reach_refused reached e r is direct near = go reached.steps reached.at reached.newest reached.read reached.own reached.due reached.reached
      where
        spoilt : (until end : ℕ) → until ≤ end → ((q : ℕ) → at.at ≤ q → q < end → IsIntactIn f q (sector_at d q)) → (e : ReadError) → NamesSpoilt f d at.at until e → IsThat position e
        spoilt until end le own ReadError.Device named = inl refl
        spoilt until end le own (ReadError.Damaged n) named = absurd (named.spoilt (own n named.first (omega (arith, named.last, le))))
        spoilt until end le own ReadError.OutOfMemory named = inr (inl refl)

        go : (steps : List ReadChange) (end : Cursor) (newest : List Record) → AreStepsIn f apex room d at base steps end newest → ((q : ℕ) → at.at ≤ q → q < end.at → IsIntactIn f q (sector_at d q)) → end.at < end.until → IsReachedAt f end d position → NamesSector position r
        go [] end newest read own due there = sector_named position e r is (direct (subst (λ (k : Cursor). k.at < k.until) read.0 due) (subst (λ (k : Cursor). IsReachedAt f k d position) read.0 there))
        go (s ∷ steps) end newest read own due there =
            sector_named position e r is (spoilt s.behind.at end.at (steps_rise s.behind s.after steps end newest read.1) own e (near s.behind (entry s.change) read.0.found))

    module _ (direct : at.at < at.until → IsReachedAt f at d position → ⊥) where
      -- Nothing is there: so it isn't reached.
      pub reach_ended : IsReachedEntryIn f apex room base at d position → IsJournalEnd f at d → ⊥
      reach_ended reached ends = go reached.steps reached.at reached.newest reached.read reached.due reached.reached
        where
          go : (steps : List ReadChange) (end : Cursor) (newest : List Record) → AreStepsIn f apex room d at base steps end newest → end.at < end.until → IsReachedAt f end d position → ⊥
          go [] end newest read due there = direct (subst (λ (k : Cursor). k.at < k.until) read.0 due) (subst (λ (k : Cursor). IsReachedAt f k d position) read.0 there)
          go (s ∷ steps) end newest read due there =
              ends (subst (λ (y : List ℕ). IsNextHeadIn f at.until at.at at.version at.opened y) (sym read.0.found.head) read.0.found.next.head)

      module _ (reached : IsReachedEntryIn f apex room base at d position) (new : Cursor) (octets : List ℕ) (finds : FindsEntry f at new d octets) where
        -- the first of the steps is the entry that was found
        first_step : (steps : List ReadChange) (end : Cursor) (newest : List Record) → AreStepsIn f apex room d at base steps end newest → end.at < end.until → IsReachedAt f end d position
            → (s : ReadChange) × (rest : List ReadChange) × IsTaken f apex room base octets s.change × (applied s.change base ≡ s.after) × (s.behind ≡ new) × AreStepsIn f apex room d s.behind s.after rest end newest
        first_step [] end newest read due there = absurd (direct (subst (λ (k : Cursor). k.at < k.until) read.0 due) (subst (λ (k : Cursor). IsReachedAt f k d position) read.0 there))
        first_step (s ∷ steps) end newest read due there =
            let once = finds_once f at s.behind new d (entry s.change) octets read.0.found finds in
            let is = read.0 in
            (s, steps, record { written = is.written; octets_are = once.1; applies = is.applies; valid = subst (λ (rs : List Record). IsZone (record { apex = apex; records = rs })) (sym is.makes) is.valid; fits = subst (λ (rs : List Record). sectors_of_snapshot_in f rs ≤ room) (sym is.makes) is.fits }, is.makes, once.0, read.1)

        -- it holds a change
        pub reach_taken : (c : Change) × IsTaken f apex room base octets c
        reach_taken = let first = first_step reached.steps reached.at reached.newest reached.read reached.due reached.reached in (first.0.change, first.2)

        -- after it the sector is still reached
        pub reach_on : (c : Change) (after : List Record) → ((e : Change) → IsTaken f apex room base octets e → c ≡ e) → applied c base ≡ after → IsReachedEntryIn f apex room after new d position
        reach_on c after only makes =
            let first = first_step reached.steps reached.at reached.newest reached.read reached.due reached.reached in
            let s = first.0 in
            let newest : s.after ≡ after = sym first.3 ∙ ap (λ (e : Change). applied e base) (sym (only s.change first.2)) ∙ makes in
            record {
              steps = first.1;
              at = reached.at;
              newest = reached.newest;
              read = subst (λ (k : Cursor). AreStepsIn f apex room d k after first.1 reached.at reached.newest) first.4 (subst (λ (rs : List Record). AreStepsIn f apex room d s.behind rs first.1 reached.at reached.newest) newest first.5);
              own = λ q low high. reached.own q (omega (arith, low, finds.position)) high;
              due = reached.due;
              reached = reached.reached;
            }
