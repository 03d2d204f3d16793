use Rattle.std.proofs.Common.{rules, arith, inl, inr, ⊎_elim, refl, ◌≡◌, ◌⊎◌, ◌<◌, ◌+◌, MatchOption, length, ℕ, List, [], ◌∷◌, ◌++◌, sym, ◌∙◌, ap, subst}
use Rattle.std.specs.Prelude.{Option, ⊤}
use Rattle.std.proofs.lemmas.Result.{err_from_is_err_and}
use Rattle.dns_zone.specs.Zone.{IsZone}
use Rattle.dns_changes.specs.Change.{Change, applied}
use Rattle.dns_layout.specs.Sector.{entry_sectors_in, sector_at}
use Rattle.dns_layout.specs.Own.{IsIntactIn, IsAltered}
use Rattle.dns_journal.specs.declared.read.Found.{Found}
use Rattle.dns_journal.specs.declared.read.Cursor.{Cursor}
use Rattle.dns_journal.specs.Reads.{IsJournalEnd, FindsEntry, IsRefusal, NamesSpoilt, IsThat, IsSectorReached as IsReachedAt}
use Rattle.dns_journal.proofs.Looking.{none_read, reads_then}
use Rattle.dns_journal.proofs.Altered.{altered_itself}
use Rattle.dns_store.specs.Reading.{IsReadBy}
use Rattle.dns_store.specs.Recovered.{IsNewestRecovered}
use Rattle.dns_store.specs.Damage.{ReadChange, IsStepAtIn}
use Rattle.dns_store.proofs.Damage.{named_within, one_more, refusal_named, fault_named}
use Rattle.dns_store.proofs.InMemory.{read_none, read_more}
use Rattle.dns_store.proofs.Recovering.{Goes, begins, next_is, all_recovered, not_refused}
use Rattle.dns_store.proofs.Reached.{reach_refused, reach_ended, reach_taken, reach_on}
use Rattle.dns_store.proofs.versions.read_versions.Goals as goal

pub entries-init : goal.entries-init
entries-init g c = record {
  reads = none_read c.args.device.now (λ honest left since. g.met.D.Sectors.only_now c.args.device.now left honest since);
  quiet = refl;
  until = refl;
  within = c.requires.at;
  rises = omega arith;
  memory = subst (λ (l : List Change). IsReadBy c.args.format c.args.cursor.now c.args.cursor.now c.args.base c.args.room c.args.base.records l) (sym c.new-changes.ensures.items) (read_none c.args.format c.args.cursor.now c.args.base c.args.room);
  valid = c.apex-valid.ensures.valid;
  apex = refl;
  len = c.snapshot_len-len.ensures;
  steps = λ honest. ([], (refl, refl));
  goes = λ honest k altered vs es reads are.
      subst (λ (l : List Change). Goes c.args.format c.args.cursor.now c.args.cursor.now k c.args.base.apex c.args.room c.args.base.records vs es c.args.base.records l) (sym c.new-changes.ensures.items)
      (begins c.args.format c.args.cursor.now k c.args.base.apex c.args.room c.args.base.records vs es reads are);
  reached = λ honest position reached not. reached;
}

pub returns-in_err-found-clause-reads_all : goal.returns-in_err-found-clause-reads_all
returns-in_err-found-clause-reads_all g c honest k altered vs es reads are =
    let f = c.args.format in
    let d = g.D.Sectors.seen c.args.device.now in
    let p = err_from_is_err_and c.from_residual.result c.from_residual.ensures.1 in
    let so = c.entries.invariant.goes honest k altered vs es reads are in
    let same = c.entries.invariant.reads.seen honest in
    let still = subst (λ e. IsAltered f k e) (sym same) altered in
    let refusal = subst (λ e. NamesSpoilt f e c.entries.cursor.at c.entries.cursor.until c.in_err-found.field-0.0 ⊎ IsRefusal f c.entries.cursor k c.in_err-found.field-0.0) same (c.in_err-found.ensures.damaged (c.entries.invariant.reads.honest.1 honest) k still) in
    rw p.1
    (⊎_elim (λ failed. inl failed) (λ rest. ⊎_elim (λ memory. inr (inl memory)) (λ spoilt. inr (inr (named_within f d c.args.cursor.now.at c.entries.cursor.at c.entries.cursor.until c.args.cursor.now.until p.0 c.entries.invariant.rises (omega (arith, c.entries.invariant.until)) spoilt))) rest)
    (not_refused f c.in_err-found.field-0.0 p.0 p.2 d c.entries.cursor.at c.entries.cursor.until c.entries.cursor k refusal so.left so.reads))

pub returns-in-Err-clause-reads_all : goal.returns-in-Err-clause-reads_all
returns-in-Err-clause-reads_all g c honest k altered vs es reads are =
    let f = c.args.format in
    let so = c.entries.invariant.goes honest k altered vs es reads are in
    let still = subst (λ e. IsAltered f k e) (sym (c.entries.invariant.reads.seen honest)) altered in
    let finds = subst (λ (r : Option Found). MatchOption r (IsJournalEnd f c.entries.cursor k) (λ e. FindsEntry f c.entries.cursor c.next_entry.new.cursor k e.octets.items × (e.head ≡ c.entries.cursor.at))) c.in-Some.is
    (c.in_ok-found.ensures.found (c.entries.invariant.reads.honest.1 honest) k still) in
    let next = next_is f c.args.cursor.now c.entries.cursor c.next_entry.new.cursor k c.args.base.apex c.args.room c.args.base.records vs es c.entries.zone.records c.entries.changes.items c.in-Some.found.octets.items finds.0 so in
    let valid = subst (λ a. IsZone (record { apex = a; records = next.after })) (sym c.entries.invariant.apex) next.valid in
    inr (inl (c.fault_at.ensures.memory (c.in-Err.ensures.only next.after next.change next.leads next.written (next.octets_are ∙ sym c.deref.ensures.value) valid next.fits)))

pub entries-preserved : goal.entries-preserved
entries-preserved g c = record {
  reads = reads_then _ _ _ c.entries.invariant.reads c.next_entry.ensures.reads;
  quiet = c.in_ok-found.ensures.quiet ∙ c.entries.invariant.quiet;
  until = c.next_entry.ensures.until ∙ c.entries.invariant.until;
  within = search (rules, arith);
  rises = search (rules, arith);
  memory =
      let f = c.args.format in
      let mine = c.in-Ok.ensures.found in
      let moves = subst (λ (r : Option Found). MatchOption r ⊤ (λ e. (c.next_entry.new.cursor.at ≡ c.entries.cursor.at + entry_sectors_in f (length e.octets.items)) × (c.next_entry.new.cursor.version ≡ c.entries.cursor.version + 1))) c.in-Some.is c.in_ok-found.ensures.moves in
      let pushed : c.push.new.self.items ≡ c.entries.changes.items ++ c.in-Ok.step.0 ∷ [] = search rules in
      let place = moves.0 ∙ ap (λ (xs : List ℕ). c.entries.cursor.at + entry_sectors_in f (length xs)) (sym (mine.1 ∙ c.deref.ensures.value)) in
      subst (λ (l : List Change). IsReadBy f c.args.cursor.now c.next_entry.new.cursor c.args.base c.args.room c.in-Ok.step.1.records l) (sym pushed)
      (read_more f c.args.cursor.now c.entries.cursor c.next_entry.new.cursor c.args.base c.args.room c.entries.zone.records c.in-Ok.step.1.records c.entries.changes.items c.in-Ok.step.0 c.entries.invariant.memory
      (subst (λ a. IsZone (record { apex = a; records = c.entries.zone.records })) c.entries.invariant.apex c.entries.invariant.valid) moves.1 place mine.0 mine.2 mine.3
      (subst (λ a. IsZone (record { apex = a; records = c.in-Ok.step.1.records })) (mine.4 ∙ c.entries.invariant.apex) mine.5) c.in-Ok.ensures.fits.1);
  valid = c.in-Ok.ensures.found.5;
  apex = c.in-Ok.ensures.found.4 ∙ c.entries.invariant.apex;
  len = c.in-Ok.ensures.fits.0;
  steps = λ honest.
      let f = c.args.format in
      let so = c.entries.invariant.steps honest in
      let d = g.D.Sectors.seen c.args.device.now in
      let still = subst (λ e. IsAltered f d e) (sym (c.entries.invariant.reads.seen honest)) (altered_itself f d) in
      let finds = subst (λ (r : Option Found). MatchOption r (IsJournalEnd f c.entries.cursor d) (λ e. FindsEntry f c.entries.cursor c.next_entry.new.cursor d e.octets.items × (e.head ≡ c.entries.cursor.at))) c.in-Some.is
      (c.in_ok-found.ensures.found (c.entries.invariant.reads.honest.1 honest) d still) in
      let mine = c.in-Ok.ensures.found in
      let step : ReadChange = record { change = c.in-Ok.step.0; after = c.in-Ok.step.1.records; behind = c.next_entry.new.cursor } in
      let is : IsStepAtIn f c.args.base.apex c.args.room d c.entries.cursor c.entries.zone.records step = record {
        found = subst (λ (xs : List ℕ). FindsEntry f c.entries.cursor c.next_entry.new.cursor d xs) (sym (mine.1 ∙ c.deref.ensures.value)) finds.0;
        written = mine.0;
        applies = mine.2;
        makes = mine.3;
        fits = c.in-Ok.ensures.fits.1;
        valid = subst (λ a. IsZone (record { apex = a; records = c.in-Ok.step.1.records })) (mine.4 ∙ c.entries.invariant.apex) mine.5;
      } in
      (so.0 ++ step ∷ [], one_more f c.args.base.apex c.args.room d c.args.cursor.now c.args.base.records so.0 c.entries.cursor c.entries.zone.records step so.1 is);
  goes = λ honest k altered vs es reads are.
      let f = c.args.format in
      let so = c.entries.invariant.goes honest k altered vs es reads are in
      let still = subst (λ e. IsAltered f k e) (sym (c.entries.invariant.reads.seen honest)) altered in
      let finds = subst (λ (r : Option Found). MatchOption r (IsJournalEnd f c.entries.cursor k) (λ e. FindsEntry f c.entries.cursor c.next_entry.new.cursor k e.octets.items × (e.head ≡ c.entries.cursor.at))) c.in-Some.is
      (c.in_ok-found.ensures.found (c.entries.invariant.reads.honest.1 honest) k still) in
      let next = next_is f c.args.cursor.now c.entries.cursor c.next_entry.new.cursor k c.args.base.apex c.args.room c.args.base.records vs es c.entries.zone.records c.entries.changes.items c.in-Some.found.octets.items finds.0 so in
      let valid = subst (λ a. IsZone (record { apex = a; records = next.after })) (sym c.entries.invariant.apex) next.valid in
      let is = c.in-Ok.ensures.only next.after next.change next.leads next.written (next.octets_are ∙ sym c.deref.ensures.value) valid next.fits in
      let pushed : c.push.new.self.items ≡ c.entries.changes.items ++ c.in-Ok.step.0 ∷ [] = search rules in
      subst (λ (l : List Change). Goes f c.args.cursor.now c.next_entry.new.cursor k c.args.base.apex c.args.room c.args.base.records vs es c.in-Ok.step.1.records l) (sym (pushed ∙ ap (λ (e : Change). c.entries.changes.items ++ e ∷ []) is.0))
      (subst (λ rs. Goes f c.args.cursor.now c.next_entry.new.cursor k c.args.base.apex c.args.room c.args.base.records vs es rs (c.entries.changes.items ++ next.change ∷ [])) (sym is.1) next.goes);
  reached = λ honest position reached not.
      let f = c.args.format in
      let d = g.D.Sectors.seen c.args.device.now in
      let same = c.entries.invariant.reads.seen honest in
      let honest' = c.entries.invariant.reads.honest.1 honest in
      let still = subst (λ e. IsAltered f d e) (sym same) (altered_itself f d) in
      let finds = subst (λ (r : Option Found). MatchOption r (IsJournalEnd f c.entries.cursor d) (λ e. FindsEntry f c.entries.cursor c.next_entry.new.cursor d e.octets.items × (e.head ≡ c.entries.cursor.at))) c.in-Some.is
      (c.in_ok-found.ensures.found honest' d still) in
      let direct : c.entries.cursor.at < c.entries.cursor.until → IsReachedAt f c.entries.cursor d position → ⊥ = λ lt there.
      c.in_ok-found.ensures.not_own honest' lt position (subst (λ e. IsReachedAt f c.entries.cursor e position) (sym same) there) (subst (λ e. IsIntactIn f position (sector_at e position) → ⊥) (sym same) not) in
      reach_on f c.args.base.apex c.args.room d c.entries.zone.records c.entries.cursor position direct (c.entries.invariant.reached honest position reached not) c.next_entry.new.cursor c.in-Some.found.octets.items finds.0 c.in-Ok.step.0 c.in-Ok.step.1.records
      (λ e taken. c.in-Ok.ensures.taken e taken.written (taken.octets_are ∙ sym c.deref.ensures.value) taken.applies (subst (λ a. IsZone (record { apex = a; records = applied e c.entries.zone.records })) (sym c.entries.invariant.apex) taken.valid) taken.fits)
      c.in-Ok.ensures.found.3;
}

pub returns-clause-memory : goal.returns-clause-memory
returns-clause-memory g c =
    let same : c.next_entry.new.cursor ≡ c.entries.cursor = search rules in
    subst (λ (n : Cursor). IsReadBy c.args.format c.args.cursor.now n c.args.base c.args.room c.entries.zone.records c.entries.changes.items) (sym same) c.entries.invariant.memory

pub returns-clause-reads_all : goal.returns-clause-reads_all
returns-clause-reads_all g c honest k altered vs es reads are =
    let f = c.args.format in
    let so = c.entries.invariant.goes honest k altered vs es reads are in
    let still = subst (λ e. IsAltered f k e) (sym (c.entries.invariant.reads.seen honest)) altered in
    let ends = subst (λ (r : Option Found). MatchOption r (IsJournalEnd f c.entries.cursor k) (λ e. FindsEntry f c.entries.cursor c.next_entry.new.cursor k e.octets.items × (e.head ≡ c.entries.cursor.at))) c.in_default.is
    (c.in_ok-found.ensures.found (c.entries.invariant.reads.honest.1 honest) k still) in
    let same : c.next_entry.new.cursor ≡ c.entries.cursor = search rules in
    subst (λ (n : Cursor). IsNewestRecovered c.args.cursor.now n c.args.base.records vs es c.entries.zone.records c.entries.changes.items) (sym same)
    (all_recovered f c.args.cursor.now c.entries.cursor k c.args.base.apex c.args.room c.args.base.records vs es c.entries.zone.records c.entries.changes.items ends so)

pub returns-in_err-found-clause-damaged : goal.returns-in_err-found-clause-damaged
returns-in_err-found-clause-damaged g c honest =
    let f = c.args.format in
    let d = g.D.Sectors.seen c.args.device.now in
    let p = err_from_is_err_and c.from_residual.result c.from_residual.ensures.1 in
    let so = c.entries.invariant.steps honest in
    let same = c.entries.invariant.reads.seen honest in
    let still = subst (λ e. IsAltered f d e) (sym same) (altered_itself f d) in
    let refusal = subst (λ e. NamesSpoilt f e c.entries.cursor.at c.entries.cursor.until c.in_err-found.field-0.0 ⊎ IsRefusal f c.entries.cursor d c.in_err-found.field-0.0) same (c.in_err-found.ensures.damaged (c.entries.invariant.reads.honest.1 honest) d still) in
    rw p.1
    (refusal_named f c.args.base.apex c.args.room c.args.base.records c.args.cursor.now d so.0 c.entries.cursor c.entries.zone.records so.1 c.args.cursor.now.at c.args.cursor.now.until c.entries.invariant.rises (omega (arith, c.entries.invariant.until))
    c.in_err-found.field-0.0 p.0 p.2 refusal)

pub returns-in-Err-clause-damaged : goal.returns-in-Err-clause-damaged
returns-in-Err-clause-damaged g c honest =
    let f = c.args.format in
    let so = c.entries.invariant.steps honest in
    let d = g.D.Sectors.seen c.args.device.now in
    let still = subst (λ e. IsAltered f d e) (sym (c.entries.invariant.reads.seen honest)) (altered_itself f d) in
    let finds = subst (λ (r : Option Found). MatchOption r (IsJournalEnd f c.entries.cursor d) (λ e. FindsEntry f c.entries.cursor c.next_entry.new.cursor d e.octets.items × (e.head ≡ c.entries.cursor.at))) c.in-Some.is
    (c.in_ok-found.ensures.found (c.entries.invariant.reads.honest.1 honest) d still) in
    inr
    (fault_named f c.args.base.apex c.args.room c.args.base.records c.args.cursor.now d so.0 c.entries.cursor c.next_entry.new.cursor c.entries.zone.records c.in-Some.found.octets.items c.in-Some.found.head so.1 finds.0 finds.1 c.fault_at.result
    (λ after change leads written is zone fits.
    let valid = subst (λ a. IsZone (record { apex = a; records = after })) (sym c.entries.invariant.apex) zone in
    c.fault_at.ensures.memory (c.in-Err.ensures.only after change leads written (is ∙ sym c.deref.ensures.value) valid fits))
    c.fault_at.ensures.other)

pub returns-in_err-found-clause-not_own : goal.returns-in_err-found-clause-not_own
returns-in_err-found-clause-not_own g c honest position reached not =
    let f = c.args.format in
    let d = g.D.Sectors.seen c.args.device.now in
    let p = err_from_is_err_and c.from_residual.result c.from_residual.ensures.1 in
    let same = c.entries.invariant.reads.seen honest in
    let honest' = c.entries.invariant.reads.honest.1 honest in
    let e = c.in_err-found.field-0.0 in
    let direct : c.entries.cursor.at < c.entries.cursor.until → IsReachedAt f c.entries.cursor d position → IsThat position e = λ lt there.
    c.in_err-found.ensures.not_own honest' lt position (subst (λ e. IsReachedAt f c.entries.cursor e position) (sym same) there) (subst (λ e. IsIntactIn f position (sector_at e position) → ⊥) (sym same) not) in
    rw p.1
    (reach_refused f c.args.base.apex c.args.room d c.entries.zone.records c.entries.cursor position (c.entries.invariant.reached honest position reached not) e p.0 p.2 direct
    (λ new octets finds. subst (λ k. NamesSpoilt f k c.entries.cursor.at new.at e) same (c.in_err-found.ensures.near honest' new octets (subst (λ k. FindsEntry f c.entries.cursor new k octets) (sym same) finds))))

pub returns-in-Err-clause-not_own : goal.returns-in-Err-clause-not_own
returns-in-Err-clause-not_own g c honest position reached not =
    let f = c.args.format in
    let d = g.D.Sectors.seen c.args.device.now in
    let same = c.entries.invariant.reads.seen honest in
    let honest' = c.entries.invariant.reads.honest.1 honest in
    let still = subst (λ e. IsAltered f d e) (sym same) (altered_itself f d) in
    let finds = subst (λ (r : Option Found). MatchOption r (IsJournalEnd f c.entries.cursor d) (λ e. FindsEntry f c.entries.cursor c.next_entry.new.cursor d e.octets.items × (e.head ≡ c.entries.cursor.at))) c.in-Some.is
    (c.in_ok-found.ensures.found honest' d still) in
    let direct : c.entries.cursor.at < c.entries.cursor.until → IsReachedAt f c.entries.cursor d position → ⊥ = λ lt there.
    c.in_ok-found.ensures.not_own honest' lt position (subst (λ e. IsReachedAt f c.entries.cursor e position) (sym same) there) (subst (λ e. IsIntactIn f position (sector_at e position) → ⊥) (sym same) not) in
    let taken = reach_taken f c.args.base.apex c.args.room d c.entries.zone.records c.entries.cursor position direct (c.entries.invariant.reached honest position reached not) c.next_entry.new.cursor c.in-Some.found.octets.items finds.0 in
    let is = taken.1 in
    inr (inl (c.fault_at.ensures.memory (c.in-Err.ensures.taken taken.0 is.written (is.octets_are ∙ sym c.deref.ensures.value) is.applies (subst (λ a. IsZone (record { apex = a; records = applied taken.0 c.entries.zone.records })) (sym c.entries.invariant.apex) is.valid) is.fits)))

pub returns-clause-not_own : goal.returns-clause-not_own
returns-clause-not_own g c honest position reached not =
    let f = c.args.format in
    let d = g.D.Sectors.seen c.args.device.now in
    let same = c.entries.invariant.reads.seen honest in
    let honest' = c.entries.invariant.reads.honest.1 honest in
    let still = subst (λ e. IsAltered f d e) (sym same) (altered_itself f d) in
    let ends = subst (λ (r : Option Found). MatchOption r (IsJournalEnd f c.entries.cursor d) (λ e. FindsEntry f c.entries.cursor c.next_entry.new.cursor d e.octets.items × (e.head ≡ c.entries.cursor.at))) c.in_default.is
    (c.in_ok-found.ensures.found honest' d still) in
    let direct : c.entries.cursor.at < c.entries.cursor.until → IsReachedAt f c.entries.cursor d position → ⊥ = λ lt there.
    c.in_ok-found.ensures.not_own honest' lt position (subst (λ e. IsReachedAt f c.entries.cursor e position) (sym same) there) (subst (λ e. IsIntactIn f position (sector_at e position) → ⊥) (sym same) not) in
    reach_ended f c.args.base.apex c.args.room d c.entries.zone.records c.entries.cursor position direct (c.entries.invariant.reached honest position reached not) ends
