use Rattle.std.proofs.Common.{◌≡◌, ◌-◌, ◌≤◌, ◌++◌, Bool, true, false, ℕ, List, Err, length, take, drop, refl, sym, ◌∙◌, ap, subst, arith, rules}
use Rattle.std.proofs.lemmas.Result.{err_from_is_err_and}
use Rattle.std.proofs.lemmas.List.{take_rest}
use Rattle.std.specs.Prelude.{sum_by}
use Rattle.dns_changes.specs.Change.{Change}
use Rattle.dns_sectors.specs.Device.{LeavesOnly}
use Rattle.dns_journal.specs.Bank.{sectors_for, journal_room_of}
use Rattle.dns_journal.specs.State.{is_closed, device_of}
use Rattle.dns_journal.specs.declared.turn.TurnError.{TurnError}
use Rattle.dns_store.specs.Versions.{newest_after, OpensAsEither, moved_to, closed_between}
use Rattle.dns_store.specs.Opens.{opens}
use Rattle.dns_store.specs.Holding.{HoldsVersions}
use Rattle.dns_store.specs.Recovered.{AreLed}
use Rattle.dns_store.specs.Plain.{sectors_of_snapshot}
use Rattle.dns_store.specs.Checkpoint.{IsBaseOf, change_error, checkpoint_error}
use Rattle.dns_store.specs.declared.checkpoint.CheckpointError.{CheckpointError}
use Rattle.dns_store.proofs.Holding.{memory_between}
use Rattle.dns_store.proofs.Lent.{rest_either, kept_is, gone_led, gone_zones, gone_fits, is_base, memory_moved, held_led, held_zones, held_fits}
use Rattle.dns_store.proofs.kept_store.KeptStore.move_base.Goals as goal

device_only : (e : TurnError) → checkpoint_error e ≡ CheckpointError.Device → e ≡ TurnError.Device
device_only TurnError.Device is = refl
device_only TurnError.Closed is = absurd cc
device_only TurnError.OutOfMemory is = absurd cc

pub returns-in_err-base-clause-any_moment : goal.returns-in_err-base-clause-any_moment
returns-in_err-base-clause-any_moment g c k n held honest none is =
    rest_either (λ d x honest now. g.met.D.Sectors.only_now d x honest now) c.args.self.now.journal c.args.self.now.journal k (length k.shown - n) refl (held.keeps honest)

pub returns-in_err-turn_bank-clause-any_moment : goal.returns-in_err-turn_bank-clause-any_moment
returns-in_err-turn_bank-clause-any_moment g c k n held honest none is =
    let journal = c.args.self.now.journal in
    let base = c.args.self.now.base in
    let items = c.args.self.now.changes.items in
    let m = c.kept_number-kept.result in
    let opened : is_closed c.args.self.now.journal ≡ false = search rules in
    let le : c.kept_number-kept.result ≤ length c.args.self.now.changes.items = c.kept_number-kept.ensures.there in
    let gone : c.len.result - c.kept_number-kept.result ≡ length c.args.self.now.changes.items - c.kept_number-kept.result = omega (arith, c.len.ensures, c.args.self.now.changes.ok) in
    let front : take (c.len.result - c.kept_number-kept.result) c.deref.result.now ≡ take (length c.args.self.now.changes.items - c.kept_number-kept.result) c.args.self.now.changes.items =
    ap (λ i. take i c.deref.result.now) gone ∙ ap (λ (l : List Change). take (length c.args.self.now.changes.items - c.kept_number-kept.result) l) c.deref.ensures.value in
    let vs = take (length c.args.self.now.changes.items - c.kept_number-kept.result) (drop k.base k.shown) in
    let led = subst (λ (l : List Change). AreLed c.args.self.now.base.records vs l) (sym front) (gone_led journal base items k held.memory none m le) in
    let zones = gone_zones journal base items k held.memory none m le in
    let found = c.in_ok-base.ensures.found vs led zones (subst (λ r. sectors_of_snapshot (newest_after c.args.self.now.base.records vs) ≤ r) (sym (c.snapshot_room-rooms.ensures ∙ held.memory.snapshot_room_is)) (gone_fits journal base items k held.memory none m le)) in
    let base_of = is_base journal base items k held.memory none m le c.in_ok-base.base c.in_ok-base.octets.items found in
    let behind : take (length c.deref-3.result.now - (c.len.result - c.kept_number-kept.result)) (drop (c.len.result - c.kept_number-kept.result) c.deref-3.result.now) ≡ drop (length c.args.self.now.changes.items - c.kept_number-kept.result) c.args.self.now.changes.items =
    take_rest c.deref-3.result.now (c.len.result - c.kept_number-kept.result) ∙ ap (λ (l : List Change). drop (c.len.result - c.kept_number-kept.result) l) c.deref-3.ensures.value ∙ ap (λ i. drop i c.args.self.now.changes.items) gone in
    let base_here : IsBaseOf k (length k.shown - c.kept_number-kept.result) c.deref-2.result.now (take (length c.deref-3.result.now - (c.len.result - c.kept_number-kept.result)) (drop (c.len.result - c.kept_number-kept.result) c.deref-3.result.now)) =
    subst (λ (l : List Change). IsBaseOf k (length k.shown - c.kept_number-kept.result) c.deref-2.result.now l) (sym behind)
    (subst (λ (o : List ℕ). IsBaseOf k (length k.shown - c.kept_number-kept.result) o (drop (length c.args.self.now.changes.items - c.kept_number-kept.result) c.args.self.now.changes.items)) (sym c.deref-2.ensures.value) base_of) in
    let same = kept_is journal base items k held.memory none c.args.keep c.args.room m n c.kept_number-kept.ensures is in
    subst (λ j. LeavesOnly g.D.Sectors.moment g.D.Sectors.left_since (device_of c.args.self.now.journal) (device_of c.turn_bank.new.journal) (OpensAsEither opens k (length k.shown - j))) same
    (c.turn_bank.ensures.any_moment k (length k.shown - m) (held.keeps honest) none base_here)

pub returns-in_err-turn_bank-clause-failed : goal.returns-in_err-turn_bank-clause-failed
returns-in_err-turn_bank-clause-failed g c k n held none is failed =
    let journal = c.args.self.now.journal in
    let base = c.args.self.now.base in
    let items = c.args.self.now.changes.items in
    let m = c.kept_number-kept.result in
    let opened : is_closed c.args.self.now.journal ≡ false = search rules in
    let le : c.kept_number-kept.result ≤ length c.args.self.now.changes.items = c.kept_number-kept.ensures.there in
    let gone : c.len.result - c.kept_number-kept.result ≡ length c.args.self.now.changes.items - c.kept_number-kept.result = omega (arith, c.len.ensures, c.args.self.now.changes.ok) in
    let front : take (c.len.result - c.kept_number-kept.result) c.deref.result.now ≡ take (length c.args.self.now.changes.items - c.kept_number-kept.result) c.args.self.now.changes.items =
    ap (λ i. take i c.deref.result.now) gone ∙ ap (λ (l : List Change). take (length c.args.self.now.changes.items - c.kept_number-kept.result) l) c.deref.ensures.value in
    let vs = take (length c.args.self.now.changes.items - c.kept_number-kept.result) (drop k.base k.shown) in
    let led = subst (λ (l : List Change). AreLed c.args.self.now.base.records vs l) (sym front) (gone_led journal base items k held.memory none m le) in
    let zones = gone_zones journal base items k held.memory none m le in
    let found = c.in_ok-base.ensures.found vs led zones (subst (λ r. sectors_of_snapshot (newest_after c.args.self.now.base.records vs) ≤ r) (sym (c.snapshot_room-rooms.ensures ∙ held.memory.snapshot_room_is)) (gone_fits journal base items k held.memory none m le)) in
    let base_of = is_base journal base items k held.memory none m le c.in_ok-base.base c.in_ok-base.octets.items found in
    let behind : take (length c.deref-3.result.now - (c.len.result - c.kept_number-kept.result)) (drop (c.len.result - c.kept_number-kept.result) c.deref-3.result.now) ≡ drop (length c.args.self.now.changes.items - c.kept_number-kept.result) c.args.self.now.changes.items =
    take_rest c.deref-3.result.now (c.len.result - c.kept_number-kept.result) ∙ ap (λ (l : List Change). drop (c.len.result - c.kept_number-kept.result) l) c.deref-3.ensures.value ∙ ap (λ i. drop i c.args.self.now.changes.items) gone in
    let base_here : IsBaseOf k (length k.shown - c.kept_number-kept.result) c.deref-2.result.now (take (length c.deref-3.result.now - (c.len.result - c.kept_number-kept.result)) (drop (c.len.result - c.kept_number-kept.result) c.deref-3.result.now)) =
    subst (λ (l : List Change). IsBaseOf k (length k.shown - c.kept_number-kept.result) c.deref-2.result.now l) (sym behind)
    (subst (λ (o : List ℕ). IsBaseOf k (length k.shown - c.kept_number-kept.result) o (drop (length c.args.self.now.changes.items - c.kept_number-kept.result) c.args.self.now.changes.items)) (sym c.deref-2.ensures.value) base_of) in
    let same = kept_is journal base items k held.memory none c.args.keep c.args.room m n c.kept_number-kept.ensures is in
    let p = err_from_is_err_and c.from_residual-in_err-turn_bank.result c.from_residual-in_err-turn_bank.ensures.1 in
    let other : Err p.0 ≡ Err CheckpointError.Device = sym p.1 ∙ failed in
    let one = p.2 in
    let device : checkpoint_error c.in_err-turn_bank.field-0.0 ≡ CheckpointError.Device = cc in
    let shut = c.in_err-turn_bank.ensures.closes (ap (λ (e : TurnError). Err e) (device_only c.in_err-turn_bank.field-0.0 device)) in
    let memory = memory_between journal c.turn_bank.new.journal base items k held.memory (length k.shown - m) shut c.turn_bank.ensures.newest c.in_err-turn_bank.ensures.left c.turn_bank.ensures.rooms in (
      sym held.memory.closed_is ∙ opened,
      subst (λ j. HoldsVersions c.turn_bank.new.journal c.args.self.now.base c.args.self.now.changes.items (closed_between (length k.shown - j) k)) same
          (record {
            memory = memory;
            keeps = λ after. (c.in_err-turn_bank.ensures.failed k (length k.shown - m) (held.keeps (c.turn_bank.ensures.honest.0 after)) none base_here
                (ap (λ (e : TurnError). Err e) (device_only c.in_err-turn_bank.field-0.0 device))).1;
          }),
    )

pub returns-clause-any_moment : goal.returns-clause-any_moment
returns-clause-any_moment g c k n held honest none is =
    let journal = c.args.self.now.journal in
    let base = c.args.self.now.base in
    let items = c.args.self.now.changes.items in
    let m = c.kept_number-kept.result in
    let opened : is_closed c.args.self.now.journal ≡ false = search rules in
    let le : c.kept_number-kept.result ≤ length c.args.self.now.changes.items = c.kept_number-kept.ensures.there in
    let gone : c.len.result - c.kept_number-kept.result ≡ length c.args.self.now.changes.items - c.kept_number-kept.result = omega (arith, c.len.ensures, c.args.self.now.changes.ok) in
    let front : take (c.len.result - c.kept_number-kept.result) c.deref.result.now ≡ take (length c.args.self.now.changes.items - c.kept_number-kept.result) c.args.self.now.changes.items =
    ap (λ i. take i c.deref.result.now) gone ∙ ap (λ (l : List Change). take (length c.args.self.now.changes.items - c.kept_number-kept.result) l) c.deref.ensures.value in
    let vs = take (length c.args.self.now.changes.items - c.kept_number-kept.result) (drop k.base k.shown) in
    let led = subst (λ (l : List Change). AreLed c.args.self.now.base.records vs l) (sym front) (gone_led journal base items k held.memory none m le) in
    let zones = gone_zones journal base items k held.memory none m le in
    let found = c.in_ok-base.ensures.found vs led zones (subst (λ r. sectors_of_snapshot (newest_after c.args.self.now.base.records vs) ≤ r) (sym (c.snapshot_room-rooms.ensures ∙ held.memory.snapshot_room_is)) (gone_fits journal base items k held.memory none m le)) in
    let base_of = is_base journal base items k held.memory none m le c.in_ok-base.base c.in_ok-base.octets.items found in
    let behind : take (length c.deref-3.result.now - (c.len.result - c.kept_number-kept.result)) (drop (c.len.result - c.kept_number-kept.result) c.deref-3.result.now) ≡ drop (length c.args.self.now.changes.items - c.kept_number-kept.result) c.args.self.now.changes.items =
    take_rest c.deref-3.result.now (c.len.result - c.kept_number-kept.result) ∙ ap (λ (l : List Change). drop (c.len.result - c.kept_number-kept.result) l) c.deref-3.ensures.value ∙ ap (λ i. drop i c.args.self.now.changes.items) gone in
    let base_here : IsBaseOf k (length k.shown - c.kept_number-kept.result) c.deref-2.result.now (take (length c.deref-3.result.now - (c.len.result - c.kept_number-kept.result)) (drop (c.len.result - c.kept_number-kept.result) c.deref-3.result.now)) =
    subst (λ (l : List Change). IsBaseOf k (length k.shown - c.kept_number-kept.result) c.deref-2.result.now l) (sym behind)
    (subst (λ (o : List ℕ). IsBaseOf k (length k.shown - c.kept_number-kept.result) o (drop (length c.args.self.now.changes.items - c.kept_number-kept.result) c.args.self.now.changes.items)) (sym c.deref-2.ensures.value) base_of) in
    let same = kept_is journal base items k held.memory none c.args.keep c.args.room m n c.kept_number-kept.ensures is in
    subst (λ j. LeavesOnly g.D.Sectors.moment g.D.Sectors.left_since (device_of c.args.self.now.journal) (device_of c.turn_bank.new.journal) (OpensAsEither opens k (length k.shown - j))) same
    (c.turn_bank.ensures.any_moment k (length k.shown - m) (held.keeps honest) none base_here)

pub returns-clause-moved : goal.returns-clause-moved
returns-clause-moved g c k n held none is =
    let journal = c.args.self.now.journal in
    let base = c.args.self.now.base in
    let items = c.args.self.now.changes.items in
    let m = c.kept_number-kept.result in
    let opened : is_closed c.args.self.now.journal ≡ false = search rules in
    let le : c.kept_number-kept.result ≤ length c.args.self.now.changes.items = c.kept_number-kept.ensures.there in
    let gone : c.len.result - c.kept_number-kept.result ≡ length c.args.self.now.changes.items - c.kept_number-kept.result = omega (arith, c.len.ensures, c.args.self.now.changes.ok) in
    let front : take (c.len.result - c.kept_number-kept.result) c.deref.result.now ≡ take (length c.args.self.now.changes.items - c.kept_number-kept.result) c.args.self.now.changes.items =
    ap (λ i. take i c.deref.result.now) gone ∙ ap (λ (l : List Change). take (length c.args.self.now.changes.items - c.kept_number-kept.result) l) c.deref.ensures.value in
    let vs = take (length c.args.self.now.changes.items - c.kept_number-kept.result) (drop k.base k.shown) in
    let led = subst (λ (l : List Change). AreLed c.args.self.now.base.records vs l) (sym front) (gone_led journal base items k held.memory none m le) in
    let zones = gone_zones journal base items k held.memory none m le in
    let found = c.in_ok-base.ensures.found vs led zones (subst (λ r. sectors_of_snapshot (newest_after c.args.self.now.base.records vs) ≤ r) (sym (c.snapshot_room-rooms.ensures ∙ held.memory.snapshot_room_is)) (gone_fits journal base items k held.memory none m le)) in
    let base_of = is_base journal base items k held.memory none m le c.in_ok-base.base c.in_ok-base.octets.items found in
    let behind : take (length c.deref-3.result.now - (c.len.result - c.kept_number-kept.result)) (drop (c.len.result - c.kept_number-kept.result) c.deref-3.result.now) ≡ drop (length c.args.self.now.changes.items - c.kept_number-kept.result) c.args.self.now.changes.items =
    take_rest c.deref-3.result.now (c.len.result - c.kept_number-kept.result) ∙ ap (λ (l : List Change). drop (c.len.result - c.kept_number-kept.result) l) c.deref-3.ensures.value ∙ ap (λ i. drop i c.args.self.now.changes.items) gone in
    let base_here : IsBaseOf k (length k.shown - c.kept_number-kept.result) c.deref-2.result.now (take (length c.deref-3.result.now - (c.len.result - c.kept_number-kept.result)) (drop (c.len.result - c.kept_number-kept.result) c.deref-3.result.now)) =
    subst (λ (l : List Change). IsBaseOf k (length k.shown - c.kept_number-kept.result) c.deref-2.result.now l) (sym behind)
    (subst (λ (o : List ℕ). IsBaseOf k (length k.shown - c.kept_number-kept.result) o (drop (length c.args.self.now.changes.items - c.kept_number-kept.result) c.args.self.now.changes.items)) (sym c.deref-2.ensures.value) base_of) in
    let same = kept_is journal base items k held.memory none c.args.keep c.args.room m n c.kept_number-kept.ensures is in
    let free = c.in_ok-turn_bank.ensures.free ∙ ap (λ (l : List Change). journal_room_of c.args.self.now.journal - sum_by sectors_for l) behind in
    let memory = memory_moved journal base items k held.memory none m le c.turn_bank.new.journal c.in_ok-base.base c.in_ok-base.octets.items found opened c.in_ok-turn_bank.ensures.open c.turn_bank.ensures.newest free c.turn_bank.ensures.rooms c.in_ok-turn_bank.ensures.idle in
    let newest : c.keep_newest.new.changes.items ≡ drop (length c.args.self.now.changes.items - c.kept_number-kept.result) c.args.self.now.changes.items = c.keep_newest.ensures ∙ ap (λ i. drop i c.args.self.now.changes.items) gone in
    subst (λ j. HoldsVersions c.turn_bank.new.journal c.in_ok-base.base c.keep_newest.new.changes.items (moved_to (length k.shown - j) k)) same
    (subst (λ (l : List Change). HoldsVersions c.turn_bank.new.journal c.in_ok-base.base l (moved_to (length k.shown - m) k)) (sym newest)
    (record { memory = memory; keeps = λ after. c.in_ok-turn_bank.ensures.moved k (length k.shown - m) (held.keeps (c.turn_bank.ensures.honest.0 after)) none base_here }))

pub returns-then-is_closed-clause-any_moment : goal.returns-then-is_closed-clause-any_moment
returns-then-is_closed-clause-any_moment g c k n held honest none is =
    rest_either (λ d x honest now. g.met.D.Sectors.only_now d x honest now) c.args.self.now.journal c.args.self.now.journal k (length k.shown - n) refl (held.keeps honest)

pub returns-then-is_closed-clause-closed : goal.returns-then-is_closed-clause-closed
returns-then-is_closed-clause-closed g c k held = (λ _. sym held.memory.closed_is ∙ sym c.is_closed.ensures ∙ c.if-is_closed.true, λ _. refl)

not_shut : {A : Type 0} (a b : Bool) → a ≡ b → a ≡ false → b ≡ true → A
not_shut a b same off on = let both : false ≡ true = sym off ∙ same ∙ on in absurd cc

pub returns-in_err-base-clause-closed : goal.returns-in_err-base-clause-closed
returns-in_err-base-clause-closed g c k held =
    let journal = c.args.self.now.journal in
    let base = c.args.self.now.base in
    let items = c.args.self.now.changes.items in
    let opened : is_closed c.args.self.now.journal ≡ false = search rules in
    let n = c.len.result - c.kept_number-kept.result in
    let vs = take n (drop k.base (k.shown ++ k.staged)) in
    let led = subst (λ (l : List Change). AreLed c.args.self.now.base.records vs (take n l)) (sym c.deref.ensures.value) (held_led journal base items k held.memory n) in
    let zones = held_zones journal base items k held.memory n in
    let fits = subst (λ r. sectors_of_snapshot (newest_after c.args.self.now.base.records vs) ≤ r) (sym (c.snapshot_room-rooms.ensures ∙ held.memory.snapshot_room_is)) (held_fits journal base items k held.memory n) in
    let p = err_from_is_err_and c.from_residual.result c.from_residual.ensures.1 in
    let memory = p.2 ∙ ap change_error (c.in_err-base.ensures.found vs led zones fits) in (
      λ shut. absurd (let other : Err p.0 ≡ Err CheckpointError.Closed = sym p.1 ∙ shut in cc),
      λ shut. not_shut (is_closed journal) k.closed held.memory.closed_is opened shut,
    )
