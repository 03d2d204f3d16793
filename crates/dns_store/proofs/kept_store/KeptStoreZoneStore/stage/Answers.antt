use Rattle.std.proofs.Common.{rules, arith, ◌≡◌, true, false, sym, ◌∙◌, ap, subst, refl, inl, inr, ⊎_elim, Err, length, ◌++◌, ◌∷◌, [], ℕ, List}
use Rattle.std.proofs.lemmas.Result.{err_from_is_err_and}
use Rattle.dns_changes.specs.Change.{Change}
use Rattle.dns_changes.specs.Entry.{entry}
use Rattle.dns_layout.specs.Sector.{entry_sectors}
use Rattle.dns_journal.specs.State.{is_closed}
use Rattle.dns_journal.specs.declared.journal.StageError.{StageError}
use Rattle.dns_store.specs.Versions.{staged_with}
use Rattle.dns_store.specs.Holding.{HoldsVersions}
use Rattle.dns_store.proofs.Kept.{stage_keeps, stage_stays}
use Rattle.dns_store.proofs.Holding.{honest_by, memory_staged, memory_still}
use Rattle.dns_store.proofs.kept_store.KeptStoreZoneStore.stage.Goals as goal

pub returns-in-Ok-clause-staged : goal.returns-in-Ok-clause-staged
returns-in-Ok-clause-staged g c k after kept next =
    let not : is_closed c.args.self.now.journal ≡ true → ⊥ = search (rules, c.in-Ok.ensures.closed) in
    let more : c.push_reserved.new.self.items ≡ c.args.self.now.changes.items ++ c.args.change ∷ [] = search rules in
    let honest_before = honest_by g.D.Sectors c.stage.new.self.device c.args.self.now.journal.device c.stage.ensures.device in
    subst (λ (l : List Change). HoldsVersions c.stage.new.self c.args.self.now.base l (staged_with after k)) (sym more)
    (record {
      memory = memory_staged c.args.self.now.journal c.stage.new.self c.args.self.now.base c.args.self.now.changes.items k kept.memory after c.args.change next c.stage.ensures.stays_open c.in-Ok.ensures.raised c.in-Ok.ensures.fits c.stage.ensures.rooms;
      keeps = λ honest. stage_keeps c.args.self.now.journal c.stage.new.self k after c.args.change next c.in-Ok.ensures.written c.in-Ok.ensures.staged c.stage.ensures.opened not k.closed (kept.keeps (honest_before.0 honest));
    })

pub returns-in-Err-clause-stays : goal.returns-in-Err-clause-stays
returns-in-Err-clause-stays g c k kept =
    let honest_before = honest_by g.D.Sectors c.stage.new.self.device c.args.self.now.journal.device c.stage.ensures.device in
    subst (λ (l : List Change). HoldsVersions c.stage.new.self c.args.self.now.base l k) (sym c.reserve.ensures.items)
    (record {
      memory = memory_still c.args.self.now.journal c.stage.new.self c.args.self.now.base c.args.self.now.changes.items k kept.memory c.stage.ensures.stays_open c.in-Err.ensures.newest c.in-Err.ensures.left c.stage.ensures.rooms
          (λ working none. c.in-Err.ensures.idle (kept.memory.idle working none));
      keeps = λ honest. stage_stays c.args.self.now.journal c.stage.new.self k c.in-Err.ensures.stays c.stage.ensures.device c.stage.ensures.opened c.stage.ensures.stays_open c.in-Err.ensures.left c.in-Err.ensures.newest k.closed (kept.keeps (honest_before.0 honest));
    })

pub returns-in-Ok-clause-honest : goal.returns-in-Ok-clause-honest
returns-in-Ok-clause-honest g c = honest_by g.D.Sectors c.stage.new.self.device c.args.self.now.journal.device c.stage.ensures.device

pub returns-in-Err-clause-honest : goal.returns-in-Err-clause-honest
returns-in-Err-clause-honest g c = honest_by g.D.Sectors c.stage.new.self.device c.args.self.now.journal.device c.stage.ensures.device

pub returns-then-is_closed-clause-full : goal.returns-then-is_closed-clause-full
returns-then-is_closed-clause-full g c k kept = (λ is. absurd cc, λ both. (let shut = kept.memory.closed_is in let is = c.is_closed.ensures in let so = c.if-is_closed.true in absurd cc))

pub returns-then-is_closed-clause-closed : goal.returns-then-is_closed-clause-closed
returns-then-is_closed-clause-closed g c k kept = (λ _. sym kept.memory.closed_is ∙ sym c.is_closed.ensures ∙ c.if-is_closed.true, λ _. refl)

pub returns-then-newest-eq18446744073709551615-clause-full : goal.returns-then-newest-eq18446744073709551615-clause-full
returns-then-newest-eq18446744073709551615-clause-full g c k kept =
    let working : k.closed ≡ false = sym kept.memory.closed_is ∙ sym c.is_closed.ensures ∙ c.if-is_closed.false in
    (λ _. (working, inl (omega (arith, kept.memory.number_is, c.newest.ensures, c.if-newest-eq18446744073709551615.true))), λ _. refl)

pub returns-then-newest-eq18446744073709551615-clause-closed : goal.returns-then-newest-eq18446744073709551615-clause-closed
returns-then-newest-eq18446744073709551615-clause-closed g c k kept =
    let working : k.closed ≡ false = sym kept.memory.closed_is ∙ sym c.is_closed.ensures ∙ c.if-is_closed.false in
    (λ is. absurd cc, λ shut. absurd cc)

pub returns-in-Ok-clause-full : goal.returns-in-Ok-clause-full
returns-in-Ok-clause-full g c k kept = (
  λ is. absurd cc,
  λ both. ⊎_elim (λ last. absurd (omega (arith, last, kept.memory.number_is, c.newest.ensures, c.if-newest-eq18446744073709551615.false)))
      (λ less. absurd (omega (arith, less, c.in-Ok.ensures.fits, kept.memory.left_is))) both.1,
)

pub returns-in-Ok-clause-closed : goal.returns-in-Ok-clause-closed
returns-in-Ok-clause-closed g c k kept =
    let working : k.closed ≡ false = sym kept.memory.closed_is ∙ sym c.is_closed.ensures ∙ c.if-is_closed.false in
    (λ is. absurd cc, λ shut. absurd cc)

pub returns-in-Err-clause-full : goal.returns-in-Err-clause-full
returns-in-Err-clause-full g c k kept =
    let working : k.closed ≡ false = sym kept.memory.closed_is ∙ sym c.is_closed.ensures ∙ c.if-is_closed.false in
    let same = kept.memory.left_is in (
      λ is. (working, inr (let less = (c.in-Err.ensures.full.0 is).1 in omega (arith, less, same))),
      λ both. c.in-Err.ensures.full.1 (
        kept.memory.closed_is ∙ working,
        ⊎_elim (λ last. absurd (omega (arith, last, kept.memory.number_is, c.newest.ensures, c.if-newest-eq18446744073709551615.false)))
            (λ less. omega (arith, less, same)) both.1,
      ),
    )

pub returns-in-Err-clause-closed : goal.returns-in-Err-clause-closed
returns-in-Err-clause-closed g c k kept =
    let shut = kept.memory.closed_is in
    (λ is. sym shut ∙ c.in-Err.ensures.closed.0 is, λ is. c.in-Err.ensures.closed.1 (shut ∙ is))

pub returns-in-Ok-clause-fits : goal.returns-in-Ok-clause-fits
returns-in-Ok-clause-fits g c k kept = omega (arith, c.in-Ok.ensures.fits, kept.memory.left_is)

pub returns-then-sectors-left-clause-full : goal.returns-then-sectors-left-clause-full
returns-then-sectors-left-clause-full g c k kept =
    let working : k.closed ≡ false = sym kept.memory.closed_is ∙ sym c.is_closed.ensures ∙ c.if-is_closed.false in
    let size : c.entry_sectors-sectors.result ≡ entry_sectors (length (entry c.args.change)) = c.entry_sectors-sectors.ensures ∙ ap (λ (l : List ℕ). entry_sectors (length l)) c.octets.ensures.octets in
    (λ _. (working, inr (omega (arith, size, kept.memory.left_is, c.left.ensures.left, c.if-sectors-left.true))), λ _. refl)

pub returns-then-sectors-left-clause-closed : goal.returns-then-sectors-left-clause-closed
returns-then-sectors-left-clause-closed g c k kept =
    let working : k.closed ≡ false = sym kept.memory.closed_is ∙ sym c.is_closed.ensures ∙ c.if-is_closed.false in
    (λ is. absurd cc, λ shut. absurd cc)

pub returns-in_err-map_err-clause-full : goal.returns-in_err-map_err-clause-full
returns-in_err-map_err-clause-full g c k kept =
    let size : c.entry_sectors-sectors.result ≡ entry_sectors (length (entry c.args.change)) = c.entry_sectors-sectors.ensures ∙ ap (λ (l : List ℕ). entry_sectors (length l)) c.octets.ensures.octets in
    let p = err_from_is_err_and c.from_residual.result c.from_residual.ensures.1 in (
      λ is. absurd (let other : Err p.0 ≡ Err StageError.Full = sym p.1 ∙ is in let one = p.2 in cc),
      λ both. absurd (⊎_elim (λ last. omega (arith, last, kept.memory.number_is, c.newest.ensures, c.if-newest-eq18446744073709551615.false))
          (λ less. omega (arith, less, size, kept.memory.left_is, c.left.ensures.left, c.if-sectors-left.false)) both.1),
    )
