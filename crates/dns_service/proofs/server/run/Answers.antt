use Rattle.std.proofs.Common.{◌≡◌, ◌⊎◌, inl, inr, true, ℕ, List, sym, subst, ◌∙◌, arith}
use Rattle.std.specs.Io.KnownBytes.{Appends}
use Rattle.dns_names.specs.Name.{Labels}
use Rattle.dns_primary.specs.Keeps.{IsKept}
use Rattle.dns_primary.specs.Machine.{Machine}
use Rattle.dns_counters.specs.Lines.{counts_told}
use Rattle.dns_counters.specs.declared.counters.Counters.{Counters}
use Rattle.dns_service.specs.ServedTurns.{IsCountedOn}
use Rattle.dns_network.specs.Delivery.{connections_of, rested_of, served}
use Rattle.dns_service.specs.ServedTurns.{served_at_start}
use Rattle.dns_service.proofs.Counted.{both_true, counted_on, one_more, told_after}
use Rattle.dns_service.proofs.Turned.{paused, turned}
use Rattle.dns_service.proofs.server.run.Goals as goal

pub loop-turn-preserved : goal.loop-turn-preserved
loop-turn-preserved g c =
    let s = g.S.Stream in
    let n = g.N.Network in
    let l = g.L.Observer in
    let noted = c.turn-is_done.new.notes in
    let start = served_at_start c.args.primary.now c.args.network.now c.args.notes.now in
    let old = served c.loop-turn.primary c.loop-turn.edge c.loop-turn.network c.loop-turn.notes in
    let begun = served c.loop-turn.primary c.loop-turn.edge c.poll-now.new.network c.loop-turn.notes in
    let ended = served c.turn-is_done.new.primary c.turn-is_done.new.self c.turn-is_done.new.network noted in
    let new = served c.turn-is_done.new.primary c.turn-is_done.new.self c.pause-now.new.network noted in
    let before = paused s n l c.loop-turn.primary (connections_of c.loop-turn.edge) c.loop-turn.notes c.loop-turn.network c.poll-now.new.network c.poll-now.ensures in
    let after = paused s n l c.turn-is_done.new.primary (connections_of c.turn-is_done.new.self) noted c.turn-is_done.new.network c.pause-now.new.network c.pause-now.ensures in
    let moments = c.turn-is_done.ensures.turn.0 in
    let inv = c.loop-turn.invariant in
    let tells = c.tell_if_due-told in
    let every = c.args.counts.now.every in
    let origins = c.args.counts.now.origins.now in
    let text = g.O.Write.contents in
    let told_here : (c.is_ok-is_told.result ≡ true) → (text tells.new.self.out.now ≡ text c.loop-turn.counts.out.now) ⊎ ((every ≡ 0 → ⊥) × ((m : Machine) → IsKept c.turn-is_done.new.primary m → Appends (text c.loop-turn.counts.out.now) (text tells.new.self.out.now) (counts_told (g.L.Watched.counting noted).counters origins m.zones))) =
    λ fine. elim (told_after tells.result c.poll-now.result c.loop-turn.counts.every c.loop-turn.counts.next _ _ (sym c.is_ok-is_told.ensures.value ∙ fine) tells.ensures.told tells.ensures.due) [
      | inl same ↦ inl same
      | inr (some, told) ↦ inr (
        (λ none. some (inv.2 ∙ none)),
        λ m kept. subst (λ (x : Counters). Appends (text c.loop-turn.counts.out.now) (text tells.new.self.out.now) (counts_told x origins m.zones)) c.counters.ensures
            (subst (λ (x : List Labels). Appends (text c.loop-turn.counts.out.now) (text tells.new.self.out.now) (counts_told c.counters.result.now x m.zones)) inv.3 (told m kept)),
      )
    ] in (
      turned s n l c.loop-turn.turn c.poll-now.result (rested_of c.loop-turn.edge) moments start old begun ended new inv.0 before c.turn-is_done.ensures.turn.1 after,
      tells.ensures.same_reference ∙ inv.1,
      tells.ensures.every ∙ inv.2,
      tells.ensures.origins ∙ inv.3,
      λ is.
          let both = both_true c.loop-turn.is_told c.is_ok-is_told.result is in
          one_more s n l g.L.Watched.counting every origins c.loop-turn.turn (record { served = start; out = text c.args.counts.now.out.now }) (record { served = old; out = text c.loop-turn.counts.out.now }) (record { served = new; out = text tells.new.self.out.now }) moments (inv.4 both.0)
          (record {
            round = record { now = c.poll-now.result; rested = rested_of c.loop-turn.edge; begun = begun; ended = ended; before = before; turn = c.turn-is_done.ensures.turn.1; after = after };
            told = told_here both.1;
          }),
    )

pub returns-clause-counted : goal.returns-clause-counted
returns-clause-counted g c = λ is.
    let inv = c.loop-turn.invariant in
    let whole : c.loop-turn.turn ≡ c.args.service.now.turns = omega (arith, c.loop-turn-test.false, c.loop-turn.auto.turn-end) in
    subst (λ (count : ℕ). IsCountedOn g.S.Stream g.N.Network g.L.Observer c.args.counts.now.every c.args.counts.now.origins.now count c.args.primary.now c.args.network.now c.args.notes.now (g.L.Watched.counting c.args.notes.now)
    (g.O.Write.contents c.args.counts.now.out.now) c.loop-turn.primary c.loop-turn.network c.loop-turn.notes (g.O.Write.contents c.loop-turn.counts.out.now)) whole
    (counted_on {d = g.D.ZoneStore} g.S.Stream g.N.Network g.L.Observer g.L.Watched.counting c.args.counts.now.every c.args.counts.now.origins.now (λ x k kept honest z left. g.met.D.ZoneStore.at_rest x k kept honest z left) g.met.L.Watched.notes_counted g.met.L.Watched.events_counted _ _ _ _ _ _ _ _ _ _ (inv.4 is))
