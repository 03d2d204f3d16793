use Rattle.std.proofs.Common.{◌≡◌, ℕ, List, [], sym, ap, subst, ◌∙◌}
use Rattle.dns_primary.specs.Keeps.{IsKept}
use Rattle.dns_primary.specs.Machine.{Machine}
use Rattle.dns_recording.specs.Recorder.{HasScripted, Recording, fresh_recording, recording_of}
use Rattle.dns_recording.specs.declared.recorder.Recorder.{Recorder}
use Rattle.dns_recording.specs.Script.{zone_comments}
use Rattle.dns_service.specs.Counting.{AreCountsOf}
use Rattle.dns_service.proofs.Counted.{both_true, start_counted, still_begins}
use Rattle.dns_service.proofs.Recorded.{first_said, has_recorded}
use Rattle.dns_service.proofs.Turned.{has_run, none_run}
use Rattle.dns_service.proofs.server.run_recorded.Goals as goal

together : {A B : Type 0} {a c : A} {b d : B} → (a ≡ c) × (b ≡ d) → ◌≡◌ {A = A × B} (a, b) (c, d)
together is = λ i. (is.0 i, is.1 i)

pub returns-in_err-is_told-clause-run : goal.returns-in_err-is_told-clause-run
returns-in_err-is_told-clause-run g c = rw c.in_err-is_told.ensures.served (none_run (λ x k kept honest z left. g.met.D.ZoneStore.at_rest x k kept honest z left) _)

pub returns-clause-run : goal.returns-clause-run
returns-clause-run g c = has_run (λ x k kept honest z left. g.met.D.ZoneStore.at_rest x k kept honest z left) c.in_ok-is_told.ensures.served

pub returns-clause-told : goal.returns-clause-told
returns-clause-told g c = λ is begins.
    let both = both_true c.in_ok-is_told.is_told c.is_written.result is in
    let counted = c.in_ok-is_told.ensures.counted both.0 in
    let contents = g.W.Write.contents in
    let l = g.L.Observer in
    let every = c.args.counts.now.every in
    let origins = c.args.counts.now.origins.now in
    let text = g.O.Write.contents in
    let begun = c.write_start.new.self in
    let made = c.new-recorder in
    let wanted = c.args.service.now.is_recorded in
    let script = contents c.args.script.now in
    let comments : Machine → List ℕ = λ m. zone_comments c.args.service.now.origins.now m.zones in
    let state : Recorder g.row.W.Denot g.row.L.Denot → Recording = recording_of contents in
    let mark : Recorder g.row.W.Denot g.row.L.Denot → _ × _ = λ r. (r.file.ghost_name, r.notes.ghost_name) in
    let behind : Recorder g.row.W.Denot g.row.L.Denot → g.row.L.Denot = λ r. r.notes.now in
    let started : (m : Machine) → IsKept c.args.primary.now m → HasScripted l (first_said (comments m)) [] (fresh_recording wanted script) (state begun) c.args.log.now begun.notes.now =
    λ m kept. subst (λ x. HasScripted l (first_said (comments m)) [] (fresh_recording wanted script) (state begun) x begun.notes.now) made.ensures.notes
    (subst (λ (x : Recording). HasScripted l (record { text = comments m; stirred = x.stirred }) [] x (state begun) made.result.notes.now begun.notes.now) made.ensures.fresh (c.write_start.ensures.said m kept)) in
    has_recorded (λ x k kept honest z left. g.met.D.ZoneStore.at_rest x k kept honest z left) counted.served (λ turns m. AreCountsOf every origins m turns (text c.args.counts.now.out.now) (text c.run.new.counts.out.now))
    (λ m kept. counted.counts (still_begins every (g.L.Watched.counting c.args.log.now) (g.L.Watched.counting begun.notes.now)
    (start_counted l g.L.Watched.counting g.met.L.Watched.notes_counted _ _ c.args.log.now begun.notes.now (started m kept).handed) begins) m kept)
    mark state behind (λ x one y h. (together h.0, h.1)) (λ x event effects y h. (together h.0, h.1))
    wanted comments script started (c.is_written.ensures.written both.1)
    (λ same. (
      ap contents (c.script-2-1.given.1 (sym (ap (λ p. p.0) same ∙ c.write_start.ensures.same.0 ∙ made.ensures.same_file))),
      c.log-2-1.given.1 (sym (ap (λ p. p.1) same ∙ c.write_start.ensures.same.1 ∙ made.ensures.same_observer)),
    ))
