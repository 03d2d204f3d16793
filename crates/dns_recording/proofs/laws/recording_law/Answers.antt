use Rattle.std.proofs.Common.{◌≡◌, ap}
use Rattle.dns_recording.specs.Recorder.{recording_of}
use Rattle.dns_recording.specs.declared.recorder.Recorder.{Recorder}
use Rattle.dns_recording.proofs.Recorded.{recorded_so, reports_recorded}
use Rattle.dns_recording.proofs.laws.recording_law.Goals as goal

both : {A B : Type 0} {a c : A} {b d : B} → (a ≡ c) × (b ≡ d) → ◌≡◌ {A = A × B} (a, b) (c, d)
both is = λ i. (is.0 i, is.1 i)

pub returns : goal.returns
returns g c = λ reports old new are.
    let mark : Recorder _ _ → _ × _ = λ r. (r.file.ghost_name, r.notes.ghost_name) in
    let state = recording_of g.W.Write.contents in
    let behind : Recorder _ _ → _ = λ r. r.notes.now in
    let each = recorded_so _ g.L.Observer mark state behind (λ a one b is. (both is.0, is.1)) (λ a event effects b is. (both is.0, is.1)) in
    let all = reports_recorded _ g.L.Observer mark state behind each reports old new are in
    ((ap (λ p. p.0) all.0, ap (λ p. p.1) all.0), all.1)
