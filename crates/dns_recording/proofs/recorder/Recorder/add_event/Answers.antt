use Rattle.std.proofs.Common.{refl}
use Rattle.dns_primary.specs.Steps.{event_shown}
use Rattle.dns_recording.specs.Script.{event_scripted}
use Rattle.dns_recording.proofs.Taken.{lines_added, on_ok}
use Rattle.dns_recording.proofs.recorder.Recorder.add_event.Goals as goal

pub returns-clause-said : goal.returns-clause-said
returns-clause-said g c =
    let old = c.args.self.now in
    let written = g.W.Write.contents old.file.now in
    let said = event_scripted old.stirred (event_shown c.args.event) c.args.effects.now in
    on_ok c.add_event.result (λ more. record { text = lines_added written written old.lines.now.items said.text c.add_event.new.lines.items refl more; stirred = c.add_event.ensures.stirred }) c.add_event.ensures.text
