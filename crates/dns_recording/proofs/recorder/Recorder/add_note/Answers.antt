use Rattle.std.proofs.Common.{refl}
use Rattle.dns_recording.specs.Script.{note_scripted}
use Rattle.dns_recording.proofs.Taken.{lines_added, on_ok, on_ok_all}
use Rattle.dns_recording.proofs.recorder.Recorder.add_note.Goals as goal

pub returns : goal.returns
returns g c =
    let old = c.args.self.now in
    let written = g.W.Write.contents old.file.now in
    let said = note_scripted old.stirred c.args.note in
    record {
      same = (refl, refl);
      notes = refl;
      on = refl;
      said = on_ok c.add_note.result (λ more. record { text = lines_added written written old.lines.now.items said.text c.add_note.new.lines.items refl more; stirred = c.add_note.ensures.stirred }) c.add_note.ensures.text;
      none_left = on_ok_all c.add_note.result (λ ends. absurd (c.in_default.not-Ends ends));
    }
