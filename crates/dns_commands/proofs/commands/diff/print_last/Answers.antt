use Rattle.std.proofs.Common.{◌≡◌, ◌∷◌, [], Bool, List, ℕ, not, codes, take, sym, subst, arith}
use Rattle.std.specs.Prelude.{◌&&◌, filter, if◌then◌else◌}
use Rattle.std.specs.Io.KnownBytes.{Appends}
use Rattle.dns_records.specs.Record.{Record}
use Rattle.dns_zone.specs.Records.{has}
use Rattle.dns_masterfile.proofs.PrintedZone.{appends_two}
use Rattle.dns_commands.specs.Compare.{signed_lines}
use Rattle.dns_commands.specs.Diff.{is_apex_ns}
use Rattle.dns_commands.proofs.Differed.{lines_on}
use Rattle.dns_commands.proofs.commands.diff.print_last.Goals as goal

pub loop-record-preserved : goal.loop-record-preserved
loop-record-preserved g c =
    let xs = c.args.come.now in
    let i = c.loop-record.record-index in
    let x = c.record-item.result in
    let sign = codes "update delete" in
    let test : Record → Bool = λ r. is_apex_ns c.args.apex.now r && not (has r c.args.gone.now) in
    let b : Bool = c.is_apex_ns.result && not c.is_among.result in
    let tested : b ≡ test x = λ j. c.is_apex_ns.ensures j && not (c.is_among.ensures j) in
    let text = lines_on test sign xs i x b (omega (arith, c.loop-record-test.true)) c.record-item.is tested in
    subst (λ (t : List ℕ). Appends (g.W.Write.contents c.args.out.now) (g.W.Write.contents c.print_if.new.out) t) (sym text)
    (appends_two (g.W.Write.contents c.args.out.now) (g.W.Write.contents c.loop-record.out) (g.W.Write.contents c.print_if.new.out) (signed_lines sign (filter test (take i xs))) (signed_lines sign (if b then x ∷ [] else [])) c.loop-record.invariant (c.in_ok-print_if.ensures))
