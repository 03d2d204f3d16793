use Rattle.std.proofs.Common.{List, ℕ, OnOk, subst}
use Rattle.std.specs.Io.KnownBytes.{Appends}
use Rattle.dns_commands.specs.Compare.{change_lines}
use Rattle.dns_commands.specs.History.{step_line}
use Rattle.dns_commands.proofs.Compared.{appends_on}
use Rattle.dns_commands.proofs.Historied.{step_with}
use Rattle.dns_commands.proofs.commands.history.print_step.Goals as goal

pub returns-then-with_records : goal.returns-then-with_records
returns-then-with_records g c =
    let out = g.W.Write.contents c.args.out.now in
    let out_after = g.W.Write.contents c.print_change.new.out in
    let version = c.args.version in
    let change = c.args.change.now in
    subst (λ (t : List ℕ). OnOk c.print_change.result (Appends out out_after t)) (step_with c.args.with_records version change c.if-with_records.true)
    (appends_on out (g.W.Write.contents c.print_line.new.out) out_after (step_line version change) (change_lines change) c.print_change.result c.in_ok-print_line.ensures c.print_change.ensures)
