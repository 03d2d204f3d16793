use Rattle.std.proofs.Common.{ℕ, ◌++◌, OnOk, subst}
use Rattle.std.specs.Prelude.{codes, decimal}
use Rattle.std.specs.Io.KnownBytes.{Appends}
use Rattle.dns_counters.proofs.lines.write_journal_counts.Goals as goal

pub returns : goal.returns
returns g c =
    let text = g.W.Write.contents in
    subst (λ (x : ℕ). OnOk c.writeln.result (Appends (text c.args.out.now) (text c.writeln.new.self)
    (codes " journal_left=" ++ (decimal c.args.f.journal_left ++ (codes " journal_sectors=" ++ (decimal c.args.f.journal_sectors ++ (codes " closed=" ++ (decimal x ++ codes "\n"))))))))
    c.flag-closed.ensures c.writeln.ensures.bytes
