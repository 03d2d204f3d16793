use Rattle.std.proofs.Common.{ℕ, ◌++◌, OnOk, subst}
use Rattle.std.specs.Prelude.{codes, decimal}
use Rattle.std.specs.Io.KnownBytes.{Appends}
use Rattle.dns_counters.proofs.lines.write_transfer_counts.Goals as goal

pub returns : goal.returns
returns g c =
    let text = g.W.Write.contents in
    subst (λ (x : ℕ). OnOk c.write.result (Appends (text c.args.out.now) (text c.write.new.self)
    (codes " transfers_whole=" ++ (decimal c.args.c.now.whole ++ (codes " transfers_incremental=" ++ (decimal c.args.c.now.incremental ++ (codes " transfers_open=" ++ decimal x)))))))
    c.open_count-sending.ensures c.write.ensures.bytes
