use Rattle.std.proofs.Common.{◌≡◌, ℕ, length, subst, add-one, arith}
use Rattle.std.specs.Prelude.{slice_get}
use Rattle.std.specs.Io.KnownBytes.{Appends}
use Rattle.dns_replay.specs.Scripts.{recovered_zone, recovered_zones}
use Rattle.dns_replay.proofs.Printing.{appends_more}
use Rattle.dns_replay.proofs.print.print_recovered.Goals as goal

pub loop-index-preserved : goal.loop-index-preserved
loop-index-preserved g c = λ m kept.
    let names = c.args.origins.now in
    let i = c.loop-index.index in
    rw add-one (appends_more (g.W.Write.contents c.args.out.now) (g.W.Write.contents c.loop-index.out) (g.W.Write.contents c.print_recovered_at.new.out) (recovered_zones names m.zones i) (recovered_zone (slice_get names i) (slice_get m.zones i)) (c.loop-index.invariant m kept) (c.in_ok-print_recovered_at.ensures m kept))

pub returns : goal.returns
returns g c = λ m kept.
    let all : c.loop-index.index ≡ length c.args.origins.now = omega arith in
    subst (λ (n : ℕ). Appends (g.W.Write.contents c.args.out.now) (g.W.Write.contents c.loop-index.out) (recovered_zones c.args.origins.now m.zones n)) all (c.loop-index.invariant m kept)
