use Rattle.std.proofs.Common.{◌≡◌, ◌-◌, ◌^◌, ◌<◌, ◌≤◌, drop, inl, inr, refl, ap, arith}
use Rattle.dns_transfer.specs.Form.{advances}
use Rattle.dns_commands.proofs.Historied.{advances_more, first_here}
use Rattle.dns_commands.proofs.commands.history.first_journalled.Goals as goal

pub returns-then-gone-clause-first : goal.returns-then-gone-clause-first
returns-then-gone-clause-first c n le =
    let changes = c.args.changes.now in
    let number = c.newest.number in
    let near : advances (drop number changes) < 2 ^ 31 = omega (arith, c.newest.invariant.gone, c.newest.invariant.near) in
    let more = advances_more changes number c.index-changes-number.result c.newest-test.true c.newest.invariant.inside c.index-changes-number.is in
    let far : 2 ^ 31 ≤ advances (drop (number - 1) changes) = omega (arith, more, c.newest.invariant.gone, c.advance_of.ensures, c.if-gone.true) in
    first_here changes number near (inr far) n

pub newest-preserved : goal.newest-preserved
newest-preserved c =
    let more = advances_more c.args.changes.now c.newest.number c.index-changes-number.result c.newest-test.true c.newest.invariant.inside c.index-changes-number.is in
    record {
      inside = omega (arith, c.newest.invariant.inside);
      gone = omega (arith, more, c.newest.invariant.gone, c.advance_of.ensures);
      near = c.if-gone.false;
    }

pub returns-clause-first : goal.returns-clause-first
returns-clause-first c n le =
    let changes = c.args.changes.now in
    let none : c.newest.number ≡ 0 = omega (arith, c.newest-test.false) in
    let same : advances (drop c.newest.number changes) ≡ advances (drop 0 changes) = ap (λ i. advances (drop i changes)) none in
    first_here changes 0 (omega (arith, same, c.newest.invariant.gone, c.newest.invariant.near)) (inl refl) n
