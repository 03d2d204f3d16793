use Rattle.std.proofs.Common.{map}
use Rattle.dns_primary.specs.Keeps.{header_out}
use Rattle.dns_primary.specs.To.{octets_in}
use Rattle.dns_replay.proofs.Printing.{prints_both}
use Rattle.dns_replay.proofs.print.print_replies.Goals as goal

pub returns-in-Some : goal.returns-in-Some
returns-in-Some g c =
    let before = map header_out c.args.effects.now.headers.items in
    let reply = c.in-Some.reply in
    rw c.in-Some.is (prints_both _ _ _ before (reply.to, octets_in reply.octets) c.print_reply.result (rw c.as_slice.ensures.value at c.in_ok-print_headers.ensures) (rw c.as_slice-in-Some.ensures at c.print_reply.ensures))
