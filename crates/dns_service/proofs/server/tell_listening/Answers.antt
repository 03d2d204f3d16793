use Rattle.dns_service.proofs.Logged.{listening_more}
use Rattle.dns_service.proofs.server.tell_listening.Goals as goal

pub loop-address-preserved : goal.loop-address-preserved
loop-address-preserved g c =
    let text = g.E.Write.contents in
    listening_more c.args.addresses.now _ c.loop-address.address-index (text c.args.err.now) (text c.loop-address.err) (text c.writeln.new.self) c.loop-address-test.true c.loop-address.invariant c.in_ok-writeln.ensures.bytes
