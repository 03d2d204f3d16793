use Rattle.std.proofs.Common.{◌∙◌, ap}
use Rattle.dns_sockets.specs.Udp.{local_of}
use Rattle.dns_sockets.proofs.Brought.{one_more, order_same}
use Rattle.dns_sockets.proofs.datagram_sockets.DatagramSockets.add.Goals as goal

pub returns-in_err-push-clause-order : goal.returns-in_err-push-clause-order
returns-in_err-push-clause-order g c = order_same _ _ c.in_err-push.ensures.items

pub returns-clause-order : goal.returns-clause-order
returns-clause-order g c =
    one_more _ _ _ c.in_ok-push.ensures.items (ap local_of c.in_ok-datagrams.ensures.0 ∙ c.new.ensures.local ∙ c.len-local.ensures ∙ c.args.self.now.sockets.ok.0) c.in_ok-datagrams.ensures.1
