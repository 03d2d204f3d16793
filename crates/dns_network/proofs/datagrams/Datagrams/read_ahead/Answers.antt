use Rattle.std.proofs.Common.{arith, Some, ap, length}
use Rattle.dns_network.specs.Datagrams.{arrived_of, socket_of}
use Rattle.dns_network.proofs.ReadAhead.{more_than_none}
use Rattle.dns_network.proofs.Steps.{and_one}
use Rattle.dns_network.proofs.datagrams.Datagrams.read_ahead.Goals as goal

pub loop-datagram-preserved : goal.loop-datagram-preserved
loop-datagram-preserved g c =
    let came = c.read.ensures.came c.if-not-read.false in (
      and_one (λ old one new. g.S.DatagramSocket.receives old (Some one) new) (arrived_of c.loop-datagram.self) c.read.new.self
          (socket_of c.args.self.now) (socket_of c.loop-datagram.self) c.read.new.socket c.loop-datagram.invariant.0 came,
      more_than_none (arrived_of c.loop-datagram.self) c.read.new.self came.0 came.1,
      c.loop-datagram.invariant.2,
    )

pub returns-then-not-read-clause-none : goal.returns-then-not-read-clause-none
returns-then-not-read-clause-none g c = λ none.
    let is = c.read.ensures.none c.if-not-read.true in
    absurd (omega (arith, c.loop-datagram.invariant.1, ap length is.0, ap length none))

pub returns-clause-none : goal.returns-clause-none
returns-clause-none g c = λ none. absurd (omega (arith, c.loop-datagram.invariant.1, ap length none))
