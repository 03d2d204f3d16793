use Rattle.std.proofs.Common.{◌≡◌, true, false, [], ◌++◌, Some}
use Rattle.dns_network.specs.Delivery.{rested_of, served_by}
use Rattle.dns_network.proofs.Gone.{stalled_after, stalled_between, unused_after, unused_between}
use Rattle.dns_network.proofs.Leads.{MomentsLead, flush_after, none_waits, not_flushed}
use Rattle.dns_network.proofs.Parts.{idle_on, moments_on, none_of_three, parts_are, parts_idle, parts_moments, served_leads}
use Rattle.dns_network.proofs.edge.Edge.work.Goals as goal

pub returns-else-has_waiting-clause-done : goal.returns-else-has_waiting-clause-done
returns-else-has_waiting-clause-done g c =
    let now = c.args.now in
    let old = served_by c.args.turn.now c.args.self.now in
    let accepted = served_by c.accept-accepted.new.turn c.accept-accepted.new.self in
    let received = served_by c.receive-received.new.turn c.receive-received.new.self in
    let done = served_by c.serve_connections-visited.new.turn c.serve_connections-visited.new.self in
    let (accepting, accepts) = c.accept-accepted.ensures.accepts in
    let (receiving, receives) = c.receive-received.ensures.receives now in
    let (serving, serves, idle) = c.serve_connections-visited.ensures.serves in
    let rested = rested_of c.args.self.now in
    let after = rested_of c.receive-received.new.self in
    let rests = λ (is : after ≡ Some now). c.accept-accepted.ensures.rested now (c.receive-received.ensures.rested now is) in
    let moments = accepting ++ receiving ++ serving in (
      moments ++ [],
      not_flushed g.S.Stream g.N.Network g.L.Observer now rested moments old done
          (parts_moments g.S.Stream g.N.Network g.L.Observer now rested after accepting receiving serving c.accept-accepted.result c.receive-received.result old accepted received done accepts receives serves)
          (parts_are g.S.Stream g.N.Network g.L.Observer now rested after accepting receiving serving c.accept-accepted.result c.receive-received.result old accepted received done accepts receives serves rests)
          (none_waits c.serve_connections-visited.new.turn.primary.now c.has_waiting.result c.has_waiting.ensures c.if-has_waiting.false),
      λ none.
          let (not_accepted, not_received, not_visited) = none_of_three c.accept-accepted.result c.receive-received.result c.serve_connections-visited.result none in
          idle_on moments []
          (parts_idle g.S.Stream g.N.Network g.L.Observer now rested after accepting receiving serving c.accept-accepted.result c.receive-received.result old accepted received done accepts receives serves not_accepted not_received (idle not_visited))
          tt,
    )

pub returns-else-has_waiting-clause-idle : goal.returns-else-has_waiting-clause-idle
returns-else-has_waiting-clause-idle g c = λ idle. none_waits c.serve_connections-visited.new.turn.primary.now c.has_waiting.result c.has_waiting.ensures c.if-has_waiting.false

pub returns-then-has_waiting-clause-done : goal.returns-then-has_waiting-clause-done
returns-then-has_waiting-clause-done g c =
    let now = c.args.now in
    let old = served_by c.args.turn.now c.args.self.now in
    let accepted = served_by c.accept-accepted.new.turn c.accept-accepted.new.self in
    let received = served_by c.receive-received.new.turn c.receive-received.new.self in
    let done = served_by c.serve_connections-visited.new.turn c.serve_connections-visited.new.self in
    let (accepting, accepts) = c.accept-accepted.ensures.accepts in
    let (receiving, receives) = c.receive-received.ensures.receives now in
    let (serving, serves, idle) = c.serve_connections-visited.ensures.serves in
    let rested = rested_of c.args.self.now in
    let after = rested_of c.receive-received.new.self in
    let rests = λ (is : after ≡ Some now). c.accept-accepted.ensures.rested now (c.receive-received.ensures.rested now is) in
    let new = served_by c.flush.new.turn c.flush.new.self in
    let (last, flush, flushed) = c.flush.ensures.flushes now in
    let moments = accepting ++ receiving ++ serving in (
      moments ++ last,
      flush_after g.S.Stream g.N.Network g.L.Observer now rested moments last old done new
          (parts_moments g.S.Stream g.N.Network g.L.Observer now rested after accepting receiving serving c.accept-accepted.result c.receive-received.result old accepted received done accepts receives serves)
          (parts_are g.S.Stream g.N.Network g.L.Observer now rested after accepting receiving serving c.accept-accepted.result c.receive-received.result old accepted received done accepts receives serves rests)
          flush flushed,
      λ none. absurd (let clash : true ≡ false = none in cc),
    )

-- The connections that were unused or stalled are gone after the visits, and after the flush.
pub returns-else-has_waiting-clause-unused : goal.returns-else-has_waiting-clause-unused
returns-else-has_waiting-clause-unused g c = λ not m kept.
    let now = c.args.now in
    let old = served_by c.args.turn.now c.args.self.now in
    let accepted = served_by c.accept-accepted.new.turn c.accept-accepted.new.self in
    let received = served_by c.receive-received.new.turn c.receive-received.new.self in
    let done = served_by c.serve_connections-visited.new.turn c.serve_connections-visited.new.self in
    let (accepting, accepts) = c.accept-accepted.ensures.accepts in
    let (receiving, receives) = c.receive-received.ensures.receives now in
    let (serving, serves, idle) = c.serve_connections-visited.ensures.serves in
    let rested = rested_of c.args.self.now in
    let after = rested_of c.receive-received.new.self in
    let rests = λ (is : after ≡ Some now). c.accept-accepted.ensures.rested now (c.receive-received.ensures.rested now is) in
    let first : MomentsLead g.S.Stream g.N.Network g.L.Observer now old received = (accepting ++ receiving, moments_on g.S.Stream g.N.Network g.L.Observer now accepting receiving old accepted received accepts.are receives.are) in
    let leads = served_leads g.S.Stream g.N.Network g.L.Observer now after serving received done serves in
    let visits = λ (is : after ≡ Some now). not (rests is) in
    unused_between g.S.Stream g.N.Network g.L.Observer now old received done first leads (λ e kept'. c.serve_connections-visited.ensures.unused visits e kept') m kept

pub returns-else-has_waiting-clause-stalled : goal.returns-else-has_waiting-clause-stalled
returns-else-has_waiting-clause-stalled g c = λ not.
    let now = c.args.now in
    let old = served_by c.args.turn.now c.args.self.now in
    let accepted = served_by c.accept-accepted.new.turn c.accept-accepted.new.self in
    let received = served_by c.receive-received.new.turn c.receive-received.new.self in
    let done = served_by c.serve_connections-visited.new.turn c.serve_connections-visited.new.self in
    let (accepting, accepts) = c.accept-accepted.ensures.accepts in
    let (receiving, receives) = c.receive-received.ensures.receives now in
    let (serving, serves, idle) = c.serve_connections-visited.ensures.serves in
    let rested = rested_of c.args.self.now in
    let after = rested_of c.receive-received.new.self in
    let rests = λ (is : after ≡ Some now). c.accept-accepted.ensures.rested now (c.receive-received.ensures.rested now is) in
    let first : MomentsLead g.S.Stream g.N.Network g.L.Observer now old received = (accepting ++ receiving, moments_on g.S.Stream g.N.Network g.L.Observer now accepting receiving old accepted received accepts.are receives.are) in
    let leads = served_leads g.S.Stream g.N.Network g.L.Observer now after serving received done serves in
    let visits = λ (is : after ≡ Some now). not (rests is) in
    stalled_between g.S.Stream g.N.Network g.L.Observer now old received done first leads (c.serve_connections-visited.ensures.stalled visits)

pub returns-then-has_waiting-clause-unused : goal.returns-then-has_waiting-clause-unused
returns-then-has_waiting-clause-unused g c = λ not m kept.
    let now = c.args.now in
    let old = served_by c.args.turn.now c.args.self.now in
    let accepted = served_by c.accept-accepted.new.turn c.accept-accepted.new.self in
    let received = served_by c.receive-received.new.turn c.receive-received.new.self in
    let done = served_by c.serve_connections-visited.new.turn c.serve_connections-visited.new.self in
    let (accepting, accepts) = c.accept-accepted.ensures.accepts in
    let (receiving, receives) = c.receive-received.ensures.receives now in
    let (serving, serves, idle) = c.serve_connections-visited.ensures.serves in
    let rested = rested_of c.args.self.now in
    let after = rested_of c.receive-received.new.self in
    let rests = λ (is : after ≡ Some now). c.accept-accepted.ensures.rested now (c.receive-received.ensures.rested now is) in
    let first : MomentsLead g.S.Stream g.N.Network g.L.Observer now old received = (accepting ++ receiving, moments_on g.S.Stream g.N.Network g.L.Observer now accepting receiving old accepted received accepts.are receives.are) in
    let leads = served_leads g.S.Stream g.N.Network g.L.Observer now after serving received done serves in
    let visits = λ (is : after ≡ Some now). not (rests is) in
    let new = served_by c.flush.new.turn c.flush.new.self in
    let (last, flush, flushed) = c.flush.ensures.flushes now in
    let leads_on : MomentsLead g.S.Stream g.N.Network g.L.Observer now done new = (last, flushed) in
    unused_after g.S.Stream g.N.Network g.L.Observer now old.connections done new (unused_between g.S.Stream g.N.Network g.L.Observer now old received done first leads (λ e kept'. c.serve_connections-visited.ensures.unused visits e kept') m kept) leads_on

pub returns-then-has_waiting-clause-stalled : goal.returns-then-has_waiting-clause-stalled
returns-then-has_waiting-clause-stalled g c = λ not.
    let now = c.args.now in
    let old = served_by c.args.turn.now c.args.self.now in
    let accepted = served_by c.accept-accepted.new.turn c.accept-accepted.new.self in
    let received = served_by c.receive-received.new.turn c.receive-received.new.self in
    let done = served_by c.serve_connections-visited.new.turn c.serve_connections-visited.new.self in
    let (accepting, accepts) = c.accept-accepted.ensures.accepts in
    let (receiving, receives) = c.receive-received.ensures.receives now in
    let (serving, serves, idle) = c.serve_connections-visited.ensures.serves in
    let rested = rested_of c.args.self.now in
    let after = rested_of c.receive-received.new.self in
    let rests = λ (is : after ≡ Some now). c.accept-accepted.ensures.rested now (c.receive-received.ensures.rested now is) in
    let first : MomentsLead g.S.Stream g.N.Network g.L.Observer now old received = (accepting ++ receiving, moments_on g.S.Stream g.N.Network g.L.Observer now accepting receiving old accepted received accepts.are receives.are) in
    let leads = served_leads g.S.Stream g.N.Network g.L.Observer now after serving received done serves in
    let visits = λ (is : after ≡ Some now). not (rests is) in
    let new = served_by c.flush.new.turn c.flush.new.self in
    let (last, flush, flushed) = c.flush.ensures.flushes now in
    let leads_on : MomentsLead g.S.Stream g.N.Network g.L.Observer now done new = (last, flushed) in
    stalled_after g.S.Stream g.N.Network g.L.Observer now old.connections done new (stalled_between g.S.Stream g.N.Network g.L.Observer now old received done first leads (c.serve_connections-visited.ensures.stalled visits)) leads_on

pub returns-then-has_waiting-clause-rested : goal.returns-then-has_waiting-clause-rested
returns-then-has_waiting-clause-rested g c = λ second rested. c.serve_connections-visited.ensures.rested second (c.flush.ensures.rested second rested)
