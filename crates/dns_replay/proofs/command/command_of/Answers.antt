use Rattle.std.proofs.Common.{◌≡◌, rules}
use Rattle.std.specs.Prelude.{codes}
use Rattle.dns_replay.proofs.command.command_of.Goals as goal

pub returns-then-eq : goal.returns-then-eq
returns-then-eq c = (let same : c.args.verb.now ≡ codes "udp" = search rules in rw same (c.datagram.ensures c.args.origins.now))

pub returns-then-eq-2 : goal.returns-then-eq-2
returns-then-eq-2 c = (let same : c.args.verb.now ≡ codes "tcp" = search rules in rw same (c.message.ensures c.args.origins.now))

pub returns-then-eq-3 : goal.returns-then-eq-3
returns-then-eq-3 c = (let same : c.args.verb.now ≡ codes "connect" = search rules in rw same (c.connect.ensures c.args.origins.now))

pub returns-then-eq-4 : goal.returns-then-eq-4
returns-then-eq-4 c = (let same : c.args.verb.now ≡ codes "close" = search rules in rw same (c.close.ensures c.args.origins.now))

pub returns-then-eq-5 : goal.returns-then-eq-5
returns-then-eq-5 c = (let same : c.args.verb.now ≡ codes "flush" = search rules in rw same (c.flush.ensures c.args.origins.now))

pub returns-then-eq-6 : goal.returns-then-eq-6
returns-then-eq-6 c = (let same : c.args.verb.now ≡ codes "checkpoint" = search rules in rw same (c.checkpoint.ensures))

pub returns-then-eq-7 : goal.returns-then-eq-7
returns-then-eq-7 c = (let same : c.args.verb.now ≡ codes "fail" = search rules in rw same (c.fail.ensures c.args.origins.now))

pub returns-then-eq-8 : goal.returns-then-eq-8
returns-then-eq-8 c = (let same : c.args.verb.now ≡ codes "stop" = search rules in rw same (c.stop.ensures c.args.origins.now))

pub returns-then-eq-9 : goal.returns-then-eq-9
returns-then-eq-9 c = (let same : c.args.verb.now ≡ codes "pump" = search rules in rw same (c.pump.ensures c.args.origins.now))
