use Rattle.dns_primary.specs.Keeps.{IsKept}
use Rattle.dns_service.specs.ServedTurns.{IsLedTo}
use Rattle.dns_service.specs.Telling.{telling_of}
use Rattle.dns_service.proofs.Logged.{after_zones}
use Rattle.dns_service.proofs.Turned.{none_run}
use Rattle.dns_service.proofs.server.serve_primary.Goals as goal

pub returns-clause-ended : goal.returns-clause-ended
returns-clause-ended g c =
    let err = g.E.Write.contents in
    let script = g.W.Write.contents in
    let output = g.O.Write.contents in
    after_zones c.listen.result (telling_of c.args.service.now) c.args.service.now.turns (err c.args.streams.now.err) (err c.tell_zones.new.err) (output c.args.streams.now.out) (script c.args.streams.now.record)
    (record { output = output c.listen.new.out; log = err c.listen.new.err; script = script c.listen.new.script }) (λ m. IsKept c.args.primary.now m) (IsLedTo c.args.primary.now c.listen.new.primary)
    c.in_ok-tell_zones.ensures c.listen.ensures.ended

pub returns-in_err-tell_zones-clause-run : goal.returns-in_err-tell_zones-clause-run
returns-in_err-tell_zones-clause-run g c = none_run (λ x k kept honest z left. g.met.S.ZoneStore.at_rest x k kept honest z left) _
