use Rattle.dns_counters.proofs.Folds.{headers_more}
use Rattle.dns_counters.proofs.counters.Counters.count_headers.Goals as goal

pub loop-header-preserved : goal.loop-header-preserved
loop-header-preserved c = headers_more c.args.self.now c.loop-header.self c.count_reply.new.self c.args.headers.now c.loop-header.header-index _ c.loop-header-test.true c.loop-header.invariant c.count_reply.ensures
