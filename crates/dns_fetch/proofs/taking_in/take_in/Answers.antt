use Rattle.dns_fetch.specs.TakingIn.{HasHeardRefusal}
use Rattle.dns_fetch.proofs.Heard.{passed}
use Rattle.dns_fetch.proofs.Carried.{refused_in, taken_in}
use Rattle.dns_fetch.proofs.taking_in.take_in.Goals as goal

pub returns-in_err-ask-clause-refused : goal.returns-in_err-ask-clause-refused
returns-in_err-ask-clause-refused g c =
    passed _ _ c.from_residual-in_err-ask.result _ c.from_residual-in_err-ask.ensures.1 (λ fault h. absurd h) c.in_err-ask.ensures.others

pub returns-in_err-listen-clause-refused : goal.returns-in_err-listen-clause-refused
returns-in_err-listen-clause-refused g c =
    let s = c.in_ok-secondary.secondary in
    passed (λ fault. HasHeardRefusal g.S.Stream c.ask.new.stream s fault c.listen.new.stream) _ c.from_residual-in_err-listen.result _ c.from_residual-in_err-listen.ensures.1
    (λ fault h. refused_in g.S.Stream c.args.apex c.args.held s c.args.stream.now c.ask.new.stream c.listen.new.stream fault c.in_ok-secondary.ensures c.in_ok-ask.ensures.asked h)
    c.in_err-listen.ensures.refused

pub returns-clause-taken : goal.returns-clause-taken
returns-clause-taken g c =
    taken_in g.S.Stream c.taken_law.ensures c.at_most_one.ensures.once c.args.apex c.args.held c.in_ok-secondary.secondary c.listen.new.secondary c.args.stream.now c.ask.new.stream c.listen.new.stream c.in_ok-secondary.ensures c.in_ok-ask.ensures.asked c.in_ok-listen.ensures.told
