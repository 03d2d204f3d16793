use Rattle.std.proofs.Common.{ℕ, List, [], ◌++◌, IfOk, ap, subst, ◌∙◌}
use Rattle.dns_network.specs.Framed.{pending_length}
use Rattle.dns_fetch.specs.TakingIn.{HasExchanged}
use Rattle.dns_fetch.proofs.taking_in.ask.Goals as goal

pub returns-clause-asked : goal.returns-clause-asked
returns-clause-asked g c =
    let asked = c.in_ok-push.ensures.queued ∙ ap (λ (x : List ℕ). x ++ pending_length c.deref.result.now) c.new-outbox.ensures ∙ ap pending_length (c.deref.ensures.value ∙ c.in-Ok.ensures.asked) in
    subst (λ (out : List ℕ). IfOk c.write_all.result (λ _. HasExchanged g.S.Stream c.args.stream.now out [] c.write_all.new.stream)) asked c.write_all.ensures.written
