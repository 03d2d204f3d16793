use Rattle.std.proofs.Common.{sym, ap, ◌∙◌}
use Rattle.dns_secondary.specs.Receiving.{Receiving}
use Rattle.dns_secondary.specs.Told.{over}
use Rattle.dns_secondary.proofs.Fed.{feeds_ok}
use Rattle.dns_secondary.proofs.Verdicts.{feeds_err}
use Rattle.dns_secondary.proofs.secondary.Secondary.feed.Goals as goal

pub returns-else-matches-clause-refused : goal.returns-else-matches-clause-refused
returns-else-matches-clause-refused g c =
    let s = c.self.inside in
    let is = sym (ap (λ (u : Receiving). u.state) c.self.view_is) ∙ sym c.take.ensures.value ∙ c.in-Some.is in
    feeds_err c.args.self.now (record { apex = s.apex; held = s.held; id = s.id; transport = s.transport; state = c.take.new.self }) c.in-Some.reading c.args.octets.now c.hear-told.result
    ((λ i. record { apex = s.apex; held = s.held; id = s.id; transport = s.transport; state = c.take.ensures.after i }) ∙ ap over c.self.view_is)
    is c.hear-told.ensures.refused

pub returns-else-matches-clause-fed : goal.returns-else-matches-clause-fed
returns-else-matches-clause-fed g c =
    let s = c.self.inside in
    let is = sym (ap (λ (u : Receiving). u.state) c.self.view_is) ∙ sym c.take.ensures.value ∙ c.in-Some.is in
    feeds_ok c.args.self.now (record { apex = s.apex; held = s.held; id = s.id; transport = s.transport; state = c.take.new.self }) c.in-Some.reading c.args.octets.now c.hear-told.result c.hear-told.new.self
    ((λ i. record { apex = s.apex; held = s.held; id = s.id; transport = s.transport; state = c.take.ensures.after i }) ∙ ap over c.self.view_is)
    is c.hear-told.ensures.told
