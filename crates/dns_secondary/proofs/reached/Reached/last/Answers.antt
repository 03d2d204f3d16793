use Rattle.std.proofs.Common.{◌++◌, sym, ◌∙◌}
use Rattle.dns_secondary.proofs.Behind.{last_newest}
use Rattle.dns_secondary.proofs.reached.Reached.last.Goals as goal

pub returns-clause-last : goal.returns-clause-last
returns-clause-last g c =
    let s = c.self.inside in
    let f = c.in_ok-last.ensures in
    (g.I.ZoneIndex.records s.set ++ f.0, sym c.self.view_is ∙ last_newest (g.I.ZoneIndex.records s.set) s.tail f.0 c.in_ok-last.last.now f.1)
