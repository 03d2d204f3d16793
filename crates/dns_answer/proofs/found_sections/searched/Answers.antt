use Rattle.dns_answer.proofs.Shown.{lent_at}
use Rattle.dns_answer.proofs.found_sections.searched.Goals as goal

pub returns : goal.returns
returns g c f is = lent_at c.args.zones.now c.args.one.now.zone f.zone c.index-zones-one.result c.index-zones-one.is is.zone
