use Rattle.dns_changes.specs.Applied.{change_leads, change_is_one}
use Rattle.dns_changes.proofs.laws.change_law.Goals as goal

pub returns : goal.returns
returns c = record { leads = change_leads; one = change_is_one }
