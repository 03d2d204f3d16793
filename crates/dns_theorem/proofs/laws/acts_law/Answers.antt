use Rattle.dns_theorem.proofs.Tended.{durable_becomes, loaded_becomes, migrated_becomes, reopened_becomes}
use Rattle.dns_theorem.proofs.laws.acts_law.Goals as goal

pub returns : goal.returns
returns c = record { loaded = loaded_becomes; kept = durable_becomes; reopened = reopened_becomes; migrated = migrated_becomes }
