use Rattle.dns_acts.proofs.Acts.{dumped_left, loaded_left, loading_left, migrated, migrating, opening, unloaded_left}
use Rattle.dns_acts.proofs.laws.commands_law.Goals as goal

pub returns : goal.returns
returns g c = record {
  loaded = λ own z o content held. loaded_left own z o content held g.D.Sectors;
  loading = λ own z o content held. loading_left own z o content held;
  unloaded = λ own z o content held. unloaded_left own z o content held g.D.Sectors;
  dumped = λ own z o content held. dumped_left own z o content held g.D.Sectors;
  opening = opening g.D.Sectors;
  migrated = migrated g.D.Sectors;
  migrating = migrating g.D.Sectors;
}
