-- The one SOA of a zone.
use Rattle.std.specs.Prelude.{◌≡◌, List, [], ◌∷◌}
use Rattle.dns_names.specs.Name.{Labels}
use Rattle.dns_records.specs.Record.{Record}
use Rattle.dns_zone.specs.Zone.{soas}

-- The records have one SOA, at the apex (RFC 1035 5.2).
pub record HasSoa (apex : Labels) (records : List Record) : Type 0 where
  pub soa : Record
  pub one : soas records ≡ soa ∷ []
  pub owner : soa.owner ≡ apex
