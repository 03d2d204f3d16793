-- What the records of a name are seen as.
use Rattle.std.specs.Prelude.{List, [], ◌∷◌}
use Rattle.dns_records.specs.Record.{Record}
use Rattle.dns_zoneindex.specs.declared.records.Records.{Records}
use Rattle.dns_zoneindex.specs.declared.records.Records.TheVariants.{Empty, One, Many}

abbrev pub held : Records → List Record
held Empty = []
held (One r) = r ∷ []
held (Many rs) = rs.value.items
