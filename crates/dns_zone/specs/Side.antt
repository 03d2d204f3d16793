-- On which side of what is looked for a record lies, in the order of records.
use Rattle.std.specs.Ordering.{nat_cmp, ordering_then}
use Rattle.std.specs.declared.cmp.Ordering.{Ordering}
use Rattle.dns_names.specs.Name.{name_cmp}
use Rattle.dns_records.specs.Record.{Record, record_cmp}
use Rattle.dns_zone.specs.declared.search.Key.{Key}
use Rattle.dns_zone.specs.declared.search.Key.TheVariants as key

abbrev pub side_of : Key → Record → Ordering
side_of (key.Owner name) r = name_cmp r.owner name
side_of (key.Type name t) r = ordering_then (name_cmp r.owner name) (nat_cmp r.rtype t)
side_of (key.Data q) r = record_cmp r q.now
side_of (key.Parts name t octets) r =
    record_cmp r (record { owner = name; rtype = t; ttl = 0; rdata = octets.now })
