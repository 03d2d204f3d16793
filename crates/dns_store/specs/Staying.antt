-- What is looked at where a change was made of a zone.
use Rattle.std.specs.Prelude.{Bool, not, ◌&&◌, ◌==◌, nat_lt, List, length}
use Rattle.std.specs.List.{list_all}
use Rattle.dns_names.specs.Name.{Labels, under}
use Rattle.dns_records.specs.Types.{type_ns, type_cname, type_soa}
use Rattle.dns_records.specs.Record.{Record}
use Rattle.dns_zone.specs.Records.{is_none_of, records_at, rrset}
use Rattle.dns_zone.specs.Zone.{is_wildcard}
use Rattle.dns_changes.specs.Change.{Change}

-- The name owns a CNAME, and more than one record.
abbrev pub has_crowded_alias : List Record → Labels → Bool
has_crowded_alias records name =
    nat_lt 1 (length (records_at records name)) && not (is_none_of (rrset records name type_cname))

-- The record is under the apex, is no NS at a wildcard, and is at no name of a CNAME with other records.
abbrev pub may_stand : Labels → List Record → Record → Bool
may_stand apex records r =
    under r.owner apex && not (r.rtype == type_ns && is_wildcard r.owner)
    && not (has_crowded_alias records r.owner)

-- The apex owns a SOA and an NS, the records are not too many, and each that came may be where it is.
abbrev pub stays_zone : Labels → List Record → Change → Bool
stays_zone apex records c =
    not (is_none_of (rrset records apex type_soa)) && not (is_none_of (rrset records apex type_ns))
    && not (nat_lt 65536 (length records))
    && may_stand apex records c.new_soa
    && list_all (may_stand apex records) c.added
