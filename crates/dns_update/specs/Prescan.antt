-- What of an update section can't be done, whatever the zone contains (RFC 2136 3.4.1).
use Rattle.std.specs.Prelude.{not, ◌&&◌, ◌||◌, ◌==◌, nat_lt, length, Option, Some, None, if◌then◌else◌}
use Rattle.dns_names.specs.Name.{Labels, under}
use Rattle.dns_records.specs.Types.{type_ns, type_any, class_in, class_none, class_any, is_known}
use Rattle.dns_records.specs.Types.{is_data_type}
use Rattle.dns_zone.specs.Zone.{is_wildcard}
use Rattle.dns_wire.specs.Message.{ResourceRecord}
use Rattle.dns_update.specs.ResourceRecord.{is_empty, is_meta}
use Rattle.dns_wire.specs.declared.codes.Rcode.{Rcode}
use Rattle.dns_wire.specs.declared.codes.Rcode.TheVariants.{FormErr, Refused, NotZone}

-- Class IN: a record is to be added. Refused are types of which a zone has no records, data of over 4,096
-- octets, and an NS at a wildcard.
abbrev pub addition_fault : ResourceRecord → Option Rcode
addition_fault i =
    if i.rtype == type_any || is_meta i.rtype || is_known i.rtype && is_empty i then Some FormErr
    else if not (is_data_type i.rtype) || nat_lt 4096 (length i.rdata) || i.rtype == type_ns
    && is_wildcard i.owner then Some Refused
    else None

-- Class ANY: an RRset is to be deleted, or all records of a name.
abbrev pub set_deletion_fault : ResourceRecord → Option Rcode
set_deletion_fault i = if not (i.ttl == 0) || not (is_empty i) || is_meta i.rtype then Some FormErr else None

-- Class NONE: one record is to be deleted.
abbrev pub deletion_fault : ResourceRecord → Option Rcode
deletion_fault i =
    if not (i.ttl == 0) || i.rtype == type_any || is_meta i.rtype || is_known i.rtype && is_empty i
    then Some FormErr else None

-- What fails an item of the update section.
abbrev pub prescan_fault : Labels → ResourceRecord → Option Rcode
prescan_fault apex i =
    if not (under i.owner apex) then Some NotZone
    else if i.class == class_in then addition_fault i
    else if i.class == class_any then set_deletion_fault i
    else if i.class == class_none then deletion_fault i
    else Some FormErr
