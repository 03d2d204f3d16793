-- What an update asks of the zone before anything is done (RFC 2136 3.2).
use Rattle.std.specs.Prelude.{Bool, not, ◌&&◌, ◌||◌, ◌==◌, List, Option, Some, None, if◌then◌else◌}
use Rattle.std.specs.List.{list_any, list_all}
use Rattle.dns_names.specs.Name.{under}
use Rattle.dns_records.specs.Types.{type_any, class_in, class_none, class_any, is_known}
use Rattle.dns_records.specs.Record.{Record}
use Rattle.dns_zone.specs.Records.{alike, has, owns, owns_type, rrset}
use Rattle.dns_zone.specs.Zone.{Zone}
use Rattle.dns_wire.specs.Message.{ResourceRecord}
use Rattle.dns_update.specs.ResourceRecord.{as_record, is_empty, first_fault, otherwise}
use Rattle.dns_wire.specs.declared.codes.Rcode.{Rcode}
use Rattle.dns_wire.specs.declared.codes.Rcode.TheVariants.{FormErr, NxDomain, YxDomain, YxRrset, NxRrset}
use Rattle.dns_wire.specs.declared.codes.Rcode.TheVariants.{NotZone}

-- Class ANY: the name is in use, or the RRset exists (RFC 2136 3.2.1). An empty nonterminal owns no record.
abbrev pub in_use_fault : List Record → ResourceRecord → Option Rcode
in_use_fault records i =
    if not (is_empty i) then Some FormErr
    else if i.rtype == type_any then (if owns records i.owner then None else Some NxDomain)
    else if owns_type records i.owner i.rtype then None
    else Some NxRrset

-- Class NONE: the name is not in use, or the RRset doesn't exist (RFC 2136 3.2.2).
abbrev pub unused_fault : List Record → ResourceRecord → Option Rcode
unused_fault records i =
    if not (is_empty i) then Some FormErr
    else if i.rtype == type_any then (if owns records i.owner then Some YxDomain else None)
    else if owns_type records i.owner i.rtype then Some YxRrset
    else None

-- What fails a prerequisite by itself (RFC 2136 3.2). One of class IN lists a record of an RRset, and has
-- data where its type is known.
abbrev pub prerequisite_fault : Zone → ResourceRecord → Option Rcode
prerequisite_fault z i =
    if not (i.ttl == 0) then Some FormErr
    else if not (under i.owner z.apex) then Some NotZone
    else if i.class == class_any then in_use_fault z.records i
    else if i.class == class_none then unused_fault z.records i
    else if i.class == class_in then (if is_known i.rtype && is_empty i then Some FormErr else None)
    else Some FormErr

-- The item lists the record: they have one name, type and data. TTLs don't count.
abbrev pub lists : Record → ResourceRecord → Bool
lists r i = i.class == class_in && alike (as_record i) r

-- What is listed of the item's name and type is the RRset, no more and no less (RFC 2136 3.2.3).
abbrev pub is_rrset : List Record → List ResourceRecord → ResourceRecord → Bool
is_rrset records items i =
    has (as_record i) records && list_all (λ r. list_any (lists r) items) (rrset records i.owner i.rtype)

abbrev pub are_rrsets : List Record → List ResourceRecord → Bool
are_rrsets records items = list_all (λ i. not (i.class == class_in) || is_rrset records items i) items

-- What fails the prerequisites: the first that fails by itself, else a list that is not its RRset.
abbrev pub prerequisites_fault : Zone → List ResourceRecord → Option Rcode
prerequisites_fault z items =
    otherwise (first_fault (prerequisite_fault z) items)
    (if are_rrsets z.records items then None else Some NxRrset)
