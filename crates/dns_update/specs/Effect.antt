-- What an update does to the records of a zone (RFC 2136 3.4.2).
use Rattle.std.specs.Prelude.{ℕ, Bool, not, ◌&&◌, ◌||◌, ◌==◌, List, [], ◌∷◌, length, filter, if◌then◌else◌}
use Rattle.std.specs.List.{list_any}
use Rattle.dns_names.specs.Name.{Labels, names_eq}
use Rattle.dns_records.specs.Types.{type_ns, type_cname, type_soa, type_any, class_in, class_any}
use Rattle.dns_records.specs.Record.{Record, serial_of}
use Rattle.dns_zone.specs.Records.{put, without, rrset, owns_type}
use Rattle.dns_serial.specs.Serial.{greater}
use Rattle.dns_wire.specs.Message.{ResourceRecord}
use Rattle.dns_update.specs.ResourceRecord.{as_record}

-- The record is of that name, and of that type where it isn't ANY.
abbrev pub is_of : Labels → ℕ → Record → Bool
is_of name t r = names_eq r.owner name && (t == type_any || r.rtype == t)

-- The record comes, and all others of its name and type go.
abbrev pub replaced : List Record → Record → List Record
replaced records r = put r (filter (λ s. not (is_of r.owner r.rtype s)) records)

-- The name owns a record of another type.
abbrev pub owns_other : List Record → Labels → ℕ → Bool
owns_other records name t = list_any (λ s. names_eq s.owner name && not (s.rtype == t)) records

-- The second is a SOA of the first one's owner, with a lesser serial (RFC 1982).
abbrev pub succeeds : Record → Record → Bool
succeeds r s = names_eq s.owner r.owner && s.rtype == type_soa && greater (serial_of r) (serial_of s)

-- A record is added (RFC 2136 3.4.2.2). A CNAME and another type don't come together; a CNAME replaces a
-- CNAME, a SOA one of a lesser serial, and a record that of equal owner, type and data, whose TTL may differ.
abbrev pub added : List Record → Record → List Record
added records r =
    if r.rtype == type_cname
    then (if owns_other records r.owner type_cname then records else replaced records r)
    else if owns_type records r.owner type_cname then records
    else if r.rtype == type_soa then (if list_any (succeeds r) records then replaced records r else records)
    else put r records

-- The SOA and the NS of the apex, which stay where RRsets are deleted.
abbrev pub is_vital : Labels → Record → Bool
is_vital apex r = names_eq r.owner apex && (r.rtype == type_soa || r.rtype == type_ns)

-- An RRset is deleted, or all records of a name (RFC 2136 3.4.2.3).
abbrev pub deleted_set : Labels → List Record → Labels → ℕ → List Record
deleted_set apex records name t = filter (λ r. not (is_of name t r && not (is_vital apex r))) records

-- A SOA stays, and so does the last NS of the apex.
abbrev pub is_spared : Labels → List Record → Record → Bool
is_spared apex records r =
    r.rtype == type_soa
    || r.rtype == type_ns && names_eq r.owner apex && length (rrset records apex type_ns) == 1

-- One record is deleted (RFC 2136 3.4.2.4).
abbrev pub deleted : Labels → List Record → Record → List Record
deleted apex records r = if is_spared apex records r then records else without r records

-- What one item does.
abbrev pub effect : Labels → List Record → ResourceRecord → List Record
effect apex records i =
    if i.class == class_in then added records (as_record i)
    else if i.class == class_any then deleted_set apex records i.owner i.rtype
    else deleted apex records (as_record i)

-- What the items do, each to what those before it left.
abbrev pub effects : Labels → List Record → List ResourceRecord → List Record
effects apex records [] = records
effects apex records (i ∷ rest) = effects apex (effect apex records i) rest
