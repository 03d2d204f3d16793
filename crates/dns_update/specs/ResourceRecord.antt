-- A record of an update: a prerequisite, or what is to be added or deleted (RFC 2136 2.4, 2.5).
use Rattle.std.specs.Prelude.{◌≡◌, ◌⊎◌, ℕ, Bool, ◌||◌, ◌==◌, List, [], ◌∷◌, length, Option, Some, None}
use Rattle.dns_records.specs.Types.{type_ixfr, type_axfr, type_mailb, type_maila}
use Rattle.dns_records.specs.Record.{Record, IsRData}
use Rattle.dns_wire.specs.Message.{ResourceRecord}
use Rattle.dns_wire.specs.declared.codes.Rcode.{Rcode}

-- The item as a record of the zone.
abbrev pub as_record : ResourceRecord → Record
as_record i = record { owner = i.owner; rtype = i.rtype; ttl = i.ttl; rdata = i.rdata }

-- RDLENGTH is 0.
abbrev pub is_empty : ResourceRecord → Bool
is_empty i = length i.rdata == 0

-- There is no data, or it has the form of its type (RFC 1035 4.1.3).
abbrev pub HasForm : ResourceRecord → Type 0
HasForm i = (length i.rdata ≡ 0) ⊎ IsRData i.rtype i.rdata

-- Types that questions alone have, besides ANY (RFC 2136 3.4.1.2, RFC 1995 2).
abbrev pub is_meta : ℕ → Bool
is_meta t = t == type_ixfr || t == type_axfr || t == type_mailb || t == type_maila

-- The first fault, else the other.
abbrev pub otherwise : Option Rcode → Option Rcode → Option Rcode
otherwise (Some rcode) other = Some rcode
otherwise None other = other

-- What fails the first item that fails, in the order of the message.
abbrev pub first_fault : (ResourceRecord → Option Rcode) → List ResourceRecord → Option Rcode
first_fault fault [] = None
first_fault fault (i ∷ rest) = otherwise (fault i) (first_fault fault rest)
