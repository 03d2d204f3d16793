-- The data of each type, made of its parts.
use Rattle.std.specs.Prelude.{ℕ, ◌+◌, ◌-◌, ◌<◌, ◌^◌, length, take, drop, Bool, ◌==◌, ◌||◌, List, ◌++◌, Option}
use Rattle.std.specs.Prelude.{Some, None, if◌then◌else◌}
use Rattle.std.specs.Int.{w16, w32, to_be_bytes}
use Rattle.dns_names.specs.Name.{Labels, IsName, wire, labels_of}
use Rattle.dns_records.specs.Record.{Data}
use Rattle.dns_records.specs.Types.{type_a, type_ns, type_cname, type_soa, type_ptr, type_mx, type_aaaa}
use Rattle.dns_records.specs.Types.{type_srv}
use Rattle.dns_records.specs.declared.typed.Soa.{Soa}
use Rattle.dns_records.specs.declared.typed.Mx.{Mx}
use Rattle.dns_records.specs.declared.typed.Srv.{Srv}

-- An address (RFC 1035 3.4.1).
abbrev pub a_data : List ℕ → Data
a_data address = record { rtype = type_a; octets = address }

-- An IPv6 address (RFC 3596 2.2).
abbrev pub aaaa_data : List ℕ → Data
aaaa_data address = record { rtype = type_aaaa; octets = address }

-- Data that is one name (RFC 1035 3.3.1, 3.3.11 and 3.3.12).
abbrev pub name_data : ℕ → Labels → Data
name_data rtype name = record { rtype = rtype; octets = wire name }

abbrev pub is_name_type : ℕ → Bool
is_name_type rtype = rtype == type_ns || rtype == type_cname || rtype == type_ptr

-- The one name that the data is.
abbrev pub name_of : Data → Option Labels
name_of d = if is_name_type d.rtype then Some (labels_of d.octets) else None

-- Two names and five numbers of 32 bits (RFC 1035 3.3.13).
abbrev pub soa_numbers : Soa → List ℕ
soa_numbers soa =
    to_be_bytes w32 soa.serial ++ to_be_bytes w32 soa.refresh ++ to_be_bytes w32 soa.retry
    ++ to_be_bytes w32 soa.expire ++ to_be_bytes w32 soa.minimum

abbrev pub soa_data : Soa → Data
soa_data soa = record { rtype = type_soa; octets = wire soa.mname ++ wire soa.rname ++ soa_numbers soa }

-- The serial precedes the last four of the five numbers.
abbrev pub soa_with : Data → ℕ → Data
soa_with d serial = let at = length d.octets - 20 in
    record { rtype = d.rtype; octets = take at d.octets ++ to_be_bytes w32 serial ++ drop (at + 4) d.octets }

-- A preference of 16 bits and a name (RFC 1035 3.3.9).
abbrev pub mx_data : Mx → Data
mx_data mx = record { rtype = type_mx; octets = to_be_bytes w16 mx.preference ++ wire mx.exchange }

-- Three numbers of 16 bits and a name (RFC 2782).
abbrev pub srv_numbers : Srv → List ℕ
srv_numbers srv = to_be_bytes w16 srv.priority ++ to_be_bytes w16 srv.weight ++ to_be_bytes w16 srv.port

abbrev pub srv_data : Srv → Data
srv_data srv = record { rtype = type_srv; octets = srv_numbers srv ++ wire srv.target }

-- Names within the limits, and numbers within their fields.
pub record FitsMx (mx : Mx) : Type 0 where
  pub preference : mx.preference < 2 ^ 16
  pub exchange : IsName mx.exchange

pub record FitsSrv (srv : Srv) : Type 0 where
  pub priority : srv.priority < 2 ^ 16
  pub weight : srv.weight < 2 ^ 16
  pub port : srv.port < 2 ^ 16
  pub target : IsName srv.target

pub record FitsSoa (soa : Soa) : Type 0 where
  pub mname : IsName soa.mname
  pub rname : IsName soa.rname
  pub serial : soa.serial < 2 ^ 32
  pub refresh : soa.refresh < 2 ^ 32
  pub retry : soa.retry < 2 ^ 32
  pub expire : soa.expire < 2 ^ 32
  pub minimum : soa.minimum < 2 ^ 32
