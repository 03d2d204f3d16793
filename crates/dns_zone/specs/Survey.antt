-- What one pass over the records of a set yields about them, as far as the refusals of a zone go.
use Rattle.std.specs.Prelude.{◌≡◌, ◌+◌, Bool, not, ◌&&◌, ◌||◌, ◌==◌, nat_lt, List, [], ◌∷◌, length, Option}
use Rattle.std.specs.Prelude.{Some, None, cond, if◌then◌else◌}
use Rattle.std.specs.List.{list_any, list_all}
use Rattle.std.specs.Ordering.{is_lt}
use Rattle.dns_names.specs.Name.{Labels, under}
use Rattle.dns_records.specs.Types.{type_ns, type_cname}
use Rattle.dns_records.specs.Record.{Record, record_cmp}
use Rattle.dns_zone.specs.Records.{records_at}
use Rattle.dns_zone.specs.Zone.{soas, is_wildcard}
use Rattle.dns_zone.specs.declared.survey.Survey.{Survey}
use Rattle.dns_zone.specs.declared.ZoneError.{ZoneError}
use Rattle.dns_zone.specs.declared.ZoneError.TheVariants.{NoSoa, ManySoa, NoNs, OutOfZone, CnameAndOther}
use Rattle.dns_zone.specs.declared.ZoneError.TheVariants.{WildcardNs, TooMany}

abbrev pub is_shared_alias : List Record → Record → Bool
is_shared_alias records r = r.rtype == type_cname && nat_lt 1 (length (records_at records r.owner))

abbrev pub is_wildcard_ns : Record → Bool
is_wildcard_ns r = r.rtype == type_ns && is_wildcard r.owner

-- What is found so far, combined with what the rest would yield, is what all yield.
pub record Surveys (apex : Labels) (records rest : List Record) (s : Survey) : Type 0 where
  pub soas_of : nat_lt 1 (s.soas + length (soas rest)) ≡ nat_lt 1 (length (soas records))
  pub inside_of : (s.inside && list_all (λ r. under r.owner apex) rest)
      ≡ list_all (λ r. under r.owner apex) records
  pub shared_of : (s.shared_alias || list_any (is_shared_alias records) rest)
      ≡ list_any (is_shared_alias records) records
  pub wildcard_of : (s.wildcard_ns || list_any is_wildcard_ns rest) ≡ list_any is_wildcard_ns records
  pub count_of : nat_lt 65536 (s.count + length rest) ≡ nat_lt 65536 (length records)

-- The records after one, or all.
abbrev pub records_after : Option Record → List Record → List Record
records_after None records = records
records_after (Some r) [] = []
records_after (Some r) (x ∷ xs) = cond (is_lt (record_cmp r x)) (x ∷ xs) (records_after (Some r) xs)

-- The lowest refusal that applies to a set.
abbrev pub fault_found : Survey → (no_soa no_ns : Bool) → Option ZoneError
fault_found s no_soa no_ns =
    if no_soa then Some NoSoa
    else if nat_lt 1 s.soas then Some ManySoa
    else if no_ns then Some NoNs
    else if not s.inside then Some OutOfZone
    else if s.shared_alias then Some CnameAndOther
    else if s.wildcard_ns then Some WildcardNs
    else if nat_lt 65536 s.count then Some TooMany
    else None
