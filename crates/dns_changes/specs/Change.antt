-- The change from one version of a zone to another.
use Rattle.std.specs.Prelude.{◌≡◌, ◌<◌, ◌^◌, length, Bool, not, ◌&&◌, ◌==◌, List, [], ◌∷◌, filter, Option}
use Rattle.std.specs.Prelude.{Some, None, if◌then◌else◌}
use Rattle.std.specs.List.{list_any, list_all}
use Rattle.dns_records.specs.Types.{type_soa}
use Rattle.dns_records.specs.Record.{Record}
use Rattle.dns_zone.specs.Records.{has, contains, is_ordered, united}
use Rattle.dns_zone.specs.Zone.{has_twice, soas}
use Rattle.dns_changes.specs.declared.ChangeError.{ChangeError}
use Rattle.dns_changes.specs.declared.ChangeError.TheVariants.{WrongSoa, RemovesAbsent, AddsPresent}

-- The SOA before, the records that go, the SOA after, the records that come (RFC 1995 4).
pub record Change : Type 0 where
  pub old_soa : Record
  pub removed : List Record
  pub new_soa : Record
  pub added : List Record

-- The change of these records.
abbrev pub change_of : Record → List Record → Record → List Record → Change
change_of old_soa removed new_soa added = record {
  old_soa = old_soa;
  removed = removed;
  new_soa = new_soa;
  added = added;
}

-- The numbers of records that go and come have 32 bits.
pub record AreFew (removed added : List Record) : Type 0 where
  pub going : length removed < 2 ^ 32
  pub coming : length added < 2 ^ 32

abbrev pub is_soa : Record → Bool
is_soa r = r.rtype == type_soa

-- The SOAs are SOAs and no other record is one, each list is in order, and no record goes and comes.
abbrev pub is_formed : Change → Bool
is_formed c =
    is_soa c.old_soa && is_soa c.new_soa && not (list_any is_soa c.removed)
    && not (list_any is_soa c.added) && is_ordered c.removed && is_ordered c.added
    && not (list_any (contains c.removed) c.added)

-- The record is no SOA, and not in the others. A record whose TTL changed is not in the others.
abbrev pub is_lone : List Record → Record → Bool
is_lone others r = not (is_soa r) && not (contains others r)

-- The records of one set that are not in another, SOAs aside, in their order.
abbrev pub only_in : List Record → List Record → List Record
only_in records others = filter (is_lone others) records

-- The change from one set to another: there is at most one, and one where each has one SOA.
pub record IsChange (before after : List Record) (c : Change) : Type 0 where
  pub old_soa : soas before ≡ c.old_soa ∷ []
  pub new_soa : soas after ≡ c.new_soa ∷ []
  pub removed : c.removed ≡ only_in before after
  pub added : c.added ≡ only_in after before

-- The records but some.
abbrev pub removed_from : List Record → List Record → List Record
removed_from records gone = filter (λ r. not (contains gone r)) records

-- Removal, then union (RFC 1995 4).
abbrev pub applied : Change → List Record → List Record
applied c records = united (removed_from records (c.old_soa ∷ c.removed)) (c.new_soa ∷ c.added)

-- Each of the records is there, with its TTL, and none is named twice.
abbrev pub are_present : List Record → List Record → Bool
are_present records gone = list_all (contains records) gone && not (has_twice gone)

-- Of none of the records are owner, type and data there, whatever the TTL, and none is named twice.
abbrev pub are_new : List Record → List Record → Bool
are_new records come = not (list_any (λ r. has r records) come) && not (has_twice come)

-- Why a change can't be applied: the first that holds. What comes is tested against what the removal leaves.
abbrev pub change_fault : Change → List Record → Option ChangeError
change_fault c records =
    if not (contains records c.old_soa) then Some WrongSoa
    else if not (are_present records (c.old_soa ∷ c.removed)) then Some RemovesAbsent
    else if not (are_new (removed_from records (c.old_soa ∷ c.removed)) (c.new_soa ∷ c.added))
    then Some AddsPresent
    else None
