-- The octets of a change in a journal.
use Rattle.std.specs.Prelude.{◌≡◌, true, ℕ, List, ◌++◌, length}
use Rattle.std.specs.List.{AllByRecursion, flat_map}
use Rattle.std.specs.Int.{w32, to_be_bytes}
use Rattle.dns_records.specs.Record.{Record, IsRecord, plain}
use Rattle.dns_changes.specs.Change.{Change, AreFew, is_formed}

-- A count, and the records in plain form.
abbrev pub counted : List Record → List ℕ
counted records = to_be_bytes w32 (length records) ++ flat_map plain records

-- The old SOA, the new one, the records that go and those that come.
abbrev pub entry : Change → List ℕ
entry c = plain c.old_soa ++ plain c.new_soa ++ counted c.removed ++ counted c.added

-- A change of valid records in order, of which the two SOAs alone are SOAs and none goes and comes, and so
-- few on each side that their count has 32 bits.
pub record HasEntry (c : Change) : Type 0 where
  pub old_soa : IsRecord c.old_soa
  pub new_soa : IsRecord c.new_soa
  pub removed : AllByRecursion IsRecord c.removed
  pub added : AllByRecursion IsRecord c.added
  pub few : AreFew c.removed c.added
  pub formed : is_formed c ≡ true
