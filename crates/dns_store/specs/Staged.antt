-- What a staged version takes of the journal.
use Rattle.std.proofs.Common.{◌≡◌, suc, List, [], ◌∷◌, ◌++◌, length, refl, sym, ◌∙◌, ap}
use Rattle.dns_records.specs.Record.{Record}
use Rattle.dns_changes.specs.Change.{Change, IsChange}
use Rattle.dns_changes.specs.Entry.{entry}
use Rattle.dns_layout.specs.Sector.{entry_sectors}
use Rattle.dns_store.specs.Versions.{Versions, newest_after}
use Rattle.dns_store.specs.Room.{sectors_by, entry_between, entries_along}

pub entry_is : (before after : List Record) (c : Change)
    → IsChange before after c
    → entry_between before after ≡ entry_sectors (length (entry c))
entry_is before after c h =
    (λ i. sectors_by before after (h.old_soa i) (h.new_soa i))
    ∙ sym (λ i. entry_sectors (length (entry (record {
      old_soa = c.old_soa;
      removed = h.removed i;
      new_soa = c.new_soa;
      added = h.added i;
    }))))

pub entries_length : (first : List Record) (vs : Versions) → length (entries_along first vs) ≡ length vs
entries_length first [] = refl
entries_length first (w ∷ vs) = ap suc (entries_length w vs)

pub newest_append : (first : List Record) (vs : Versions) (v : List Record)
    → newest_after first (vs ++ v ∷ []) ≡ v
newest_append first [] v = refl
newest_append first (w ∷ vs) v = newest_append w vs v
