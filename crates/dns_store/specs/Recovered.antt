-- What is recovered from a journal.
use Rattle.std.specs.Prelude.{◌≡◌, ℕ, List, [], ◌∷◌, Result, MatchResult}
use Rattle.dns_records.specs.Record.{Record}
use Rattle.dns_zone.specs.Zone.{Zone}
use Rattle.dns_changes.specs.Change.{Change, IsChange}
use Rattle.dns_changes.specs.declared.ChangeError.{ChangeError}
use Rattle.dns_sectors.specs.declared.device.Sectors.{Ghosts}
use Rattle.dns_layout.specs.Journal.{Entry, place_behind, version_behind, open_behind}
use Rattle.dns_layout.specs.declared.format.Format.{Format}
use Rattle.dns_journal.specs.Reads.{EachOriginal, ReadsFrom}
use Rattle.dns_journal.specs.declared.read.Cursor.{Cursor}
use Rattle.dns_store.specs.Versions.{Versions, newest_after}
use Rattle.dns_store.specs.Opens.{AreChangesIn}

-- The changes lead from a version to the next, and so on.
abbrev pub AreLed : List Record → Versions → List Change → Type 0
AreLed before [] [] = Unit {0}
AreLed before (v ∷ vs) (c ∷ cs) = IsChange before v c × AreLed v vs cs
AreLed before [] (c ∷ cs) = ⊥
AreLed before (v ∷ vs) [] = ⊥

-- The newest of the versions after the base, and the changes that lead to it; the cursor is past the entries.
pub record IsNewestRecovered (old new : Cursor) (base : List Record) (vs : Versions) (es : List Entry)
    (newest : List Record) (changes : List Change)
    : Type 0 where
  pub newest_is : newest ≡ newest_after base vs
  pub led : AreLed base vs changes
  pub position : new.at ≡ place_behind old.at es
  pub version_is : new.version ≡ version_behind old.version es
  pub opened_is : new.opened ≡ open_behind old.opened es

-- Of each content of which an honest device's is an altered one, and the versions after the base that its
-- entries from the cursor on hold, P.
abbrev pub EachJournal : {D : Type 0} → Ghosts D → Format → D → Cursor → Zone → ℕ
    → (Versions → List Entry → Type 0) → Type 0
EachJournal g f device cursor base room P =
    EachOriginal g f device
    (λ c. (vs : Versions) (es : List Entry) → ReadsFrom f cursor c es
    → AreChangesIn f base.apex room base.records vs es
    → P vs es)

-- What comes has P, unless memory is refused.
abbrev pub GivenMemory : {X : Type 0} → Result X ChangeError → (X → Type 0) → Type 0
GivenMemory result P = MatchResult result P (λ e. e ≡ ChangeError.OutOfMemory)
