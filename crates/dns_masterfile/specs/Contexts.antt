-- What entries say and leave, as it is stated.
use Rattle.std.specs.Prelude.{◌≡◌, ◌⊎◌, ℕ, Bool, true, false, List, [], ◌∷◌, Ok, Err}
use Rattle.dns_masterfile.specs.declared.FileError.{FileError}
use Rattle.dns_masterfile.specs.declared.FileError.TheVariants.{OutOfMemory}
use Rattle.dns_masterfile.specs.Pieces.{Word}
use Rattle.dns_masterfile.specs.Entries.{FileEntry}
use Rattle.dns_masterfile.specs.Left.{Left, no_words, entry_at}
use Rattle.dns_masterfile.specs.Reading.{ReadResult, directive_in}
use Rattle.dns_masterfile.specs.Meaning.{Context, Said, Nothing, Origin, Default, Item}
use Rattle.dns_masterfile.specs.declared.context.Context.{Context as Kept}
use Rattle.dns_masterfile.specs.declared.context.Said.{Said as Found}
use Rattle.dns_masterfile.specs.declared.context.Said.TheVariants as found

abbrev pub stated_context : Kept → Context
stated_context c = record { origin = c.origin; default = c.default; last = c.last; owner = c.owner }

abbrev pub stated_said : Found → Said
stated_said found.Nothing = Nothing
stated_said (found.Origin name) = Origin name
stated_said (found.Default ttl) = Default ttl
stated_said (found.Item r written) = Item r written

-- what an entry says whose first word is that of a directive, with the words that are left
abbrev pub directive_after : Kept → Word → Left → FileEntry → ReadResult Said
directive_after context word left = λ e. directive_in (stated_context context) e word left.words

-- The entry says that, whatever its line, and nothing of it is left.
abbrev pub SaysWhole : (FileEntry → ReadResult Said) → Bool → Left → Left → Found → Type 0
SaysWhole read blank old new said =
    ((line : ℕ) → read (entry_at line blank old) ≡ Ok (stated_said said)) × (new ≡ no_words true old.behind)

-- Memory was refused, or that is the entry's fault.
abbrev pub Faults : (FileEntry → ReadResult Said) → Bool → Left → FileError → Type 0
Faults read blank old e = (e ≡ OutOfMemory) ⊎ ((line : ℕ) → read (entry_at line blank old) ≡ Err e)

abbrev pub ended_at : Bool → List Word → Bool
ended_at whole [] = whole
ended_at whole (w ∷ rest) = false

-- No word is left, and no fault.
abbrev pub has_ended : Left → Bool
has_ended left = ended_at left.whole left.words
