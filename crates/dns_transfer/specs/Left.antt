-- The form in the code, and what is left of an answer at a position in it.
use Rattle.std.specs.Prelude.{◌≡◌, ℕ, drop, List, [], ◌∷◌, ◌++◌}
use Rattle.dns_records.specs.Record.{Record}
use Rattle.dns_changes.specs.Change.{Change}
use Rattle.dns_transfer.specs.Form.{Form, Current, Incremental, Full}
use Rattle.dns_transfer.specs.Records.{transfer_answer, all_but_soa, sequences}
use Rattle.dns_transfer.specs.declared.form.Form as code
use Rattle.dns_transfer.specs.declared.form.Form.TheVariants as form
use Rattle.dns_transfer.specs.declared.unsent.Place.{Place}
use Rattle.dns_transfer.specs.declared.unsent.Place.TheVariants.{Opening, Zone, Sequence, End}

-- Changes are identified by the number of the first among those that are kept.
abbrev pub stated_form : List Change → code.Form → Form
stated_form changes form.Current = Current
stated_form changes (form.Incremental first) = Incremental (drop first changes)
stated_form changes form.Full = Full

-- The records of the changes from one on, but for so many.
abbrev pub left_in : List Change → ℕ → ℕ → List Record
left_in changes number behind = drop behind (sequences (drop number changes))

-- The records of an answer that are left.
abbrev pub left_at : Record → List Record → List Change → Place → List Record
left_at soa records changes (Opening form) = transfer_answer soa records (stated_form changes form)
left_at soa records changes (Zone position) = all_but_soa (drop position records) ++ soa ∷ []
left_at soa records changes (Sequence number behind) = left_in changes number behind ++ soa ∷ []
left_at soa records changes End = []

-- An answer for a zone of that SOA, those records and those changes, and a position in it.
pub record Remaining : Type 0 where
  pub soa : Record
  pub records : List Record
  pub changes : List Change
  pub position : Place

abbrev pub left_of : Remaining → List Record
left_of r = left_at r.soa r.records r.changes r.position

-- Within the zone, its records from the position on are ready.
abbrev pub AreRecordsReady : Place → List Record → List Record → Type 0
AreRecordsReady position ready records = (at : ℕ) → position ≡ Zone at → ready ≡ drop at records
