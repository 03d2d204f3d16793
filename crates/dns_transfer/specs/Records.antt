-- The records of the answer to a transfer, in order.
use Rattle.std.specs.Prelude.{ℕ, not, List, [], ◌∷◌, ◌++◌, filter, Option}
use Rattle.std.specs.List.{flat_map}
use Rattle.dns_records.specs.Record.{Record, serial_of}
use Rattle.dns_zone.specs.Zone.{soas}
use Rattle.dns_changes.specs.Change.{Change, is_soa}
use Rattle.dns_transfer.specs.Form.{Form, Current, Incremental, Full, form_of}

-- The old SOA, what goes, the new SOA, what comes (RFC 1995 4).
abbrev pub sequence : Change → List Record
sequence c = c.old_soa ∷ c.removed ++ c.new_soa ∷ c.added

abbrev pub sequences : List Change → List Record
sequences changes = flat_map sequence changes

-- The records of a zone but its SOA: glue and what is below a cut among them (RFC 5936 2.2, 3.2).
abbrev pub all_but_soa : List Record → List Record
all_but_soa records = filter (λ r. not (is_soa r)) records

-- The answer for a zone of these records, in order, and that SOA: it comes first and last (RFC 1995 4,
-- RFC 5936 2.2).
abbrev pub transfer_answer : Record → List Record → Form → List Record
transfer_answer soa records Current = soa ∷ []
transfer_answer soa records (Incremental changes) = soa ∷ sequences changes ++ soa ∷ []
transfer_answer soa records Full = soa ∷ all_but_soa records ++ soa ∷ []

-- The records of a transfer from a zone of these records, to which these changes lead, for a client that has
-- a serial.
abbrev pub transfer_from : List Record → List Record → List Change → Option ℕ → List Record
transfer_from [] records changes client = []
transfer_from (soa ∷ rest) records changes client =
    transfer_answer soa records (form_of (serial_of soa) changes client)

abbrev pub transfer_of : List Record → List Change → Option ℕ → List Record
transfer_of records changes client = transfer_from (soas records) records changes client
