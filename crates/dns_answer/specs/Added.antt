-- The sections of a reply in the code.
use Rattle.std.specs.Prelude.{◌≡◌, ◌⊎◌, ℕ, ◌+◌, ◌<◌, ◌≤◌, List, [], ◌++◌, length}
use Rattle.dns_wire.specs.Text.{Reply}
use Rattle.dns_records.specs.Record.{Record}
use Rattle.dns_lookup.specs.Lookup.{Found}
use Rattle.dns_answer.specs.Sections.{unseen, records_of, answer_of, authority_of, additional_of}
use Rattle.dns_answer.specs.declared.sections.Sections.{Sections}

-- Of some records, those that were nowhere in the reply are appended to its additional section, each once.
pub record AddsUnseen (before after : Sections) (records : List Record) : Type 0 where
  pub answer : after.answer.items ≡ before.answer.items
  pub authority : after.authority.items ≡ before.authority.items
  pub additional : after.additional.items
      ≡ before.additional.items
      ++ unseen ((before.answer.items ++ before.authority.items) ++ before.additional.items) records

-- How many records the sections have.
abbrev pub record_count : Sections → ℕ
record_count s = length s.answer.items + length s.authority.items + length s.additional.items

-- The same of the first of some records: of all of them, unless the sections have more records than so many.
-- Sections that have more stay.
pub record AddsUpTo (most : ℕ) (before after : Sections) (records : List Record) : Type 0 where
  pub first : List Record
  pub rest : List Record
  pub split : records ≡ first ++ rest
  pub added : AddsUnseen before after first
  pub stopped : (rest ≡ []) ⊎ (most < record_count after)
  pub idle : most < record_count before → first ≡ []

-- The sections are those of the reply to what a question found.
pub record AreReplySections (t : ℕ) (found : List Found) (s : Sections) : Type 0 where
  pub answer : s.answer.items ≡ records_of (answer_of t found)
  pub authority : s.authority.items ≡ records_of (authority_of found)
  pub additional : s.additional.items ≡ additional_of (answer_of t found ++ authority_of found)

-- How many records that reply has.
abbrev pub reply_count : ℕ → List Found → ℕ
reply_count t found =
    length (records_of (answer_of t found)) + length (records_of (authority_of found)) + length
    (additional_of (answer_of t found ++ authority_of found))

-- They are, unless that reply has more than so many records; the first two sections are in any case.
pub record AreSectionsUpTo (most t : ℕ) (found : List Found) (s : Sections) : Type 0 where
  pub answer : s.answer.items ≡ records_of (answer_of t found)
  pub authority : s.authority.items ≡ records_of (authority_of found)
  pub whole : record_count s ≤ most → AreReplySections t found s
  pub more : most < record_count s → most < reply_count t found

-- The reply is another without its additional section, or without any record.
abbrev pub IsWithoutAdditional : Reply → Reply → Type 0
IsWithoutAdditional less whole = less ≡ record whole { additional = [] }

abbrev pub IsWithoutRecords : Reply → Reply → Type 0
IsWithoutRecords less whole = less ≡ record whole { answer = []; authority = []; additional = [] }
