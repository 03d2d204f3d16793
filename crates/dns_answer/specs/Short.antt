-- The shortest form of what goes out for what a question found.
use Rattle.std.specs.Prelude.{◌≡◌, ℕ, Bool, List, [], ◌∷◌, ◌++◌}
use Rattle.dns_records.specs.Record.{Record}
use Rattle.dns_lookup.specs.Lookup.{Found}
use Rattle.dns_answer.specs.Sections.{records_of, answer_of, authority_of, additional_of}
use Rattle.dns_answer.specs.declared.with_address.Pair.{Pair}
use Rattle.dns_answer.specs.declared.with_address.Pair.TheVariants.{Answer, Server}
use Rattle.dns_wire.specs.Text.{Reply}
use Rattle.dns_answer.specs.declared.short.LentSections.{LentSections}
use Rattle.dns_answer.specs.declared.short.Short.{Short}
use Rattle.dns_answer.specs.declared.short.Short.TheVariants as form

-- The records of the three sections of the reply to what a question found.
pub record AreSectionsOf (t : ℕ) (found : List Found) (answer authority additional : List Record)
    : Type 0 where
  pub answers : records_of (answer_of t found) ≡ answer
  pub authorities : records_of (authority_of found) ≡ authority
  pub additionals : additional_of (answer_of t found ++ authority_of found) ≡ additional

-- What a short form says: the answer, the authority and the additional section. `All` says none.
abbrev pub sections_of : Short → List Record × List Record × List Record
sections_of (form.One r) = (r ∷ [], [], [])
sections_of (form.Soa r) = ([], r ∷ [], [])
sections_of (form.Pair (Answer r address)) = (r ∷ [], [], address ∷ [])
sections_of (form.Pair (Server r address)) = ([], r ∷ [], address ∷ [])
sections_of (form.Each records) = (records.items, [], [])
sections_of form.All = ([], [], [])

-- Unless it is `All`, they are the sections of the reply to what a question found.
abbrev pub IsShortOf : ℕ → List Found → Short → Type 0
IsShortOf t found short =
    let said = sections_of short in
    (short ≡ form.All → ⊥) → AreSectionsOf t found said.0 said.1 said.2

-- So it is with a pair, which is never `All`.
abbrev pub AreThePair : ℕ → List Found → Pair → Type 0
AreThePair t found two = let said = sections_of (form.Pair two) in AreSectionsOf t found said.0 said.1 said.2

-- A reply with lent sections.
abbrev pub with_lent : Reply → Bool → LentSections → Reply
with_lent reply aa lent =
    record reply {
      aa = aa;
      answer = lent.answer.now;
      authority = lent.authority.now;
      additional = lent.additional.now;
    }
