-- A message while its answer is filled.
use Rattle.std.specs.Prelude.{◌≡◌, ℕ, ◌+◌, ◌≤◌, List, [], ◌∷◌, ◌++◌, length}
use Rattle.dns_records.specs.Record.{Record}
use Rattle.dns_wire.specs.Compress.{Place, Compressing}
use Rattle.dns_wire.specs.Text.{Reply, question_octets, question_places}
use Rattle.dns_wire.specs.Puts.{compressed_all}

-- What the message says so far, and how many octets it may have.
pub record Building : Type 0 where
  pub reply : Reply
  pub limit : ℕ

-- One more record, last in the answer.
abbrev pub with_record : Reply → Record → Reply
with_record reply r = record reply { answer = reply.answer ++ r ∷ [] }

-- A reply that has no record yet.
pub record HasNoRecord (reply : Reply) : Type 0 where
  pub answer : reply.answer ≡ []
  pub authority : reply.authority ≡ []
  pub additional : reply.additional ≡ []

-- The answer of a reply, compressed, after its question.
abbrev pub compressed_answer : Reply → Compressing
compressed_answer reply =
    compressed_all (question_places reply) (12 + length (question_octets reply)) reply.answer

-- After 12 octets for the header, the octets are those of the reply.
pub record IsReplyBuilt (reply : Reply) (octets : List ℕ) : Type 0 where
  pub authority : reply.authority ≡ []
  pub additional : reply.additional ≡ []
  pub head : List ℕ
  pub header : length head ≡ 12
  pub written : octets ≡ (head ++ question_octets reply) ++ (compressed_answer reply).octets
  pub low : length octets ≤ 16384

-- So far the message has these octets, and the table of targets is that after them.
pub record StandsBuilt (b : Building) (octets : List ℕ) (places : List Place) : Type 0 where
  pub built : IsReplyBuilt b.reply octets
  pub table : places ≡ (compressed_answer b.reply).places
  pub low : b.limit ≤ 16384
  pub fits : length octets ≤ b.limit
