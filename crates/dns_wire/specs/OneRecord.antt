-- A reply whose answer is one record under the name of its question.
use Rattle.std.specs.Prelude.{ℕ, ◌+◌, Bool, true, false, List, [], ◌∷◌, ◌++◌, Some}
use Rattle.std.specs.Int.{w16, w32, to_be_bytes}
use Rattle.dns_records.specs.Types.{class_in}
use Rattle.dns_records.specs.Record.{Record}
use Rattle.dns_wire.specs.Compress.{pointer}
use Rattle.dns_wire.specs.Text.{Reply, one_if}
use Rattle.dns_wire.specs.Reply.{echo}
use Rattle.dns_wire.specs.declared.reply.EchoedQuestion.{EchoedQuestion}

-- The reply: QUERY, AA, NOERROR, and the record under the name of the question.
abbrev pub one_answer : ℕ → Bool → EchoedQuestion → Record → Reply
one_answer id rd question r = record {
  id = id;
  opcode = 0;
  aa = true;
  tc = false;
  rd = rd;
  rcode = 0;
  question = echo (Some question);
  answer = record r { owner = question.name } ∷ [];
  authority = [];
  additional = [];
}

-- Its header (RFC 1035 4.1.1): QR and AA, one question, one answer.
abbrev pub answer_header : ℕ → Bool → List ℕ
answer_header id rd =
    to_be_bytes w16 id ++ (132 + one_if rd) ∷ 0 ∷ to_be_bytes w16 1 ++ to_be_bytes w16 1 ++ to_be_bytes w16 0
    ++ to_be_bytes w16 0

-- The octets of a record before its data, whose owner is a pointer to the name after the header.
abbrev pub record_head : ℕ → ℕ → ℕ → List ℕ
record_head rtype ttl size =
    pointer 12 ++ to_be_bytes w16 rtype ++ to_be_bytes w16 class_in ++ to_be_bytes w32 ttl
    ++ to_be_bytes w16 size
