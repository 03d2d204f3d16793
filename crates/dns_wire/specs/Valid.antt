-- A reply that can be written so that it reads back.
use Rattle.std.specs.Prelude.{◌≡◌, ◌+◌, ◌<◌, ◌^◌, true, List, [], ◌∷◌, ◌++◌, length, map, take, slice_range}
use Rattle.std.specs.Prelude.{Option, Some, None, IfSome}
use Rattle.std.specs.List.{AllByRecursion}
use Rattle.std.specs.Char.{to_ascii_lowercase}
use Rattle.dns_names.specs.Name.{IsName, wire}
use Rattle.dns_records.specs.Record.{Record, IsRecord, number_of}
use Rattle.dns_records.specs.Types.{class_in}
use Rattle.dns_wire.specs.Message.{Question, ResourceRecord, Message}
use Rattle.dns_wire.specs.Text.{EchoedQuestion, Reply}

-- The octets of a question: its name in full, of any case, a type and a class (RFC 1035 4.1.2).
pub record IsEchoed (e : EchoedQuestion) : Type 0 where
  pub valid : IsName e.name
  pub size : length e.octets ≡ length (wire e.name) + 4
  pub name : map to_ascii_lowercase (take (length (wire e.name)) e.octets) ≡ wire e.name
  pub octets : AllByRecursion (λ octet. octet < 256) e.octets

-- The numbers fit the header (RFC 1035 4.1.1), and the records are records.
pub record IsReply (r : Reply) : Type 0 where
  pub id : r.id < 2 ^ 16
  pub opcode : r.opcode < 16
  pub rcode : r.rcode < 16
  pub question : IfSome r.question IsEchoed
  pub answer : length r.answer < 2 ^ 16
  pub authority : length r.authority < 2 ^ 16
  pub additional : length r.additional < 2 ^ 16
  pub records : AllByRecursion IsRecord (r.answer ++ r.authority ++ r.additional)

-- The message that the text of a reply is: a response, its records of class IN, its question as it came.
abbrev pub item_of : Record → ResourceRecord
item_of r = record { owner = r.owner; rtype = r.rtype; class = class_in; ttl = r.ttl; rdata = r.rdata }

abbrev pub question_of : EchoedQuestion → Question
question_of e =
    let n = length (wire e.name) in
    record {
      name = e.name;
      qtype = number_of (slice_range e.octets n (n + 2));
      qclass =
          number_of (slice_range e.octets (n + 2) (n + 4));
    }

abbrev pub questions_of : Option EchoedQuestion → List Question
questions_of None = []
questions_of (Some e) = question_of e ∷ []

abbrev pub message_of_reply : Reply → Message
message_of_reply r = record {
  header =
      record { id = r.id; qr = true; opcode = r.opcode; aa = r.aa; tc = r.tc; rd = r.rd; rcode = r.rcode };
  questions = questions_of r.question;
  answers = map item_of r.answer;
  authorities = map item_of r.authority;
  additionals = map item_of r.additional;
}
