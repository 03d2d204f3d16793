-- What a request is read as: its own octets, or others that ask for the same.
use Rattle.std.proofs.Common.{◌≡◌, ◌+◌, ◌-◌, ◌<◌, ◌≤◌, ◌^◌, inl, inr, ℕ, zero, suc, List, [], ◌∷◌, length, take, drop, Option, Some, refl, sym, ap, subst, ◌∙◌, arith}
use Rattle.std.specs.Prelude.{IfSome, slice_range}
use Rattle.std.specs.List.{AllByRecursion}
use Rattle.std.proofs.lemmas.List.{take-take, drop-drop}
use Rattle.dns_names.specs.Name.{IsName, wire}
use Rattle.dns_records.specs.Types.{type_soa}
use Rattle.dns_records.specs.Record.{Record, IsRecord, number_of, serial_of}
use Rattle.dns_zone.specs.Zone.{soas}
use Rattle.dns_changes.specs.Change.{Change}
use Rattle.dns_wire.specs.Echo.{echo_of}
use Rattle.dns_wire.specs.Message.{Question, Message}
use Rattle.dns_wire.specs.Reads.{Reads, QuestionsAt}
use Rattle.dns_wire.specs.Reading.{message_of}
use Rattle.dns_wire.specs.Text.{EchoedQuestion}
use Rattle.dns_wire.specs.Valid.{IsEchoed, question_of}
use Rattle.dns_wire.proofs.QuestionsSent.{echoed}
use Rattle.dns_wire.proofs.ReadsBack.{reads_back}
use Rattle.dns_wire.proofs.Shown.{first_name}
use Rattle.dns_wire.proofs.Whole.{message_is}
use Rattle.dns_request.specs.declared.request.Transport.{Transport}
use Rattle.dns_transfer.specs.Form.{Form, Current, Incremental, Full, form_of}
use Rattle.dns_transfer.specs.Messages.{Heading}
use Rattle.dns_transfer.specs.Records.{transfer_answer, transfer_from, transfer_of}
use Rattle.dns_transfer.specs.Refusal.{client_serial, serial_asked}
use Rattle.dns_transfer.specs.Session.{Sending, IsTransferOpened}
use Rattle.dns_update.proofs.Accepted.{as_octets}
use Rattle.dns_secondary.specs.Receiving.{Receiving}
use Rattle.dns_secondary.specs.Request.{question_asked, soas_held, request_message, request_octets}
use Rattle.dns_secondary.proofs.Asked.{asked, asked_reads, is_echoed, question_is, type_small}
use Rattle.dns_store.specs.Versions.{shown_of}
use Rattle.dns_primary.specs.Machine.{ZoneState, kept_of}
use Rattle.dns_primary.specs.Transfer.{transfer_version}
use Rattle.dns_theorem.specs.Copies.{IsFollowed, serial_held}
use Rattle.dns_theorem.specs.Headline.{AsksBy, IsRequestFor}
use Rattle.dns_theorem.specs.Followed.{HasSoundVersions}
use Rattle.dns_theorem.proofs.Chained.{transfer_valid}
use Rattle.dns_theorem.proofs.Fed.{Asks, IsSessionFor}
use Rattle.dns_theorem.proofs.Sessions.{echo_is, serial_is}
use Rattle.dns_theorem.proofs.Shown.{IsFewSoas, kept, kept_valid, whole}

-- ---- the question that is repeated
take_none : (k : ℕ) → ◌≡◌ {A = List ℕ} (take k []) []
take_none zero = refl
take_none (suc k) = refl

drop_taken : (a k total : ℕ) (ys : List ℕ) → total ≡ a + k → drop a (take total ys) ≡ take k (drop a ys)
drop_taken zero k total ys e = (let same : total ≡ k = omega (arith, e) in ap (λ n. take n ys) same)
drop_taken (suc a) k zero ys e = absurd (omega (arith, e))
drop_taken (suc a) k (suc total) [] e = sym (take_none k)
drop_taken (suc a) k (suc total) (y ∷ ys) e = drop_taken a k total ys (omega (arith, e))

part_of : (from a c b : ℕ) (xs : List ℕ) → a ≤ c → c ≤ b → slice_range (slice_range xs from (from + b)) a c ≡ slice_range xs (from + a) (from + c)
part_of from a c b xs up within =
    let long : from + b - from ≡ a + (b - a) = omega (arith, up, within) in
    let less : c - a ≤ b - a = omega (arith, up, within) in
    let size : c - a ≡ from + c - (from + a) = omega arith in
    ap (take (c - a)) (drop_taken a (b - a) (from + b - from) (drop from xs) long)
    ∙ take-take (c - a) (b - a) (drop a (drop from xs)) less
    ∙ ap (take (c - a)) (drop-drop a from xs)
    ∙ ap (λ n. take n (drop (from + a) xs)) size

shift : (n : ℕ) → 12 + n + 4 ≡ 12 + (n + 4)
shift n = omega arith

over : (n : ℕ) → 12 + (n + 2) ≡ 12 + n + 2
over n = omega arith

further : (n : ℕ) → 12 + (n + 4) ≡ 12 + n + 2 + 2
further n = omega arith

echo_question : (octets : List ℕ) (m : Message) (q : Question) → Reads octets m → m.questions ≡ q ∷ [] → question_of (echo_of octets q) ≡ q
echo_question octets m q reads one = go (subst (λ (qs : List Question). QuestionsAt octets 12 qs reads.first) one reads.questions)
  where
    go : QuestionsAt octets 12 (q ∷ []) reads.first → question_of (echo_of octets q) ≡ q
    go (mid, first, e) =
        let n = length (wire q.name) in
        let size : first.mid ≡ 12 + n = first_name first.name.stands in
        let qtype : number_of (slice_range (slice_range octets 12 (12 + n + 4)) n (n + 2)) ≡ q.qtype =
        ap (λ (k : ℕ). number_of (slice_range (slice_range octets 12 k) n (n + 2))) (shift n)
        ∙ ap number_of (part_of 12 n (n + 2) (n + 4) octets (omega arith) (omega arith))
        ∙ ap (λ (k : ℕ). number_of (slice_range octets (12 + n) k)) (over n)
        ∙ ap (λ (k : ℕ). number_of (slice_range octets k (k + 2))) (sym size)
        ∙ sym first.qtype.read in
        let qclass : number_of (slice_range (slice_range octets 12 (12 + n + 4)) (n + 2) (n + 4)) ≡ q.qclass =
        ap (λ (k : ℕ). number_of (slice_range (slice_range octets 12 k) (n + 2) (n + 4))) (shift n)
        ∙ ap number_of (part_of 12 (n + 2) (n + 4) (n + 4) octets (omega arith) (omega arith))
        ∙ (λ i. number_of (slice_range octets (over n i) (further n i)))
        ∙ ap (λ (k : ℕ). number_of (slice_range octets (k + 2) (k + 2 + 2))) (sym size)
        ∙ sym first.qclass.read in
        λ i. record { name = q.name; qtype = qtype i; qclass = qclass i }

-- ---- the request
request_reads : (s : Receiving) → IsName s.apex → s.id < 2 ^ 16 → length (soas_held s.held) < 2 ^ 16 → AllByRecursion IsRecord (soas_held s.held)
    → AllByRecursion (λ r. r.rtype ≡ type_soa) (soas_held s.held) → Reads (request_octets s.apex s.held s.id) (request_message s.apex s.held s.id)
request_reads s named small few each soas =
    asked_reads (question_asked s.apex s.held) s.id (soas_held s.held) reads_back named (type_small s.held) (omega arith) small few each soas

some_message : (a b : Message) → ◌≡◌ {A = Option Message} (Some a) (Some b) → a ≡ b
some_message a b e = cc

one_question : (a b : Question) → a ∷ [] ≡ b ∷ [] → a ≡ b
one_question a b e = cc

-- What is read asks for the transfer.
pub record IsAsked (s : Receiving) (octets : List ℕ) (m : Message) (q : Question) : Type 0 where
  pub number : m.header.id ≡ s.id
  pub question : q ≡ question_asked s.apex s.held
  pub echoed : IsEchoed (echo_of octets (question_asked s.apex s.held))
  pub repeats : question_of (echo_of octets (question_asked s.apex s.held)) ≡ question_asked s.apex s.held

-- ... and tells the serial of what is held
abbrev pub TellsSerial : Receiving → Message → Type 0
TellsSerial s m = serial_asked (question_asked s.apex s.held) (client_serial (question_asked s.apex s.held) m.authorities) ≡ serial_held s.held

module _ (s : Receiving) (named : IsName s.apex) (number : s.id < 2 ^ 16) (few : IsFewSoas (soas_held s.held)) (octets : List ℕ) (m : Message) (q : Question)
    (read : message_of octets ≡ Some m) (one : m.questions ≡ q ∷ []) where
  own_message : octets ≡ request_octets s.apex s.held s.id → m ≡ request_message s.apex s.held s.id
  own_message is =
      let reads = request_reads s named number few.few few.each few.are in
      some_message m (request_message s.apex s.held s.id) (sym read ∙ ap message_of is ∙ message_is (request_octets s.apex s.held s.id) (request_message s.apex s.held s.id) reads)

  other_message : (r : IsRequestFor s octets) → m ≡ r.message
  other_message r = some_message m r.message (sym read ∙ message_is octets r.message r.reads)

  pub asked_by : AsksBy s octets → IsAsked s octets m q
  asked_by (inl is) =
      let same = own_message is in
      let echo : echo_of octets (question_asked s.apex s.held) ≡ asked (question_asked s.apex s.held) =
      ap (λ (xs : List ℕ). echo_of xs (question_asked s.apex s.held)) is ∙ echo_is s.apex s.held s.id in
      record {
        number = ap (λ (x : Message). x.header.id) same;
        question = one_question q (question_asked s.apex s.held) (sym one ∙ ap (λ (x : Message). x.questions) same);
        echoed = subst IsEchoed (sym echo) (is_echoed (question_asked s.apex s.held) named);
        repeats = ap question_of echo ∙ question_is (question_asked s.apex s.held) (type_small s.held) (omega arith);
      }
  asked_by (inr r) =
      let same = other_message r in
      record {
        number = ap (λ (x : Message). x.header.id) same ∙ r.number;
        question = one_question q (question_asked s.apex s.held) (sym one ∙ ap (λ (x : Message). x.questions) same ∙ r.question);
        echoed = echoed octets (as_octets octets r.octal) r.message (question_asked s.apex s.held) r.reads r.question;
        repeats = echo_question octets r.message (question_asked s.apex s.held) r.reads r.question;
      }

  pub tells_serial : (cs : List Change) (set : List Record) → IsFollowed s.apex s.held cs set → AsksBy s octets → TellsSerial s m
  tells_serial cs set followed (inl is) =
      ap (λ (x : Message). serial_asked (question_asked s.apex s.held) (client_serial (question_asked s.apex s.held) x.authorities)) (own_message is)
      ∙ serial_is s.apex s.held cs set followed
  tells_serial cs set followed (inr r) =
      ap (λ (x : Message). serial_asked (question_asked s.apex s.held) (client_serial (question_asked s.apex s.held) x.authorities)) (other_message r) ∙ r.serial

-- ---- the session that it opens
pub some_left : (s : Sending) (kept : List Change) (shown : List Record) (client : Option ℕ) → soas shown ≡ s.soa ∷ [] → s.left ≡ transfer_of shown kept client → s.left ≡ [] → ⊥
some_left s kept shown client one left none = go (form_of (serial_of s.soa) kept client) from
  where
    from : transfer_answer s.soa shown (form_of (serial_of s.soa) kept client) ≡ []
    from = sym (ap (λ (ss : List Record). transfer_from ss shown kept client) one) ∙ sym left ∙ none

    go : (f : Form) → transfer_answer s.soa shown f ≡ [] → ⊥
    go Current e = absurd cc
    go (Incremental cs) e = absurd cc
    go Full e = absurd cc

pub session_for : (s : Receiving) (transport : Transport) (octets : List ℕ) (m : Message) (q : Question) (w : ZoneState) (k : HasSoundVersions w) (sending : Sending)
    → s.transport ≡ transport → s.id < 2 ^ 16 → IsAsked s octets m q → TellsSerial s m → IsTransferOpened transport octets m q (transfer_version w) sending
    → IsSessionFor s (kept w k) (shown_of (kept_of w)) sending
session_for s transport octets m q w k sending by small a serial o =
    let asks = question_asked s.apex s.held in
    let number : (sending.heading).id ≡ s.id = ap (λ (h : Heading). h.id) o.heading ∙ a.number in
    let question : sending.question ≡ Some (echo_of octets asks) = o.question ∙ ap (λ (x : Question). Some (echo_of octets x)) a.question in
    let left : sending.left ≡ transfer_of (shown_of (kept_of w)) (kept w k) (serial_held s.held) =
    o.left ∙ ap (λ (x : Question). transfer_of (shown_of (kept_of w)) (kept w k) (serial_asked x (client_serial x m.authorities))) a.question
    ∙ ap (transfer_of (shown_of (kept_of w)) (kept w k)) serial in
    record {
      by = o.by ∙ sym by;
      number = number;
      small = subst (λ n. n < 2 ^ 16) (sym number) small;
      echoed = subst (λ (e : Option EchoedQuestion). IfSome e IsEchoed) (sym question) a.echoed;
      asks = subst (Asks s) (sym question) a.repeats;
      soa = o.soa;
      left = left;
      each = subst (AllByRecursion IsRecord) (sym left) (transfer_valid (shown_of (kept_of w)) (kept w k) (serial_held s.held) (whole w k).each (kept_valid w k));
    }
