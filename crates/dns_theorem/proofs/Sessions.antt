-- The session that is opened for a request sends the transfer for what is held.
use Rattle.std.proofs.Common.{◌≡◌, ℕ, ◌+◌, ◌-◌, ◌≤◌, true, false, not, ◌&&◌, List, [], ◌∷◌, ◌++◌, length, map, take, drop, Option, Some, None, refl, sym, ap, subst, ◌∙◌, arith}
use Rattle.std.specs.Prelude.{◌==◌, slice_range, if◌then◌else◌}
use Rattle.std.specs.Option.{option_map}
use Rattle.std.proofs.Math.Bool.{Bool-set}
use Rattle.std.proofs.Math.Logic.{∥∥₁_elim}
use Rattle.std.proofs.lemmas.Bool.Decides.{nat_tests}
use Rattle.std.proofs.lemmas.List.{drop_at, take_at, length-append}
use Rattle.dns_names.specs.Name.{Labels, IsName, wire, names_eq}
use Rattle.dns_records.specs.Types.{type_soa}
use Rattle.dns_records.specs.Record.{Record, serial_of}
use Rattle.dns_zone.specs.Order.{names_itself}
use Rattle.dns_zone.specs.Zone.{Zone, IsZone, soas}
use Rattle.dns_zone.proofs.OneSoa.{is_one, zone_soa}
use Rattle.dns_changes.specs.Change.{Change, is_soa}
use Rattle.dns_changes.specs.Version.{serial_in}
use Rattle.dns_wire.specs.Compress.{new_places, compressed_records}
use Rattle.dns_wire.specs.Echo.{echo_of}
use Rattle.dns_wire.specs.Message.{ResourceRecord, record_of_item}
use Rattle.dns_wire.specs.Text.{EchoedQuestion}
use Rattle.dns_wire.specs.Valid.{item_of}
use Rattle.dns_request.specs.declared.request.Transport.{Transport}
use Rattle.dns_request.specs.declared.request.Transport.TheVariants.{Udp, Tcp}
use Rattle.dns_transfer.specs.Messages.{Heading, IsNextMessage, AreMessages, datagram_of}
use Rattle.dns_transfer.specs.Records.{transfer_of}
use Rattle.dns_transfer.specs.Refusal.{is_client_soa, client_serial, serial_asked}
use Rattle.dns_transfer.specs.Session.{Sending, SendsBy, IsTransferOpened}
use Rattle.dns_secondary.specs.Request.{question_asked, soas_held, heading_octets, asked_octets, request_octets, request_message}
use Rattle.dns_secondary.proofs.Asked.{asked, four, octets_are}
use Rattle.dns_update.proofs.Serials.{soa_long}
use Rattle.dns_theorem.specs.Copies.{IsFollowed, SendsAll, serial_held, answer_for}
use Rattle.dns_theorem.proofs.Chains.{first_zone}
use Rattle.dns_theorem.proofs.Serials.{kept_soa}

not_empty : (rdata : List ℕ) → 20 ≤ length rdata → not (length rdata == 0) ≡ true
not_empty rdata h = grind (arith, nat_tests)

number_is : (a b : ℕ) → (a == b) ≡ true → a ≡ b
number_is a b e = grind (arith, nat_tests)

-- the data of a zone's SOA
soa_filled : (z : Zone) (soa : Record) → IsZone z → soas z.records ≡ soa ∷ [] → is_soa soa ≡ true → not (length soa.rdata == 0) ≡ true
soa_filled z soa valid one is =
    ∥∥₁_elim valid.each (Bool-set (not (length soa.rdata == 0)) true)
    (λ all. not_empty soa.rdata (soa_long soa (kept_soa z.records soa one all) (number_is soa.rtype type_soa is)))

-- a server reads the serial of the version that is held
client_is : (apex : Labels) (z : Zone) → IsZone (record { apex = apex; records = z.records })
    → client_serial (question_asked apex (Some z)) (map item_of (soas z.records)) ≡ Some (serial_in (soas z.records))
client_is apex z valid =
    let zone : Zone = record { apex = apex; records = z.records } in
    let h = zone_soa zone valid in
    let q = question_asked apex (Some z) in
    let is = is_one apex z.records h in
    let filled = soa_filled zone h.soa valid h.one is in
    let owned : names_eq (h.soa).owner apex ≡ true = ap (λ n. names_eq n apex) h.owner ∙ names_itself apex in
    let client : is_client_soa q (item_of h.soa) ≡ true = (λ i. owned i && is i && true && filled i) in
    ap (λ (rs : List Record). client_serial q (map item_of rs)) h.one
    ∙ ap (λ b. option_map (λ (i : ResourceRecord). serial_of (record_of_item i)) (if b then Some (item_of h.soa) else None)) client
    ∙ ap (λ (rs : List Record). Some (serial_in rs)) (sym h.one)

pub serial_is : (apex : Labels) (held : Option Zone) (kept : List Change) (shown : List Record) → IsFollowed apex held kept shown
    → serial_asked (question_asked apex held) (client_serial (question_asked apex held) (map item_of (soas_held held))) ≡ serial_held held
serial_is apex None kept shown f = refl
serial_is apex (Some z) kept shown f = client_is apex z (first_zone apex z.records f.0 shown f.1)

-- the question of a request as it is repeated
pub echo_is : (apex : Labels) (held : Option Zone) (id : ℕ) → echo_of (request_octets apex held id) (question_asked apex held) ≡ asked (question_asked apex held)
echo_is apex held id =
    let q = question_asked apex held in
    let rest = compressed_records (new_places [] 12 q.name) (12 + length (asked_octets q)) (soas_held held) in
    let head = heading_octets id (length (soas_held held)) in
    let n = length (wire q.name) in
    let size : n + 4 ≡ length (asked_octets q) = sym (ap length (octets_are q) ∙ length-append (wire q.name) (four q)) in
    let span : 12 + n + 4 - 12 ≡ n + 4 = omega arith in
    let pending : drop 12 (request_octets apex held id) ≡ asked_octets q ++ rest = drop_at head (asked_octets q ++ rest) 12 refl in
    let octets : slice_range (request_octets apex held id) 12 (12 + n + 4) ≡ asked_octets q =
    ap (λ k. take k (drop 12 (request_octets apex held id))) span ∙ ap (take (n + 4)) pending ∙ take_at (asked_octets q) rest (n + 4) (sym size) in
    λ i. record { octets = octets i; name = q.name }

pub record IsOpenedFor (transport : Transport) (apex : Labels) (held : Option Zone) (id : ℕ) (kept : List Change) (shown : List Record) (s : Sending) : Type 0 where
  pub by : s.transport ≡ transport
  pub heading : s.heading ≡ record { id = id; rd = false }
  pub question : s.question ≡ Some (asked (question_asked apex held))
  pub soa : soas shown ≡ s.soa ∷ []
  pub left : s.left ≡ answer_for held kept shown

pub opened_for : (transport : Transport) (apex : Labels) (held : Option Zone) (id : ℕ) (kept : List Change) (shown : List Record) (s : Sending) → IsName apex → IsFollowed apex held kept shown
    → IsTransferOpened transport (request_octets apex held id) (request_message apex held id) (question_asked apex held) (record { zone = record { apex = apex; records = shown }; changes = kept }) s
    → IsOpenedFor transport apex held id kept shown s
opened_for transport apex held id kept shown s named f opened = record {
  by = opened.by;
  heading = opened.heading;
  question = opened.question ∙ ap (λ (e : EchoedQuestion). Some e) (echo_is apex held id);
  soa = opened.soa;
  left = opened.left ∙ ap (transfer_of shown kept) (serial_is apex held kept shown f);
}

-- what a session sends are the messages of its records
pub sent_messages : (s : Sending) (messages : List (List ℕ)) → s.transport ≡ Tcp → SendsAll s messages → AreMessages s.heading s.question s.left messages
sent_messages s [] by all = all
sent_messages s (message ∷ messages) by all =
    let next = all.1 in
    let sends = all.2 in
    let one : IsNextMessage s.heading s.question s.left message next.left = subst (λ t. SendsBy t s message next.left) by sends.1 in
    let by_next : next.transport ≡ Tcp = ap (λ (x : Sending). x.transport) sends.0 ∙ by in
    let heading : next.heading ≡ s.heading = ap (λ (x : Sending). x.heading) sends.0 in
    let question : next.question ≡ None = ap (λ (x : Sending). x.question) sends.0 in
    let more = sent_messages next messages by_next all.3 in (
      all.0,
      next.left,
      one,
      subst (λ (h : Heading). AreMessages h None next.left messages) heading
          (subst (λ (o : Option EchoedQuestion). AreMessages next.heading o next.left messages) question more),
    )

-- by UDP there is one message
nothing_sent : (s : Sending) (messages : List (List ℕ)) → s.left ≡ [] → SendsAll s messages → messages ≡ []
nothing_sent s [] none all = refl
nothing_sent s (message ∷ messages) none all = absurd (all.0 none)

pub record IsOneSent (s : Sending) (before : List (List ℕ)) (message : List ℕ) (pending : List (List ℕ)) : Type 0 where
  pub first : before ≡ []
  pub last : pending ≡ []
  pub is : message ≡ datagram_of s.heading s.question s.left s.soa

one_sent : (s : Sending) (message : List ℕ) (rest : List (List ℕ)) → s.transport ≡ Udp → SendsAll s (message ∷ rest)
    → (rest ≡ []) × (message ≡ datagram_of s.heading s.question s.left s.soa)
one_sent s message rest by all =
    let sends : SendsBy Udp s message (all.1).left = subst (λ t. SendsBy t s message (all.1).left) by (all.2).1 in
    (nothing_sent all.1 rest sends.1 all.3, sends.0)

pub only_sent : (s : Sending) (before : List (List ℕ)) (message : List ℕ) (pending : List (List ℕ)) → s.transport ≡ Udp
    → SendsAll s (before ++ message ∷ pending) → IsOneSent s before message pending
only_sent s [] message pending by all = (let one = one_sent s message pending by all in record { first = refl; last = one.0; is = one.1 })
only_sent s (first ∷ []) message pending by all = (let one = one_sent s first (message ∷ pending) by all in let none = one.0 in absurd cc)
only_sent s (first ∷ second ∷ before) message pending by all =
    let one = one_sent s first (second ∷ (before ++ message ∷ pending)) by all in let none = one.0 in absurd cc
