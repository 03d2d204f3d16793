-- The octets of a request read as the request.
use Rattle.std.proofs.Common.{◌≡◌, ℕ, ◌+◌, ◌-◌, ◌<◌, ◌^◌, false, List, [], ◌∷◌, ◌++◌, length, map, take, drop, Some, refl, sym, ap, subst, ◌∙◌, arith, append_assoc}
use Rattle.std.specs.Prelude.{slice_range, slice_set, Option, None}
use Rattle.std.specs.Int.{w16, to_be_bytes}
use Rattle.std.specs.Char.{to_ascii_lowercase}
use Rattle.std.specs.List.{AllByRecursion}
use Rattle.std.proofs.lemmas.List.{length-append, append-nil, drop-drop, drop_at}
use Rattle.std.proofs.Math.Seq.{take-append_seam}
use Rattle.dns_names.specs.Name.{IsName, wire}
use Rattle.dns_names.specs.PlainLaws.{wire_lower}
use Rattle.dns_names.specs.PlainOctets.{octets-append, wire_octets}
use Rattle.dns_records.specs.Types.{type_soa}
use Rattle.dns_records.specs.Record.{Record, IsRecord, number_of}
use Rattle.dns_wire.specs.Message.{Question, Message, header_of}
use Rattle.dns_wire.specs.Text.{EchoedQuestion, Reply, text}
use Rattle.dns_wire.specs.Compress.{new_places, compressed_records}
use Rattle.dns_wire.specs.Valid.{IsEchoed, IsReply, item_of, question_of, message_of_reply}
use Rattle.dns_wire.specs.Reads.{Reads}
use Rattle.dns_wire.specs.Puts.{RefusesUpTo}
use Rattle.dns_wire.specs.declared.WriteError.{WriteError}
use Rattle.dns_zone.specs.Zone.{Zone}
use Rattle.dns_secondary.specs.Receiving.{type_asked}
use Rattle.dns_secondary.specs.Request.{asked_octets, as_reply, query_octets, query_with}
use Rattle.dns_secondary.proofs.Carried.{reads_on}

abbrev pub asked : Question → EchoedQuestion
asked q = record { octets = asked_octets q; name = q.name }

abbrev pub four : Question → List ℕ
four q = to_be_bytes w16 q.qtype ++ to_be_bytes w16 q.qclass

four_octets : (q : Question) → AllByRecursion (λ octet. octet < 256) (four q)
four_octets q = (omega arith, (omega arith, (omega arith, (omega arith, tt))))

pub octets_are : (q : Question) → asked_octets q ≡ wire q.name ++ four q
octets_are q = append_assoc (wire q.name) (to_be_bytes w16 q.qtype) (to_be_bytes w16 q.qclass)

pub is_echoed : (q : Question) → IsName q.name → IsEchoed (asked q)
is_echoed q valid = subst (λ (octets : List ℕ). IsEchoed (record { octets = octets; name = q.name })) (sym (octets_are q)) (record {
  valid = valid;
  size = length-append (wire q.name) (four q);
  name = ap (map to_ascii_lowercase) (take-append_seam (wire q.name) (four q)) ∙ wire_lower q.name valid.labels;
  octets = octets-append (wire q.name) (four q) (wire_octets q.name valid.labels) (four_octets q);
})

drop_behind : (name rest : List ℕ) (n : ℕ) → drop (length name + n) (name ++ rest) ≡ drop n rest
drop_behind name rest n = sym (drop-drop n (length name) (name ++ rest)) ∙ ap (drop n) (drop_at name rest (length name) refl)

-- octets after the name
behind : (name rest : List ℕ) (from to : ℕ) → slice_range (name ++ rest) (length name + from) (length name + to) ≡ slice_range rest from to
behind name rest from to =
    let less : length name + to - (length name + from) ≡ to - from = omega arith in
    let parts : drop (length name + from) (name ++ rest) ≡ drop from rest = drop_behind name rest from in
    ap (λ (k : ℕ). take k (drop (length name + from) (name ++ rest))) less ∙ ap (take (to - from)) parts

pub question_is : (q : Question) → q.qtype < 2 ^ 16 → q.qclass < 2 ^ 16 → question_of (asked q) ≡ q
question_is q h k =
    let n = length (wire q.name) in
    let zero_is : n ≡ n + 0 = omega arith in
    let first : slice_range (asked_octets q) n (n + 2) ≡ to_be_bytes w16 q.qtype =
    ap (λ (xs : List ℕ). slice_range xs n (n + 2)) (octets_are q) ∙ ap (λ (k : ℕ). slice_range (wire q.name ++ four q) k (n + 2)) zero_is
    ∙ behind (wire q.name) (four q) 0 2 in
    let second : slice_range (asked_octets q) (n + 2) (n + 4) ≡ to_be_bytes w16 q.qclass =
    ap (λ (xs : List ℕ). slice_range xs (n + 2) (n + 4)) (octets_are q) ∙ behind (wire q.name) (four q) 2 4 in
    let back : number_of (to_be_bytes w16 q.qtype) ≡ q.qtype = omega arith in
    let back' : number_of (to_be_bytes w16 q.qclass) ≡ q.qclass = omega arith in
    let one = ap number_of first ∙ back in
    let two = ap number_of second ∙ back' in
    λ i. record { name = q.name; qtype = one i; qclass = two i }

-- after the flags
abbrev rest_with : Question → ℕ → List Record → List ℕ
rest_with q count authority =
    0 ∷ to_be_bytes w16 1 ++ to_be_bytes w16 0 ++ to_be_bytes w16 count ++ to_be_bytes w16 0 ++ asked_octets q
    ++ compressed_records (new_places [] 12 q.name) (12 + length (asked_octets q)) authority

abbrev flagged : Question → ℕ → ℕ → List Record → List ℕ
flagged q id flags authority = to_be_bytes w16 id ++ flags ∷ rest_with q (length authority) authority

text_flagged : (q : Question) (id : ℕ) (authority : List Record) → text (as_reply q id authority) ≡ flagged q id 128 authority
text_flagged q id authority =
    ap (λ (rs : List Record). to_be_bytes w16 id ++ 128 ∷ rest_with q (length authority) rs) (append-nil authority)

is_reply : (q : Question) (id : ℕ) (authority : List Record) → IsName q.name → id < 2 ^ 16 → length authority < 2 ^ 16 → AllByRecursion IsRecord authority → IsReply (as_reply q id authority)
is_reply q id authority valid fit few records = record {
  id = fit;
  opcode = omega arith;
  rcode = omega arith;
  question = is_echoed q valid;
  answer = omega arith;
  authority = few;
  additional = omega arith;
  records = subst (AllByRecursion IsRecord) (sym (append-nil authority)) records;
}

soas_shown : (rs : List Record) → AllByRecursion (λ r. r.rtype ≡ type_soa) rs → AllByRecursion (λ i. i.rtype ≡ type_soa) (map item_of rs)
soas_shown [] h = h
soas_shown (r ∷ rs) h = (h.0, soas_shown rs h.1)

pub asked_reads : (q : Question) (id : ℕ) (authority : List Record)
    → ((r : Reply) → IsReply r → Reads (text r) (message_of_reply r))
    → IsName q.name
    → q.qtype < 2 ^ 16
    → q.qclass < 2 ^ 16
    → id < 2 ^ 16
    → length authority < 2 ^ 16
    → AllByRecursion IsRecord authority
    → AllByRecursion (λ r. r.rtype ≡ type_soa) authority
    → Reads (query_octets q id authority) (query_with q id authority)
asked_reads q id authority back valid fits fits' fit few records soas =
    let r = as_reply q id authority in
    let read = subst (λ (t : List ℕ). Reads t (message_of_reply r)) (text_flagged q id authority) (back r (is_reply q id authority valid fit few records)) in
    let on = reads_on _ _ 128 0 (rest_with q (length authority) authority) (message_of_reply r) tt (soas_shown authority soas) tt read in
    let number : number_of (to_be_bytes w16 id) ≡ id = omega arith in
    let head : header_of (query_octets q id authority) ≡ (query_with q id authority).header =
    (λ i. record { id = number i; qr = false; opcode = 0; aa = false; tc = false; rd = false; rcode = 0 }) in
    let asks = question_is q fits fits' in
    subst (λ (m : Message). Reads (query_octets q id authority) m)
    (λ i. record { header = head i; questions = asks i ∷ []; answers = []; authorities = map item_of authority; additionals = [] }) on

-- the bit QR is taken away
pub cleared : (q : Question) (id : ℕ) (authority : List Record) (octets : List ℕ)
    → octets ≡ text (as_reply q id authority)
    → slice_set octets 2 0 ≡ query_octets q id authority
cleared q id authority octets is = ap (λ (t : List ℕ). slice_set t 2 0) (is ∙ text_flagged q id authority)

pub refused_as : (q : Question) (id : ℕ) (authority : List Record) (reply : Reply) (limit most : ℕ) (e : WriteError)
    → reply ≡ as_reply q id authority
    → limit ≡ most
    → RefusesUpTo limit (length (text reply)) e
    → RefusesUpTo most (length (query_octets q id authority)) e
refused_as q id authority reply limit most e is same h =
    subst (λ (k : ℕ). RefusesUpTo k (length (query_octets q id authority)) e) same
    (subst (λ (k : ℕ). RefusesUpTo limit k e) (ap length (ap text is ∙ text_flagged q id authority)) h)

pub type_small : (held : Option Zone) → type_asked held < 2 ^ 16
type_small None = omega arith
type_small (Some z) = omega arith

pub as_long : (q : Question) (id : ℕ) (authority : List Record) (octets : List ℕ)
    → octets ≡ text (as_reply q id authority)
    → length (query_octets q id authority) ≡ length octets
as_long q id authority octets is = sym (ap length (is ∙ text_flagged q id authority))
