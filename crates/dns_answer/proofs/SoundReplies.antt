-- What goes out to a request is the text of a valid reply.
use Rattle.std.proofs.Common.{◌≡◌, ℕ, ◌+◌, ◌*◌, ◌<◌, ◌≤◌, Bool, true, false, List, [], ◌∷◌, ◌++◌, length, refl, sym, subst, arith}
use Rattle.std.specs.Prelude.{◌^◌, ◌&&◌, ◌||◌, ◌==◌, not, nat_le, nat_lt, Option, Some, None, is_none, IfSome, if◌then◌else◌}
use Rattle.std.specs.List.{AllByRecursion}
use Rattle.std.proofs.lemmas.Bool.Decides.{nat_tests}
use Rattle.dns_records.specs.Types.{type_ixfr, type_axfr, type_mailb, type_maila, class_in}
use Rattle.dns_records.specs.Record.{Record, IsRecord}
use Rattle.dns_zone.specs.Zone.{Zone}
use Rattle.dns_lookup.specs.Lookup.{Found, resolve, zone_of}
use Rattle.dns_wire.specs.Message.{Question, Message, Header, header_of}
use Rattle.dns_wire.specs.Text.{Reply, text}
use Rattle.dns_wire.specs.Valid.{IsReply, IsEchoed}
use Rattle.dns_request.specs.Codes.{rcode_formerr, rcode_notimp, rcode_nxdomain, rcode_refused}
use Rattle.dns_request.specs.declared.request.Transport.{Transport}
use Rattle.dns_request.specs.declared.request.Transport.TheVariants.{Udp, Tcp}
use Rattle.dns_request.specs.Request as request
use Rattle.dns_request.specs.Request.{Request, opcode_query, opcode_update, has_counts, question_as, message_as, read_as, request_as, too_long}
use Rattle.dns_answer.specs.Sections.{is_name_error}
use Rattle.dns_answer.specs.Fit.{is_referral, by_udp, by_udp_without_additional, by_tcp, truncated, failed}
use Rattle.dns_answer.specs.Answer.{Handled, NoReply, Replies, Update, Transfer, bare_reply, with_question, reply_for, answered, fitted, handled_as}
use Rattle.dns_answer.proofs.SoundRecords.{HasRecords, found_is, sections_are}
use Rattle.dns_wire.specs.Echo.{echo_of}

-- A reply that is valid but for how many records it has.
pub record IsSoundReply (r : Reply) : Type 0 where
  pub id : r.id < 2 ^ 16
  pub opcode : r.opcode < 16
  pub rcode : r.rcode < 16
  pub question : IfSome r.question IsEchoed
  pub records : AllByRecursion IsRecord (r.answer ++ r.authority ++ r.additional)

abbrev pub IsTextOf : List ℕ → Type 0
IsTextOf out = (r : Reply) × IsReply r × (out ≡ text r)

-- octets are a text of a valid reply, if they are a reply
abbrev pub AreValid : Handled → Type 0
AreValid (Replies out) = IsTextOf out
AreValid NoReply = Unit {0}
AreValid (Update m q) = Unit {0}
AreValid (Transfer octets m q) = Unit {0}

module _ (long : (r : Reply) → 12 + 10 * (length r.answer + length r.authority + length r.additional) ≤ length (text r)) where
  short_is : (r : Reply) → IsSoundReply r → length (text r) ≤ 65535 → IsTextOf (text r)
  short_is r h short =
      let most = long r in
      (r, record { id = h.id; opcode = h.opcode; rcode = h.rcode; question = h.question; answer = omega arith; authority = omega arith; additional = omega arith; records = h.records }, refl)

  bare_is : (r : Reply) → IsSoundReply r → r.answer ≡ [] → r.authority ≡ [] → r.additional ≡ [] → IsTextOf (text r)
  bare_is r h a b c =
      (r, record { id = h.id; opcode = h.opcode; rcode = h.rcode; question = h.question; answer = none r.answer a; authority = none r.authority b; additional = none r.additional c; records = h.records }, refl)
    where
      none : (xs : List Record) → xs ≡ [] → length xs < 2 ^ 16
      none [] e = omega arith
      none (x ∷ xs) e = absurd cc

  truncated_is : (r : Reply) → IsSoundReply r → IsTextOf (truncated r)
  truncated_is r h = bare_is (record r { tc = true; answer = []; authority = []; additional = [] }) (record { id = h.id; opcode = h.opcode; rcode = h.rcode; question = h.question; records = tt }) refl refl refl

  failed_is : (r : Reply) → IsSoundReply r → IsTextOf (failed r)
  failed_is r h = bare_is (record r { aa = false; rcode = 2; answer = []; authority = []; additional = [] }) (record { id = h.id; opcode = h.opcode; rcode = omega arith; question = h.question; records = tt }) refl refl refl

  without_is : (r : Reply) → IsSoundReply r → IsSoundReply (record r { additional = [] })
  without_is r h = record { id = h.id; opcode = h.opcode; rcode = h.rcode; question = h.question; records = shorter r.answer r.authority r.additional h.records }
    where
      shorter : (xs ys zs : List Record) → AllByRecursion IsRecord (xs ++ ys ++ zs) → AllByRecursion IsRecord (xs ++ ys ++ [])
      shorter [] [] zs k = tt
      shorter [] (y ∷ ys) zs k = (k.0, shorter [] ys zs k.1)
      shorter (x ∷ xs) ys zs k = (k.0, shorter xs ys zs k.1)

  udp_is : (r : Reply) → IsSoundReply r → IsTextOf (by_udp r)
  udp_is r h = whole (nat_le (length (text r)) 512) refl
    where
      less : Reply
      less = record r { additional = [] }

      without : (a b : Bool) → nat_le (length (text less)) 512 ≡ b → IsTextOf (elim (a && b) as (λ _. List ℕ) [ true ↦ text less | false ↦ truncated r ])
      without true true e = short_is less (without_is r h) (grind (arith, nat_tests, e))
      without true false e = truncated_is r h
      without false b e = truncated_is r h

      whole : (b : Bool) → nat_le (length (text r)) 512 ≡ b → IsTextOf (elim b as (λ _. List ℕ) [ true ↦ text r | false ↦ by_udp_without_additional r ])
      whole true e = short_is r h (grind (arith, nat_tests, e))
      whole false e = without (not (is_referral r)) (nat_le (length (text less)) 512) refl

  tcp_is : (r : Reply) → IsSoundReply r → IsTextOf (by_tcp r)
  tcp_is r h = whole (nat_le (length (text r)) 65535) refl
    where
      whole : (b : Bool) → nat_le (length (text r)) 65535 ≡ b → IsTextOf (elim b as (λ _. List ℕ) [ true ↦ text r | false ↦ failed r ])
      whole true e = short_is r h (grind (arith, nat_tests, e))
      whole false e = failed_is r h

  fitted_is : (transport : Transport) (r : Reply) → IsSoundReply r → IsTextOf (fitted transport r)
  fitted_is Udp r h = udp_is r h
  fitted_is Tcp r h = tcp_is r h

  module _ (zones : List Zone) (known : AllByRecursion HasRecords zones) (octets : List ℕ) (header : ((header_of octets).id < 2 ^ 16) × ((header_of octets).opcode < 16)) (transport : Transport) where
    abbrev IsValidFor : Request → Type 0
    IsValidFor r = AreValid (handled_as zones octets transport r)

    refused_is : (rcode : ℕ) → rcode < 16 → IsValidFor (request.Refused rcode)
    refused_is rcode small = bare_is (bare_reply (header_of octets) rcode) (record { id = header.0; opcode = header.1; rcode = small; question = tt; records = tt }) refl refl refl

    either : (b : Bool) (r s : Request) → IsValidFor r → IsValidFor s → IsValidFor (if b then r else s)
    either true r s h k = h
    either false r s h k = k

    module _ (m : Message) (q : Question) (same : m.header ≡ header_of octets) (echo : IsEchoed (echo_of octets q)) where
      id_is : m.header.id < 2 ^ 16
      id_is = subst (λ (h : Header). h.id < 2 ^ 16) (sym same) header.0

      asked_is : (rcode : ℕ) → rcode < 16 → IsSoundReply (with_question octets m q rcode)
      asked_is rcode small = record { id = id_is; opcode = omega arith; rcode = small; question = echo; records = tt }

      code_is : (fs : List Found) → (if is_name_error fs then rcode_nxdomain else 0) < 16
      code_is fs = go (is_name_error fs)
        where
          go : (b : Bool) → (if b then rcode_nxdomain else 0) < 16
          go true = omega arith
          go false = omega arith

      found_reply : (fs : List Found) → AllByRecursion IsRecord ((reply_for octets m q fs).answer ++ (reply_for octets m q fs).authority ++ (reply_for octets m q fs).additional) → IsSoundReply (reply_for octets m q fs)
      found_reply fs h = record { id = id_is; opcode = omega arith; rcode = code_is fs; question = echo; records = h }

      answered_is : IsSoundReply (answered zones octets m q)
      answered_is = go (is_none (zone_of zones q.name))
        where
          fs : List Found
          fs = resolve zones q.name q.qtype

          go : (b : Bool) → IsSoundReply (if b then with_question octets m q rcode_refused else reply_for octets m q fs)
          go true = asked_is rcode_refused (omega arith)
          go false = found_reply fs (sections_are q.qtype fs (found_is zones known q.name q.qtype echo.valid))

      not_served : (rcode : ℕ) → rcode < 16 → IsValidFor (request.NotServed m q rcode)
      not_served rcode small = fitted_is transport (with_question octets m q rcode) (asked_is rcode small)

      question_is : IsValidFor (question_as m q)
      question_is =
          either (m.header.opcode == opcode_update) (request.Update m q) _ tt
          (either (q.qtype == type_ixfr || q.qtype == type_axfr) (request.Transfer m q) _ tt
          (either (q.qtype == type_mailb || q.qtype == type_maila) (request.NotServed m q rcode_notimp) _ (not_served rcode_notimp (omega arith))
          (either (not (q.qclass == class_in)) (request.NotServed m q rcode_refused) (request.Query m q) (not_served rcode_refused (omega arith))
          (fitted_is transport (answered zones octets m q) answered_is))))

    formerr : IsValidFor (request.Refused rcode_formerr)
    formerr = refused_is rcode_formerr (omega arith)

    message_is : (m : Message) (qs : List Question) → m.header ≡ header_of octets → ((q : Question) → qs ≡ q ∷ [] → IsEchoed (echo_of octets q)) → IsValidFor (message_as m qs)
    message_is m [] same echo = formerr
    message_is m (q ∷ []) same echo = either (has_counts m q) (question_as m q) (request.Refused rcode_formerr) (question_is m q same (echo q refl)) formerr
    message_is m (q ∷ r ∷ rest) same echo = formerr

    read_is : (read : Option Message) → IfSome read (λ m. (m.header ≡ header_of octets) × ((q : Question) → m.questions ≡ q ∷ [] → IsEchoed (echo_of octets q))) → IsValidFor (read_as read)
    read_is None h = formerr
    read_is (Some m) h = message_is m m.questions h.0 h.1

    pub request_is : (read : Option Message) → IfSome read (λ m. (m.header ≡ header_of octets) × ((q : Question) → m.questions ≡ q ∷ [] → IsEchoed (echo_of octets q))) → IsValidFor (request_as octets transport read)
    request_is read h =
        either (nat_lt (length octets) 12 || (header_of octets).qr) request.Ignored _ tt
        (either (not ((header_of octets).opcode == opcode_query || (header_of octets).opcode == opcode_update)) (request.Refused rcode_notimp) _ (refused_is rcode_notimp (omega arith))
        (either (too_long transport octets) (request.Refused rcode_formerr) (read_as read) formerr (read_is read h)))
