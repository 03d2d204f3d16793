-- The reply to a question that one record answers.
use Rattle.std.proofs.Common.{◌≡◌, ℕ, ◌≤◌, Bool, true, false, List, [], ◌∷◌, length, refl, sym, ap, ◌∙◌, arith}
use Rattle.std.specs.Prelude.{Some, nat_le, if◌then◌else◌}
use Rattle.std.proofs.lemmas.Bool.Decides.{nat_tests}
use Rattle.dns_zone.specs.Zone.{Zone}
use Rattle.dns_records.specs.Record.{Record}
use Rattle.dns_wire.specs.Message.{Message, Question}
use Rattle.dns_wire.specs.OneRecord.{one_answer}
use Rattle.dns_wire.specs.Text.{Reply, text}
use Rattle.dns_wire.specs.declared.reply.EchoedQuestion.{EchoedQuestion}
use Rattle.dns_lookup.specs.Lookup.{Outcome, Found, Referral, NameError}
use Rattle.dns_lookup.specs.Represented.{RepresentAll}
use Rattle.dns_lookup.specs.RepresentedLaws.{outcome_of, represented_is}
use Rattle.dns_lookup.specs.declared.chain.Found as returned
use Rattle.dns_lookup.specs.declared.outcome.Kind.{Kind}
use Rattle.dns_lookup.specs.declared.outcome.Kind.TheVariants as kinds
use Rattle.dns_request.specs.Codes.{rcode_nxdomain}
use Rattle.dns_request.specs.declared.request.Transport.{Transport}
use Rattle.dns_request.specs.declared.request.Transport.TheVariants.{Udp, Tcp}
use Rattle.dns_answer.specs.Answer.{fitted, reply_for, with_question}
use Rattle.dns_answer.specs.Echoes.{Echoes}
use Rattle.dns_answer.specs.Fit.{by_udp_without_additional, failed}
use Rattle.dns_answer.specs.Sections.{is_authoritative, is_name_error}
use Rattle.dns_answer.specs.Short.{AreSectionsOf}
use Rattle.dns_answer.proofs.Replies.{whole}

le_true : (a b : ℕ) → a ≤ b → nat_le a b ≡ true
le_true a b h = grind (arith, nat_tests)

-- a short text goes out by either transport
pub fits : (transport : Transport) (r : Reply) → length (text r) ≤ 512 → text r ≡ fitted transport r
fits Udp r short = ap (λ (b : Bool). elim b as (λ _. List ℕ) [ true ↦ text r | false ↦ by_udp_without_additional r ]) (sym (le_true (length (text r)) 512 short))
fits Tcp r short = ap (λ (b : Bool). elim b as (λ _. List ℕ) [ true ↦ text r | false ↦ failed r ]) (sym (le_true (length (text r)) 65535 (omega (arith, short))))

-- what is answered has AA and NOERROR
pub answered_well : (zones : List Zone) (fs : List Found) (first : returned.Found) → RepresentAll zones fs (first ∷ []) → first.kind ≡ kinds.Answers → (is_authoritative fs ≡ true) × (is_name_error fs ≡ false)
answered_well zones [] first h e = absurd h
answered_well zones (f ∷ []) first (is, rest) e =
    let outcome = represented_is f.outcome f.name first.kind first.node is.kind ∙ ap (λ (k : Kind). outcome_of k first.node) e in (
      ap (λ (o : Outcome). elim o as (λ _. Bool) [ Referral c ↦ false | _ ↦ true ]) outcome,
      ap (λ (o : Outcome). elim o as (λ _. Bool) [ NameError ↦ true | _ ↦ false ]) outcome,
    )
answered_well zones (f ∷ g ∷ fs) first (is, rest) e = absurd rest

-- the reply
pub one_reply : (octets : List ℕ) (m : Message) (q : Question) (echo : EchoedQuestion) (fs : List Found) (r one : Record) (id : ℕ) (rd : Bool)
    → Echoes octets q echo
    → id ≡ m.header.id
    → rd ≡ m.header.rd
    → record r { owner = echo.name } ≡ one
    → AreSectionsOf q.qtype fs (one ∷ []) [] []
    → is_authoritative fs ≡ true
    → is_name_error fs ≡ false
    → one_answer id rd echo r ≡ reply_for octets m q fs
one_reply octets m q echo fs r one id rd echoes same desired is sections aa noerror =
    let code : 0 ≡ (if is_name_error fs then rcode_nxdomain else 0) = ap (λ (b : Bool). if b then rcode_nxdomain else 0) (sym noerror) in
    (λ i. record {
      id = same i;
      opcode = 0;
      aa = true;
      tc = false;
      rd = desired i;
      rcode = 0;
      question = Some (record { octets = echoes.octets_as i; name = echoes.name_as i });
      answer = is i ∷ [];
      authority = [];
      additional = [];
    })
    ∙ whole octets m q fs (with_question octets m q 0) 0 true refl code (sym aa) (one ∷ []) [] [] (sym sections.answers) (sym sections.authorities) (sym sections.additionals)
