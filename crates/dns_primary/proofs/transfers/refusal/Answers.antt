use Rattle.std.proofs.Common.{◌≡◌, ◌⊎◌, inl, ℕ, List, refl, sym, subst}
use Rattle.std.specs.Prelude.{IfOk, IfErr}
use Rattle.dns_wire.specs.Codes.{number_of_rcode}
use Rattle.dns_wire.specs.Message.{Header, Question, Message}
use Rattle.dns_wire.specs.Text.{text}
use Rattle.dns_wire.specs.declared.codes.Rcode.{Rcode}
use Rattle.dns_wire.specs.declared.codes.Rcode.TheVariants as code
use Rattle.dns_request.specs.Codes.{rcode_servfail}
use Rattle.dns_request.specs.declared.request.Transport.{Transport}
use Rattle.dns_answer.specs.Answer.{bare_reply, fitted, with_question}
use Rattle.dns_primary.specs.Flush.{Replied}
use Rattle.dns_primary.specs.Keeps.{AreEffects}
use Rattle.dns_primary.specs.Steps.{one_reply}
use Rattle.dns_primary.specs.Transfer.{refusal_of, transport_of}
use Rattle.dns_primary.proofs.Served.{lack, replied}
use Rattle.dns_primary.proofs.transfers.refusal.Goals as goal

not_formerr : (transport : Transport) (octets : List ℕ) (m : Message) (q : Question) (rcode : Rcode) → (rcode ≡ code.FormErr → ⊥)
    → fitted transport (with_question octets m q (number_of_rcode rcode)) ≡ refusal_of transport octets m q rcode
not_formerr transport octets m q code.FormErr other = absurd (other refl)
not_formerr transport octets m q rcode other = refl

pub returns-in-FormErr : goal.returns-in-FormErr
returns-in-FormErr c =
    let q = c.args.request.now in
    inl (subst (λ (r : Rcode). AreEffects (one_reply (Replied c.args.to (refusal_of (transport_of c.args.to) q.message.octets q.message.message q.question r))) c.refusal.result) (sym c.in-FormErr.is)
    (subst (λ (h : Header). AreEffects (one_reply (Replied c.args.to (text (bare_reply h (number_of_rcode code.FormErr))))) c.refusal.result) c.header_octets-header.ensures.message c.refusal.ensures))

pub returns-in_default : goal.returns-in_default
returns-in_default c =
    let q = c.args.request.now in
    let reply = fitted (transport_of c.args.to) (with_question q.message.octets q.message.message q.question (number_of_rcode c.args.rcode)) in
    let made = subst (λ (t : Transport). IfOk c.refuse-reply.result (λ v. v.items ≡ fitted t (with_question q.message.octets q.message.message q.question (number_of_rcode c.args.rcode)))) c.transport_of.ensures c.refuse-reply.ensures in
    let none = subst (λ (h : Header). IfErr c.refuse-reply.result (λ _. AreEffects (lack (Replied c.args.to (text (bare_reply h rcode_servfail)))) c.reply.result)) c.header_octets-header.ensures.message c.reply.ensures.failed in
    subst (λ (octets : List ℕ). AreEffects (one_reply (Replied c.args.to octets)) c.reply.result ⊎ AreEffects (lack (Replied c.args.to (text (bare_reply q.message.message.header rcode_servfail)))) c.reply.result)
    (not_formerr (transport_of c.args.to) q.message.octets q.message.message q.question c.args.rcode c.in_default.not-FormErr)
    (replied (λ v. v.items) c.refuse-reply.result c.reply.result c.args.to reply (text (bare_reply q.message.message.header rcode_servfail)) made c.reply.ensures.sent none)
