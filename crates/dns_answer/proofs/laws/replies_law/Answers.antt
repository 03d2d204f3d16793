use Rattle.std.proofs.Common.{◌≡◌, List, ℕ, refl, sym, ap, subst, ◌∙◌}
use Rattle.std.specs.Prelude.{Some, None}
use Rattle.dns_wire.specs.Compressed.{IsCompressed}
use Rattle.dns_wire.specs.Message.{Message}
use Rattle.dns_wire.specs.Reading.{message_of}
use Rattle.dns_wire.specs.Reads.{Reads}
use Rattle.dns_wire.specs.Valid.{message_of_reply}
use Rattle.dns_answer.specs.Answer.{handled_as}
use Rattle.dns_answer.proofs.SoundReplies.{AreValid, IsTextOf, request_is}
use Rattle.dns_answer.proofs.laws.replies_law.Goals as goal

pub returns : goal.returns
returns c = λ zones octets out transport known fits handles.
    (let grammar = c.at_most_one.ensures.computed in
    let texts = c.one_compressed_text.ensures in
    let header = c.question_law.ensures.header octets fits in
    let valid = request_is texts.long zones known octets header transport in
    let read : (m : Message) → Reads octets m → IsTextOf out = λ m reads.
    subst AreValid (sym (handles.handled ∙ ap (handled_as zones octets transport) (handles.is.read m reads)))
    (valid (Some m) (reads.header, λ q one. c.question_law.ensures.echoed octets m q fits reads one)) in
    let unread : ((m : Message) → Reads octets m → ⊥) → IsTextOf out = λ none.
    subst AreValid (sym (handles.handled ∙ ap (handled_as zones octets transport) (handles.is.unread none))) (valid None tt) in
    let sent : IsTextOf out = elim (message_of octets) as (λ o. message_of octets ≡ o → IsTextOf out) [
      | Some m ↦ λ e. read m ((grammar octets m fits).1 e)
      | None ↦ λ e. unread (λ m reads. (let other = (grammar octets m fits).0 reads in absurd cc))
    ] refl in
    let r = sent.0 in
    (r, (sent.1, sent.2, subst (λ (t : List ℕ). IsCompressed t r) (sym sent.2) (texts.compressed r sent.1), subst (λ (t : List ℕ). Reads t (message_of_reply r)) (sym sent.2) (texts.reads_back r sent.1))))
