use Rattle.std.proofs.Common.{◌≡◌, ℕ, List, sym, ap, subst, ◌∙◌}
use Rattle.std.proofs.lemmas.Result.{IfOk-weaker}
use Rattle.dns_lookup.specs.Lookup.{resolve, zone_of}
use Rattle.dns_lookup.specs.Lookup as lookup
use Rattle.dns_lookup.specs.Represented.{RepresentAll}
use Rattle.dns_lookup.specs.Lent.{AllLend, IsFirst}
use Rattle.dns_lookup.specs.declared.chain.Found.{Found}
use Rattle.dns_wire.specs.Codes.{number_of_rcode}
use Rattle.dns_wire.specs.Reply.{stated}
use Rattle.dns_answer.specs.Answer.{fitted, reply_for}
use Rattle.dns_answer.proofs.Replies.{answered-is, replied}
use Rattle.dns_answer.proofs.question.reply_of_more.Goals as goal

pub resolve-requires : goal.resolve-requires
resolve-requires g c = subst (λ (n : ℕ). IsFirst c.args.zones.now n c.args.first) (sym c.qtype-qtype.ensures) c.requires.first

pub reply_of_short-requires-clause-bare : goal.reply_of_short-requires-clause-bare
reply_of_short-requires-clause-bare g c =
    let made = c.reply_with_question-bare.ensures in
    let none = c.none.ensures in
    record { answer = made.answer ∙ none.answer; authority = made.authority ∙ none.authority; additional = made.additional ∙ none.additional }

pub returns-in-Ok : goal.returns-in-Ok
returns-in-Ok g c = IfOk-weaker c.reply_of_short.result _ _ (λ out e q echoes typed.
    let m = c.args.query.now.message in
    let zones = c.args.zones.now in
    let first = c.args.first in
    let t = c.qtype-qtype.result in
    let asked : t ≡ q.qtype = c.qtype-qtype.ensures ∙ typed in
    let fs = resolve zones first.name t in
    let found = c.as_slice-found.result.now in
    let are = subst (λ (ones : List Found). RepresentAll zones fs ones) (sym c.as_slice-found.ensures) c.in_ok-searched.ensures.represents in
    let lent = subst (λ (ones : List Found). AllLend zones t ones) (sym c.as_slice-found.ensures) c.in_ok-searched.ensures.lent in
    let stored : AllLend zones q.qtype found = subst (λ (n : ℕ). AllLend zones n found) asked lent in
    let same : fs ≡ resolve zones q.name q.qtype = λ i. resolve zones ((c.requires.name ∙ echoes.name_as) i) (asked i) in
    let made = c.reply_with_question-bare in
    let rcode = number_of_rcode c.rcode_of.result in
    let closest = ap (zone_of zones) (sym (c.requires.name ∙ echoes.name_as)) ∙ c.requires.first.closest in
    e q.qtype fs are stored
    ∙ ap (fitted c.args.transport) (replied m.octets m.message q fs (stated made.result) rcode c.is_authoritative-aa.result c.none.result
    (made.ensures.stated q echoes) (c.rcode_of.ensures zones fs are) (c.is_authoritative-aa.ensures zones fs are))
    ∙ ap (λ (found : List lookup.Found). fitted c.args.transport (reply_for m.octets m.message q found)) same
    ∙ ap (fitted c.args.transport) (answered-is zones m.octets m.message q c.requires.first.zone closest)) c.reply_of_short.ensures
