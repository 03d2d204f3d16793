use Rattle.std.proofs.Common.{◌≡◌, ℕ, ◌≤◌, List, [], ◌∷◌, length, sym, ap, subst, ◌∙◌}
use Rattle.std.proofs.lemmas.Result.{IfOk-weaker}
use Rattle.std.proofs.lemmas.Option.{IfSome_then}
use Rattle.dns_records.specs.Record.{Record}
use Rattle.dns_lookup.specs.Lookup.{resolve, zone_of}
use Rattle.dns_lookup.specs.Lent.{AllLend}
use Rattle.dns_lookup.specs.Represented.{RepresentAll}
use Rattle.dns_lookup.specs.RepresentedLaws.{alone}
use Rattle.dns_wire.specs.OneRecord.{one_answer}
use Rattle.dns_answer.specs.Answer.{fitted}
use Rattle.dns_answer.proofs.OneReply.{answered_well, fits, one_reply}
use Rattle.dns_answer.proofs.Replies.{answered-is}
use Rattle.dns_answer.proofs.question.reply_of_one.Goals as goal

pub returns : goal.returns
returns c = IfOk-weaker c.write_one.result _ _ (λ reply holds. IfSome_then reply holds (λ written is zones t transport h q echoes typed.
    let m = c.args.message.now in
    let echo = c.args.question.now in
    let first = c.args.first.now in
    let stored = c.in-Some.one.now in
    let fs = resolve zones q.name q.qtype in
    let same : resolve zones first.name t ≡ fs = λ i. resolve zones ((c.requires ∙ echoes.name_as) i) (typed i) in
    let found : RepresentAll zones fs (first ∷ []) = subst (λ xs. RepresentAll zones xs (first ∷ [])) same (alone zones t first h c.in-Some.ensures.answers) in
    let lent : AllLend zones q.qtype (first ∷ []) = subst (λ (n : ℕ). AllLend zones n (first ∷ [])) typed (h.lends, tt) in
    let well = answered_well zones fs first found c.in-Some.ensures.answers in
    let one : Record = record stored { owner = first.name } in
    let owned : record stored { owner = echo.name } ≡ one = λ i. record stored { owner = (sym c.requires) i } in
    let sections = c.in-Some.ensures.alone zones q.qtype fs found lent in
    let reply = one_reply m.octets m.message q echo fs stored one c.id.result c.is_recursion_desired-desired.result echoes c.id.ensures c.is_recursion_desired-desired.ensures owned sections well.0 well.1 in
    let stands = answered-is zones m.octets m.message q h.zone (ap (zone_of zones) (sym (c.requires ∙ echoes.name_as)) ∙ h.closest) in
    let text_is = one_answer c.id.result c.is_recursion_desired-desired.result echo stored in
    is.0
    ∙ fits transport text_is (subst (λ (xs : List ℕ). length xs ≤ 512) is.0 is.1)
    ∙ ap (fitted transport) (reply ∙ stands))) c.write_one.ensures
