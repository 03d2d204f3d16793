use Rattle.std.proofs.Common.{◌≡◌, ℕ, List, sym, ap, subst, ◌∙◌}
use Rattle.std.specs.Prelude.{Some, None, IfNone}
use Rattle.std.proofs.lemmas.Result.{IfOk-weaker}
use Rattle.dns_names.specs.Name.{Labels}
use Rattle.dns_lookup.specs.Lookup.{outcome, zone_of}
use Rattle.dns_lookup.specs.Represented.{Represents}
use Rattle.dns_lookup.specs.Lent.{IsFirst, Lends}
use Rattle.dns_lookup.specs.declared.chain.Found.{Found}
use Rattle.dns_zone.specs.Zone.{Zone}
use Rattle.dns_answer.specs.Answer.{fitted}
use Rattle.dns_answer.proofs.Replies.{refused}
use Rattle.dns_answer.proofs.question.answer.Goals as goal

first_found : (zones : List Zone) (t : ℕ) (name : Labels) (first : Found)
    → ((z : Zone) × (zone_of zones name ≡ Some z) × Represents zones (record { zone = z; name = name; outcome = outcome z name t }) first)
    → Lends zones t first → IsFirst zones t first
first_found zones t name first found lent =
    let named : first.name ≡ name = found.2.name in
    record {
      zone = found.0;
      closest = ap (zone_of zones) named ∙ found.1;
      represents = subst (λ (n : Labels). Represents zones (record { zone = found.0; name = n; outcome = outcome found.0 n t }) first) (sym named) found.2;
      lends = lent;
    }

pub returns-in_default : goal.returns-in_default
returns-in_default g c = IfOk-weaker c.reply_of_none.result _ _ (λ out e q echoes typed.
    let m = c.args.query.now.message in
    let zones = c.args.zones.now in
    let none : zone_of zones c.reborrow.result ≡ None = subst (λ o. IfNone o (zone_of zones c.reborrow.result ≡ None)) c.in_default.is c.search.ensures.none in
    e q echoes ∙ ap (fitted c.args.transport) (refused zones m.octets m.message q (ap (zone_of zones) (sym (c.reborrow.ensures ∙ echoes.name_as)) ∙ none))) c.reply_of_none.ensures

pub reply_of_more-requires-clause-first : goal.reply_of_more-requires-clause-first
reply_of_more-requires-clause-first g c =
    let zones = c.args.zones.now in
    let first = c.in-Some.first in
    subst (λ (n : ℕ). IsFirst zones n first) c.qtype-qtype.ensures (first_found zones c.qtype-qtype.result c.reborrow.result first c.in-Some.ensures.found c.in-Some.ensures.lent)

pub returns-in-Some-2 : goal.returns-in-Some-2
returns-in-Some-2 g c q echoes typed =
    let zones = c.args.zones.now in
    let h = first_found zones c.qtype-qtype.result c.reborrow.result c.in-Some.first c.in-Some.ensures.found c.in-Some.ensures.lent in
    (rw c.in-Some-2.is at c.in_ok-octets.ensures) zones c.qtype-qtype.result c.args.transport h q echoes (c.qtype-qtype.ensures ∙ typed)
