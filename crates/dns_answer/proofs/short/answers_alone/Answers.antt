use Rattle.std.proofs.Common.{◌≡◌, ◌<◌, ◌≤◌, false, ◌∷◌, ◌++◌, [], List, length, take, sym, ap, subst, ◌∙◌, arith}
use Rattle.std.specs.Prelude.{is_some}
use Rattle.std.proofs.lemmas.List.{take_all}
use Rattle.dns_records.specs.Record.{Record, host_of}
use Rattle.dns_zone.proofs.Kept.{single}
use Rattle.dns_lookup.specs.Lookup.{Found as Stated}
use Rattle.dns_lookup.specs.RepresentedLaws.{represented_at, represented_length}
use Rattle.dns_answer.specs.Sections.{answers_of, authority_of, as_owner, from_zone}
use Rattle.dns_answer.specs.Short.{AreSectionsOf}
use Rattle.dns_answer.proofs.Pairs.{alone_at, alone_sections}
use Rattle.dns_answer.proofs.Shown.{lent_one, next_answers, next_hosts, authority_last}
use Rattle.dns_answer.proofs.short.answers_alone.Goals as goal

pub loop-one-preserved : goal.loop-one-preserved
loop-one-preserved c zones t fs are holds =
    let i = c.loop-one.one-index in
    let one = c.one-item.result in
    let inside : i < length c.args.found.now = omega arith in
    let at = represented_at zones fs c.args.found.now i one are inside c.one-item.is in
    let rs = c.answers.result.now in
    let stored = c.record-item.result in
    let records : rs ≡ stored ∷ [] = single rs stored stored (omega (arith, c.in-len1.len_at_least, c.in-len1.len_below)) c.record-item.is in
    let none : is_some (host_of stored) ≡ false = ap is_some (sym c.host.ensures) ∙ sym c.is_some.ensures ∙ c.if-is_some.false in
    let answers : answers_of t at.found ≡ from_zone at.found.zone (as_owner at.found.name (stored ∷ [])) = c.answers.ensures zones t at.found at.is (lent_one zones t c.args.found.now i one holds inside c.one-item.is) ∙ ap (λ (xs : List Record). from_zone at.found.zone (as_owner at.found.name xs)) records in
    let before = c.loop-one.invariant zones t fs are holds in
    let made = c.new.ensures in
    let owner = made.owner ∙ c.reborrow.ensures ∙ at.is.name in
    let ttl = made.ttl ∙ c.ttl.ensures in
    let same : c.new.result ≡ record stored { owner = at.found.name } = λ j. record { owner = owner j; rtype = made.rtype j; ttl = ttl j; rdata = made.rdata j } in
    let here = alone_at t at.found stored answers none in (
      c.in_ok-push.ensures.items ∙ (λ j. before.0 j ++ same j ∷ []) ∙ sym (next_answers t fs i at.found (stored ∷ []) at.next answers),
      next_hosts t fs i at.found (stored ∷ []) at.next answers ∙ (λ j. before.1 j ++ here.0 j),
      ap authority_of at.next ∙ authority_last (take i fs) at.found ∙ here.1,
    )

pub returns : goal.returns
returns c zones t fs are holds =
    let i = c.loop-one.one-index in
    let all : length fs ≤ i = omega (arith, represented_length zones fs c.args.found.now are, c.loop-one-test.false) in
    let h = c.loop-one.invariant zones t fs are holds in
    subst (λ (xs : List Stated). AreSectionsOf t xs c.loop-one.shown.items [] []) (take_all i fs all) (alone_sections t (take i fs) c.loop-one.shown.items h.0 h.1 h.2)
