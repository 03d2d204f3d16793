use Rattle.std.proofs.Common.{◌≡◌, ◌<◌, false, length, get_or, sym, ap, ◌∙◌, arith}
use Rattle.std.specs.Ordering.{is_lt, is_eq}
use Rattle.std.specs.declared.cmp.Ordering.TheVariants.{Equal}
use Rattle.std.proofs.lemmas.List.{get_or_default}
use Rattle.dns_records.specs.Record.{record_cmp}
use Rattle.dns_zone.specs.Sets.{sorted_from, equal_is}
use Rattle.dns_zone.proofs.Placing.{stands, belongs, past_both}
use Rattle.dns_zone.proofs.search.find_record.Goals as goal
use Rattle.dns_zone.proofs.search.find_record.Goals.{else-at-records-via-then-at-records+else-is_match, else-at-records-via-else-at-records}

pub returns-then-is_match-clause-found : goal.returns-then-is_match-clause-found
returns-then-is_match-clause-found c =
    let wanted = c.args.wanted.now in
    let records = c.args.records.now in
    let at = c.count_before-at.result in
    let there = c.index-records-at.result in
    let inside : at < length records = omega arith in
    let tied : record_cmp there wanted ≡ Equal = equal_is (record_cmp there wanted) (sym c.is_match.ensures ∙ c.if-is_match.true) in
    let here : record_cmp (get_or records at wanted) wanted ≡ Equal = ap (λ r. record_cmp r wanted) (get_or_default records at wanted there inside ∙ sym c.index-records-at.is) ∙ tied in
    stands wanted records at (sorted_from records c.requires) inside c.count_before-at.ensures.before here

pub returns-clause-absent : goal.returns-clause-absent
returns-clause-absent c =
    let wanted = c.args.wanted.now in
    let records = c.args.records.now in
    let at = c.count_before-at.result in
    belongs wanted records at (sorted_from records c.requires) c.count_before-at.ensures.bound c.count_before-at.ensures.before (λ inside. elim c.else-at-records.branch [
      | else-at-records-via-then-at-records+else-is_match w ↦ (
          let there = w.index-records-at.result in
          let apart : is_eq (record_cmp there wanted) ≡ false = sym w.is_match.ensures ∙ w.if-is_match.false in
          let same : get_or records at wanted ≡ there = get_or_default records at wanted there inside ∙ sym w.index-records-at.is in
          let behind : is_lt (record_cmp there wanted) ≡ false = ap (λ r. is_lt (record_cmp r wanted)) (sym same) ∙ c.count_before-at.ensures.behind at wanted (omega arith) inside in
          ap (λ r. record_cmp r wanted) same ∙ past_both (record_cmp there wanted) behind apart)
      | else-at-records-via-else-at-records w ↦ absurd (omega (arith, w.if-at-records.false))
    ])
