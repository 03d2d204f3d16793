use Rattle.std.proofs.Common.{◌≡◌, ◌<◌, Some, None, false, true, length, get_or, sym, ap, subst, ◌∙◌, arith}
use Rattle.std.specs.Ordering.{is_lt, is_eq}
use Rattle.std.specs.List.{find}
use Rattle.std.proofs.lemmas.List.{get_or_default}
use Rattle.dns_names.specs.Name.{Labels}
use Rattle.dns_records.specs.Record.{Record, record_cmp}
use Rattle.dns_zone.specs.Records.{alike}
use Rattle.dns_zone.specs.Sets.{sorted_from}
use Rattle.dns_zone.proofs.Placing.{past_both, parts_found, parts_none}
use Rattle.dns_zone.proofs.search.find_parts.Goals as goal
use Rattle.dns_zone.proofs.search.find_parts.Goals.{else-at-records-via-then-at-records+else-is_match, else-at-records-via-else-at-records}

pub returns-then-is_match : goal.returns-then-is_match
returns-then-is_match c =
    let records = c.args.records.now in
    let at = c.count_before-at.result in
    let q : Record = record { owner = c.reborrow.result; rtype = c.args.rtype; ttl = 0; rdata = c.args.rdata.now } in
    let first = c.index-records-at.result in
    let there = c.index-records-at-then-is_match.result in
    let inside : at < length records = c.if-at-records.true in
    let is : there ≡ first = c.index-records-at-then-is_match.is ∙ get_or_default records at there first inside ∙ sym c.index-records-at.is in
    let tied : is_eq (record_cmp there q) ≡ true = ap (λ (r : Record). is_eq (record_cmp r q)) is ∙ sym c.is_match.ensures ∙ c.if-is_match.true in
    let found : Some there ≡ find (alike q) records = parts_found q records at there (sorted_from records c.requires) inside c.count_before-at.ensures.before c.index-records-at-then-is_match.is tied in
    subst (λ (n : Labels). Some there ≡ find (alike (record { owner = n; rtype = c.args.rtype; ttl = 0; rdata = c.args.rdata.now })) records) c.reborrow.ensures found

pub returns : goal.returns
returns c =
    let records = c.args.records.now in
    let at = c.count_before-at.result in
    let q : Record = record { owner = c.reborrow.result; rtype = c.args.rtype; ttl = 0; rdata = c.args.rdata.now } in
    let none : None ≡ find (alike q) records = parts_none q records at (sorted_from records c.requires) c.count_before-at.ensures.bound c.count_before-at.ensures.before (λ inside. elim c.else-at-records.branch [
      | else-at-records-via-then-at-records+else-is_match w ↦ (
          let there = w.index-records-at.result in
          let apart : is_eq (record_cmp there q) ≡ false = sym w.is_match.ensures ∙ w.if-is_match.false in
          let same : get_or records at q ≡ there = get_or_default records at q there inside ∙ sym w.index-records-at.is in
          let behind : is_lt (record_cmp there q) ≡ false = ap (λ r. is_lt (record_cmp r q)) (sym same) ∙ c.count_before-at.ensures.behind at q (omega arith) inside in
          ap (λ r. record_cmp r q) same ∙ past_both (record_cmp there q) behind apart)
      | else-at-records-via-else-at-records w ↦ absurd (omega (arith, w.if-at-records.false))
    ]) in
    subst (λ (n : Labels). None ≡ find (alike (record { owner = n; rtype = c.args.rtype; ttl = 0; rdata = c.args.rdata.now })) records) c.reborrow.ensures none
