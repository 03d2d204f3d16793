use Rattle.std.proofs.Common.{◌≡◌, ◌<◌, ◌≤◌, true, false, length, sym, ◌∙◌, arith}
use Rattle.std.specs.Ordering.{is_eq}
use Rattle.dns_zone.specs.Side.{side_of}
use Rattle.dns_zone.proofs.Searching.{key_cut, match_so_far, past_match}
use Rattle.dns_zone.proofs.search.end_of_match.Goals as goal

pub matches-preserved-then-is_match : goal.matches-preserved-then-is_match
matches-preserved-then-is_match c =
    let key = c.args.key.now in
    let at = c.place_between-at.result in
    let there = c.index-records-at in
    let inside : at < length c.args.records.now = omega arith in
    let here : is_eq (side_of key there.result) ≡ true = sym c.is_match.ensures ∙ c.if-is_match.true in
    record {
      from = omega arith;
      met = omega arith;
      inside = omega arith;
      here = match_so_far (side_of key) (key_cut key) c.args.records.now c.args.begin at c.requires.order inside there.result there.is c.requires.behind here;
      past = c.matches.invariant.past;
    }

pub matches-preserved : goal.matches-preserved
matches-preserved c =
    let key = c.args.key.now in
    let at = c.place_between-at.result in
    let there = c.index-records-at in
    let inside : at < length c.args.records.now = omega arith in
    let from : c.args.begin ≤ at = omega arith in
    let other : is_eq (side_of key there.result) ≡ false = sym c.is_match.ensures ∙ c.if-is_match.false in
    record {
      from = omega arith;
      met = omega arith;
      inside = omega arith;
      here = c.matches.invariant.here;
      past = past_match (side_of key) (key_cut key) c.args.records.now at c.requires.order inside there.result there.is (c.requires.behind at there.result from inside) other;
    }
