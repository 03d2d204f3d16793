use Rattle.std.proofs.Common.{◌≡◌, ◌+◌, ◌-◌, ◌<◌, ◌/◌, true, false, length, get_or, sym, ap, ◌∙◌, arith}
use Rattle.std.specs.Ordering.{is_gt}
use Rattle.std.proofs.lemmas.Option.{get_or_from_slice_get}
use Rattle.dns_records.specs.Record.{record_cmp}
use Rattle.dns_zone.proofs.Listed.{next_is}
use Rattle.dns_zone.proofs.Searching.{low_half, high_half}
use Rattle.dns_zoneindex.specs.Owned.{path_records}
use Rattle.dns_zoneindex.proofs.Halves.{not_greater, greater}
use Rattle.dns_zoneindex.proofs.tree.Tree.count_to.Goals as goal

pub places-preserved-then-is_gt : goal.places-preserved-then-is_gt
places-preserved-then-is_gt c =
    let xs = path_records c.args.self.now in
    let after = c.args.after.now in
    let middle = c.places.low + (c.places.high - c.places.low) / 2 in
    let r = c.record.result.now in
    let inside : middle < length xs = omega arith in
    let at : r ≡ get_or xs middle r = sym (get_or_from_slice_get xs middle r r c.record.ensures) in
    let here : is_gt (record_cmp r after) ≡ true = ap is_gt (sym c.compare.ensures) ∙ sym c.is_gt.ensures ∙ c.if-is_gt.true in
    record {
      met = omega arith;
      inside = omega arith;
      before = c.places.invariant.before;
      behind = high_half (λ s. is_gt (record_cmp s after) ≡ true) xs middle (greater after) c.requires inside r at here;
    }

pub places-preserved : goal.places-preserved
places-preserved c =
    let xs = path_records c.args.self.now in
    let after = c.args.after.now in
    let middle = c.places.low + (c.places.high - c.places.low) / 2 in
    let r = c.record.result.now in
    let inside : middle < length xs = omega arith in
    let at : r ≡ get_or xs middle r = sym (get_or_from_slice_get xs middle r r c.record.ensures) in
    let here : is_gt (record_cmp r after) ≡ false = ap is_gt (sym c.compare.ensures) ∙ sym c.is_gt.ensures ∙ c.if-is_gt.false in
    record {
      met = omega arith;
      inside = omega arith;
      before = low_half (λ s. is_gt (record_cmp s after) ≡ false) xs middle (not_greater after) c.requires inside r at here;
      behind = c.places.invariant.behind;
    }

pub returns : goal.returns
returns c =
    let xs = path_records c.args.self.now in
    let met : c.places.low ≡ c.places.high = omega arith in
    next_is c.args.after.now xs c.places.low (omega arith) c.places.invariant.before (λ k d from to. c.places.invariant.behind k d (omega arith) to)
