use Rattle.std.proofs.Common.{◌≡◌, ◌<◌, true, false, length, sym, ap, ◌∙◌, arith}
use Rattle.std.specs.Ordering.{is_lt}
use Rattle.dns_zone.specs.Side.{side_of}
use Rattle.dns_zone.proofs.Searching.{key_cut, low_half, high_half, not_less}
use Rattle.dns_zone.proofs.search.count_before.Goals as goal

pub places-preserved-then-is_lt : goal.places-preserved-then-is_lt
places-preserved-then-is_lt c =
    let middle = c.place_between-at.result in
    let inside : middle < length c.args.records.now = omega arith in
    let here : is_lt (side_of c.args.key.now c.index-records-at.result) ≡ true = ap is_lt (sym c.side.ensures) ∙ sym c.is_lt.ensures ∙ c.if-is_lt.true in
    record {
      met = omega arith;
      inside = omega arith;
      before = low_half (λ r. is_lt (side_of c.args.key.now r) ≡ true) c.args.records.now middle (key_cut c.args.key.now).less c.requires inside c.index-records-at.result c.index-records-at.is here;
      behind = c.places.invariant.behind;
    }

pub places-preserved : goal.places-preserved
places-preserved c =
    let middle = c.place_between-at.result in
    let inside : middle < length c.args.records.now = omega arith in
    let here : is_lt (side_of c.args.key.now c.index-records-at.result) ≡ false = ap is_lt (sym c.side.ensures) ∙ sym c.is_lt.ensures ∙ c.if-is_lt.false in
    record {
      met = omega arith;
      inside = omega arith;
      before = c.places.invariant.before;
      behind = high_half (λ r. is_lt (side_of c.args.key.now r) ≡ false) c.args.records.now middle (not_less (side_of c.args.key.now) (key_cut c.args.key.now)) c.requires inside c.index-records-at.result c.index-records-at.is here;
    }
