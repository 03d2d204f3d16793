use Rattle.std.proofs.Common.{◌≡◌, ◌-◌, ◌++◌, ◌<◌, [], ◌∷◌, length, sym, ap, subst, length-append, arith}
use Rattle.dns_zoneindex.specs.Children.{joined, AllFull}
use Rattle.dns_zoneindex.proofs.Slots.{in_two, full_front, full_back, kept_front, kept_back, some_joined, more_made, joined_more}
use Rattle.dns_zoneindex.proofs.group.in_groups.Goals as goal

pub grouped-requires-clause-full : goal.grouped-requires-clause-full
grouped-requires-clause-full c =
    let is = in_two (c.len-in-groups.result - 14) c.groups.front.items c.split_off.new.self.items c.in_ok-back.back.items c.in_ok-back.ensures.items c.in_ok-back.ensures.tail in
    full_back c.split_off.new.self.items c.in_ok-back.back.items (subst AllFull is c.groups.invariant.1)

pub grouped-requires-clause-kept : goal.grouped-requires-clause-kept
grouped-requires-clause-kept c =
    let is = in_two (c.len-in-groups.result - 14) c.groups.front.items c.split_off.new.self.items c.in_ok-back.back.items c.in_ok-back.ensures.items c.in_ok-back.ensures.tail in
    kept_back c.groups.front.items c.split_off.new.self.items c.in_ok-back.back.items is c.groups.invariant.2

pub groups-preserved : goal.groups-preserved
groups-preserved c =
    let front = c.split_off.new.self.items in
    let back = c.in_ok-back.back.items in
    let is : c.groups.front.items ≡ front ++ back = in_two (c.len-in-groups.result - 14) c.groups.front.items front back c.in_ok-back.ensures.items c.in_ok-back.ensures.tail in
    let both = subst AllFull is c.groups.invariant.1 in
    let made = c.in_ok-push.ensures.items in
    let parts = length-append front back in
    let usual : length back ≡ 14 = omega (arith, c.groups-test.true, c.in_ok-back.ensures.tail_len) in
    let some : 0 < length c.in_ok-grouped.field-0 = subst (λ x. 0 < length x) (sym c.in_ok-grouped.ensures) (some_joined back (full_back front back both) (omega (arith, usual))) in (
      joined_more c.groups.made.items c.push.new.self.items c.in_ok-grouped.field-0 c.groups.front.items front back (joined c.args.slots.items) made c.in_ok-grouped.ensures is c.groups.invariant.0,
      full_front front back both,
      kept_front c.groups.front.items front back is c.groups.invariant.2,
      subst AllFull (sym (more_made c.groups.made.items c.push.new.self.items c.in_ok-grouped.field-0 made)) (some, c.groups.invariant.3),
      omega (arith, c.groups-test.true, usual, parts, ap length is),
      omega (arith, usual, parts, ap length is, ap length made, length-append c.groups.made.items (c.in_ok-grouped.field-0 ∷ []), c.groups.invariant.5),
    )
