use Rattle.std.proofs.Common.{◌/◌, subst}
use Rattle.dns_zoneindex.specs.Children.{AllFull}
use Rattle.dns_zoneindex.proofs.Results.{if_ok}
use Rattle.dns_zoneindex.proofs.Slots.{in_two, full_front, full_back, kept_front, kept_back, joined_two}
use Rattle.dns_zoneindex.proofs.group.gathered.Goals as goal

pub grouped-requires-2-clause-full : goal.grouped-requires-2-clause-full
grouped-requires-2-clause-full c =
    let front = c.split_off.new.self.items in
    let back = c.in_ok-back.back.items in
    let is = in_two (c.len-3.result / 2) c.args.slots.items front back c.in_ok-back.ensures.items c.in_ok-back.ensures.tail in
    full_front front back (subst AllFull is c.requires.full)

pub grouped-requires-2-clause-kept : goal.grouped-requires-2-clause-kept
grouped-requires-2-clause-kept c =
    let front = c.split_off.new.self.items in
    let back = c.in_ok-back.back.items in
    let is = in_two (c.len-3.result / 2) c.args.slots.items front back c.in_ok-back.ensures.items c.in_ok-back.ensures.tail in
    kept_front c.args.slots.items front back is c.requires.kept

pub grouped-requires-3-clause-full : goal.grouped-requires-3-clause-full
grouped-requires-3-clause-full c =
    let front = c.split_off.new.self.items in
    let back = c.in_ok-back.back.items in
    let is = in_two (c.len-3.result / 2) c.args.slots.items front back c.in_ok-back.ensures.items c.in_ok-back.ensures.tail in
    full_back front back (subst AllFull is c.requires.full)

pub grouped-requires-3-clause-kept : goal.grouped-requires-3-clause-kept
grouped-requires-3-clause-kept c =
    let front = c.split_off.new.self.items in
    let back = c.in_ok-back.back.items in
    let is = in_two (c.len-3.result / 2) c.args.slots.items front back c.in_ok-back.ensures.items c.in_ok-back.ensures.tail in
    kept_back c.args.slots.items front back is c.requires.kept

pub returns-clause-made : goal.returns-clause-made
returns-clause-made c =
    let front = c.split_off.new.self.items in
    let back = c.in_ok-back.back.items in
    let is = in_two (c.len-3.result / 2) c.args.slots.items front back c.in_ok-back.ensures.items c.in_ok-back.ensures.tail in
    if_ok c.two.result
    (λ made e. joined_two made.items c.in_ok-first.first c.in_ok-grouped-2.field-0 c.args.slots.items front back e c.in_ok-first.ensures c.in_ok-grouped-2.ensures is)
    c.two.ensures
