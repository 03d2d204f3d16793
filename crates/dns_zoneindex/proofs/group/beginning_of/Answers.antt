use Rattle.std.proofs.Common.{◌≡◌, ◌-◌, suc, length, true, Some, refl, ap, ◌∙◌, arith}
use Rattle.std.specs.List.{slice_get}
use Rattle.std.specs.Option.{option_copied}
use Rattle.std.proofs.lemmas.Option.{slice_get_read}
use Rattle.dns_zoneindex.specs.Children.{last_of}
use Rattle.dns_zoneindex.proofs.Fronts.{alike_by, beginning_none, beginning_whole, beginning_later}
use Rattle.dns_zoneindex.proofs.group.beginning_of.Goals as goal

pub returns-then-second-last : goal.returns-then-second-last
returns-then-second-last c = beginning_none c.args.slots.now true

pub returns-then-are_apart : goal.returns-then-are_apart
returns-then-are_apart c = beginning_none c.args.slots.now true

pub returns-then-all-ge8 : goal.returns-then-all-ge8
returns-then-all-ge8 c =
    let slots = c.args.slots.now in
    let n = c.shared_by-all.result in
    let s = c.index-slots-0.result in
    let t = c.index-slots-slots.result in
    let p = length slots - 1 in
    let some : suc p ≡ length slots = omega (arith, c.requires.more) in
    let first : slice_get slots 0 ≡ Some s = slice_get_read slots (length slots) 0 s refl (omega (arith, c.requires.more)) c.index-slots-0.is in
    let last : slice_get slots p ≡ Some t = slice_get_read slots (length slots) p t refl (omega (arith, c.requires.more)) c.index-slots-slots.is in
    beginning_whole n p slots s t c.requires.kept c.requires.full first some last
    (alike_by n (option_copied c.first-2.result) (option_copied c.last-2.result) (slice_get s 0) (last_of t) c.shared_by-all.ensures
    (c.first-2.ensures ∙ ap (λ xs. slice_get xs 0) c.first.view_is)
    (c.last-2.ensures ∙ ap last_of c.last.view_is))

pub returns : goal.returns
returns c =
    let slots = c.args.slots.now in
    let n = c.shared_by-later.result in
    let s = c.index-slots-1.result in
    let t = c.index-slots-slots.result in
    let p = length slots - 1 in
    let some : suc p ≡ length slots = omega (arith, c.requires.more) in
    let second : slice_get slots 1 ≡ Some s = slice_get_read slots (length slots) 1 s refl c.requires.more c.index-slots-1.is in
    let last : slice_get slots p ≡ Some t = slice_get_read slots (length slots) p t refl (omega (arith, c.requires.more)) c.index-slots-slots.is in
    beginning_later n p slots s t c.requires.kept c.requires.full second some last
    (alike_by n (option_copied c.first-3.result) (option_copied c.first-4.result) (slice_get s 0) (slice_get t 0) c.shared_by-later.ensures
    (c.first-3.ensures ∙ ap (λ xs. slice_get xs 0) c.second.view_is)
    (c.first-4.ensures ∙ ap (λ xs. slice_get xs 0) c.last.view_is))
