use Rattle.std.proofs.Common.{◌≡◌, length, take, Some, refl, sym, ap, ◌∙◌}
use Rattle.std.specs.List.{slice_get}
use Rattle.std.proofs.lemmas.Option.{slice_get_read}
use Rattle.dns_zoneindex.proofs.Fronts.{begins_second}
use Rattle.dns_zoneindex.proofs.group.begins_as.Goals as goal

pub returns-in-Some-first : goal.returns-in-Some-first
returns-in-Some-first c = λ same.
    let slots = c.args.slots.now in
    let s = c.in-Some.slot.now in
    let node = c.in-Some-first.node.now in
    let lookup = c.in-Some.ensures.lookup in
    let second : slice_get slots 1 ≡ Some s = slice_get_read slots (length slots) 1 s refl lookup.3.0 lookup.1 in
    let first : slice_get s 0 ≡ Some node = ap (λ xs. slice_get xs 0) (sym c.slot.view_is) ∙ sym c.in-Some-first.ensures in
    begins_second c.args.skip c.args.label.now slots s node c.requires second first (c.begin_alike.ensures same ∙ ap (take c.args.skip) c.label.ensures)
