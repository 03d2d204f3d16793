use Rattle.std.proofs.Common.{◌≡◌, length, Some, refl}
use Rattle.std.specs.List.{slice_get}
use Rattle.std.proofs.lemmas.Option.{slice_get_read}
use Rattle.dns_zoneindex.proofs.Lent.{one_each}
use Rattle.dns_zoneindex.proofs.run.slot_in.Goals as goal

pub returns-clause-found : goal.returns-clause-found
returns-clause-found c =
    let slots = c.args.slots.now in
    let position = c.args.position in
    let s = c.in_ok-slot.slot.now in
    let lookup = c.in_ok-slot.ensures.lookup in
    let at : slice_get slots position ≡ Some s = slice_get_read slots (length slots) position s refl lookup.3.0 lookup.1 in
    one_each slots c.args.count position s c.requires.full c.requires.kept c.requires.all c.if-count-slots.false at
