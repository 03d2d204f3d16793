use Rattle.std.proofs.Common.{sym, ◌∙◌}
use Rattle.std.specs.Prelude.{◌==◌, ◌&&◌}
use Rattle.std.specs.List.{list_any}
use Rattle.dns_records.specs.Record.{serial_of}
use Rattle.dns_records.specs.Types.{type_soa}
use Rattle.dns_serial.specs.Serial.{greater}
use Rattle.dns_update.proofs.AtOwner.{owned_is}
use Rattle.dns_update.proofs.Found.{older_here}
use Rattle.dns_update.proofs.owner_records.succeeds_one.Goals as goal

pub returns : goal.returns
returns c =
    let xs = c.args.records.now in
    let r = c.args.soa.now in
    let there = c.of_type.ensures xs r.owner c.requires.order (sym (owned_is r.owner xs c.requires.owned)) in
    c.has_older.ensures ∙ (λ i. list_any (λ s. s.rtype == type_soa && greater (c.serial.ensures i) (serial_of s)) (there i)) ∙ older_here r xs
