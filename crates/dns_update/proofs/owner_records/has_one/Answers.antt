use Rattle.std.proofs.Common.{List, length, sym, ap}
use Rattle.std.specs.Prelude.{◌==◌}
use Rattle.dns_records.specs.Record.{Record}
use Rattle.dns_update.proofs.AtOwner.{owned_is}
use Rattle.dns_update.proofs.owner_records.has_one.Goals as goal

pub returns : goal.returns
returns c =
    let xs = c.args.records.now in
    let name = c.args.name.now in
    ap (λ (rs : List Record). length rs == 1) (c.of_type.ensures xs name c.requires.order (sym (owned_is name xs c.requires.owned)))
