use Rattle.std.proofs.Common.{List, sym, ap, ◌∙◌, not}
use Rattle.std.specs.Prelude.{◌==◌}
use Rattle.std.specs.List.{list_any}
use Rattle.dns_records.specs.Record.{Record}
use Rattle.dns_records.specs.Types.{type_cname}
use Rattle.dns_update.proofs.AtOwner.{owned_is}
use Rattle.dns_update.proofs.Found.{other_here}
use Rattle.dns_update.proofs.owner_records.owns_other.Goals as goal

pub returns : goal.returns
returns c =
    let xs = c.args.records.now in
    let name = c.args.name.now in
    c.has_other.ensures ∙ ap (λ (rs : List Record). list_any (λ r. not (r.rtype == type_cname)) rs) (sym (owned_is name xs c.requires)) ∙ other_here name type_cname xs
