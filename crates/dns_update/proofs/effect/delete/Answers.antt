use Rattle.std.proofs.Common.{◌≡◌, false, Bool, sym, ap, ◌∙◌}
use Rattle.std.specs.Prelude.{if◌then◌else◌}
use Rattle.dns_zone.specs.Records.{without}
use Rattle.dns_update.specs.ResourceRecord.{as_record}
use Rattle.dns_update.specs.Effect.{deleted, is_spared}
use Rattle.dns_update.proofs.Found.{done_at}
use Rattle.dns_update.proofs.effect.delete.Goals as goal

pub returns : goal.returns
returns g c =
    let xs = g.H.Held.records c.args.held.now in
    let apex = c.args.apex.now in
    let r = as_record c.args.item.now in
    let goes : is_spared apex xs r ≡ false = sym c.is_spared.ensures ∙ c.if-is_spared.false in
    done_at c.take_named.result (g.H.Held.records c.take_named.new.self) (without r xs) (deleted apex xs r) c.take_named.ensures
    (ap (λ (b : Bool). if b then xs else without r xs) (sym goes))
