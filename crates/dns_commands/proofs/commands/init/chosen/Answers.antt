use Rattle.std.proofs.Common.{ℕ, List, Option, sym, ap, subst}
use Rattle.std.specs.Option.{option_copied}
use Rattle.dns_commands.specs.Init.{AreChosen}
use Rattle.dns_commands.proofs.commands.init.chosen.Goals as goal

pub returns-in-Some-zone_of : goal.returns-in-Some-zone_of
returns-in-Some-zone_of c =
    subst (λ (origin : Option (List ℕ)). AreChosen origin c.args.zones.now c.from_ref.result.now) (sym (ap option_copied c.in-Some.is))
    (c.in-Ok.name, c.in-Some-zone_of.own.now, c.in-Ok.ensures, sym c.in-Some-zone_of.ensures, c.from_ref.ensures.value)
