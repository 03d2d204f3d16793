-- What is left where no cut is above a name.
use Rattle.std.specs.Prelude.{◌≡◌, Some, None, cond}
use Rattle.dns_names.specs.Name.{Labels}
use Rattle.dns_zone.specs.Zone.{Zone}
use Rattle.dns_zone.specs.Node.{cut, cuts_at}

-- The cut above the name or at it is the name itself, if it is one.
abbrev pub EndsAtMost : Zone → Labels → Type 0
EndsAtMost z name = cut z name ≡ cond (cuts_at z name) (Some name) None
