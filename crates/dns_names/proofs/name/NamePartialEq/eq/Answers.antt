use Rattle.std.proofs.Common.{◌∙◌}
use Rattle.dns_names.specs.Compare.{same_plain-labels}
use Rattle.dns_names.proofs.name.NamePartialEq.eq.Goals as goal

pub returns-clause-value : goal.returns-clause-value
returns-clause-value c =
    rw (← c.self.view_is, ← c.other.view_is) (c.same_octets.ensures ∙ rw (c.as_slice.ensures, c.as_slice-2.ensures) (same_plain-labels _ _ c.self.invariant c.other.invariant))
