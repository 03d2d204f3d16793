use Rattle.std.proofs.Common.{List, ℕ, subst, sym}
use Rattle.dns_layout.specs.Apex.{IsPlainApex}
use Rattle.dns_store.proofs.Opening.{plain_name}
use Rattle.dns_store.proofs.recovery.apex_of.Goals as goal

pub unreachable-requires : goal.unreachable-requires
unreachable-requires c = c.in-None.ensures (subst (λ (l : List ℕ). IsPlainApex l) (sym c.as_wire.ensures.octets) (plain_name c.args.name.now c.as_wire.ensures.valid))

pub returns-clause-plain : goal.returns-clause-plain
returns-clause-plain c = plain_name c.args.name.now c.as_wire.ensures.valid
