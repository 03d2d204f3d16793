use Rattle.std.proofs.Common.{List, ℕ, ◌↔◌, IsTrue, subst, sym}
use Rattle.dns_layout.specs.Own.{IsIntactIn}
use Rattle.dns_layout.specs.declared.format.Format.TheVariants.{Two}
use Rattle.dns_journal.proofs.Looking.{got_at}
use Rattle.dns_commands.proofs.commands.verify.is_intact_at.Goals as goal

pub returns-clause-intact : goal.returns-clause-intact
returns-clause-intact g c honest =
    let got = got_at (g.D.Sectors.seen c.args.device.now) c.args.position c.in_ok-sector.sector (c.in_ok-sector.ensures.octets honest) in
    subst (λ (x : List ℕ). IsTrue c.is_intact.result ↔ IsIntactIn Two c.args.position x) (sym got) c.is_intact.ensures
