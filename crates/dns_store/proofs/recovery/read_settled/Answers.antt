use Rattle.std.proofs.Common.{sym, subst}
use Rattle.dns_sectors.specs.Device.{Content}
use Rattle.dns_layout.specs.Sector.{sector_at}
use Rattle.dns_layout.specs.Own.{IsIntactIn, IsAltered}
use Rattle.dns_layout.specs.declared.format.Format.TheVariants.{Two}
use Rattle.dns_store.specs.Versions.{Shape}
use Rattle.dns_store.specs.Damage.{IsSectorRead}
use Rattle.dns_store.specs.Opening.{RefusesAltered}
use Rattle.dns_store.proofs.recovery.read_settled.Goals as goal

pub returns-in-Ok-clause-found : goal.returns-in-Ok-clause-found
returns-in-Ok-clause-found g c honest range before altered o s is part =
    let reads = c.settle.ensures.reads in
    c.in-Ok.ensures.found (reads.honest.1 honest) range before (subst (λ (d : Content). IsAltered Two before d) (sym (reads.seen honest)) altered) o s is part

pub returns-in-Err-clause-found : goal.returns-in-Err-clause-found
returns-in-Err-clause-found g c honest range before altered o s is part =
    let reads = c.settle.ensures.reads in
    let shape : Shape = record { apex = c.args.apex.now; snapshot = c.args.snapshot; journal = c.args.journal } in
    subst (λ (d : Content). RefusesAltered Two shape before d c.in-Err.error) (reads.seen honest)
    (c.in-Err.ensures.found (reads.honest.1 honest) range before (subst (λ (d : Content). IsAltered Two before d) (sym (reads.seen honest)) altered) o s is part)

pub returns-in-Ok-clause-not_own : goal.returns-in-Ok-clause-not_own
returns-in-Ok-clause-not_own g c honest range position reached spoilt =
    let shape : Shape = record { apex = c.args.apex.now; snapshot = c.args.snapshot; journal = c.args.journal } in
    let reads = c.settle.ensures.reads in
    let same = reads.seen honest in
    c.in-Ok.ensures.not_own (reads.honest.1 honest) range position (subst (λ (d : Content). IsSectorRead shape d position) (sym same) reached)
    (λ own. spoilt (subst (λ (d : Content). IsIntactIn Two position (sector_at d position)) same own))

pub returns-in-Err-clause-not_own : goal.returns-in-Err-clause-not_own
returns-in-Err-clause-not_own g c honest range position reached spoilt =
    let shape : Shape = record { apex = c.args.apex.now; snapshot = c.args.snapshot; journal = c.args.journal } in
    let reads = c.settle.ensures.reads in
    let same = reads.seen honest in
    c.in-Err.ensures.not_own (reads.honest.1 honest) range position (subst (λ (d : Content). IsSectorRead shape d position) (sym same) reached)
    (λ own. spoilt (subst (λ (d : Content). IsIntactIn Two position (sector_at d position)) same own))
