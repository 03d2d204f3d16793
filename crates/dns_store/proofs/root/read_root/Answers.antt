use Rattle.std.proofs.Common.{◌≡◌, inl, inr, ⊎_elim, sym, ◌∙◌}
use Rattle.std.proofs.lemmas.Result.{err_from_is_err_and}
use Rattle.dns_journal.specs.declared.read.ReadError.{ReadError}
use Rattle.dns_store.proofs.Damage.{spoilt_named, of_memory}
use Rattle.dns_store.proofs.root.read_root.Goals as goal

pub returns-in_err-sector-clause-refused : goal.returns-in_err-sector-clause-refused
returns-in_err-sector-clause-refused g c honest k altered =
    let p = err_from_is_err_and c.from_residual.result c.from_residual.ensures.1 in
    let never : c.in_err-sector.field-0.0 ≡ ReadError.OutOfMemory → ⊥ = λ memory. elim c.in_err-sector.ensures.only [ inl is ↦ absurd cc | inr is ↦ absurd cc ] in
    rw p.1
    (⊎_elim (λ failed. inl failed) (λ rest. ⊎_elim (λ memory. absurd (never (of_memory c.in_err-sector.field-0.0 (sym p.2 ∙ memory)))) (λ spoilt. inr (inl spoilt)) rest)
    (spoilt_named c.args.format (g.D.Sectors.seen c.args.device.now) 0 1 c.in_err-sector.field-0.0 p.0 p.2 (c.in_err-sector.ensures.damaged honest)))
