use Rattle.std.proofs.Common.{◌∙◌, ap, sym, arith, drop, length-drop}
use Rattle.std.proofs.lemmas.List.{take_all}
use Rattle.dns_layout.specs.Sector.{old_apex_field, apex_field_in}
use Rattle.dns_layout.specs.declared.format.Format.{Format}
use Rattle.dns_layout.proofs.root.apex_field.Goals as goal

pub returns-in-One : goal.returns-in-One
unfolding old_apex_field
returns-in-One c = c.copy_from_slice.ensures.after ∙ take_all 464 (drop 48 c.args.sector.now) (omega (arith, length-drop 48 c.args.sector.now)) ∙ ap (λ (f : Format). apex_field_in f c.args.sector.now) (sym c.in-One.is)
