use Rattle.std.proofs.Common.{arith, length, [], ◌∷◌, sym, ap, ◌∙◌}
use Rattle.dns_changes.specs.Change.{is_lone}
use Rattle.dns_zone.proofs.Kept.{kept_most}
use Rattle.dns_changes.proofs.Formed.{formed}
use Rattle.dns_changes.proofs.change.Change.between.Goals as goal

pub new-requires : goal.new-requires
new-requires g c =
    let before = g.I.ZoneIndex.records c.args.before.now in
    let after = g.I.ZoneIndex.records c.args.after.now in
    record {
      few = record {
        going = omega (arith, kept_most (is_lone after) before, ap length c.in_ok-removed.ensures, c.requires.few_before);
        coming = omega (arith, kept_most (is_lone before) after, ap length c.in_ok-added.ensures, c.requires.few_after);
      };
      formed = formed before after _ _ _ _ (g.met.I.ZoneIndex.ordered c.args.before.now) (g.met.I.ZoneIndex.ordered c.args.after.now)
          (c.requires.old ∙ ap (λ r. r ∷ []) (sym c.in_ok-clone.ensures.cases)) (c.requires.new ∙ ap (λ r. r ∷ []) (sym c.in_ok-clone-2.ensures.cases)) c.in_ok-removed.ensures c.in_ok-added.ensures;
    }
