-- Zones that stay set are set as before.
use Rattle.std.proofs.Common.{List, [], ◌∷◌, sym, ap, subst, ◌∙◌}
use Rattle.dns_names.specs.Name.{Labels}
use Rattle.dns_versions.specs.Each.{Each2}
use Rattle.dns_primary.specs.declared.primary.ZoneSpec.{ZoneSpec}
use Rattle.dns_primary.specs.Machine.{Setting, ZoneState}
use Rattle.dns_primary.specs.Keeps.{IsSet}
use Rattle.dns_primary.specs.HandOut.{AreSetAs, IsSetAs}
use Rattle.dns_primary.proofs.Brought.{StaysSet}

-- what zones were opened for stays
set_lasts_one : (a : Labels) (s : ZoneSpec) (z w : ZoneState) → IsSetAs a s z → StaysSet z w → IsSetAs a s w
set_lasts_one a s z w so l = record {
  shape = ap (λ (x : Setting). x.shape) l ∙ so.shape;
  set = record {
    keep = so.set.keep ∙ sym (ap (λ (x : Setting). x.keep) l);
    update = (subst (λ (x : Setting). IsSet s (record z { setting = x })) (sym l) so.set).update;
    transfer = (subst (λ (x : Setting). IsSet s (record z { setting = x })) (sym l) so.set).transfer;
  };
  range = so.range;
}

pub set_lasts : (names : List Labels) (settings : List ZoneSpec) (olds news : List ZoneState) → AreSetAs names settings olds → Each2 StaysSet olds news → AreSetAs names settings news
set_lasts [] [] [] [] so l = tt
set_lasts (a ∷ names) (s ∷ settings) (z ∷ olds) (w ∷ news) so l = (set_lasts_one a s z w so.0 l.0, set_lasts names settings olds news so.1 l.1)
set_lasts names settings [] (w ∷ news) so l = absurd l
set_lasts names settings (z ∷ olds) [] so l = absurd l
set_lasts [] (s ∷ settings) [] [] so l = absurd so
set_lasts (a ∷ names) [] [] [] so l = absurd so
set_lasts (a ∷ names) (s ∷ settings) [] [] so l = absurd so
set_lasts [] [] (z ∷ olds) (w ∷ news) so l = absurd so
set_lasts [] (s ∷ settings) (z ∷ olds) (w ∷ news) so l = absurd so
set_lasts (a ∷ names) [] (z ∷ olds) (w ∷ news) so l = absurd so
