-- A test that tells whether two names are one.
use Rattle.std.proofs.Common.{◌≡◌, Bool, true, false, inl, inr, refl, sym, subst}
use Rattle.std.specs.Prelude.{◌↔◌, IsTrue}
use Rattle.dns_names.specs.Name.{Labels, names_eq}
use Rattle.dns_zone.specs.Order.{names_same, names_itself}
use Rattle.dns_zone.specs.Sets.{true_or_false}

pub same_names : (b : Bool) (x y : Labels) → (IsTrue b ↔ (x ≡ y)) → b ≡ names_eq x y
same_names true x y h = sym (subst (λ (z : Labels). names_eq x z ≡ true) (h.0 refl) (names_itself x))
same_names false x y h = elim (true_or_false (names_eq x y)) [ inl e ↦ (let no : false ≡ true = h.1 (names_same x y e) in cc) | inr e ↦ sym e ]
