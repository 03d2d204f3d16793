-- Which addresses are listed.
use Rattle.std.proofs.Common.{◌≡◌, ◌⊎◌, inl, inr, ℕ, zero, suc, ◌<◌, List, [], ◌∷◌, length, slice_index_or, refl, sym, subst, arith}
use Rattle.std.specs.Prelude.{◌↔◌, Any, IsTrue}
use Rattle.std.specs.declared.net.ip_addr.IpAddr.{IpAddr}
use Rattle.dns_versions.specs.Each.{Each2}
use Rattle.dns_primary.specs.declared.primary.ZoneSpec.{ZoneSpec}
use Rattle.dns_primary.specs.Machine.{ZoneState}
use Rattle.dns_primary.specs.Keeps.{IsInList, IsSet}

-- Where one of some has this, one of those beside them has that.
any_beside : {A B : Type 0} (R : A → B → Type 0) (P : A → Type 0) (Q : B → Type 0) (xs : List A) (ys : List B) → Each2 R xs ys → ((a : A) (b : B) → R a b → P a → Q b)
    → (k : ℕ) (x : A) → k < length xs → slice_index_or xs k x ≡ x → P x → Any Q ys
any_beside R P Q [] [] each on k x lt is p = absurd (omega (arith, lt))
any_beside R P Q [] (b ∷ ys) each on k x lt is p = absurd each
any_beside R P Q (a ∷ xs) [] each on k x lt is p = absurd each
any_beside R P Q (a ∷ xs) (b ∷ ys) (here, each) on zero x lt is p = (0, b, omega arith, refl, on a b here (subst P (sym is) p))
any_beside R P Q (a ∷ xs) (b ∷ ys) (here, each) on (suc k) x lt is p =
    let (j, y, within, at, q) = any_beside R P Q xs ys each on k x (omega (arith, lt)) is p in
    (suc j, y, omega (arith, within), at, q)

beside : {A B : Type 0} (R : A → B → Type 0) (xs : List A) (ys : List B) → Each2 R xs ys → Each2 (λ b a. R a b) ys xs
beside R [] [] each = tt
beside R [] (b ∷ ys) each = absurd each
beside R (a ∷ xs) [] each = absurd each
beside R (a ∷ xs) (b ∷ ys) (here, each) = (here, beside R xs ys each)

abbrev MayCome : IpAddr → ZoneState → Type 0
MayCome address z = IsTrue (z.setting.may_update address) ⊎ IsTrue (z.setting.may_transfer address)

in_list : (address : IpAddr) (s : ZoneSpec) (z : ZoneState) → IsSet s z → IsInList s address → MayCome address z
unfolding IsInList
in_list address s z set (inl update) = inl ((set.update address).1 update)
in_list address s z set (inr transfer) = inr ((set.transfer address).1 transfer)

may_come : (address : IpAddr) (z : ZoneState) (s : ZoneSpec) → IsSet s z → MayCome address z → IsInList s address
unfolding IsInList
may_come address z s set (inl update) = inl ((set.update address).0 update)
may_come address z s set (inr transfer) = inr ((set.transfer address).0 transfer)

pub listed : (address : IpAddr) (settings : List ZoneSpec) (zones : List ZoneState) → Each2 IsSet settings zones
    → Any (λ s. IsInList s address) settings ↔ Any (λ z. MayCome address z) zones
listed address settings zones set = (
  λ (k, s, lt, is, p). any_beside IsSet (λ s. IsInList s address) (MayCome address) settings zones set (λ s z. in_list address s z) k s lt is p,
  λ (k, z, lt, is, p). any_beside (λ z s. IsSet s z) (MayCome address) (λ s. IsInList s address) zones settings (beside IsSet settings zones set) (λ z s. may_come address z s) k z lt is p,
)
