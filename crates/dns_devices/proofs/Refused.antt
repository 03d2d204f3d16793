-- What a sector of another format is not.
use Rattle.std.proofs.Common.{◌≡◌, ℕ, List, [], ◌∷◌, get_or, take, refl, sym, ◌∙◌, ap, arith}
use Rattle.std.specs.Prelude.{replicate}
use Rattle.dns_layout.specs.Sector.{blank, root_tag_in, tag}
use Rattle.dns_layout.specs.declared.format.Format.TheVariants.{One, Two}
use Rattle.dns_store.specs.Formats.{IsFormat}
use Rattle.dns_store.specs.declared.device_format.DeviceFormat.{DeviceFormat}
use Rattle.dns_store.specs.declared.device_format.DeviceFormat.TheVariants as told

tags_differ : root_tag_in One ≡ root_tag_in Two → ⊥
unfolding root_tag_in
tags_differ same =
    let letters : get_or {A = ℕ} (68 ∷ 80 ∷ 82 ∷ 49 ∷ []) 3 0 ≡ get_or {A = ℕ} (68 ∷ 80 ∷ 82 ∷ 50 ∷ []) 3 0 = ap (λ (l : List ℕ). get_or l 3 0) same in
    absurd (omega (arith, letters))

blank_differs : tag blank ≡ root_tag_in One → ⊥
unfolding tag root_tag_in
blank_differs same =
    let letters : get_or {A = ℕ} (68 ∷ 80 ∷ 82 ∷ 49 ∷ []) 0 0 ≡ get_or {A = ℕ} (take 4 (replicate 512 0)) 0 0 = ap (λ (l : List ℕ). get_or l 0 0) (sym same) in
    absurd (omega (arith, letters))

-- What is told as another format has not the tag of a root of format 1.
pub not_old : (x : List ℕ) (f : DeviceFormat) → IsFormat x f → (f ≡ told.One → ⊥) → tag x ≡ root_tag_in One → ⊥
not_old x told.Blank is other tagged = blank_differs (sym (ap (λ (y : List ℕ). tag y) is) ∙ tagged)
not_old x told.One is other tagged = other refl
not_old x told.Two is other tagged = tags_differ (sym tagged ∙ is)
not_old x told.Other is other tagged = is.1 tagged
