-- A table of positions, and what is found in it as it grows.
use Rattle.std.proofs.Common.{◌≡◌, ◌≤◌, ℕ, Bool, true, false, List, ◌∷◌, ◌++◌, length, Option, Some, None, refl, sym, ap, ◌∙◌, arith}
use Rattle.std.specs.Prelude.{nat_lt}
use Rattle.std.specs.Option.{option_map, option_or}
use Rattle.std.proofs.lemmas.List.Folds.{find-append}
use Rattle.dns_names.specs.Name.{Labels, names_eq}
use Rattle.dns_wire.specs.Compress.{Place, place_of}
use Rattle.dns_wire.specs.Indexed.{offset_at}
use Rattle.dns_wire.specs.Puts.{noted}
use Rattle.dns_wire.proofs.Places.{names_same}

-- what is in the front is found there, and else after it
pub offset_at-append : (front back : List Place) (name : Labels) → offset_at (front ++ back) name ≡ option_or (offset_at front name) (offset_at back name)
offset_at-append front back name = ap (option_map (λ (p : Place). p.offset)) (find-append (λ (p : Place). names_eq p.suffix name) front back) ∙ go (place_of front name)
  where
    go : (o : Option Place) → option_map (λ (p : Place). p.offset) (option_or o (place_of back name)) ≡ option_or (option_map (λ (p : Place). p.offset) o) (offset_at back name)
    go None = refl
    go (Some p) = refl

or_none : (o : Option ℕ) → o ≡ option_or o None
or_none None = refl
or_none (Some n) = refl

-- the suffixes of a name that is being written were nowhere else: none is as short as what is left of it
abbrev pub StillKnown : List Place → List Place → Labels → Type 0
StillKnown known places left = (name : Labels) → length name ≤ length left → offset_at places name ≡ offset_at known name

longer : (label : List ℕ) (rest name : Labels) → length name ≤ length rest → names_eq (label ∷ rest) name ≡ false
longer label rest name h = go (names_eq (label ∷ rest) name) refl
  where
    go : (b : Bool) → names_eq (label ∷ rest) name ≡ b → b ≡ false
    go false e = refl
    go true e = let same : length (label ∷ rest) ≡ length name = ap length (names_same (label ∷ rest) name e) in absurd (omega (arith, same, h))

pub noted_other : (at : ℕ) (label : List ℕ) (rest name : Labels) → names_eq (label ∷ rest) name ≡ false → offset_at (noted at (label ∷ rest)) name ≡ None
noted_other at label rest name other = go (nat_lt at 16384) refl
  where
    go : (b : Bool) → nat_lt at 16384 ≡ b → offset_at (noted at (label ∷ rest)) name ≡ None
    go true e = rw (e, other, noted) refl
    go false e = rw (e, noted) refl

pub still_next : (known places : List Place) (at : ℕ) (label : List ℕ) (rest : Labels) → StillKnown known places (label ∷ rest) → StillKnown known (places ++ noted at (label ∷ rest)) rest
still_next known places at label rest h =
    λ name short.
    (offset_at-append places (noted at (label ∷ rest)) name
    ∙ ap (option_or (offset_at places name)) (noted_other at label rest name (longer label rest name short))
    ∙ sym (or_none (offset_at places name))
    ∙ h name (let s : length name ≤ length rest = short in omega (arith, s)))
