-- The closest zone, and the walk up the ancestors.
use Rattle.std.proofs.Common.{◌≡◌, inl, inr, ℕ, suc, ◌+◌, ◌<◌, Bool, true, false, List, [], ◌∷◌, length, get_or, drop, sym, ap, subst, ◌∙◌, arith, cond}
use Rattle.std.specs.Prelude.{◌||◌, Option, Some, None, slice_get}
use Rattle.std.specs.List.{list_any, find}
use Rattle.std.proofs.Math.Seq.{drop-cons}
use Rattle.std.proofs.lemmas.Option.{slice_get-get_or}
use Rattle.dns_names.specs.Name.{Labels, names_eq, parent, ancestors}
use Rattle.dns_zone.specs.Order.{names_same, names_itself}
use Rattle.dns_zone.specs.Sets.{true_or_false}
use Rattle.dns_zone.specs.Zone.{Zone}
use Rattle.dns_lookup.specs.Lookup.{zone_of}

pub eq_true : (a b : Labels) → a ≡ b → names_eq a b ≡ true
eq_true a b e = subst (λ (x : Labels). names_eq a x ≡ true) e (names_itself a)

pub eq_false : (a b : Labels) → (a ≡ b → ⊥) → names_eq a b ≡ false
eq_false a b apart = elim (true_or_false (names_eq a b)) [ inl e ↦ absurd (apart (names_same a b e)) | inr e ↦ e ]

abbrev pub has_apex : Labels → Zone → Bool
has_apex apex z = names_eq z.apex apex

-- one zone on
pub find_next : (p : Zone → Bool) (zones : List Zone) (i : ℕ) (z : Zone) → i < length zones → z ≡ get_or zones i z → p z ≡ false → find p (drop i zones) ≡ find p (drop (i + 1) zones)
find_next p zones i z inside is e =
    let one : i + 1 ≡ suc i = omega arith in
    let cut : drop i zones ≡ z ∷ drop (suc i) zones = drop-cons zones i z inside ∙ ap (λ (x : Zone). x ∷ drop (suc i) zones) (sym is) in
    ap (find p) cut ∙ ap (λ (b : Bool). cond b (Some z) (find p (drop (suc i) zones))) e ∙ ap (λ (n : ℕ). find p (drop n zones)) (sym one)

pub any_next : (p : Zone → Bool) (zones : List Zone) (i : ℕ) (z : Zone) → i < length zones → z ≡ get_or zones i z → p z ≡ false → list_any p (drop i zones) ≡ list_any p (drop (i + 1) zones)
any_next p zones i z inside is e =
    let one : i + 1 ≡ suc i = omega arith in
    let cut : drop i zones ≡ z ∷ drop (suc i) zones = drop-cons zones i z inside ∙ ap (λ (x : Zone). x ∷ drop (suc i) zones) (sym is) in
    ap (list_any p) cut ∙ ap (λ (b : Bool). b || list_any p (drop (suc i) zones)) e ∙ ap (λ (n : ℕ). list_any p (drop n zones)) (sym one)

pub find_here : (p : Zone → Bool) (zones : List Zone) (i : ℕ) (z : Zone) → i < length zones → z ≡ get_or zones i z → p z ≡ true → slice_get zones i ≡ find p (drop i zones)
find_here p zones i z inside is e =
    let cut : drop i zones ≡ z ∷ drop (suc i) zones = drop-cons zones i z inside ∙ ap (λ (x : Zone). x ∷ drop (suc i) zones) (sym is) in
    slice_get-get_or zones i z inside ∙ ap (λ (x : Zone). Some x) (sym is) ∙ ap (λ (b : Bool). cond b (Some z) (find p (drop (suc i) zones))) (sym e) ∙ ap (find p) (sym cut)

pub any_here : (p : Zone → Bool) (zones : List Zone) (i : ℕ) (z : Zone) → i < length zones → z ≡ get_or zones i z → p z ≡ true → list_any p (drop i zones) ≡ true
any_here p zones i z inside is e =
    let cut : drop i zones ≡ z ∷ drop (suc i) zones = drop-cons zones i z inside ∙ ap (λ (x : Zone). x ∷ drop (suc i) zones) (sym is) in
    ap (list_any p) cut ∙ ap (λ (b : Bool). b || list_any p (drop (suc i) zones)) e

-- up the ancestors
abbrev pub among : List Zone → Labels → Bool
among zones name = list_any (has_apex name) zones

abbrev pub zone_at : List Zone → Option Labels → Option Zone
zone_at zones None = None
zone_at zones (Some a) = find (has_apex a) zones

pub closest_here : (zones : List Zone) (name : Labels) → among zones name ≡ true → zone_of zones name ≡ find (has_apex name) zones
closest_here zones [] e = ap (λ (b : Bool). zone_at zones (cond b (Some []) None)) e
closest_here zones (l ∷ rest) e = ap (λ (b : Bool). zone_at zones (cond b (Some (l ∷ rest)) (find (among zones) (ancestors rest)))) e

pub closest_up : (zones : List Zone) (l : List ℕ) (rest : Labels) → among zones (l ∷ rest) ≡ false → zone_of zones (l ∷ rest) ≡ zone_of zones rest
closest_up zones l rest e = ap (λ (b : Bool). zone_at zones (cond b (Some (l ∷ rest)) (find (among zones) (ancestors rest)))) e

pub closest_none : (zones : List Zone) → among zones [] ≡ false → zone_of zones [] ≡ None
closest_none zones e = ap (λ (b : Bool). zone_at zones (cond b (Some []) None)) e

pub closest_step : (zones : List Zone) (here above : Labels) → Some above ≡ parent here → among zones here ≡ false → zone_of zones here ≡ zone_of zones above
closest_step zones [] above e none = absurd cc
closest_step zones (l ∷ rest) above e none = let same : above ≡ rest = cc in closest_up zones l rest none ∙ ap (zone_of zones) (sym same)

pub closest_end : (zones : List Zone) (here : Labels) → None ≡ parent here → among zones here ≡ false → zone_of zones here ≡ None
closest_end zones [] e none = closest_none zones none
closest_end zones (l ∷ rest) e none = absurd cc
