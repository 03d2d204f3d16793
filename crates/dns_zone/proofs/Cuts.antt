-- The walk up the ancestors in search of the shortest cut.
use Rattle.std.proofs.Common.{◌≡◌, Bool, true, false, List, [], ◌∷◌, ◌++◌, refl, sym, ap, ◌∙◌, cond, reverse}
use Rattle.std.specs.Prelude.{Option, Some, None}
use Rattle.std.specs.List.{find}
use Rattle.std.proofs.lemmas.List.{reverse-append}
use Rattle.dns_names.specs.Name.{Labels, parent, ancestors}

abbrev pub or_else : Option Labels → Option Labels → Option Labels
or_else None b = b
or_else (Some a) b = Some a

find_last : (p : Labels → Bool) (xs : List Labels) (x : Labels) → find p (xs ++ x ∷ []) ≡ or_else (find p xs) (cond (p x) (Some x) None)
find_last p [] x = refl
find_last p (y ∷ ys) x = step (p y) (find_last p ys x)
  where
    step : (b : Bool) → find p (ys ++ x ∷ []) ≡ or_else (find p ys) (cond (p x) (Some x) None) → cond b (Some y) (find p (ys ++ x ∷ [])) ≡ or_else (cond b (Some y) (find p ys)) (cond (p x) (Some x) None)
    step true e = refl
    step false e = e

or_assoc : (a b c : Option Labels) → or_else (or_else a b) c ≡ or_else a (or_else b c)
or_assoc None b c = refl
or_assoc (Some a) b c = refl

chosen : (b : Bool) (x : Labels) (o : Option Labels) → or_else (cond b (Some x) None) o ≡ cond b (Some x) o
chosen true x o = refl
chosen false x o = refl

-- one ancestor up
pub up_once : (p : Labels → Bool) (here above : Labels) (o : Option Labels) → Some above ≡ parent here → or_else (find p (reverse (ancestors here))) o ≡ or_else (find p (reverse (ancestors above))) (cond (p here) (Some here) o)
up_once p [] above o e = absurd cc
up_once p (l ∷ rest) above o e =
    let same : above ≡ rest = cc in
    ap (λ (xs : List Labels). or_else (find p xs) o) (reverse-append ((l ∷ rest) ∷ []) (ancestors rest))
    ∙ ap (λ (r : Option Labels). or_else r o) (find_last p (reverse (ancestors rest)) (l ∷ rest))
    ∙ or_assoc (find p (reverse (ancestors rest))) (cond (p (l ∷ rest)) (Some (l ∷ rest)) None) o
    ∙ ap (or_else (find p (reverse (ancestors rest)))) (chosen (p (l ∷ rest)) (l ∷ rest) o)
    ∙ ap (λ (x : Labels). or_else (find p (reverse (ancestors x))) (cond (p (l ∷ rest)) (Some (l ∷ rest)) o)) (sym same)

pub at_root : (p : Labels → Bool) (here : Labels) (o : Option Labels) → None ≡ parent here → or_else (find p (reverse (ancestors here))) o ≡ cond (p here) (Some here) o
at_root p [] o e = chosen (p []) [] o
at_root p (l ∷ rest) o e = absurd cc

-- the name of what was kept on the way
abbrev pub name_kept : {X : Type 0} → Option (Labels × X) → Option Labels
name_kept None = None
name_kept (Some p) = Some p.0

-- one ancestor up, where it is kept if it passes
pub up_kept : (p : Labels → Bool) (here above : Labels) (b : Bool) (o kept : Option Labels) → Some above ≡ parent here → b ≡ p here → kept ≡ cond b (Some here) o → or_else (find p (reverse (ancestors here))) o ≡ or_else (find p (reverse (ancestors above))) kept
up_kept p here above b o kept e is k = up_once p here above o e ∙ ap (or_else (find p (reverse (ancestors above)))) (sym (k ∙ ap (λ (t : Bool). cond t (Some here) o) is))
