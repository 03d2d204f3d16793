-- The chain of aliases, name by name.
use Rattle.std.proofs.Common.{◌≡◌, ℕ, zero, suc, ◌<◌, List, [], ◌∷◌, ◌++◌, map, refl, sym, ap, subst, ◌∙◌, arith, append_assoc}
use Rattle.std.specs.Prelude.{Option, Some, None}
use Rattle.std.proofs.lemmas.List.{map-append, append-nil}
use Rattle.dns_names.specs.Name.{Labels}
use Rattle.dns_zone.specs.Zone.{Zone}
use Rattle.dns_lookup.specs.Lookup.{next_name, zone_of, chain, outcome, resolve}
use Rattle.dns_lookup.specs.Lookup as lookup
use Rattle.dns_lookup.specs.Represented.{Represents, RepresentAll, names_searched}
use Rattle.dns_lookup.specs.Lent.{Lends, AllLend}
use Rattle.dns_lookup.specs.declared.chain.Found.{Found}

abbrev names : List lookup.Found → List Labels
names fs = map (λ (f : lookup.Found). f.name) fs

-- What was found so far, and the chain of at most so many names from here on, are the whole.
pub record Chained (zones : List Zone) (t : ℕ) (whole : List lookup.Found) (more : ℕ) (returned : List Found) (here : Labels) : Type 0 where
  pub before : List lookup.Found
  pub are : RepresentAll zones before returned
  pub rest : whole ≡ before ++ chain more zones (map (λ (f : lookup.Found). f.name) before) here t

-- one name in its zone
abbrev pub found_in : Zone → Labels → ℕ → lookup.Found
found_in z name t = record { zone = z; name = name; outcome = outcome z name t }

represented_more : (zones : List Zone) (fs : List lookup.Found) (f : lookup.Found) (returned : List Found) (one : Found) → RepresentAll zones fs returned → Represents zones f one → RepresentAll zones (fs ++ f ∷ []) (returned ++ one ∷ [])
represented_more zones [] f [] one h is = (is, tt)
represented_more zones (g ∷ fs) f (first ∷ returned) one h is = (h.0, represented_more zones fs f returned one h.1 is)
represented_more zones [] f (first ∷ returned) one h is = absurd h
represented_more zones (g ∷ fs) f [] one h is = absurd h

pub lent_more : (zones : List Zone) (t : ℕ) (returned : List Found) (one : Found) → AllLend zones t returned → Lends zones t one → AllLend zones t (returned ++ one ∷ [])
lent_more zones t [] one h is = (is, tt)
lent_more zones t (first ∷ returned) one h is = (h.0, lent_more zones t returned one h.1 is)

represented_names : (zones : List Zone) (fs : List lookup.Found) (returned : List Found) → RepresentAll zones fs returned → names_searched returned ≡ names fs
represented_names zones [] [] h = refl
represented_names zones (f ∷ fs) (one ∷ returned) h = ap (λ (n : Labels). n ∷ names_searched returned) h.0.name ∙ ap (λ (ns : List Labels). f.name ∷ ns) (represented_names zones fs returned h.1)
represented_names zones [] (one ∷ returned) h = absurd h
represented_names zones (f ∷ fs) [] h = absurd h

abbrev pub behind : ℕ → List Zone → List Labels → ℕ → Option Labels → List lookup.Found
behind more zones seen t None = []
behind more zones seen t (Some target) = chain more zones seen target t

abbrev at_zone : ℕ → List Zone → List Labels → Labels → ℕ → Option Zone → List lookup.Found
at_zone more zones seen name t None = []
at_zone more zones seen name t (Some z) = found_in z name t ∷ behind more zones (seen ++ name ∷ []) t (next_name (found_in z name t) (seen ++ name ∷ []))

-- nothing was found yet
pub begins : (zones : List Zone) (t : ℕ) (returned : List Found) (name : Labels) → returned ≡ [] → Chained zones t (resolve zones name t) 8 returned name
begins zones t returned name none = record { before = []; are = subst (λ (ones : List Found). RepresentAll zones [] ones) (sym none) tt; rest = refl }

-- the chain ends under no apex
pub ends_outside : (zones : List Zone) (t : ℕ) (whole : List lookup.Found) (more : ℕ) (returned : List Found) (here : Labels) → 0 < more → Chained zones t whole more returned here → zone_of zones here ≡ None → RepresentAll zones whole returned
ends_outside zones t whole zero returned here some c none = absurd (omega (arith, some))
ends_outside zones t whole (suc more) returned here some c none =
    let at : whole ≡ c.before = c.rest ∙ ap (λ o. c.before ++ at_zone more zones (names c.before) here t o) none ∙ append-nil c.before in
    subst (λ (fs : List lookup.Found). RepresentAll zones fs returned) (sym at) c.are

-- one name more
stretched : (zones : List Zone) (t : ℕ) (whole : List lookup.Found) (more : ℕ) (returned : List Found) (here : Labels) (z : Zone) (one : Found) (next : Option Labels) → (c : Chained zones t whole (suc more) returned here) → zone_of zones here ≡ Some z → Represents zones (found_in z here t) one
    → next ≡ next_name (found_in z here t) (names_searched returned ++ one.name ∷ []) → whole ≡ (c.before ++ found_in z here t ∷ []) ++ behind more zones (names (c.before ++ found_in z here t ∷ [])) t next
stretched zones t whole more returned here z one next c at is goes =
    let f = found_in z here t in
    let seen : names_searched returned ++ one.name ∷ [] ≡ names c.before ++ here ∷ [] = ap (λ (ns : List Labels). ns ++ one.name ∷ []) (represented_names zones c.before returned c.are) ∙ ap (λ (n : Labels). names c.before ++ n ∷ []) is.name in
    let named : names (c.before ++ f ∷ []) ≡ names c.before ++ here ∷ [] = map-append (λ (g : lookup.Found). g.name) c.before (f ∷ []) in
    let followed : next ≡ next_name f (names c.before ++ here ∷ []) = goes ∙ ap (next_name f) seen in
    c.rest
    ∙ ap (λ o. c.before ++ at_zone more zones (names c.before) here t o) at
    ∙ ap (λ o. c.before ++ (f ∷ behind more zones (names c.before ++ here ∷ []) t o)) (sym followed)
    ∙ ap (λ (ns : List Labels). c.before ++ (f ∷ behind more zones ns t next)) (sym named)
    ∙ sym (append_assoc c.before (f ∷ []) (behind more zones (names (c.before ++ f ∷ [])) t next))

-- it is the last
pub ends_here : (zones : List Zone) (t : ℕ) (whole : List lookup.Found) (more : ℕ) (returned : List Found) (here : Labels) (z : Zone) (one : Found) → 0 < more → Chained zones t whole more returned here → zone_of zones here ≡ Some z → Represents zones (found_in z here t) one
    → None ≡ next_name (found_in z here t) (names_searched returned ++ one.name ∷ []) → RepresentAll zones whole (returned ++ one ∷ [])
ends_here zones t whole zero returned here z one some c at is goes = absurd (omega (arith, some))
ends_here zones t whole (suc more) returned here z one some c at is goes =
    let f = found_in z here t in
    let all : whole ≡ c.before ++ f ∷ [] = stretched zones t whole more returned here z one None c at is goes ∙ append-nil (c.before ++ f ∷ []) in
    subst (λ (fs : List lookup.Found). RepresentAll zones fs (returned ++ one ∷ [])) (sym all) (represented_more zones c.before f returned one c.are is)

-- or another follows
pub record Followed (zones : List Zone) (t : ℕ) (whole : List lookup.Found) (more : ℕ) (returned : List Found) (target : Labels) : Type 0 where
  pub left : ℕ
  pub one_less : more ≡ suc left
  pub chained : Chained zones t whole left returned target

pub goes_on : (zones : List Zone) (t : ℕ) (whole : List lookup.Found) (more : ℕ) (returned : List Found) (here : Labels) (z : Zone) (one : Found) (target : Labels) → 0 < more → Chained zones t whole more returned here → zone_of zones here ≡ Some z → Represents zones (found_in z here t) one
    → Some target ≡ next_name (found_in z here t) (names_searched returned ++ one.name ∷ []) → Followed zones t whole more (returned ++ one ∷ []) target
goes_on zones t whole zero returned here z one target some c at is goes = absurd (omega (arith, some))
goes_on zones t whole (suc more) returned here z one target some c at is goes =
    let f = found_in z here t in
    record { left = more; one_less = refl; chained = record { before = c.before ++ f ∷ []; are = represented_more zones c.before f returned one c.are is; rest = stretched zones t whole more returned here z one (Some target) c at is goes } }

-- after the question's name
pub goes_behind : (zones : List Zone) (t : ℕ) (name : Labels) (z : Zone) (one : Found) (target : Labels) → zone_of zones name ≡ Some z → Represents zones (found_in z name t) one → Some target ≡ next_name (found_in z name t) (one.name ∷ []) → resolve zones name t ≡ found_in z name t ∷ chain 7 zones (name ∷ []) target t
goes_behind zones t name z one target at is goes =
    let f = found_in z name t in
    let followed : Some target ≡ next_name f (name ∷ []) = goes ∙ ap (λ (n : Labels). next_name f (n ∷ [])) is.name in
    ap (λ o. at_zone 7 zones [] name t o) at ∙ ap (λ o. f ∷ behind 7 zones (name ∷ []) t o) (sym followed)
