-- Where a zone has no cut.
use Rattle.std.proofs.Common.{◌≡◌, ℕ, Bool, true, false, not, ◌&&◌, ◌||◌, inl, inr, List, [], ◌∷◌, ◌++◌, length, refl, sym, ap, subst, ◌∙◌, arith, cond, length-append, append_assoc}
use Rattle.std.specs.Prelude.{Option, Some, None, ◌==◌}
use Rattle.dns_names.specs.Name.{Labels, names_eq, under, parent}
use Rattle.dns_records.specs.Types.{type_ns}
use Rattle.dns_records.specs.Record.{Record}
use Rattle.dns_zone.specs.Records.{exists, owns_type}
use Rattle.dns_zone.specs.Zone.{Zone}
use Rattle.dns_zone.specs.Node.{cut, cuts_at, encloser}
use Rattle.dns_zone.specs.Uncut.{EndsAtMost}
use Rattle.dns_zone.specs.Order.{names_same}
use Rattle.dns_zone.specs.Ancestry.{under_from, under_with}
use Rattle.dns_zone.specs.Sets.{true_or_false}
use Rattle.dns_zone.proofs.Cuts.{or_else, up_once, at_root}
use Rattle.dns_zone.proofs.Enclosers.{encloser_here, encloser_up, encloser_root}
use Rattle.dns_zone.proofs.Alone.{neither}

pub or_else_none : (a : Option Labels) → or_else a None ≡ a
or_else_none None = refl
or_else_none (Some a) = refl

-- the cut, one name up
pub cut_up : (z : Zone) (l : List ℕ) (rest : Labels) → cut z (l ∷ rest) ≡ or_else (cut z rest) (cond (cuts_at z (l ∷ rest)) (Some (l ∷ rest)) None)
cut_up z l rest = sym (or_else_none (cut z (l ∷ rest))) ∙ up_once (cuts_at z) (l ∷ rest) rest None refl

pub cut_past : (z : Zone) (l : List ℕ) (rest : Labels) → cuts_at z (l ∷ rest) ≡ false → cut z (l ∷ rest) ≡ cut z rest
cut_past z l rest e = cut_up z l rest ∙ ap (λ (b : Bool). or_else (cut z rest) (cond b (Some (l ∷ rest)) None)) e ∙ or_else_none (cut z rest)

-- ---- a name that does not exist owns nothing
same_under : (a n : Labels) → names_eq a n ≡ true → under a n ≡ true
same_under a n e = under_with a n ([], names_same a n e)

not_same : (a n : Labels) → under a n ≡ false → names_eq a n ≡ false
not_same a n e = elim (true_or_false (names_eq a n)) [ inl s ↦ (let u = same_under a n s in absurd cc) | inr f ↦ f ]

pub owns_nothing : (xs : List Record) (n : Labels) (t : ℕ) → exists xs n ≡ false → owns_type xs n t ≡ false
owns_nothing [] n t e = refl
owns_nothing (x ∷ xs) n t e =
    let two = neither (under x.owner n) (exists xs n) e in
    (λ i. (not_same x.owner n two.0 i && x.rtype == t) || owns_nothing xs n t two.1 i)

and_false : (a b : Bool) → b ≡ false → (a && b) ≡ false
and_false true b e = e
and_false false b e = refl

absent_uncut : (z : Zone) (n : Labels) → exists z.records n ≡ false → cuts_at z n ≡ false
absent_uncut z n e = both (under n z.apex) (not (names_eq n z.apex)) (owns_type z.records n type_ns) (owns_nothing z.records n type_ns e)
  where
    both : (a b c : Bool) → c ≡ false → (a && b && c) ≡ false
    both true true c f = f
    both true false c f = refl
    both false b c f = refl

-- a name is cut where its closest encloser is
pub cut_of_encloser : (z : Zone) (name : Labels) → cut z name ≡ cut z (encloser z.records name)
cut_of_encloser z [] = ap (cut z) (sym (encloser_root z.records [] refl))
cut_of_encloser z (l ∷ rest) = elim (true_or_false (exists z.records (l ∷ rest))) [
  | inl e ↦ ap (cut z) (sym (encloser_here z.records (l ∷ rest) e))
  | inr e ↦ cut_past z l rest (absent_uncut z (l ∷ rest) e) ∙ cut_of_encloser z rest ∙ ap (cut z) (sym (encloser_up z.records l rest e))
]

-- ---- names that are not below the apex
abbrev pub below : Labels → Labels → Bool
below name apex = under name apex && not (names_eq name apex)

itself_not_under : (l : List ℕ) (rest : Labels) → under rest (l ∷ rest) ≡ false
itself_not_under l rest = elim (true_or_false (under rest (l ∷ rest))) [
  | inl e ↦ (let h = under_from rest (l ∷ rest) e in
      let long : length rest ≡ length (h.0 ++ l ∷ rest) = ap length h.1 in
      absurd (omega (arith, long, length-append h.0 (l ∷ rest))))
  | inr e ↦ e
]

none_above : (l : List ℕ) (rest apex : Labels) → below (l ∷ rest) apex ≡ false → under rest apex ≡ true → ⊥
none_above l rest apex e u = cases (names_eq (l ∷ rest) apex) refl
  where
    cases : (b : Bool) → names_eq (l ∷ rest) apex ≡ b → ⊥
    cases true s = (let same = names_same (l ∷ rest) apex s in
        let here : under rest (l ∷ rest) ≡ true = subst (λ (a : Labels). under rest a ≡ true) (sym same) u in
        let none = itself_not_under l rest in cc)
    cases false s = (let below_it : below (l ∷ rest) apex ≡ true = (λ i. (s i || u i) && not (s i)) in cc)

not_above : (l : List ℕ) (rest apex : Labels) → below (l ∷ rest) apex ≡ false → below rest apex ≡ false
not_above l rest apex e = elim (true_or_false (under rest apex)) [
  | inl u ↦ absurd (none_above l rest apex e u)
  | inr f ↦ ap (λ (b : Bool). b && not (names_eq rest apex)) f
]

pub outside : (z : Zone) (n : Labels) → below n z.apex ≡ false → cuts_at z n ≡ false
outside z n e = first (under n z.apex) (not (names_eq n z.apex)) (owns_type z.records n type_ns) e
  where
    first : (a b c : Bool) → (a && b) ≡ false → (a && b && c) ≡ false
    first true true c f = absurd cc
    first true false c f = refl
    first false b c f = refl

-- neither they nor the names above them are cuts
pub uncut_outside : (z : Zone) (n : Labels) → below n z.apex ≡ false → cut z n ≡ None
uncut_outside z [] e = ap (λ (b : Bool). cond b (Some []) None) (outside z [] e)
uncut_outside z (l ∷ rest) e = cut_past z l rest (outside z (l ∷ rest) e) ∙ uncut_outside z rest (not_above l rest z.apex e)

-- a name below the apex is a cut where it owns NS
pub cuts_below : (z : Zone) (n : Labels) (b : Bool) → below n z.apex ≡ true → b ≡ owns_type z.records n type_ns → b ≡ cuts_at z n
cuts_below z n b e is = is ∙ first (under n z.apex) (not (names_eq n z.apex)) (owns_type z.records n type_ns) e
  where
    first : (a b c : Bool) → (a && b) ≡ true → c ≡ (a && b && c)
    first true true c f = refl
    first true false c f = absurd cc
    first false b c f = absurd cc

-- ---- ancestors
pub under_itself : (name n : Labels) → n ≡ name → under name n ≡ true
under_itself name n e = under_with name n ([], sym e)

pub under_above : (name here above : Labels) → Some above ≡ parent here → under name here ≡ true → under name above ≡ true
under_above name [] above e u = absurd cc
under_above name (l ∷ rest) above e u =
    let same : above ≡ rest = cc in
    let h = under_from name (l ∷ rest) u in
    subst (λ (n : Labels). under name n ≡ true) (sym same) (under_with name rest (h.0 ++ l ∷ [], h.1 ∙ sym (append_assoc h.0 (l ∷ []) rest)))

-- ---- what is left without a cut above
pub up_found : (z : Zone) (name above at : Labels) → Some above ≡ parent name → cut z above ≡ Some at → cut z name ≡ Some at
up_found z name above at e f =
    sym (or_else_none (cut z name)) ∙ up_once (cuts_at z) name above None e ∙ ap (λ (o : Option Labels). or_else o (cond (cuts_at z name) (Some name) None)) f

pub up_none : (z : Zone) (name above : Labels) → Some above ≡ parent name → cut z above ≡ None → EndsAtMost z name
up_none z name above e f =
    sym (or_else_none (cut z name)) ∙ up_once (cuts_at z) name above None e ∙ ap (λ (o : Option Labels). or_else o (cond (cuts_at z name) (Some name) None)) f

pub at_most : (z : Zone) (name : Labels) → None ≡ parent name → EndsAtMost z name
at_most z name e = sym (or_else_none (cut z name)) ∙ at_root (cuts_at z) name None e
