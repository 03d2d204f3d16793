-- A child put in or taken out, seen from its parent.
use Rattle.std.proofs.Common.{◌≡◌, ℕ, Bool, true, false, cond, List, [], ◌∷◌, ◌++◌, map, refl, sym, ap, ◌∙◌, subst, append_assoc}
use Rattle.std.proofs.Common.{length, arith, Option, Some, None, Bor}
use Rattle.std.specs.Prelude.{IfSome}
use Rattle.std.specs.Ordering.{is_lt, is_gt}
use Rattle.std.specs.FinMap.Entries.{by_order}
use Rattle.std.specs.declared.cmp.Ordering.TheVariants.{Less, Equal, Greater}
use Rattle.dns_records.specs.Record.{Record}
use Rattle.dns_zoneindex.specs.Entries.{PathRecord, Child, here, pushed, flat, own_at, labels_in}
use Rattle.dns_zoneindex.specs.Children.{label_cmp, AllChildren, AreChildren}
use Rattle.dns_zoneindex.specs.Assoc.{child_of, put_child, without_child}
use Rattle.dns_zoneindex.specs.Setting.{keep, before, behind, deeper, set_at}
use Rattle.dns_zoneindex.proofs.Sides.{label_total, all_map}
use Rattle.dns_zoneindex.proofs.Under.{step-own}

pub keep-append : (p : PathRecord → Bool) (a b : List PathRecord) → keep p (a ++ b) ≡ keep p a ++ keep p b
keep-append p [] b = refl
keep-append p (e ∷ a) b = elim (p e) as (λ t. cond t (e ∷ keep p (a ++ b)) (keep p (a ++ b)) ≡ cond t (e ∷ keep p a) (keep p a) ++ keep p b) [
  | true ↦ ap (λ z. e ∷ z) (keep-append p a b)
  | false ↦ keep-append p a b
]

keep-all : (p : PathRecord → Bool) (m : List ℕ) (own : List PathRecord) → ((e : PathRecord) → p (pushed m e) ≡ true) → keep p (map (pushed m) own) ≡ map (pushed m) own
keep-all p m [] h = refl
keep-all p m (e ∷ own) h = rw (h e) (ap (λ z. pushed m e ∷ z) (keep-all p m own h))

keep-none : (p : PathRecord → Bool) (m : List ℕ) (own : List PathRecord) → ((e : PathRecord) → p (pushed m e) ≡ false) → keep p (map (pushed m) own) ≡ []
keep-none p m [] h = refl
keep-none p m (e ∷ own) h = rw (h e) (keep-none p m own h)

-- one child that is kept, or that is not
pub one-all : (p : PathRecord → Bool) (c : Child) (cs : List Child) {out : List PathRecord} → ((e : PathRecord) → p (pushed c.label e) ≡ true) → keep p (flat cs) ≡ out → keep p (flat (c ∷ cs)) ≡ map (pushed c.label) c.own ++ out
one-all p c cs h k = keep-append p (map (pushed c.label) c.own) (flat cs) ∙ (λ i. keep-all p c.label c.own h i ++ k i)

pub one-none : (p : PathRecord → Bool) (c : Child) (cs : List Child) {out : List PathRecord} → ((e : PathRecord) → p (pushed c.label e) ≡ false) → keep p (flat cs) ≡ out → keep p (flat (c ∷ cs)) ≡ out
one-none p c cs h k = keep-append p (map (pushed c.label) c.own) (flat cs) ∙ (λ i. keep-none p c.label c.own h i ++ k i)

-- those after the label
none-before : (l : List ℕ) (cs : List Child) → AllChildren (λ y. label_cmp l y.label ≡ Less) cs → keep (before l) (flat cs) ≡ []
none-before l [] h = refl
none-before l (c ∷ cs) h = one-none (before l) c cs (λ e. ap is_gt h.0) (none-before l cs h.1)

all-behind : (l : List ℕ) (cs : List Child) → AllChildren (λ y. label_cmp l y.label ≡ Less) cs → keep (behind l) (flat cs) ≡ flat cs
all-behind l [] h = refl
all-behind l (c ∷ cs) h = one-all (behind l) c cs (λ e. ap is_lt h.0) (all-behind l cs h.1)

less : (l : List ℕ) (c : Child) (cs : List Child) → label_cmp l c.label ≡ Less → AllChildren (λ y. label_cmp c.label y.label ≡ Less) cs → AllChildren (λ y. label_cmp l y.label ≡ Less) cs
less l c cs e h = all_map (λ y. label_cmp c.label y.label ≡ Less) (λ y. label_cmp l y.label ≡ Less) (λ z k. label_total.trans l c.label z.label e k) cs h

equal : (l : List ℕ) (c : Child) (cs : List Child) → label_cmp l c.label ≡ Equal → AllChildren (λ y. label_cmp c.label y.label ≡ Less) cs → AllChildren (λ y. label_cmp l y.label ≡ Less) cs
equal l c cs e h = all_map (λ y. label_cmp c.label y.label ≡ Less) (λ y. label_cmp l y.label ≡ Less) (λ z k. label_total.congr l c.label z.label e ∙ k) cs h

pub flat-put : (n : Child) (cs : List Child) → AreChildren cs → flat (put_child n cs) ≡ keep (before n.label) (flat cs) ++ (map (pushed n.label) n.own ++ keep (behind n.label) (flat cs))
flat-put n [] h = refl
flat-put n (c ∷ cs) h = elim (label_cmp n.label c.label) as (λ o. label_cmp n.label c.label ≡ o → flat (by_order o (n ∷ c ∷ cs) (n ∷ cs) (c ∷ put_child n cs)) ≡ keep (before n.label) (flat (c ∷ cs)) ++ (map (pushed n.label) n.own ++ keep (behind n.label) (flat (c ∷ cs)))) [
  | Less ↦ λ e. (let all = less n.label c cs e h.1 in
      let f = one-none (before n.label) c cs (λ x. ap is_gt e) (none-before n.label cs all) in
      let b = one-all (behind n.label) c cs (λ x. ap is_lt e) (all-behind n.label cs all) in
      λ i. sym f i ++ (map (pushed n.label) n.own ++ sym b i))
  | Equal ↦ λ e. (let all = equal n.label c cs e h.1 in
      let f = one-none (before n.label) c cs (λ x. ap is_gt e) (none-before n.label cs all) in
      let b = one-none (behind n.label) c cs (λ x. ap is_lt e) (all-behind n.label cs all) in
      λ i. sym f i ++ (map (pushed n.label) n.own ++ sym b i))
  | Greater ↦ λ e. (let f = one-all (before n.label) c cs (λ x. ap is_gt e) refl in
      let b = one-none (behind n.label) c cs (λ x. ap is_lt e) refl in
      ap (λ z. map (pushed c.label) c.own ++ z) (flat-put n cs h.2) ∙ sym (append_assoc (map (pushed c.label) c.own) (keep (before n.label) (flat cs)) (map (pushed n.label) n.own ++ keep (behind n.label) (flat cs))) ∙ (λ i. sym f i ++ (map (pushed n.label) n.own ++ sym b i)))
] refl

pub flat-without : (l : List ℕ) (cs : List Child) → AreChildren cs → flat (without_child l cs) ≡ keep (before l) (flat cs) ++ keep (behind l) (flat cs)
flat-without l [] h = refl
flat-without l (c ∷ cs) h = elim (label_cmp l c.label) as (λ o. label_cmp l c.label ≡ o → flat (by_order o (c ∷ cs) cs (c ∷ without_child l cs)) ≡ keep (before l) (flat (c ∷ cs)) ++ keep (behind l) (flat (c ∷ cs))) [
  | Less ↦ λ e. (let all = less l c cs e h.1 in
      let f = one-none (before l) c cs (λ x. ap is_gt e) (none-before l cs all) in
      let b = one-all (behind l) c cs (λ x. ap is_lt e) (all-behind l cs all) in
      λ i. sym f i ++ sym b i)
  | Equal ↦ λ e. (let all = equal l c cs e h.1 in
      let f = one-none (before l) c cs (λ x. ap is_gt e) (none-before l cs all) in
      let b = one-none (behind l) c cs (λ x. ap is_lt e) (all-behind l cs all) in
      λ i. sym f i ++ sym b i)
  | Greater ↦ λ e. (let f = one-all (before l) c cs (λ x. ap is_gt e) refl in
      let b = one-none (behind l) c cs (λ x. ap is_lt e) refl in
      ap (λ z. map (pushed c.label) c.own ++ z) (flat-without l cs h.2) ∙ sym (append_assoc (map (pushed c.label) c.own) (keep (before l) (flat cs)) (keep (behind l) (flat cs))) ∙ (λ i. sym f i ++ sym b i))
] refl

-- the name's own records stay before all children
here-before : (l : List ℕ) (rs : List Record) (es : List PathRecord) → keep (before l) (map here rs ++ es) ≡ map here rs ++ keep (before l) es
here-before l [] es = refl
here-before l (r ∷ rs) es = ap (λ z. here r ∷ z) (here-before l rs es)

here-behind : (l : List ℕ) (rs : List Record) (es : List PathRecord) → keep (behind l) (map here rs ++ es) ≡ keep (behind l) es
here-behind l [] es = refl
here-behind l (r ∷ rs) es = here-behind l rs es

here-deeper : (rs : List Record) (es : List PathRecord) → keep deeper (map here rs ++ es) ≡ keep deeper es
here-deeper [] es = refl
here-deeper (r ∷ rs) es = here-deeper rs es

flat-deeper : (cs : List Child) → keep deeper (flat cs) ≡ flat cs
flat-deeper [] = refl
flat-deeper (c ∷ cs) = one-all deeper c cs (λ e. refl) (flat-deeper cs)

pub own-deeper : (rs : List Record) (cs : List Child) → keep deeper (map here rs ++ flat cs) ≡ flat cs
own-deeper rs cs = here-deeper rs (flat cs) ∙ flat-deeper cs

-- where something is, something is above it
pub replaced-some : (n d : Child) (l : List ℕ) (o : Option Child) (cs t : List Child) → AreChildren cs → n ≡ d → o ≡ Some d → IfSome o (λ c. c.label ≡ l) → t ≡ put_child n cs → flat t ≡ keep (before l) (flat cs) ++ (map (pushed l) (own_at o) ++ keep (behind l) (flat cs))
replaced-some n d l o cs t h same is label e =
    let there : d.label ≡ l = subst (λ x. IfSome x (λ c. c.label ≡ l)) is label in
    let p : n.label ≡ l = ap (λ c. c.label) same ∙ there in
    let q : n.own ≡ own_at o = ap (λ c. c.own) same ∙ sym (ap own_at is) in
    ap flat e ∙ flat-put n cs h ∙ (λ i. keep (before (p i)) (flat cs) ++ (map (pushed (p i)) (q i) ++ keep (behind (p i)) (flat cs)))

pub replaced-none : (l : List ℕ) (o : Option Child) (cs t : List Child) → AreChildren cs → o ≡ None → t ≡ without_child l cs → flat t ≡ keep (before l) (flat cs) ++ (map (pushed l) (own_at o) ++ keep (behind l) (flat cs))
replaced-none l o cs t h is e = ap flat e ∙ flat-without l cs h ∙ (λ i. keep (before l) (flat cs) ++ (map (pushed l) (own_at (sym is i)) ++ keep (behind l) (flat cs)))

-- the name itself
pub set-here : (path : List (Bor (List ℕ))) (held rs : List Record) (cs : List Child) → length path ≡ 0 → map here rs ++ flat cs ≡ set_at (labels_in path) rs (map here held ++ flat cs)
set-here [] held rs cs h = ap (λ z. map here rs ++ z) (sym (own-deeper held cs))
set-here (x ∷ path) held rs cs h = absurd (omega (arith, h))

-- a name under the child of a label
pub set-below : (path : List (Bor (List ℕ))) (label : Bor (List ℕ)) (rest : List (Bor (List ℕ))) (held rs : List Record) (cs new : List Child) (child : Option Child) → path ≡ label ∷ rest → AreChildren cs → flat new ≡ keep (before label.now) (flat cs) ++ (map (pushed label.now) (own_at child) ++ keep (behind label.now) (flat cs)) → own_at child ≡ set_at (labels_in rest) rs (own_at (child_of label.now cs)) → map here held ++ flat new ≡ set_at (labels_in path) rs (map here held ++ flat cs)
set-below path label rest held rs cs new child is h e own =
    let l = label.now in
    let under = own ∙ ap (λ z. set_at (labels_in rest) rs z) (sym (step-own l held cs h)) in
    ap (λ z. map here held ++ z) e
    ∙ sym (append_assoc (map here held) (keep (before l) (flat cs)) (map (pushed l) (own_at child) ++ keep (behind l) (flat cs)))
    ∙ (λ i. sym (here-before l held (flat cs)) i ++ (map (pushed l) (under i) ++ sym (here-behind l held (flat cs)) i))
    ∙ sym (ap (λ p. set_at (labels_in p) rs (map here held ++ flat cs)) is)
