-- Where the names under a name are in the order of names.
use Rattle.std.proofs.Common.{◌≡◌, ◌⊎◌, inl, inr, ℕ, zero, suc, ◌<◌, ◌≤◌, Bool, true, false, List, [], ◌∷◌, ◌++◌, length, get_or, refl, sym, ap, ◌∙◌, arith, reverse}
use Rattle.std.specs.Prelude.{◌||◌}
use Rattle.std.specs.List.{AllWithin}
use Rattle.std.specs.Ordering.{is_lt, is_gt, nat_cmp, ordering_then}
use Rattle.std.specs.Cmp.{tied_itself}
use Rattle.std.specs.Cmp.Lexicographic.{slice_cmp, nat_list_cmp_total}
use Rattle.std.specs.FinMap.{nat_cmp-IsAntisymmetric, slice_cmp-IsAntisymmetric}
use Rattle.std.specs.declared.cmp.Ordering.{Ordering}
use Rattle.std.specs.declared.cmp.Ordering.TheVariants.{Less, Equal, Greater}
use Rattle.std.proofs.lemmas.List.{reverse-reverse, reverse-append}
use Rattle.dns_names.specs.Name.{Labels, IsUnder, under, name_cmp}
use Rattle.dns_records.specs.Record.{Record}
use Rattle.dns_zone.specs.Records.{exists}
use Rattle.dns_zone.specs.Ancestry.{under_from, under_with}
use Rattle.dns_zone.specs.Sets.{Sorted, Below, true_or_false}
use Rattle.dns_zone.proofs.Searching.{then_less}

-- a list of labels that begins with another is not below it
not_below : (p q : Labels) → is_lt (slice_cmp (slice_cmp nat_cmp) (p ++ q) p) ≡ false
not_below [] [] = refl
not_below [] (x ∷ q) = refl
not_below (l ∷ p) q = ap (λ (o : Ordering). is_lt (ordering_then o (slice_cmp (slice_cmp nat_cmp) (p ++ q) p))) (tied_itself nat_list_cmp_total l) ∙ not_below p q

-- between a list and one that begins with it, all begin with it
between : (p x q : Labels) (o r : Ordering) → slice_cmp (slice_cmp nat_cmp) x p ≡ o → slice_cmp (slice_cmp nat_cmp) x (p ++ q) ≡ r → is_lt o ≡ false → is_gt r ≡ false → (t : Labels) × (x ≡ p ++ t)
between [] x q o r e f g h = (x, refl)
between (l ∷ p) [] q o r e f g h = absurd (let less : Less ≡ o = e in let lower : is_lt Less ≡ false = ap is_lt less ∙ g in cc)
between (l ∷ p) (b ∷ x) q o r e f g h = step (slice_cmp nat_cmp b l) refl (λ e' f'. between p x q o r e' f' g h)
  where
    step : (first : Ordering) → slice_cmp nat_cmp b l ≡ first → (slice_cmp (slice_cmp nat_cmp) x p ≡ o → slice_cmp (slice_cmp nat_cmp) x (p ++ q) ≡ r → (t : Labels) × (x ≡ p ++ t)) → (t : Labels) × (b ∷ x ≡ l ∷ p ++ t)
    step Less is inner = absurd (let less : Less ≡ o = ap (λ (k : Ordering). ordering_then k (slice_cmp (slice_cmp nat_cmp) x p)) (sym is) ∙ e in let lower : is_lt Less ≡ false = ap is_lt less ∙ g in cc)
    step Greater is inner = absurd (let more : Greater ≡ r = ap (λ (k : Ordering). ordering_then k (slice_cmp (slice_cmp nat_cmp) x (p ++ q))) (sym is) ∙ f in let upper : is_gt Greater ≡ false = ap is_gt more ∙ h in cc)
    step Equal is inner =
        let rest = inner (ap (λ (k : Ordering). ordering_then k (slice_cmp (slice_cmp nat_cmp) x p)) (sym is) ∙ e) (ap (λ (k : Ordering). ordering_then k (slice_cmp (slice_cmp nat_cmp) x (p ++ q))) (sym is) ∙ f) in
        let same : b ≡ l = slice_cmp-IsAntisymmetric nat_cmp-IsAntisymmetric b l is in
        (rest.0, ap (λ (k : List ℕ). k ∷ x) same ∙ ap (λ (k : Labels). l ∷ k) rest.1)

-- a name under another, from the root downward
turned : (a n : Labels) → (h : IsUnder a n) → reverse a ≡ reverse n ++ reverse h.0
turned a n h = ap reverse h.1 ∙ reverse-append h.0 n

-- a name that is before another isn't under it
pub before_apart : (a n : Labels) → is_lt (name_cmp a n) ≡ true → under a n ≡ false
before_apart a n e = elim (true_or_false (under a n)) [
  | inl yes' ↦ (let h = under_from a n yes' in
      let clear : is_lt (name_cmp a n) ≡ false = ap (λ (x : Labels). is_lt (slice_cmp (slice_cmp nat_cmp) x (reverse n))) (turned a n h) ∙ not_below (reverse n) (reverse h.0) in absurd cc)
  | inr other ↦ other
]

not_more : (o : Ordering) → (o ≡ Less) ⊎ (o ≡ Equal) → is_gt o ≡ false
not_more o (inl e) = ap is_gt e
not_more o (inr e) = ap is_gt e

-- what is between a name and one under it is under it
pub convex : (a b n : Labels) → is_lt (name_cmp a n) ≡ false → (name_cmp a b ≡ Less) ⊎ (name_cmp a b ≡ Equal) → under b n ≡ true → under a n ≡ true
convex a b n low order e =
    let h = under_from b n e in
    let both : name_cmp a b ≡ slice_cmp (slice_cmp nat_cmp) (reverse a) (reverse n ++ reverse h.0) = ap (λ (x : Labels). slice_cmp (slice_cmp nat_cmp) (reverse a) x) (turned b n h) in
    let found = between (reverse n) (reverse a) (reverse h.0) (name_cmp a n) (name_cmp a b) refl (sym both) low (not_more (name_cmp a b) order) in
    let back : a ≡ reverse found.0 ++ n = sym (reverse-reverse a) ∙ ap reverse found.1 ∙ reverse-append (reverse n) found.0 ∙ ap (λ (x : Labels). reverse found.0 ++ x) (reverse-reverse n) in
    under_with a n (reverse found.0, back)

pub none_under : (s : Record) (n : Labels) (rest : List Record) → Below s rest → is_lt (name_cmp s.owner n) ≡ false → under s.owner n ≡ false → exists rest n ≡ false
none_under s n [] h low e = refl
none_under s n (x ∷ rest) h low e =
    let here : under x.owner n ≡ false = elim (true_or_false (under x.owner n)) [
      | inl so ↦ (let back = convex s.owner x.owner n low (then_less (name_cmp s.owner x.owner) _ h.0) so in absurd cc)
      | inr other ↦ other
    ] in
    ap (λ (b : Bool). b || exists rest n) here ∙ none_under s n rest h.1 low e

pub or_none : (b c : Bool) → (b ≡ false → c ≡ false) → b ≡ (b || c)
or_none true c h = refl
or_none false c h = sym (h refl)

pub exists_some : (xs : List Record) (n : Labels) (at : ℕ) (r : Record) → Sorted xs → at < length xs → AllWithin (λ s. is_lt (name_cmp s.owner n) ≡ true) xs 0 at → AllWithin (λ s. is_lt (name_cmp s.owner n) ≡ false) xs at (length xs) → r ≡ get_or xs at r → under r.owner n ≡ exists xs n
exists_some [] n at r h inside f g is = absurd (omega arith)
exists_some (x ∷ xs) n zero r h inside f g is =
    ap (λ (s : Record). under s.owner n) is ∙ or_none (under x.owner n) (exists xs n) (none_under x n xs h.0 (g 0 x (omega arith) (omega arith)))
exists_some (x ∷ xs) n (suc at) r h inside f g is =
    exists_some xs n at r h.1 (omega arith) (λ k d from to. f (suc k) d (omega arith) (omega arith)) (λ k d from to. g (suc k) d (omega arith) (omega arith)) is
    ∙ ap (λ (b : Bool). b || exists xs n) (sym (before_apart x.owner n (f 0 x (omega arith) (omega arith))))

pub exists_none : (xs : List Record) (n : Labels) (at : ℕ) → length xs ≤ at → AllWithin (λ s. is_lt (name_cmp s.owner n) ≡ true) xs 0 at → false ≡ exists xs n
exists_none [] n at past f = refl
exists_none (x ∷ xs) n zero past f = absurd (omega arith)
exists_none (x ∷ xs) n (suc at) past f =
    exists_none xs n at (omega arith) (λ k d from to. f (suc k) d (omega arith) (omega arith)) ∙ ap (λ (b : Bool). b || exists xs n) (sym (before_apart x.owner n (f 0 x (omega arith) (omega arith))))
