-- Records in order are determined by which they are.
use Rattle.std.proofs.Common.{◌≡◌, ◌⊎◌, inl, inr, List, [], ◌∷◌, refl, sym, ap, subst, ◌∙◌, arith}
use Rattle.std.specs.Prelude.{Contains}
use Rattle.std.specs.Cmp.{tied_itself}
use Rattle.std.specs.declared.cmp.Ordering.TheVariants.{Less}
use Rattle.std.proofs.lemmas.List.Elements.{Contains-append_cases, Contains-append_left, Contains-append_right, Contains-push, Contains-push_cases}
use Rattle.dns_records.specs.Record.{Record, record_cmp}
use Rattle.dns_zone.specs.Made.{IsSetOf}
use Rattle.dns_zone.specs.Order.{record_total}
use Rattle.dns_zone.specs.Sets.{Below, Sorted, sorted_from}

none_there : (r : Record) → Contains [] r → ⊥
none_there r h = absurd (omega (arith, h.1))

one_there : (x r : Record) → Contains (x ∷ []) r → x ≡ r
one_there x r h = elim (Contains-push_cases [] x r h) [ inl none ↦ absurd (none_there r none) | inr e ↦ e ]

first_or_later : (x r : Record) (xs : List Record) → Contains (x ∷ xs) r → (x ≡ r) ⊎ Contains xs r
first_or_later x r xs h = elim (Contains-append_cases (x ∷ []) xs r h) [ inl one ↦ inl (one_there x r one) | inr later ↦ inr later ]

first_there : (x : Record) (xs : List Record) → Contains (x ∷ xs) x
first_there x xs = Contains-append_left (x ∷ []) xs x (Contains-push [] x)

later_there : (x r : Record) (xs : List Record) → Contains xs r → Contains (x ∷ xs) r
later_there x r xs h = Contains-append_right (x ∷ []) xs r h

below_later : (x r : Record) (xs : List Record) → Below x xs → Contains xs r → record_cmp x r ≡ Less
below_later x r [] b h = absurd (none_there r h)
below_later x r (y ∷ ys) b h = elim (first_or_later y r ys h) [
  | inl e ↦ subst (λ (s : Record). record_cmp x s ≡ Less) e b.0
  | inr later ↦ below_later x r ys b.1 later
]

not_below_itself : (x : Record) → record_cmp x x ≡ Less → ⊥
not_below_itself x h = let tied = tied_itself record_total x in absurd cc

not_both_below : (x y : Record) → record_cmp x y ≡ Less → record_cmp y x ≡ Less → ⊥
not_both_below x y h k = not_below_itself x (record_total.trans x y x h k)

abbrev AllThere : List Record → List Record → Type 0
AllThere xs ys = (r : Record) → Contains xs r → Contains ys r

same_first : (x y : Record) (xs ys : List Record) → Below x xs → Below y ys → AllThere (x ∷ xs) (y ∷ ys) → AllThere (y ∷ ys) (x ∷ xs) → x ≡ y
same_first x y xs ys b c f g = elim (first_or_later y x ys (f x (first_there x xs))) [
  | inl e ↦ sym e
  | inr late ↦ elim (first_or_later x y xs (g y (first_there y ys))) [
    | inl e ↦ e
    | inr later ↦ absurd (not_both_below x y (below_later x y xs b later) (below_later y x ys c late))
  ]
]

behind_first : (x y : Record) (xs ys : List Record) → x ≡ y → Below x xs → AllThere (x ∷ xs) (y ∷ ys) → AllThere xs ys
behind_first x y xs ys e b f r h = elim (first_or_later y r ys (f r (later_there x r xs h))) [
  | inl same ↦ absurd (not_below_itself x (subst (λ (s : Record). record_cmp x s ≡ Less) (sym (e ∙ same)) (below_later x r xs b h)))
  | inr later ↦ later
]

same_lists : (xs ys : List Record) → Sorted xs → Sorted ys → AllThere xs ys → AllThere ys xs → xs ≡ ys
same_lists [] [] g h f k = refl
same_lists [] (y ∷ ys) g h f k = absurd (none_there y (k y (first_there y ys)))
same_lists (x ∷ xs) [] g h f k = absurd (none_there x (f x (first_there x xs)))
same_lists (x ∷ xs) (y ∷ ys) g h f k =
    let e = same_first x y xs ys g.0 h.0 f k in
    ap (λ (r : Record). r ∷ xs) e ∙ ap (λ (rs : List Record). y ∷ rs) (same_lists xs ys g.1 h.1 (behind_first x y xs ys e g.0 f) (behind_first y x ys xs (sym e) h.0 k))

-- records make one set
pub one_set : (records xs ys : List Record) → IsSetOf records xs → IsSetOf records ys → xs ≡ ys
one_set records xs ys a b =
    same_lists xs ys (sorted_from xs a.ordered) (sorted_from ys b.ordered) (λ r h. (b.same r).0 ((a.same r).1 h)) (λ r h. (a.same r).0 ((b.same r).1 h))
