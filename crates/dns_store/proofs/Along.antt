-- The changes from the base on, of which the first lead to the version that is shown.
use Rattle.std.proofs.Common.{◌≡◌, ⊎_elim, ℕ, zero, suc, ◌+◌, ◌-◌, ◌≤◌, ◌<◌, List, [], ◌∷◌, ◌++◌, length, take, drop, refl, sym, ◌∙◌, ap, subst, arith, length-append}
use Rattle.std.proofs.lemmas.Bool.{cases_lt}
use Rattle.std.proofs.lemmas.List.{drop-append-le, length-drop}
use Rattle.dns_changes.specs.Change.{Change}
use Rattle.dns_store.specs.Versions.{Versions, Kept, version_at}
use Rattle.dns_store.specs.Recovered.{AreLed}
use Rattle.dns_store.proofs.Moving.{led_count}
use Rattle.dns_store.proofs.Lent.{led_take}

module _ (k : Kept) (changes : List Change) (led : AreLed (version_at k k.base) (drop k.base (k.shown ++ k.staged)) changes) where
  count : length changes ≡ length k.shown + length k.staged - k.base
  count =
      led_count (version_at k k.base) (drop k.base (k.shown ++ k.staged)) changes led
      ∙ length-drop k.base (k.shown ++ k.staged) ∙ ap (λ n. n - k.base) (length-append k.shown k.staged)

  -- the first of them lead to the version that is shown
  pub led_shown : AreLed (version_at k k.base) (drop k.base k.shown) (take (length changes - length k.staged) changes)
  led_shown = ⊎_elim behind within (cases_lt (length k.shown) k.base)
    where
      behind : length k.shown < k.base → AreLed (version_at k k.base) (drop k.base k.shown) (take (length changes - length k.staged) changes)
      behind less =
          let none : length changes - length k.staged ≡ 0 = omega (arith, count, less) in
          let at_end : drop k.base k.shown ≡ [] = drop_behind k.base k.shown (omega (arith, less)) in
          subst (λ n. AreLed (version_at k k.base) (drop k.base k.shown) (take n changes)) (sym none)
          (subst (λ (vs : Versions). AreLed (version_at k k.base) vs []) (sym at_end) tt)
        where
          drop_behind : (n : ℕ) (vs : Versions) → length vs ≤ n → drop n vs ≡ []
          drop_behind zero [] le = refl
          drop_behind zero (v ∷ vs) le = absurd (omega (arith, le))
          drop_behind (suc n) [] le = refl
          drop_behind (suc n) (v ∷ vs) le = drop_behind n vs (omega (arith, le))

      within : k.base ≤ length k.shown → AreLed (version_at k k.base) (drop k.base k.shown) (take (length changes - length k.staged) changes)
      within le =
          let number : length changes - length k.staged ≡ length (drop k.base k.shown) = omega (arith, count, le, length-drop k.base k.shown) in
          let front : take (length (drop k.base k.shown)) (drop k.base (k.shown ++ k.staged)) ≡ drop k.base k.shown =
          ap (λ (vs : Versions). take (length (drop k.base k.shown)) vs) (drop-append-le k.base k.shown k.staged le) ∙ take_front (drop k.base k.shown) k.staged in
          subst (λ n. AreLed (version_at k k.base) (drop k.base k.shown) (take n changes)) (sym number)
          (subst (λ (vs : Versions). AreLed (version_at k k.base) vs (take (length (drop k.base k.shown)) changes)) front
          (led_take (length (drop k.base k.shown)) (version_at k k.base) (drop k.base (k.shown ++ k.staged)) changes led))
        where
          take_front : (vs ws : Versions) → take (length vs) (vs ++ ws) ≡ vs
          take_front [] ws = refl
          take_front (v ∷ vs) ws = ap (λ (us : Versions). v ∷ us) (take_front vs ws)
