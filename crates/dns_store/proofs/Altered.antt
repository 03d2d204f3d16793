-- Contents in which some of these sectors stand in place of others.
use Rattle.std.proofs.Common.{◌≡◌, ◌≢◌, ◌⊎◌, inl, inr, ⊎_elim, ℕ, ◌≤◌, ◌<◌, List, [], ◌∷◌, length, sym, ◌∙◌, ap, subst, arith}
use Rattle.std.proofs.lemmas.Bool.{cases_lt}
use Rattle.std.proofs.lemmas.List.{get_or_past, length-set}
use Rattle.std.specs.Prelude.{slice_set}
use Rattle.dns_sectors.specs.Device.{Content}
use Rattle.dns_sectors.specs.Crash.{Write, SomeApplied}
use Rattle.dns_sectors.proofs.Applied.{applied_length}
use Rattle.dns_layout.specs.Sector.{sector_at}
use Rattle.dns_layout.specs.Own.{NoneIntact, IsIntactIn, IsAltered}
use Rattle.dns_layout.specs.declared.format.Format.TheVariants.{Two}
use Rattle.dns_journal.proofs.Altered.{same_or_not}
use Rattle.dns_journal.proofs.Places.{at_set-same, at_set-other}
use Rattle.dns_store.specs.Opening.{IsOneOf}

-- there is no sector
pub sector_past : (c : Content) (q : ℕ) → length c ≤ q → sector_at c q ≡ []
unfolding sector_at
sector_past c q le = get_or_past c q [] le

-- A sector that is set is what it was set to, at its position, or is the old one.
set_is : (c : Content) (at q : ℕ) (x : List ℕ) → (sector_at (slice_set c at x) q ≡ sector_at c q) ⊎ ((q ≡ at) × (sector_at (slice_set c at x) q ≡ x))
set_is c at q x =
    ⊎_elim
    (λ (here : q ≡ at). ⊎_elim
    (λ (inside : at < length c). inr (here, subst (λ n. sector_at (slice_set c at x) n ≡ x) (sym here) (at_set-same c at x inside)))
    (λ outside. inl (sector_past (slice_set c at x) q (omega (arith, outside, here, length-set c at x)) ∙ sym (sector_past c q (omega (arith, outside, here)))))
    (cases_lt at (length c)))
    (λ (other : q ≢ at). inl (at_set-other c at q x other))
    (same_or_not q at)

-- Each sector is one of these, or the one of the first content.
pub one_of : (ws : List Write) (c d : Content) (q : ℕ) → SomeApplied ws c d → (sector_at d q ≡ sector_at c q) ⊎ IsOneOf ws q (sector_at d q)
one_of [] c d q is = inl (ap (λ (x : Content). sector_at x q) is)
one_of (w ∷ ws) c d q (inl not) = ⊎_elim (λ same. inl same) (λ one. inr (inr one)) (one_of ws c d q not)
one_of (w ∷ ws) c d q (inr is) =
    ⊎_elim
    (λ same. ⊎_elim (λ old. inl (same ∙ old)) (λ new. inr (inl (new.0, same ∙ new.1))) (set_is c w.0 q w.1))
    (λ one. inr (inr one))
    (one_of ws (slice_set c w.0 w.1) d q is)

-- None of them is intact at its position.
pub not_intact : (ws : List Write) (q : ℕ) (x : List ℕ) → NoneIntact ws → IsOneOf ws q x → IsIntactIn Two q x → ⊥
not_intact [] q x spoilt one own = absurd one
not_intact (w ∷ ws) q x spoilt (inl here) own = spoilt.0 (subst (λ (y : List ℕ). IsIntactIn Two w.0 y) here.1 (subst (λ n. IsIntactIn Two n x) here.0 own))
not_intact (w ∷ ws) q x spoilt (inr later) own = not_intact ws q x spoilt.1 later own

-- Intact sectors are those of the first content.
pub applied_altered : (ws : List Write) (c d : Content) → NoneIntact ws → SomeApplied ws c d → IsAltered Two c d
applied_altered ws c d spoilt some = record {
  size = applied_length ws c d some;
  same = λ q own. ⊎_elim (λ same. same) (λ one. absurd (not_intact ws q (sector_at d q) spoilt one own)) (one_of ws c d q some);
}

-- A sector that isn't the first content's is one of these.
pub other_one : (ws : List Write) (c d : Content) (q : ℕ) → SomeApplied ws c d → sector_at d q ≢ sector_at c q → IsOneOf ws q (sector_at d q)
other_one ws c d q some other = ⊎_elim (λ same. absurd (other same)) (λ one. one) (one_of ws c d q some)
