-- Contents of which one is the other with some writes applied: the same is so after further writes to both, and after a crash.
use Rattle.std.proofs.Common.{◌≡◌, ◌⊎◌, inl, inr, ⊎_elim, ℕ, zero, suc, List, [], ◌∷◌, length, refl, sym, ◌∙◌, ap, subst}
use Rattle.std.proofs.lemmas.List.{length-set}
use Rattle.std.specs.Prelude.{slice_set}
use Rattle.dns_sectors.specs.Device.{Content}
use Rattle.dns_sectors.specs.Crash.{Write, after_writes, SomeApplied}

-- A sector is set after another: the first one is overwritten, or the two may be set in either order.
set_after : (c : Content) (p at : ℕ) (y x : List ℕ)
    → (slice_set (slice_set c p y) at x ≡ slice_set c at x) ⊎ (slice_set (slice_set c p y) at x ≡ slice_set (slice_set c at x) p y)
set_after [] p at y x = inl refl
set_after (z ∷ c) zero zero y x = inl refl
set_after (z ∷ c) zero (suc at) y x = inr refl
set_after (z ∷ c) (suc p) zero y x = inr refl
set_after (z ∷ c) (suc p) (suc at) y x =
    ⊎_elim (λ over. inl (ap (λ (l : Content). z ∷ l) over)) (λ other. inr (ap (λ (l : Content). z ∷ l) other)) (set_after c p at y x)

pub set_applied : (ws : List Write) (c d : Content) (at : ℕ) (x : List ℕ) → SomeApplied ws c d → SomeApplied ws (slice_set c at x) (slice_set d at x)
set_applied [] c d at x is = ap (λ (e : Content). slice_set e at x) is
set_applied (w ∷ ws) c d at x (inl not) = inl (set_applied ws c d at x not)
set_applied (w ∷ ws) c d at x (inr is) =
    let rest = set_applied ws (slice_set c w.0 w.1) d at x is in
    ⊎_elim
    (λ over. inl (subst (λ (e : Content). SomeApplied ws e (slice_set d at x)) over rest))
    (λ other. inr (subst (λ (e : Content). SomeApplied ws e (slice_set d at x)) other rest))
    (set_after c w.0 at w.1 x)

-- all of these writes are made to both
pub writes_applied : (ws vs : List Write) (c d : Content) → SomeApplied ws c d → SomeApplied ws (after_writes vs c) (after_writes vs d)
writes_applied ws [] c d some = some
writes_applied ws (v ∷ vs) c d some = writes_applied ws vs (slice_set c v.0 v.1) (slice_set d v.0 v.1) (set_applied ws c d v.0 v.1 some)

-- A crash keeps some of the writes to the second content: that is the first one, with those writes, and with its own applied over them.
pub crash_applied : (ws vs : List Write) (c d e : Content) → SomeApplied ws c d → SomeApplied vs d e
    → (left : Content) × SomeApplied vs c left × SomeApplied ws left e
crash_applied ws [] c d e some is = (c, refl, subst (λ (x : Content). SomeApplied ws c x) (sym is) some)
crash_applied ws (v ∷ vs) c d e some (inl not) = let rest = crash_applied ws vs c d e some not in (rest.0, inl rest.1, rest.2)
crash_applied ws (v ∷ vs) c d e some (inr is) =
    let rest = crash_applied ws vs (slice_set c v.0 v.1) (slice_set d v.0 v.1) e (set_applied ws c d v.0 v.1 some) is in (rest.0, inr rest.1, rest.2)

pub applied_length : (ws : List Write) (c d : Content) → SomeApplied ws c d → length d ≡ length c
applied_length [] c d is = ap (λ (x : Content). length x) is
applied_length (w ∷ ws) c d (inl not) = applied_length ws c d not
applied_length (w ∷ ws) c d (inr is) = applied_length ws (slice_set c w.0 w.1) d is ∙ length-set c w.0 w.1
