-- Replies that waited.
use Rattle.std.proofs.Common.{◌≡◌, ◌<◌, ◌+◌, ℕ, zero, suc, Bool, true, false, List, [], ◌∷◌, ◌++◌, length, map, take, refl, sym, ◌∙◌, ap, arith, add-one, append-nil, append_assoc}
use Rattle.std.specs.Prelude.{slice_index_or, flat_map, if◌then◌else◌}
use Rattle.dns_versions.specs.Each.{Each2}
use Rattle.dns_primary.specs.declared.event.Waiting.{Waiting}
use Rattle.dns_primary.specs.declared.event.To.{To}
use Rattle.dns_primary.specs.declared.event.To.TheVariants.{Address, Connection, Nowhere}
use Rattle.dns_primary.specs.To.{is_nowhere}
use Rattle.dns_primary.specs.Flush.{Sent, Replied, out_to, released, answered_in, answered_of}
use Rattle.dns_primary.specs.Machine.{ZoneState, Waits}
use Rattle.dns_primary.specs.Keeps.{IsWaiting}

pub record Next (xs : List Waiting) (ws : List Waits) (i : ℕ) (d : Waiting) : Type 0 where
  pub one : Waits
  pub is : IsWaiting (slice_index_or xs i d) one
  pub more : take (i + 1) ws ≡ take i ws ++ one ∷ []

step : (xs : List Waiting) (ws : List Waits) (i : ℕ) (d : Waiting) → Each2 IsWaiting xs ws → i < length xs → (one : Waits) × IsWaiting (slice_index_or xs i d) one × (take (suc i) ws ≡ take i ws ++ one ∷ [])
step [] [] i d each lt = absurd (omega arith)
step (x ∷ xs) (w ∷ ws) zero d each lt = (w, each.0, refl)
step (x ∷ xs) (w ∷ ws) (suc i) d each lt = let rest = step xs ws i d each.1 (omega arith) in (rest.0, rest.1, ap (λ (l : List Waits). w ∷ l) rest.2)
step _ _ i d each lt = absurd each

pub next : (xs : List Waiting) (ws : List Waits) (i : ℕ) (d : Waiting) → Each2 IsWaiting xs ws → i < length xs → Next xs ws i d
next xs ws i d each lt = let s = step xs ws i d each lt in record { one = s.0; is = s.1; more = ap (λ n. take n ws) (add-one i) ∙ s.2 }

pub long2 : (xs : List Waiting) (ws : List Waits) → Each2 IsWaiting xs ws → length xs ≡ length ws
long2 [] [] each = refl
long2 (x ∷ xs) (w ∷ ws) each = ap suc (long2 xs ws each.1)
long2 _ _ each = absurd each

-- one more goes out
pub grown : {A B C : Type 0} (f : A → C) (out : B → List C) (xs new : List A) (ws : List B) (more : List B) (w : B) → more ≡ ws ++ w ∷ [] → map f xs ≡ flat_map out ws → map f new ≡ map f xs ++ out w
    → map f new ≡ flat_map out more
grown f out xs new ws more w is so_far last = last ∙ (λ j. so_far j ++ out w) ∙ sym (flat_map_append out ws w) ∙ sym (λ j. flat_map out (is j))
  where
    flat_map_append : {B C : Type 0} (out : B → List C) (ws : List B) (w : B) → flat_map out (ws ++ w ∷ []) ≡ flat_map out ws ++ out w
    flat_map_append out [] w = append-nil (out w)
    flat_map_append out (x ∷ ws) w = (λ j. out x ++ flat_map_append out ws w j) ∙ sym (append_assoc (out x) (flat_map out ws) (out w))

pub out_somewhere : (to : To) (octets : List ℕ) → is_nowhere to ≡ false → out_to to octets ≡ (to, octets) ∷ []
out_somewhere (Address peer) octets some = refl
out_somewhere (Connection number) octets some = refl
out_somewhere Nowhere octets some = absurd (cc some)

-- what goes out of those that waited
pub answered_somewhere : (zones : List ZoneState) (w : Waits) → is_nowhere w.to ≡ false → answered_in (released zones w) ≡ w ∷ []
answered_somewhere zones w some = ap (λ (b : Bool). if b then [] else w ∷ []) some

pub answered_nowhere : (zones : List ZoneState) (w : Waits) → is_nowhere w.to ≡ true → answered_in (released zones w) ≡ []
answered_nowhere zones w none = ap (λ (b : Bool). if b then [] else w ∷ []) none

pub answered_append : (sent more : List Sent) → answered_of (sent ++ more) ≡ answered_of sent ++ answered_of more
answered_append [] more = refl
answered_append (s ∷ sent) more = (λ j. answered_in s ++ answered_append sent more j) ∙ sym (append_assoc (answered_in s) (answered_of sent) (answered_of more))

pub answered_more : (sent : List Sent) (s : Sent) → answered_of sent ++ answered_in s ≡ answered_of (sent ++ s ∷ [])
answered_more sent s = ap (λ (l : List Waits). answered_of sent ++ l) (sym (append-nil (answered_in s))) ∙ sym (answered_append sent (s ∷ []))

-- another reply tells of none
pub answered_replied : (sent : List Sent) (to : To) (octets : List ℕ) → answered_of (sent ++ Replied to octets ∷ []) ≡ answered_of sent
answered_replied sent to octets = answered_append sent (Replied to octets ∷ []) ∙ append-nil (answered_of sent)
