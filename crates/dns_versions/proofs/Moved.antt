-- A zone whose base is moved, after a flush.
use Rattle.std.proofs.Common.{◌≡◌, inl, inr, ⊎_elim, ℕ, ◌-◌, Bool, true, false, List, [], ◌∷◌, ◌++◌, length, Option, refl, sym, ◌∙◌, ap, arith}
use Rattle.std.proofs.lemmas.List.{append-nil}
use Rattle.dns_records.specs.Record.{Record}
use Rattle.dns_sectors.specs.Device.{Content, LeavesOnly}
use Rattle.dns_sectors.specs.Crash.{Write}
use Rattle.dns_sectors.proofs.Moments.{weaker, joined}
use Rattle.dns_store.specs.Versions.{Versions, Shape, Kept, Opened, OpensAsLeft, OpensAsEither, StandsStill}
use Rattle.dns_store.specs.Checkpoint.{IsKeptNumber, entries_after_base}
use Rattle.dns_store.proofs.Keeping.{most_there}
use Rattle.dns_versions.specs.Flush.{kept_after_flush}
use Rattle.dns_versions.specs.Checkpoint.{OpensAsCheckpointed}

none_by : (shape : Shape) (loaded : List Record) (shown staged : Versions) (base : ℕ) (second : Option ℕ) (openings : ℕ) (altered : List Write) (closed : Bool) → closed ≡ false
    → (kept_after_flush false (record { shape = shape; loaded = loaded; shown = shown; staged = staged; base = base; second = second; openings = openings; altered = altered; closed = closed })).staged ≡ []
none_by shape loaded shown [] base second openings altered false is = refl
none_by shape loaded shown (v ∷ vs) base second openings altered false is = refl
none_by shape loaded shown staged base second openings altered true is = absurd cc

-- A zone that isn't closed has nothing staged after a flush.
none_staged : (k : Kept) → k.closed ≡ false → (kept_after_flush false k).staged ≡ []
none_staged k is = none_by k.shape k.loaded k.shown k.staged k.base k.second k.openings k.altered k.closed is

closed_by : (shape : Shape) (loaded : List Record) (shown staged : Versions) (base : ℕ) (second : Option ℕ) (openings : ℕ) (altered : List Write) (closed : Bool)
    → (kept_after_flush false (record { shape = shape; loaded = loaded; shown = shown; staged = staged; base = base; second = second; openings = openings; altered = altered; closed = closed })).closed ≡ closed
closed_by shape loaded shown [] base second openings altered false = refl
closed_by shape loaded shown (v ∷ vs) base second openings altered false = refl
closed_by shape loaded shown staged base second openings altered true = refl

closed_still : (k : Kept) → (kept_after_flush false k).closed ≡ k.closed
closed_still k = closed_by k.shape k.loaded k.shown k.staged k.base k.second k.openings k.altered k.closed

-- So many changes are kept.
pub number_there : (k : Kept) (keep room : ℕ) → (d : ℕ) × IsKeptNumber k keep room d
number_there k keep room = most_there (λ size. size) (entries_after_base k) keep (k.shape.journal - room)

left_by : (opens : Shape → Opened → Content → Type 0) (shape : Shape) (loaded : List Record) (shown staged : Versions) (base : ℕ) (second : Option ℕ) (openings : ℕ) (altered : List Write) (closed : Bool) (c : Content)
    → OpensAsLeft opens (kept_after_flush false (record { shape = shape; loaded = loaded; shown = shown; staged = staged; base = base; second = second; openings = openings; altered = altered; closed = closed })) c
    → OpensAsLeft opens (record { shape = shape; loaded = loaded; shown = shown; staged = staged; base = base; second = second; openings = openings; altered = altered; closed = closed }) c
left_by opens shape loaded shown [] base second openings altered false c left = left
left_by opens shape loaded shown staged base second openings altered true c left = left
left_by opens shape loaded shown (v ∷ vs) base second openings altered false c (o, left, is) =
    let none : left.kept ≡ [] = front left.kept left.lost left.front in (
      o,
      record {
        loaded = left.loaded;
        kept = v ∷ vs;
        lost = [];
        front = sym (append-nil (v ∷ vs));
        versions = left.versions ∙ ap (λ (l : Versions). (shown ++ v ∷ vs) ++ l) none ∙ append-nil (shown ++ v ∷ vs);
        base = left.base;
        openings = left.openings;
        altered = left.altered;
      },
      is,
    )
  where
    front : (xs ys : Versions) → [] ≡ xs ++ ys → xs ≡ []
    front [] ys is = refl
    front (x ∷ xs) ys is = absurd cc

flushed_left : (opens : Shape → Opened → Content → Type 0) (k : Kept) (c : Content) → OpensAsLeft opens (kept_after_flush false k) c → OpensAsLeft opens k c
flushed_left opens k c left = left_by opens k.shape k.loaded k.shown k.staged k.base k.second k.openings k.altered k.closed c left

-- Without a device call a crash leaves what it would have left.
stood_still : {S : Type 0} (moment : S → ℕ) (left_since : S → ℕ → Content → Type 0) (old new : S) (P : Content → Type 0) → StandsStill moment left_since old new → ((c : Content) → left_since old (moment old) c → P c) → LeavesOnly moment left_since old new P
stood_still moment left_since old new P still rest = record {
  later = omega (arith, still.no_later);
  each = λ c left. rest c (still.same (moment old) c left);
  before = λ t c le left. inl (still.same t c left);
}

module _ {S : Type 0} (moment : S → ℕ) (left_since : S → ℕ → Content → Type 0) (opens : Shape → Opened → Content → Type 0) (keep room : ℕ) (k : Kept) (old : S) where
  flush_leaves : (new : S) → LeavesOnly moment left_since old new (OpensAsLeft opens k) → LeavesOnly moment left_since old new (OpensAsCheckpointed opens keep room k)
  flush_leaves new run = weaker moment left_since old new (OpensAsLeft opens k) (OpensAsCheckpointed opens keep room k) run (λ c left. inl left)

  pub move_leaves : (mid new : S) → LeavesOnly moment left_since old mid (OpensAsLeft opens k)
      → ((n : ℕ) → (kept_after_flush false k).staged ≡ [] → IsKeptNumber (kept_after_flush false k) keep room n → LeavesOnly moment left_since mid new (OpensAsEither opens (kept_after_flush false k) (length (kept_after_flush false k).shown - n)))
      → ((kept_after_flush false k).closed ≡ true → StandsStill moment left_since mid new)
      → ((c : Content) → left_since mid (moment mid) c → OpensAsLeft opens (kept_after_flush false k) c)
      → LeavesOnly moment left_since old new (OpensAsCheckpointed opens keep room k)
  move_leaves mid new first moves still rest = by (kept_after_flush false k).closed refl
    where
      by : (closed : Bool) → (kept_after_flush false k).closed ≡ closed → LeavesOnly moment left_since old new (OpensAsCheckpointed opens keep room k)
      by true is =
          joined moment left_since old mid new (OpensAsCheckpointed opens keep room k) (OpensAsLeft opens (kept_after_flush false k)) (flush_leaves mid first) (stood_still moment left_since mid new (OpensAsLeft opens (kept_after_flush false k)) (still is) rest)
          (λ c left. inl (flushed_left opens k c left))
      by false is =
          let d = number_there (kept_after_flush false k) keep room in
          let base = length (kept_after_flush false k).shown - d.0 in
          joined moment left_since old mid new (OpensAsCheckpointed opens keep room k) (OpensAsEither opens (kept_after_flush false k) base) (flush_leaves mid first) (moves d.0 (none_staged k (sym (closed_still k) ∙ is)) d.1)
          (λ c left. ⊎_elim (λ before. inl (flushed_left opens k c before)) (λ after. inr (sym (closed_still k) ∙ is, (base, (d.0, d.1, refl), after))) left)
