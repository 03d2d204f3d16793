-- What is done with what is at a position.
use Rattle.std.proofs.Common.{◌≡◌, inl, inr, ℕ, zero, suc, ◌<◌, ◌≤◌, false, arith, List, [], ◌∷◌, ◌++◌, length, Option, Some, None, Result, Ok, Err, refl, sym, ap, ◌∙◌, subst, slice_set, get_or}
use Rattle.std.specs.Prelude.{slice_get, OnOk, OnErr, IfOk, IfNone, OnSome, MatchOption}
use Rattle.std.specs.Option.{option_map}
use Rattle.std.proofs.lemmas.List.{set-get_or}
use Rattle.std.proofs.lemmas.Option.{slice_get_read}
use Rattle.dns_network.specs.declared.connection.Connection.{Connection}
use Rattle.dns_network.specs.declared.stream.Stream.{Ghosts}
use Rattle.dns_network.specs.declared.stream.Moved.{Moved}
use Rattle.dns_network.specs.declared.stream.Moved.TheVariants.{Later}
use Rattle.dns_network.specs.Framed.{pending_length}
use Rattle.dns_network.specs.Connection.{HasRead, IsQueued, IsReadLater, MovesOn, held_of, rest_of, unwritten_of, stream_of, unhandled, used_of}
use Rattle.dns_network.specs.Connections.{IsPushedTo, IsReplyPushed, HasBecome, HasMovedAt, HasReadAt, HandsOver, IsOpenWith, is_open, is_open_at}
use Rattle.dns_network.proofs.Framed.{joined, apart}

pub on_ok : {T E P Q : Type 0} (r : Result T E) → (P → Q) → OnOk r P → OnOk r Q
on_ok (Ok x) f p = f p
on_ok (Err e) f p = tt

pub on_err : {T E P Q : Type 0} (r : Result T E) → (P → Q) → OnErr r P → OnErr r Q
on_err (Ok x) f p = tt
on_err (Err e) f p = f p

pub if_ok : {T E : Type 0} (P Q : T → Type 0) (r : Result T E) → ((x : T) → P x → Q x) → IfOk r P → IfOk r Q
if_ok P Q (Ok x) f p = f x p
if_ok P Q (Err e) f p = tt

-- the messages that wait on what is at a position
abbrev held_at : {S : Type 0} → Option (Option (Connection S)) → List (List ℕ)
held_at None = []
held_at (Some None) = []
held_at (Some (Some c)) = held_of c

-- the first message is taken
one_less : {S : Type 0} (message : List ℕ) (c d : Connection S) → held_of c ≡ message ∷ held_of d → rest_of d ≡ rest_of c
    → unhandled c ≡ pending_length message ++ unhandled d
one_less message c d held rest =
    ap (λ (ms : List (List ℕ)). joined ms ++ rest_of c) held
    ∙ ap (λ (r : List ℕ). joined (message ∷ held_of d) ++ r) (sym rest)
    ∙ apart message (held_of d) (rest_of d)

-- what was put at a position is there
pub set_there : {A : Type 0} (xs : List A) (i : ℕ) (x y : A) → slice_get xs i ≡ Some x → slice_get (slice_set xs i y) i ≡ Some y
set_there [] i x y h = absurd (cc h)
set_there (z ∷ xs) zero x y h = refl
set_there (z ∷ xs) (suc i) x y h = set_there xs i x y h

-- no connection is past the last place
pub past_closed : {S : Type 0} (number : ℕ) (places : List (Option (Connection S))) → length places ≤ number → is_open number places ≡ false
past_closed number [] past = refl
past_closed zero (x ∷ xs) past = absurd (omega (arith, past))
past_closed (suc number) (x ∷ xs) past = past_closed number xs (omega (arith, past))

-- nothing was done
pub nothing_moved : {S : Type 0} (s : Ghosts S) (now number : ℕ) (old new : List (Option (Connection S))) → is_open number old ≡ false → new ≡ old
    → HasMovedAt s now number Later old new
nothing_moved s now number old new closed same = inl (closed, (λ e. cc), same)

module _ {S : Type 0} (number : ℕ) (old : List (Option (Connection S))) (size : ℕ) (here : Option (Connection S))
    (long : size ≡ length old) (within : number < size) (read : here ≡ get_or old number here) where
  at : slice_get old number ≡ Some here
  at = slice_get_read old size number here long within read

  pub pushed_one : (reply : List ℕ) (c d : Connection S) → here ≡ Some c → IsQueued reply c d → IsReplyPushed number reply old (slice_set old number (Some d))
  pushed_one reply c d is queued =
      let P : Option (Option (Connection S)) → Type 0 = λ o. IsPushedTo number reply o old (slice_set old number (Some d)) in
      subst P (sym (at ∙ ap Some is)) (d, queued, refl)

  pub pushed_none : (reply : List ℕ) → here ≡ None → IsReplyPushed number reply old (slice_set old number here)
  pushed_none reply is =
      let P : Option (Option (Connection S)) → Type 0 = λ o. IsPushedTo number reply o old (slice_set old number here) in
      subst P (sym (at ∙ ap Some is)) (ap (slice_set old number) read ∙ set-get_or old number here)

  pub closed_there : here ≡ None → is_open number old ≡ false
  closed_there is = ap (λ (index : Option (Option (Connection S))). is_open_at index) (at ∙ ap Some is)

  pub nothing_there : slice_set old number here ≡ old
  nothing_there = ap (slice_set old number) read ∙ set-get_or old number here

  pub none_waits : here ≡ None → (c : Connection S) → slice_get old number ≡ Some (Some c) → held_of c ≡ []
  none_waits is c there = ap held_at (sym there ∙ at ∙ ap Some is)

  pub become_one : (became : Connection S → Connection S → Type 0) (c d : Connection S) → here ≡ Some c → became c d
      → HasBecome became number old (slice_set old number (Some d))
  become_one became c d is on = (c, d, at ∙ ap Some is, on, refl)

  pub moved_one : (s : Ghosts S) (now : ℕ) (moved : Moved) (c d : Connection S) → here ≡ Some c → MovesOn s now moved c d
      → HasMovedAt s now number moved old (slice_set old number (Some d))
  moved_one s now moved c d is on = inr (become_one (MovesOn s now moved) c d is on)

  pub read_one : (s : Ghosts S) (now : ℕ) (moved : Moved) (c d : Connection S) → here ≡ Some c → HasRead s now moved c d
      → HasReadAt s now number moved old (slice_set old number (Some d))
  read_one s now moved c d is (inl on) = inl (moved_one s now moved c d is on)
  read_one s now moved c d is (inr (later, none, same)) =
      inr (subst (IsOpenWith IsReadLater) (sym (at ∙ ap Some is)) later, none, ap (slice_set old number) (ap Some same ∙ sym is) ∙ nothing_there)

  pub handed_one : {M : Type 0} (octets : M → List ℕ) (handed : Option M) (now : ℕ) (c d : Connection S) → here ≡ Some c
      → MatchOption handed (held_of c ≡ []) (λ m. held_of c ≡ octets m ∷ held_of d)
      → unwritten_of d ≡ unwritten_of c → stream_of d ≡ stream_of c → rest_of d ≡ rest_of c → OnSome handed (used_of d ≡ now) → IfNone handed (d ≡ c)
      → HandsOver now number (option_map octets handed) old (slice_set old number (Some d))
  handed_one octets None now c d is first left stream rest used none = (
    ap (slice_set old number) (ap Some none ∙ sym is) ∙ nothing_there,
    λ c' there. ap held_at (sym there ∙ at ∙ ap Some is) ∙ first,
  )
  handed_one octets (Some m) now c d is first left stream rest used none =
      (c, d, at ∙ ap Some is, record { came = one_less (octets m) c d first rest; left = left; stream = stream; used = used }, refl)
