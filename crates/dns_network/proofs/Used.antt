-- What becomes of a connection that is used, or not.
use Rattle.std.proofs.Common.{◌≡◌, ◌⊎◌, inl, inr, ℕ, zero, suc, ◌-◌, ◌<◌, ◌≤◌, true, false, not, List, [], ◌∷◌, ◌++◌, length, take, drop, Option, Some, None, refl, ap, sym, subst, ◌∙◌, slice_set, arith}
use Rattle.std.specs.Prelude.{◌≢◌, slice_get}
use Rattle.std.proofs.lemmas.List.{length-take-le, take-append-drop}
use Rattle.std.proofs.lemmas.Bool.Decides.{nat_tests}
use Rattle.dns_network.specs.declared.connection.Connection.{Connection}
use Rattle.dns_network.specs.declared.stream.Moved.{Moved}
use Rattle.dns_network.specs.declared.stream.Moved.TheVariants.{Octets, Later, Ended}
use Rattle.dns_network.specs.declared.stream.Stream as stream
use Rattle.dns_network.specs.Connection.{HasMoved, HasTaken, HasTakenNone, IsInUse, IsQueued, IsSilent, IsStalled, IsUnused, IsUnusedOrInUse, held_of, unwritten_of, used_after, used_of}
use Rattle.dns_network.specs.Connections.{HandsOver, HasMovedAt, HasReadAt, IsGoneOr, IsNextQueued, IsOpenWith, HasPumped, IsPushedTo, IsReplyPushed, has_left_at, is_open_at}
use Rattle.dns_network.specs.Framed.{pending_length}
use Rattle.dns_network.specs.Stream.{IfOctets, moved}
use Rattle.dns_network.proofs.Pushed.{set_there}

-- a list of which nothing is left
empty : {A : Type 0} (xs : List A) → length xs ≡ 0 → xs ≡ []
empty [] none = refl
empty (x ∷ xs) none = absurd (omega (arith, none))

not_empty : (xs ys : List ℕ) → 0 < length ys → xs ++ ys ≡ [] → ⊥
not_empty [] ys some none = omega (arith, some, ap length none)
not_empty (x ∷ xs) ys some none = absurd (cc none)

some_taken : (count : ℕ) (xs : List ℕ) → count ≤ length xs → 0 < count → take count xs ≢ []
some_taken count xs few some none = absurd (omega (arith, few, some, length-take-le count xs few, ap length none))

module _ {S : Type 0} where
  -- After a write octets were taken, or none were.
  pub taken : (now : ℕ) (result : Moved) (old new : Connection S) → moved result ≤ length (unwritten_of old) → IfOctets result (0 < moved result)
      → unwritten_of new ≡ drop (moved result) (unwritten_of old) → used_of new ≡ used_after result now (used_of old)
      → HasTaken now old new ⊎ HasTakenNone old new
  taken now (Octets count) old new few some left used =
      inl (record {
        piece = take count (unwritten_of old);
        some = some_taken count (unwritten_of old) few some;
        taken = sym (take-append-drop count (unwritten_of old)) ∙ ap (λ (xs : List ℕ). take count (unwritten_of old) ++ xs) (sym left);
        used = used;
      })
  taken now Later old new few some left used = inr (record { left = left; used = used })
  taken now Ended old new few some left used = inr (record { left = left; used = used })

  -- what was let go is gone
  pub let_go : (known : Connection S → Type 0) (number : ℕ) (old : List (Option (Connection S))) → IsGoneOr known (slice_get (slice_set old number None) number)
  let_go known number [] = tt
  let_go known zero (x ∷ xs) = tt
  let_go known (suc number) (x ∷ xs) = let_go known number xs

  pub is_gone : (known : Connection S → Type 0) (number : ℕ) (old new : List (Option (Connection S))) → new ≡ slice_set old number None
      → IsGoneOr known (slice_get new number)
  is_gone known number old new gone =
      subst (λ (cs : List (Option (Connection S))). IsGoneOr known (slice_get cs number)) (sym gone) (let_go known number old)

  pub not_open : (known : Connection S → Type 0) (index : Option (Option (Connection S))) → is_open_at index ≡ false → IsGoneOr known index
  not_open known None none = tt
  not_open known (Some None) none = tt
  not_open known (Some (Some c)) none = absurd (let clash : true ≡ false = none in cc)

  pub known_of : (known : Connection S → Type 0) (index : Option (Option (Connection S))) → IsOpenWith known index
      → (c : Connection S) × (index ≡ Some (Some c)) × known c
  known_of known None is = absurd is
  known_of known (Some None) is = absurd is
  known_of known (Some (Some c)) is = (c, refl, is)

  pub open_gone : (known : Connection S → Type 0) (index : Option (Option (Connection S))) → IsOpenWith known index → IsGoneOr known index
  open_gone known None is = absurd is
  open_gone known (Some None) is = absurd is
  open_gone known (Some (Some c)) is = is

  pub weaker : (P Q : Connection S → Type 0) (index : Option (Option (Connection S))) → ((c : Connection S) → P c → Q c) → IsGoneOr P index
      → IsGoneOr Q index
  weaker P Q None on is = tt
  weaker P Q (Some None) on is = tt
  weaker P Q (Some (Some c)) on is = on c is

  -- Octets are left on a stalled connection, and none on an unused one.
  pub stalled_left : (now : ℕ) (index : Option (Option (Connection S))) → has_left_at index ≡ false → IsOpenWith (IsStalled now) index → ⊥
  stalled_left now None none is = is
  stalled_left now (Some None) none is = is
  stalled_left now (Some (Some c)) none is = is.left (empty (unwritten_of c) (grind (arith, nat_tests, none)))

  pub unused_left : (now : ℕ) (index : Option (Option (Connection S))) → has_left_at index ≡ true → IsOpenWith (IsUnused now) index → ⊥
  unused_left now None some is = is
  unused_left now (Some None) some is = is
  unused_left now (Some (Some c)) some is =
      let none : length (unwritten_of c) ≡ 0 = ap length is.left in
      absurd (grind (arith, nat_tests, some, none))

  -- What is known of the connection with a number is known while it goes on so that it stays known, and while
  -- others change.
  module _ (known : Connection S → Type 0) (number : ℕ) where
    abbrev pub Is : List (Option (Connection S)) → Type 0
    Is places = IsGoneOr known (slice_get places number)

  pub set_stays : (known : Connection S → Type 0) (number target : ℕ) (old : List (Option (Connection S))) (c d : Connection S)
      → slice_get old target ≡ Some (Some c) → (known c → known d) → Is known number old → Is known number (slice_set old target (Some d))
  set_stays known number target [] c d there on is = is
  set_stays known zero zero (x ∷ xs) c d there on is =
      on (subst (λ (index : Option (Option (Connection S))). IsGoneOr known index) there is)
  set_stays known zero (suc target) (x ∷ xs) c d there on is = is
  set_stays known (suc number) zero (x ∷ xs) c d there on is = is
  set_stays known (suc number) (suc target) (x ∷ xs) c d there on is = set_stays known number target xs c d there on is

  pub gone_stays : (known : Connection S → Type 0) (number target : ℕ) (old : List (Option (Connection S))) → Is known number old
      → Is known number (slice_set old target None)
  gone_stays known number target [] is = is
  gone_stays known zero zero (x ∷ xs) is = tt
  gone_stays known zero (suc target) (x ∷ xs) is = is
  gone_stays known (suc number) zero (x ∷ xs) is = is
  gone_stays known (suc number) (suc target) (x ∷ xs) is = gone_stays known number target xs is

  -- It stays known where replies are queued.
  abbrev pub StaysQueued : (Connection S → Type 0) → Type 0
  StaysQueued known = (reply : List ℕ) (c d : Connection S) → IsQueued reply c d → known c → known d

  pub pushed_stays : (known : Connection S → Type 0) (number target : ℕ) (reply : List ℕ) (old new : List (Option (Connection S))) → StaysQueued known
      → IsReplyPushed target reply old new → Is known number old → Is known number new
  pushed_stays known number target reply old new on pushed is = go (slice_get old target) refl pushed
    where
      go : (index : Option (Option (Connection S))) → slice_get old target ≡ index → IsPushedTo target reply index old new → Is known number new
      go None there same = subst (Is known number) (sym same) is
      go (Some None) there same = subst (Is known number) (sym same) is
      go (Some (Some c)) there (d, queued, set) = subst (Is known number) (sym set) (set_stays known number target old c d there (on reply c d queued) is)

  -- what is left after a reply is queued
  left_queued : (reply : List ℕ) (c d : Connection S) → IsQueued reply c d → unwritten_of d ≢ []
  left_queued reply c d queued none =
      let some : 0 < length (pending_length reply) = omega arith in
      absurd (not_empty (unwritten_of c) (pending_length reply) some (sym queued.left ∙ none))

  pub in_use_stays : (now : ℕ) → StaysQueued (IsInUse now)
  in_use_stays now reply c d queued is = inr (left_queued reply c d queued)

  -- A message was handed over in this second.
  pub handed_now : (now number : ℕ) (message : List ℕ) (old new : List (Option (Connection S))) → HandsOver now number (Some message) old new
      → Is (IsInUse now) number new
  handed_now now number message old new (c, d, there, on, set) =
      let at : slice_get new number ≡ Some (Some d) =
      ap (λ (cs : List (Option (Connection S))). slice_get cs number) set ∙ set_there old number (Some c) (Some d) there in
      subst (λ (index : Option (Option (Connection S))). IsGoneOr (IsInUse now) index) (sym at) (inl on.used)

  -- an unused one, to which the next message of a transfer was queued
  pub pumped_in_use : (now number : ℕ) (old new : List (Option (Connection S))) → IsOpenWith (IsUnused now) (slice_get old number)
      → IsNextQueued number old new → Is (IsInUse now) number new
  pumped_in_use now number old new unused (inl gone) = is_gone (IsInUse now) number old new gone
  pumped_in_use now number old new unused (inr (message, pushed)) = go (known_of (IsUnused now) (slice_get old number) unused)
    where
      go : (c : Connection S) × (slice_get old number ≡ Some (Some c)) × IsUnused now c → Is (IsInUse now) number new
      go (c, there, is) =
          let queued = subst (λ (index : Option (Option (Connection S))). IsPushedTo number message index old new) there pushed in
          let d = queued.0 in
          let at : slice_get new number ≡ Some (Some d) =
          ap (λ (cs : List (Option (Connection S))). slice_get cs number) queued.2 ∙ set_there old number (Some c) (Some d) there in
          subst (λ (index : Option (Option (Connection S))). IsGoneOr (IsInUse now) index) (sym at) (inr (left_queued message c d queued.1))

  -- what a pump leaves of an unused one
  pub after_pump : (now number : ℕ) (old new : List (Option (Connection S))) → IsOpenWith (IsUnused now) (slice_get old number) → HasPumped number false old new
      → Is (IsUnusedOrInUse now) number new
  after_pump now number old new unused (inl same) =
      subst (Is (IsUnusedOrInUse now) number) (sym same)
      (weaker (IsUnused now) (IsUnusedOrInUse now) (slice_get old number) (λ c is. inl is) (open_gone (IsUnused now) (slice_get old number) unused))
  after_pump now number old new unused (inr queued) =
      weaker (IsInUse now) (IsUnusedOrInUse now) (slice_get new number) (λ c is. inr is) (pumped_in_use now number old new unused queued)

  -- It is stalled, or was used in this second.
  abbrev pub IsStalledOrUsed : ℕ → Connection S → Type 0
  IsStalledOrUsed now c = IsStalled now c ⊎ (used_of c ≡ now)

  -- one of two is known of a connection that is not gone
  pub either : (P Q : Connection S → Type 0) (index : Option (Option (Connection S))) → IsGoneOr (λ c. P c ⊎ Q c) index
      → IsOpenWith P index ⊎ IsGoneOr Q index
  either P Q None is = inr tt
  either P Q (Some None) is = inr tt
  either P Q (Some (Some c)) (inl p) = inl p
  either P Q (Some (Some c)) (inr q) = inr q

  pub put_stays : (known : Connection S → Type 0) (number target : ℕ) (old : List (Option (Connection S))) (c : Connection S) → known c
      → Is known number old → Is known number (slice_set old target (Some c))
  put_stays known number target [] c on is = is
  put_stays known zero zero (x ∷ xs) c on is = on
  put_stays known zero (suc target) (x ∷ xs) c on is = is
  put_stays known (suc number) zero (x ∷ xs) c on is = is
  put_stays known (suc number) (suc target) (x ∷ xs) c on is = put_stays known number target xs c on is

  -- there is no connection past the last place
  pub inside : (known : Connection S → Type 0) (number : ℕ) (places : List (Option (Connection S))) → IsOpenWith known (slice_get places number)
      → number < length places
  inside known number [] is = absurd is
  inside known zero (x ∷ xs) is = omega arith
  inside known (suc number) (x ∷ xs) is = let less = inside known number xs is in omega (arith, less)

module _ {S : Type 0} (s : stream.Ghosts S) where
  -- A stalled connection of which octets were written then is used, or it is stalled still.
  wrote : (now : ℕ) (c d : Connection S) → IsStalled now c → HasMoved s now c d → (used_of d ≡ now) ⊎ IsStalled now d
  wrote now c d is moved = go moved.used
    where
      go : HasTaken now c d ⊎ HasTakenNone c d → (used_of d ≡ now) ⊎ IsStalled now d
      go (inl some) = inl some.used
      go (inr none) = inr (record { left = λ e. is.left (sym none.left ∙ e); used = subst (λ (used : ℕ). 30 ≤ now - used) (sym none.used) is.used })

  pub written_now : (now number : ℕ) (moved : Moved) (old new : List (Option (Connection S))) → HasMovedAt s now number moved old new
      → (IsOpenWith (IsStalled now) (slice_get new number) → ⊥) → IsOpenWith (IsStalled now) (slice_get old number)
      → IsGoneOr (λ c. used_of c ≡ now) (slice_get new number)
  written_now now number moved old new (inl (closed, lasts, same)) not stalled =
      absurd (not (subst (λ (cs : List (Option (Connection S))). IsOpenWith (IsStalled now) (slice_get cs number)) (sym same) stalled))
  written_now now number moved old new (inr (c, d, there, on, set)) not stalled =
      let at : slice_get new number ≡ Some (Some d) =
      ap (λ (cs : List (Option (Connection S))). slice_get cs number) set ∙ set_there old number (Some c) (Some d) there in
      let is : IsStalled now c = subst (λ (index : Option (Option (Connection S))). IsOpenWith (IsStalled now) index) there stalled in
      let used : used_of d ≡ now = elim (wrote now c d is on.moved) [
        | inl used ↦ used
        | inr still ↦ absurd (not (subst (λ (index : Option (Option (Connection S))). IsOpenWith (IsStalled now) index) (sym at) still))
      ] in
      subst (λ (index : Option (Option (Connection S))). IsGoneOr (λ c. used_of c ≡ now) index) (sym at) used

  -- An unused connection of which a piece was read, and that holds no message, is silent.
  read_silent : (now : ℕ) (c d : Connection S) → HasMoved s now c d → held_of d ≡ [] → IsUnusedOrInUse now c → IsSilent now d ⊎ IsInUse now d
  read_silent now c d moved none is = go moved.used is
    where
      go : HasTaken now c d ⊎ HasTakenNone c d → IsUnusedOrInUse now c → IsSilent now d ⊎ IsInUse now d
      go (inl some) is = inr (inl some.used)
      go (inr still) (inl unused) =
          inl (record { left = still.left ∙ unused.left; held = none; used = subst (λ (used : ℕ). 30 ≤ now - used) (sym still.used) unused.used })
      go (inr still) (inr (inl used)) = inr (inl (still.used ∙ used))
      go (inr still) (inr (inr left)) = inr (inr (λ e. left (sym still.left ∙ e)))

  still_silent : (now : ℕ) (index : Option (Option (Connection S))) → ((c : Connection S) → index ≡ Some (Some c) → held_of c ≡ [])
      → IsGoneOr (IsUnusedOrInUse now) index → IsGoneOr (λ c. IsSilent now c ⊎ IsInUse now c) index
  still_silent now None none is = tt
  still_silent now (Some None) none is = tt
  still_silent now (Some (Some c)) none (inl unused) = inl (record { left = unused.left; held = none c refl; used = unused.used })
  still_silent now (Some (Some c)) none (inr used) = inr used

  none_handed : (now number : ℕ) (moved : Moved) (old mid : List (Option (Connection S))) → HasMovedAt s now number moved old mid
      → ((c : Connection S) → slice_get mid number ≡ Some (Some c) → held_of c ≡ [])
      → Is (IsUnusedOrInUse now) number old → Is (λ c. IsSilent now c ⊎ IsInUse now c) number mid
  none_handed now number moved old mid (inl (closed, lasts, same)) none is =
      still_silent now (slice_get mid number) none (subst (Is (IsUnusedOrInUse now) number) (sym same) is)
  none_handed now number moved old mid (inr (c, d, there, on, set)) none is =
      let at : slice_get mid number ≡ Some (Some d) =
      ap (λ (cs : List (Option (Connection S))). slice_get cs number) set ∙ set_there old number (Some c) (Some d) there in
      let was : IsUnusedOrInUse now c = subst (λ (index : Option (Option (Connection S))). IsGoneOr (IsUnusedOrInUse now) index) there is in
      subst (λ (index : Option (Option (Connection S))). IsGoneOr (λ c. IsSilent now c ⊎ IsInUse now c) index) (sym at)
      (read_silent now c d on.moved (none d at) was)

  none_heard : (now number : ℕ) (moved : Moved) (old mid : List (Option (Connection S))) → HasReadAt s now number moved old mid
      → ((c : Connection S) → slice_get mid number ≡ Some (Some c) → held_of c ≡ [])
      → Is (IsUnusedOrInUse now) number old → Is (λ c. IsSilent now c ⊎ IsInUse now c) number mid
  none_heard now number moved old mid (inl on) none is = none_handed now number moved old mid on none is
  none_heard now number moved old mid (inr (later, none_moved, same)) none is =
      still_silent now (slice_get mid number) none (subst (Is (IsUnusedOrInUse now) number) (sym same) is)

  -- ... and where it is not silent, it is in use
  not_silent : (now : ℕ) (index : Option (Option (Connection S))) → (IsOpenWith (IsSilent now) index → ⊥) → IsGoneOr (λ c. IsSilent now c ⊎ IsInUse now c) index
      → IsGoneOr (IsInUse now) index
  not_silent now None not is = tt
  not_silent now (Some None) not is = tt
  not_silent now (Some (Some c)) not (inl silent) = absurd (not silent)
  not_silent now (Some (Some c)) not (inr used) = used

  pub heard_none : (now number : ℕ) (moved : Moved) (old mid new : List (Option (Connection S))) → HasReadAt s now number moved old mid
      → HandsOver now number None mid new → (IsOpenWith (IsSilent now) (slice_get new number) → ⊥)
      → Is (IsUnusedOrInUse now) number old → Is (IsInUse now) number new
  heard_none now number moved old mid new on (same, none) not is =
      not_silent now (slice_get new number) not
      (subst (Is (λ c. IsSilent now c ⊎ IsInUse now c) number) (sym same) (none_heard now number moved old mid on none is))

  -- What is known of a connection, and stays known while it goes on: while replies are queued, octets move and
  -- a message is handed over in a second. It is known of each one that was used in that second.
  pub record Lasts (now : ℕ) (known : Connection S → Type 0) : Type 0 where
    pub queued : StaysQueued known
    pub moved : (c d : Connection S) → HasMoved s now c d → known c → known d
    pub used : (c : Connection S) → used_of c ≡ now → known c

  used_lasts_moved : (now : ℕ) (c d : Connection S) → HasTaken now c d ⊎ HasTakenNone c d → used_of c ≡ now → used_of d ≡ now
  used_lasts_moved now c d (inl some) is = some.used
  used_lasts_moved now c d (inr none) is = none.used ∙ is

  pub used_lasts : (now : ℕ) → Lasts now (λ c. used_of c ≡ now)
  used_lasts now = record {
    queued = λ reply c d queued is. queued.used ∙ is;
    moved = λ c d moved is. used_lasts_moved now c d moved.used is;
    used = λ c is. is;
  }

  in_use_lasts_moved : (now : ℕ) (c d : Connection S) → HasTaken now c d ⊎ HasTakenNone c d → IsInUse now c → IsInUse now d
  in_use_lasts_moved now c d (inl some) is = inl some.used
  in_use_lasts_moved now c d (inr none) (inl used) = inl (none.used ∙ used)
  in_use_lasts_moved now c d (inr none) (inr left) = inr (λ e. left (sym none.left ∙ e))

  pub in_use_lasts : (now : ℕ) → Lasts now (IsInUse now)
  in_use_lasts now = record {
    queued = in_use_stays now;
    moved = λ c d moved is. in_use_lasts_moved now c d moved.used is;
    used = λ c is. inl is;
  }

  unused_lasts_moved : (now : ℕ) (c d : Connection S) → HasTaken now c d ⊎ HasTakenNone c d → IsUnusedOrInUse now c → IsUnusedOrInUse now d
  unused_lasts_moved now c d (inl some) is = inr (inl some.used)
  unused_lasts_moved now c d (inr none) (inl unused) =
      inl (record { left = none.left ∙ unused.left; used = subst (λ (used : ℕ). 30 ≤ now - used) (sym none.used) unused.used })
  unused_lasts_moved now c d (inr none) (inr used) = inr (in_use_lasts_moved now c d (inr none) used)

  pub unused_lasts : (now : ℕ) → Lasts now (IsUnusedOrInUse now)
  unused_lasts now = record {
    queued = λ reply c d queued is. inr (inr (left_queued reply c d queued));
    moved = λ c d moved is. unused_lasts_moved now c d moved.used is;
    used = λ c is. inr (inl is);
  }

  stalled_lasts_queued : (now : ℕ) → StaysQueued {S = S} (IsStalledOrUsed now)
  stalled_lasts_queued now reply c d queued (inr used) = inr (queued.used ∙ used)
  stalled_lasts_queued now reply c d queued (inl stalled) =
      inl (record { left = left_queued reply c d queued; used = subst (λ (used : ℕ). 30 ≤ now - used) (sym queued.used) stalled.used })

  stalled_lasts_moved : (now : ℕ) (c d : Connection S) → HasMoved s now c d → IsStalledOrUsed now c → IsStalledOrUsed now d
  stalled_lasts_moved now c d moved (inr used) = inr (used_lasts_moved now c d moved.used used)
  stalled_lasts_moved now c d moved (inl stalled) = elim (wrote now c d stalled moved) [
    | inl used ↦ inr used
    | inr still ↦ inl still
  ]

  pub stalled_lasts : (now : ℕ) → Lasts now (IsStalledOrUsed now)
  stalled_lasts now = record {
    queued = stalled_lasts_queued now;
    moved = λ c d moved is. stalled_lasts_moved now c d moved is;
    used = λ c is. inr is;
  }
