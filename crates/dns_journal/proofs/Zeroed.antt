-- The bank that isn't in use is cleared: zeros, a sync, the root, a sync. The crash argument, over lists of sectors alone.
use Rattle.std.proofs.Common.{◌≡◌, ◌≢◌, ◌⊎◌, inl, inr, ⊎_elim, ℕ, ◌-◌, ◌≤◌, ◌<◌, List, [], ◌∷◌, take, get_or, refl, sym, ◌∙◌, ap, subst, arith}
use Rattle.std.proofs.lemmas.Bool.{cases_lt}
use Rattle.std.proofs.lemmas.List.{length-set}
use Rattle.std.specs.Prelude.{slice_set}
use Rattle.dns_sectors.specs.Device.{Content, Only, MayWrite}
use Rattle.dns_sectors.specs.Crash.{Write, after_writes, SomeApplied, CrashOf}
use Rattle.dns_sectors.specs.Phase.{zeros_from}
use Rattle.dns_sectors.proofs.Applied.{set_applied, writes_applied, crash_applied}
use Rattle.dns_layout.specs.Sector.{sector_at, blank, tag, head_tag, head_tag_in, root_tag, root_tag_in, open_count, number, bank_open, clear}
use Rattle.dns_layout.specs.Own.{IsIntactIn, Altered}
use Rattle.dns_layout.specs.Store.{Sizes, Stored, IsRoot, OpensBy, OpensByIn, OpensAs, IsTidy, IsLeftOver, all_sectors, snapshot_place, bank_end, other_of}
use Rattle.dns_layout.specs.declared.format.Format.{Format}
use Rattle.dns_layout.specs.declared.format.Format.TheVariants.{Two}
use Rattle.dns_journal.specs.State.{IsOpenedTimes}
use Rattle.dns_journal.specs.Clearing.{NamesSameBank, IsToClear, IsCleared, OpensStill}
use Rattle.dns_journal.proofs.Places.{at_set-same, at_set-other, some-length, all_are_some}
use Rattle.dns_journal.proofs.Altered.{same_or_not}
use Rattle.dns_journal.proofs.Between.{AllBetween, some_outside, banks_apart, root_apart, which_bank, bank_inside, zeros_between, zeros_stand}
use Rattle.dns_journal.proofs.Same.{opens_same}

-- what a root that is there says of the heads
pub tidy_of : (s : Sizes) (c : Content) (x : List ℕ) → sector_at c 0 ≡ x
    → ((at : ℕ) → (IsLeftOver Two s x at → ⊥) → tag (sector_at c at) ≡ head_tag → open_count (sector_at c at) ≤ open_count x) → bank_open x ≤ open_count x → IsTidy s c
tidy_of s c x is heads bank = record {
  heads = subst (λ (r : List ℕ). (at : ℕ) → (IsLeftOver Two s r at → ⊥) → tag (sector_at c at) ≡ head_tag → open_count (sector_at c at) ≤ open_count r) (sym is) heads;
  bank = subst (λ (r : List ℕ). bank_open r ≤ open_count r) (sym is) bank;
}

pub tidy_heads : (s : Sizes) (c : Content) (x : List ℕ) → sector_at c 0 ≡ x → IsTidy s c → (at : ℕ) → (IsLeftOver Two s x at → ⊥) → tag (sector_at c at) ≡ head_tag → open_count (sector_at c at) ≤ open_count x
tidy_heads s c x is tidy = subst (λ (r : List ℕ). (at : ℕ) → (IsLeftOver Two s r at → ⊥) → tag (sector_at c at) ≡ head_tag → open_count (sector_at c at) ≤ open_count r) is tidy.heads

pub tidy_bank : (s : Sizes) (c : Content) (x : List ℕ) → sector_at c 0 ≡ x → IsTidy s c → bank_open x ≤ open_count x
tidy_bank s c x is tidy = subst (λ (r : List ℕ). bank_open r ≤ open_count r) is tidy.bank

pub root_no_head : (x : List ℕ) → tag x ≡ root_tag → tag x ≡ head_tag → ⊥
unfolding head_tag_in root_tag_in
root_no_head x is_root is_head =
    let letters : get_or {A = ℕ} (68 ∷ 80 ∷ 82 ∷ 50 ∷ []) 2 0 ≡ get_or {A = ℕ} (68 ∷ 80 ∷ 72 ∷ 50 ∷ []) 2 0 = ap (λ (l : List ℕ). get_or l 2 0) (sym is_root ∙ is_head) in
    absurd (omega (arith, letters))

pub blank_no_head : (x : List ℕ) → x ≡ blank → tag x ≡ head_tag → ⊥
unfolding head_tag_in tag
blank_no_head x is is_head =
    let letters : 0 ≡ get_or {A = ℕ} (68 ∷ 80 ∷ 72 ∷ 50 ∷ []) 2 0 = ap (λ (l : List ℕ). get_or l 2 0) (sym (ap (λ (y : List ℕ). take 4 y) is) ∙ is_head) in
    absurd (omega (arith, letters))

module _ (f : Format) (s : Sizes) (k : Stored) (d : Content) (x : List ℕ) (parts : List (List ℕ)) (opens : OpensByIn f s d x parts k) where
  pub other_bank : (ws : List Write) → AllBetween (snapshot_place s (other_of (number x))) (bank_end s (other_of (number x))) ws → (c : Content) → SomeApplied ws d c
      → ((at : ℕ) → at < all_sectors s → (IsLeftOver f s x at → ⊥) → IsIntactIn f at (sector_at c at)) → OpensByIn f s c x parts k
  other_bank ws between c some own =
      let low = snapshot_place s (other_of (number x)) in
      let high = bank_end s (other_of (number x)) in
      opens_same f s k d x parts opens c x (some-length ws d c some) (some_outside ws low high 0 d c between (inl (root_apart s (other_of (number x)))) some ∙ opens.stands) opens.valid
      (record { bank = refl; bank_open = refl; base = refl; length = refl })
      (λ q from to. some_outside ws low high q d c between (banks_apart s (number x) q opens.valid.bank from to) some) own

pub new_stays : (s : Sizes) (k : Stored) (d : Content) (y : List ℕ) (parts : List (List ℕ)) → OpensBy s d y parts k → clear y ≡ 0
    → (ws : List Write) → AllBetween (snapshot_place s (other_of (number y))) (bank_end s (other_of (number y))) ws → (c : Content) → SomeApplied ws d c → OpensBy s c y parts k
new_stays s k d y parts opens not_clear ws between c some =
    let low = snapshot_place s (other_of (number y)) in
    let high = bank_end s (other_of (number y)) in
    other_bank Two s k d y parts opens ws between c some
    (λ at lt kept.
    let out : (at < low) ⊎ (high ≤ at) = ⊎_elim (λ below. inl below) (λ above. ⊎_elim (λ inside. absurd (kept (record { not_clear = not_clear; from = above; to = inside }))) (λ behind. inr behind) (cases_lt at high)) (cases_lt at low) in
    subst (λ (z : List ℕ). IsIntactIn Two at z) (sym (some_outside ws low high at d c between out some)) (opens.own at lt kept))

pub cleared_opens : (s : Sizes) (k : Stored) (d : Content) (y z : List ℕ) (parts : List (List ℕ)) → OpensBy s d y parts k → IsRoot s z → NamesSameBank y z → IsIntactIn Two 0 z
    → ((at : ℕ) → snapshot_place s (other_of (number y)) ≤ at → at < bank_end s (other_of (number y)) → sector_at d at ≡ blank)
    → OpensBy s (slice_set d 0 z) z parts k
cleared_opens s k d y z parts opens valid names root_own blanks =
    let same : (q : ℕ) → 0 < q → sector_at (slice_set d 0 z) q ≡ sector_at d q = λ q from. at_set-other d 0 q z (λ (is : q ≡ 0). absurd (omega (arith, is, from))) in
    opens_same Two s k d y parts opens (slice_set d 0 z) z (length-set d 0 z) (at_set-same d 0 z (omega (arith, opens.size))) valid names
    (λ q from to. same q (omega (arith, from, root_apart s (number y))))
    (λ at lt kept. ⊎_elim
    (λ (here : at ≡ 0). subst (λ n. IsIntactIn Two n (sector_at (slice_set d 0 z) n)) (sym here) (subst (λ (x : List ℕ). IsIntactIn Two 0 x) (sym (at_set-same d 0 z (omega (arith, opens.size)))) root_own))
    (λ (behind : at ≢ 0).
    let some : 0 < at = omega (arith, behind) in
    subst (λ (x : List ℕ). IsIntactIn Two at x) (sym (same at some))
    (⊎_elim
    (λ inside. opens.own at lt (λ left. ⊎_elim (λ below. absurd (omega (arith, below, left.from))) (λ above. absurd (omega (arith, above, left.to))) (banks_apart s (number y) at opens.valid.bank inside.0 inside.1)))
    (λ old. λ ne. absurd (ne (blanks at old.0 old.1)))
    (which_bank s (number y) at opens.valid.bank some lt)))
    (same_or_not at 0))

module _ (s : Sizes) (k : Stored) (d : Content) (x : List ℕ) (parts : List (List ℕ)) (from until : ℕ) (z : List ℕ) (begun : IsToClear s k x parts from until z d) where
  abbrev low : ℕ
  low = snapshot_place s (other_of (number x))

  abbrev high : ℕ
  high = bank_end s (other_of (number x))

  abbrev zeros : List Write
  zeros = zeros_from from (until - from)

  between : AllBetween (snapshot_place s (other_of (number x))) (bank_end s (other_of (number x))) (zeros_from from (until - from))
  between = zeros_between _ _ from (until - from) (omega (arith, begun.from_is)) (omega (arith, begun.from_is, begun.until_is))

  stays : (c : Content) → SomeApplied (zeros_from from (until - from)) d c → OpensBy s c x parts k
  stays c some = new_stays s k d x parts begun.opens begun.not_clear (zeros_from from (until - from)) between c some

  -- what is outside of the bank that is cleared stays, and so do its heads
  heads_stay : (c : Content) → SomeApplied (zeros_from from (until - from)) d c → (at : ℕ) → (at < snapshot_place s (other_of (number x))) ⊎ (bank_end s (other_of (number x)) ≤ at)
      → tag (sector_at c at) ≡ head_tag → open_count (sector_at c at) ≤ open_count x
  heads_stay c some at out =
      let same : sector_at c at ≡ sector_at d at = some_outside (zeros_from from (until - from)) low high at d c between out some in
      subst (λ (y : List ℕ). tag y ≡ head_tag → open_count y ≤ open_count x) (sym same)
      (tidy_heads s d x begun.opens.stands begun.tidy at
      (λ left. ⊎_elim (λ below. absurd (omega (arith, below, left.from))) (λ above. absurd (omega (arith, above, left.to))) out))

  bank : bank_open x ≤ open_count x
  bank = tidy_bank s d x begun.opens.stands begun.tidy

  out_or_in : (at : ℕ) → ((at < snapshot_place s (other_of (number x))) ⊎ (bank_end s (other_of (number x)) ≤ at)) ⊎ ((snapshot_place s (other_of (number x)) ≤ at) × (at < bank_end s (other_of (number x))))
  out_or_in at = ⊎_elim (λ below. inl (inl below)) (λ above. ⊎_elim (λ inside. inr (above, inside)) (λ behind. inl (inr behind)) (cases_lt at high)) (cases_lt at low)

  tidy_stays : (c : Content) → SomeApplied (zeros_from from (until - from)) d c → IsTidy s c
  tidy_stays c some =
      tidy_of s c x (stays c some).stands
      (λ at kept tagged. ⊎_elim (λ out. heads_stay c some at out tagged)
      (λ inside. absurd (kept (record { not_clear = begun.not_clear; from = inside.0; to = inside.1 }))) (out_or_in at)) bank

  -- It opens as before, by one of the two roots.
  abbrev Stays : Content → Type 0
  Stays c = OpensAs s c k × IsTidy s c × (IsOpenedTimes (open_count x) c ⊎ IsOpenedTimes (open_count z) c)

  zeros_leave : (c : Content) → SomeApplied (zeros_from from (until - from)) d c → Stays c
  zeros_leave c some = ((x, parts, stays c some), tidy_stays c some, inl (ap open_count (stays c some).stands))

  abbrev blanked : Content
  blanked = after_writes (zeros_from from (until - from)) d

  all_zeros : SomeApplied (zeros_from from (until - from)) d blanked
  all_zeros = all_are_some (zeros_from from (until - from)) d

  blanks : (at : ℕ) → snapshot_place s (other_of (number x)) ≤ at → at < bank_end s (other_of (number x)) → sector_at blanked at ≡ blank
  blanks at above below =
      zeros_stand from (until - from) at d (omega (arith, above, begun.from_is)) (omega (arith, below, begun.from_is, begun.until_is))
      (omega (arith, begun.from_is, begun.until_is, begun.opens.size, bank_inside s (number x)))

  cleared_now : OpensBy s (slice_set (after_writes (zeros_from from (until - from)) d) 0 z) z parts k
  cleared_now = cleared_opens s k blanked x z parts (stays blanked all_zeros) begun.valid begun.names (λ _. begun.own) blanks

  -- each head that is left was there before
  heads_left : (at : ℕ) → tag (sector_at (slice_set blanked 0 z) at) ≡ head_tag → open_count (sector_at (slice_set blanked 0 z) at) ≤ open_count x
  heads_left at tagged =
      ⊎_elim (λ (here : at ≡ 0). absurd (root_no_head z begun.valid.tagged (subst (λ (y : List ℕ). tag y ≡ head_tag) cleared_now.stands (subst (λ n. tag (sector_at (slice_set blanked 0 z) n) ≡ head_tag) here tagged))))
      (λ (other : at ≢ 0).
      let same : sector_at (slice_set blanked 0 z) at ≡ sector_at blanked at = at_set-other blanked 0 at z other in
      let there : tag (sector_at blanked at) ≡ head_tag = subst (λ (y : List ℕ). tag y ≡ head_tag) same tagged in
      subst (λ (y : List ℕ). open_count y ≤ open_count x) (sym same)
      (⊎_elim (λ out. heads_stay blanked all_zeros at out there) (λ inside. absurd (blank_no_head (sector_at blanked at) (blanks at inside.0 inside.1) there)) (out_or_in at)))
      (same_or_not at 0)

  tidy_now : IsTidy s (slice_set blanked 0 z)
  tidy_now =
      tidy_of s (slice_set blanked 0 z) z cleared_now.stands (λ at kept tagged. (let le = heads_left at tagged in omega (arith, le, begun.no_lower)))
      (omega (arith, begun.names.bank_open, bank, begun.no_lower))

  root_leaves : (c : Content) → MayWrite 0 z blanked c → Stays c
  root_leaves c (inl not) = subst (λ (b : Content). Stays b) (sym not) (zeros_leave blanked all_zeros)
  root_leaves c (inr is) = subst (λ (b : Content). Stays b) (sym is) ((z, parts, cleared_now), tidy_now, inr (ap open_count cleared_now.stands))

  cleared_is : IsCleared s k x parts z (slice_set blanked 0 z)
  cleared_is = record {
    opens = cleared_now;
    tidy = tidy_now;
    behind = λ less version at tagged. (let le = heads_left at tagged in inl (omega (arith, le, less)));
  }

  -- The device has some altered sectors in place of those of the content.
  module _ (seen : Content) (altered : SomeApplied k.altered d seen) where
    pub zeros_left : (may_leave : Content → Type 0) → Only seen may_leave → (c : Content) → CrashOf may_leave (zeros_from from (until - from)) c
        → OpensStill s k x z c
    zeros_left may_leave only c (e, left, some) =
        let intact = crash_applied k.altered zeros d seen c altered (subst (λ (b : Content). SomeApplied zeros b c) (only e left) some) in
        (intact.0, intact.2, zeros_leave intact.0 intact.1)

    made : SomeApplied k.altered blanked (after_writes zeros seen)
    made = writes_applied k.altered zeros d seen altered

    pub cleared_left : (mid : Content) (may_leave : Content → Type 0) → mid ≡ after_writes (zeros_from from (until - from)) seen → Only mid may_leave
        → (c : Content) → CrashOf may_leave ((0, z) ∷ []) c → OpensStill s k x z c
    cleared_left mid may_leave is only c (e, left, some) =
        let intact = crash_applied k.altered ((0, z) ∷ []) blanked (after_writes zeros seen) c made
        (subst (λ (b : Content). SomeApplied ((0, z) ∷ []) b c) (only e left ∙ is) some) in
        (intact.0, intact.2, root_leaves intact.0 intact.1)

    pub cleared : (after : Content) → after ≡ slice_set (after_writes (zeros_from from (until - from)) seen) 0 z
        → Altered k.altered (IsCleared s k x parts z) after
    cleared after is = (
      slice_set blanked 0 z,
      subst (λ (b : Content). SomeApplied k.altered (slice_set blanked 0 z) b) (sym is) (set_applied k.altered blanked (after_writes zeros seen) 0 z made),
      cleared_is,
    )
