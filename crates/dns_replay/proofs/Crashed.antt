-- Devices after a crash, and settings that are the same.
use Rattle.std.proofs.Common.{◌≡◌, ◌<◌, ◌+◌, ℕ, zero, suc, ◌↔◌, IsTrue, List, [], ◌∷◌, ◌++◌, length, take, drop, refl, sym, ap, subst, ◌∙◌, arith}
use Rattle.std.specs.Prelude.{slice_index_or}
use Rattle.std.specs.declared.net.ip_addr.IpAddr.{IpAddr}
use Rattle.dns_policy.specs.Prefix.{IsAllowed}
use Rattle.dns_names.specs.Name.{Labels}
use Rattle.dns_sectors.specs.Device.{Content}
use Rattle.dns_sectors.specs.declared.device.Sectors.{Ghosts}
use Rattle.dns_sectors.specs.declared.memory.Keep as told
use Rattle.dns_store.specs.Opening.{IsInRange}
use Rattle.dns_versions.specs.Each.{Each2}
use Rattle.dns_primary.specs.declared.primary.ZoneSpec.{ZoneSpec}
use Rattle.dns_primary.specs.Machine.{Machine, ZoneState}
use Rattle.dns_primary.specs.Step.{Event}
use Rattle.dns_primary.specs.Stop.{IsMaking}
use Rattle.dns_primary.specs.Open.{AreHonest, AreRecoverable, IsRecoverable}
use Rattle.dns_replay.specs.Keeps.{ZoneKeep}
use Rattle.dns_replay.specs.Crashes.{AreLeftBy, IsLeftBy, keep_at}
use Rattle.dns_replay.specs.Runs.{AreSame}

module _ {D : Type 0} (g : Ghosts D) (tries : ℕ) (m : Machine) (event : Event) where
  pub crashed_recoverable : (kept : D → told.Keep → Content) (keeps : List ZoneKeep) (at index : ℕ) (zones : List ZoneState) (names : List Labels) (settings : List ZoneSpec) (olds news : List D) → AreRecoverable g tries m event index zones names settings olds → AreHonest g olds → AreLeftBy g kept keeps at olds news → AreRecoverable g tries m event index zones names settings news
  crashed_recoverable kept keeps at index [] [] [] [] [] is honest each = tt
  crashed_recoverable kept keeps at index (z ∷ zones) (a ∷ names) (s ∷ settings) (d ∷ olds) (e ∷ news) is honest each = (
    record {
      shape = is.0.shape;
      set = is.0.set;
      range = is.0.range;
      leaves = λ _ c left. is.0.leaves honest.0 c (each.0.left c honest.0 left);
    },
    crashed_recoverable kept keeps (suc at) (suc index) zones names settings olds news is.1 honest.1 each.1,
  )
  crashed_recoverable kept keeps at index zones names settings [] (e ∷ news) is honest each = absurd each
  crashed_recoverable kept keeps at index zones names settings (d ∷ olds) [] is honest each = absurd each
  crashed_recoverable kept keeps at index _ _ _ olds news is honest each = absurd is

  same_recoverable : (making : ℕ → Type 0) (z : ZoneState) (a : Labels) (s t : ZoneSpec) (d : D) → AreSame s t → IsRecoverable g tries making z a s d → IsRecoverable g tries making z a t d
  same_recoverable making z a s t d same is = record {
    shape = is.shape ∙ (λ i. record { apex = a; snapshot = sym same.snapshot i; journal = sym same.journal i });
    set = record {
      keep = same.keep ∙ is.set.keep;
      update = λ address. subst (λ (l : List (IpAddr × ℕ)). IsTrue (z.setting.may_update address) ↔ IsAllowed l address) (sym same.update) (is.set.update address);
      transfer = λ address. subst (λ (l : List (IpAddr × ℕ)). IsTrue (z.setting.may_transfer address) ↔ IsAllowed l address) (sym same.transfer) (is.set.transfer address);
    };
    range = subst (λ n. IsInRange n t.journal) (sym same.snapshot) (subst (λ n. IsInRange s.snapshot n) (sym same.journal) is.range);
    leaves = is.leaves;
  }

  pub reset_recoverable : (index : ℕ) (zones : List ZoneState) (names : List Labels) (settings again : List ZoneSpec) (devices : List D) → Each2 AreSame settings again → AreRecoverable g tries m event index zones names settings devices → AreRecoverable g tries m event index zones names again devices
  reset_recoverable index [] [] [] [] [] each is = tt
  reset_recoverable index (z ∷ zones) (a ∷ names) (s ∷ settings) (t ∷ again) (d ∷ devices) each is =
      (same_recoverable (IsMaking m event index z) z a s t d each.0 is.0, reset_recoverable (suc index) zones names settings again devices each.1 is.1)
  reset_recoverable index zones names [] (t ∷ again) devices each is = absurd each
  reset_recoverable index zones names (s ∷ settings) [] devices each is = absurd each
  reset_recoverable index _ _ settings again _ each is = absurd is

pub same_back : (settings again : List ZoneSpec) → Each2 AreSame settings again → Each2 AreSame again settings
same_back [] [] each = tt
same_back (s ∷ settings) (t ∷ again) each =
    (record { snapshot = sym each.0.snapshot; journal = sym each.0.journal; keep = sym each.0.keep; update = sym each.0.update; transfer = sym each.0.transfer }, same_back settings again each.1)
same_back [] (t ∷ again) each = absurd each
same_back (s ∷ settings) [] each = absurd each

-- one more of each
pub each_more : {A B : Type 0} (R : A → B → Type 0) (xs : List A) (i : ℕ) (d : A) (ys : List B) (y : B) → i < length xs → Each2 R (take i xs) ys → R (slice_index_or xs i d) y → Each2 R (take (suc i) xs) (ys ++ y ∷ [])
each_more R [] i d ys y small h r = absurd (omega (arith, small))
each_more R (x ∷ xs) zero d [] y small h r = (r, tt)
each_more R (x ∷ xs) zero d (z ∷ ys) y small h r = absurd h
each_more R (x ∷ xs) (suc i) d [] y small h r = absurd h
each_more R (x ∷ xs) (suc i) d (z ∷ ys) y small h r = (h.0, each_more R xs i d ys y (omega (arith, small)) h.1 r)

-- one more device
pub left_more : {D : Type 0} (g : Ghosts D) (kept : D → told.Keep → Content) (keeps : List ZoneKeep) (at : ℕ) (olds : List D) (i : ℕ) (d : D) (news : List D) (e : D) → i < length olds → AreLeftBy g kept keeps at (take i olds) news → IsLeftBy g kept (keep_at keeps (at + i)) (slice_index_or olds i d) e → AreLeftBy g kept keeps at (take (suc i) olds) (news ++ e ∷ [])
left_more g kept keeps at [] i d news e small h r = absurd (omega (arith, small))
left_more g kept keeps at (x ∷ olds) zero d [] e small h r = (subst (λ n. IsLeftBy g kept (keep_at keeps n) x e) (omega arith) r, tt)
left_more g kept keeps at (x ∷ olds) zero d (y ∷ news) e small h r = absurd h
left_more g kept keeps at (x ∷ olds) (suc i) d [] e small h r = absurd h
left_more g kept keeps at (x ∷ olds) (suc i) d (y ∷ news) e small h r =
    let there : at + suc i ≡ suc at + i = omega arith in
    (h.0, left_more g kept keeps (suc at) olds i d news e (omega (arith, small)) h.1 (subst (λ n. IsLeftBy g kept (keep_at keeps n) (slice_index_or olds i d) e) there r))

pub first_dropped : {A : Type 0} (xs : List A) (i : ℕ) (d : A) → slice_index_or (drop i xs) 0 d ≡ slice_index_or xs i d
first_dropped xs zero d = refl
first_dropped [] (suc i) d = refl
first_dropped (x ∷ xs) (suc i) d = first_dropped xs i d

pub drop_more : {A : Type 0} (xs : List A) (i : ℕ) → drop 1 (drop i xs) ≡ drop (suc i) xs
drop_more xs zero = refl
drop_more [] (suc i) = refl
drop_more (x ∷ xs) (suc i) = drop_more xs i

pub each_long : {A B : Type 0} (R : A → B → Type 0) (xs : List A) (ys : List B) → Each2 R xs ys → length xs ≡ length ys
each_long R [] [] h = refl
each_long R (x ∷ xs) (y ∷ ys) h = ap suc (each_long R xs ys h.1)
each_long R [] (y ∷ ys) h = absurd h
each_long R (x ∷ xs) [] h = absurd h
