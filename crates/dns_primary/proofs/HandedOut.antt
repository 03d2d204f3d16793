-- Devices that are handed out by a machine, between two events or within one.
use Rattle.std.proofs.Common.{◌≡◌, ◌≤◌, ◌+◌, ℕ, zero, suc, Option, Some, None, List, [], ◌∷◌, map, refl, subst, arith}
use Rattle.std.specs.Prelude.{◌↔◌}
use Rattle.dns_names.specs.Name.{Labels}
use Rattle.dns_zone.specs.Zone.{Zone}
use Rattle.dns_sectors.specs.Device.{Content, LeavesOnly}
use Rattle.dns_sectors.specs.declared.device.Sectors.{Ghosts}
use Rattle.dns_journal.specs.State.{device_of}
use Rattle.dns_store.specs.Opens.{opens}
use Rattle.dns_store.specs.Opening.{keeps}
use Rattle.dns_store.specs.Laws.{at_rest_of}
use Rattle.dns_store.specs.declared.kept_store.KeptStore.{KeptStore}
use Rattle.dns_versions.specs.declared.zone_versions.ZoneVersions.{ZoneVersions}
use Rattle.dns_versions.specs.Each.{Each2, Each3}
use Rattle.dns_versions.specs.Held.{HasVersions}
use Rattle.dns_primary.specs.declared.primary.ZoneSpec.{ZoneSpec}
use Rattle.dns_primary.specs.Machine.{ZoneState, Machine, kept_of}
use Rattle.dns_primary.specs.Step.{Event}
use Rattle.dns_primary.specs.Steps.{OpensAsEvent, with_room, with_rooms, without_room}
use Rattle.dns_primary.specs.Stop.{Checkpoints, IsMaking, OpensAsRecovered}
use Rattle.dns_primary.specs.Keeps.{HaveVersions}
use Rattle.dns_primary.specs.Open.{device_of_pending, IsRecoverable, AreRecoverable}
use Rattle.dns_primary.specs.HandOut.{IsSetAs, AreSetAs}
use Rattle.dns_primary.proofs.Recovering.{left_recovered, checkpoint_recovered}

module _ {D I : Type 0} {g : Ghosts D} (m : Machine) (event : Event)
    (counts_now : (device : D) (t : ℕ) (c : Content) → g.is_honest device → t ≤ g.moment device → g.may_leave device c → g.left_since device t c)
    (only_now : (device : D) (c : Content) → g.is_honest device → g.left_since device (g.moment device) c → g.may_leave device c)
  where
    -- between two events
    rests_recoverable : (making : ℕ → Type 0) (a : Labels) (s : ZoneSpec) (z : ZoneState) (zone : Zone) (b : ZoneVersions I (KeptStore D I g)) → IsSetAs a s z → HasVersions (λ (x : KeptStore D I g) k. keeps x k) zone b (kept_of z) → IsRecoverable g 0 making z a s (device_of_pending b)
    rests_recoverable making a s z zone b so h =
        let k = kept_of z in
        let journal = b.store.journal in
        record {
          shape = so.shape;
          set = so.set;
          range = so.range;
          leaves = λ honest c left. left_recovered making z c (at_rest_of only_now journal k k.closed (h.kept.keeps honest) c (counts_now (device_of journal) (g.moment (device_of journal)) c honest (omega arith) left));
        }

    pub rest_recoverable : (index : ℕ) (zones : List Zone) (pending : List (ZoneVersions I (KeptStore D I g))) (states : List ZoneState) (apexes : List Labels) (settings : List ZoneSpec)
        → HaveVersions (λ (x : KeptStore D I g) k. keeps x k) zones pending states → AreSetAs apexes settings states → AreRecoverable g 0 m event index states apexes settings (map (λ b. device_of_pending b) pending)
    rest_recoverable index [] [] [] [] [] held so = tt
    rest_recoverable index (y ∷ zones) (b ∷ pending) (z ∷ states) (a ∷ apexes) (s ∷ settings) held so =
        (rests_recoverable (IsMaking m event index z) a s z y b so.0 held.0, rest_recoverable (suc index) zones pending states apexes settings held.1 so.1)
    rest_recoverable index zones pending [] (a ∷ apexes) [] held so = absurd so
    rest_recoverable index zones pending [] (a ∷ apexes) (s ∷ settings) held so = absurd so
    rest_recoverable index zones pending [] [] (s ∷ settings) held so = absurd so
    rest_recoverable index zones pending (z ∷ states) [] [] held so = absurd so
    rest_recoverable index zones pending (z ∷ states) [] (s ∷ settings) held so = absurd so
    rest_recoverable index zones pending (z ∷ states) (a ∷ apexes) [] held so = absurd so
    rest_recoverable index _ _ _ apexes settings held so = absurd held

    -- within an event
    abbrev pub LeavesZone : ZoneVersions I (KeptStore D I g) → ZoneVersions I (KeptStore D I g) → Option ℕ × ZoneState → Type 0
    LeavesZone a b k = g.is_honest (device_of_pending a) → LeavesOnly (λ (x : KeptStore D I g). g.moment (device_of x.journal)) (λ (x : KeptStore D I g). g.left_since (device_of x.journal)) a.store b.store (OpensAsEvent opens k.0 k.1)

    abbrev pub IsAsHonest : ZoneVersions I (KeptStore D I g) → ZoneVersions I (KeptStore D I g) → Type 0
    IsAsHonest a b = g.is_honest (device_of_pending b) ↔ g.is_honest (device_of_pending a)

    left_now : (making : ℕ → Type 0) (a : Labels) (s : ZoneSpec) (z : ZoneState) (old new : ZoneVersions I (KeptStore D I g)) (room : Option ℕ) → IsSetAs a s z → IsAsHonest old new → LeavesZone old new (room, z)
        → ((c : Content) → OpensAsEvent opens room z c → OpensAsRecovered opens 0 making z c) → IsRecoverable g 0 making z a s (device_of_pending new)
    left_now making a s z old new room so same leaves recovers = record {
      shape = so.shape;
      set = so.set;
      range = so.range;
      leaves = λ honest c left.
          (let run = leaves (same.0 honest) in
          recovers c (run.each c (counts_now (device_of_pending new) (g.moment (device_of_pending old)) c honest run.later left)));
    }

    none_moved : (index : ℕ) (olds news : List (ZoneVersions I (KeptStore D I g))) (states : List ZoneState) (apexes : List Labels) (settings : List ZoneSpec)
        → AreSetAs apexes settings states → Each2 IsAsHonest olds news → Each3 LeavesZone olds news (map without_room states) → AreRecoverable g 0 m event index states apexes settings (map (λ b. device_of_pending b) news)
    none_moved index [] [] [] [] [] so same leaves = tt
    none_moved index (o ∷ olds) (n ∷ news) (z ∷ states) (a ∷ apexes) (s ∷ settings) so same leaves =
        (left_now (IsMaking m event index z) a s z o n None so.0 same.0 leaves.0 (λ c is. left_recovered (IsMaking m event index z) z c is), none_moved (suc index) olds news states apexes settings so.1 same.1 leaves.1)
    none_moved index olds news [] (a ∷ apexes) [] so same leaves = absurd so
    none_moved index olds news [] (a ∷ apexes) (s ∷ settings) so same leaves = absurd so
    none_moved index olds news [] [] (s ∷ settings) so same leaves = absurd so
    none_moved index olds news (z ∷ states) [] [] so same leaves = absurd so
    none_moved index olds news (z ∷ states) [] (s ∷ settings) so same leaves = absurd so
    none_moved index olds news (z ∷ states) (a ∷ apexes) [] so same leaves = absurd so
    none_moved index _ _ _ apexes settings so same leaves = absurd leaves

    one_moved : (index pending room : ℕ) (olds news : List (ZoneVersions I (KeptStore D I g))) (states : List ZoneState) (apexes : List Labels) (settings : List ZoneSpec)
        → Checkpoints m event (index + pending) room
        → AreSetAs apexes settings states → Each2 IsAsHonest olds news → Each3 LeavesZone olds news (with_room pending room states) → AreRecoverable g 0 m event index states apexes settings (map (λ b. device_of_pending b) news)
    one_moved index zero room [] [] [] [] [] makes so same leaves = tt
    one_moved index (suc pending) room [] [] [] [] [] makes so same leaves = tt
    one_moved index zero room (o ∷ olds) (n ∷ news) (z ∷ states) (a ∷ apexes) (s ∷ settings) makes so same leaves =
        let here : Checkpoints m event index room = subst (λ (p : ℕ). Checkpoints m event p room) (let e : index + 0 ≡ index = omega arith in e) makes in
        (left_now (IsMaking m event index z) a s z o n (Some room) so.0 same.0 leaves.0 (λ c is. checkpoint_recovered m event index room z c here is), none_moved (suc index) olds news states apexes settings so.1 same.1 leaves.1)
    one_moved index (suc pending) room (o ∷ olds) (n ∷ news) (z ∷ states) (a ∷ apexes) (s ∷ settings) makes so same leaves =
        let later : Checkpoints m event (suc index + pending) room = subst (λ (p : ℕ). Checkpoints m event p room) (let e : index + suc pending ≡ suc index + pending = omega arith in e) makes in
        (left_now (IsMaking m event index z) a s z o n None so.0 same.0 leaves.0 (λ c is. left_recovered (IsMaking m event index z) z c is), one_moved (suc index) pending room olds news states apexes settings later so.1 same.1 leaves.1)
    one_moved index pending room olds news [] (a ∷ apexes) [] makes so same leaves = absurd so
    one_moved index pending room olds news [] (a ∷ apexes) (s ∷ settings) makes so same leaves = absurd so
    one_moved index pending room olds news [] [] (s ∷ settings) makes so same leaves = absurd so
    one_moved index pending room olds news (z ∷ states) [] [] makes so same leaves = absurd so
    one_moved index pending room olds news (z ∷ states) [] (s ∷ settings) makes so same leaves = absurd so
    one_moved index pending room olds news (z ∷ states) (a ∷ apexes) [] makes so same leaves = absurd so
    one_moved index zero room _ _ _ apexes settings makes so same leaves = absurd leaves
    one_moved index (suc pending) room _ _ _ apexes settings makes so same leaves = absurd leaves

    pub event_recoverable : (moved : Option (ℕ × ℕ)) (olds news : List (ZoneVersions I (KeptStore D I g))) (states : List ZoneState) (apexes : List Labels) (settings : List ZoneSpec)
        → ((p r : ℕ) → moved ≡ Some (p, r) → Checkpoints m event p r)
        → AreSetAs apexes settings states → Each2 IsAsHonest olds news → Each3 LeavesZone olds news (with_rooms moved states) → AreRecoverable g 0 m event 0 states apexes settings (map (λ b. device_of_pending b) news)
    event_recoverable None olds news states apexes settings makes so same leaves = none_moved 0 olds news states apexes settings so same leaves
    event_recoverable (Some (p, r)) olds news states apexes settings makes so same leaves =
        one_moved 0 p r olds news states apexes settings (subst (λ (i : ℕ). Checkpoints m event i r) (let e : p ≡ 0 + p = omega arith in e) (makes p r refl)) so same leaves
