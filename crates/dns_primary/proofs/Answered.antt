-- An update that is answered after what came first, over a primary.
use Rattle.std.proofs.Common.{◌≡◌, inl, inr, ℕ, Bool, List, Option}
use Rattle.dns_zone.specs.declared.index.ZoneIndex as zone_index
use Rattle.dns_store.specs.declared.zone_store.ZoneStore as store
use Rattle.dns_versions.specs.declared.zone_versions.ZoneVersions.{ZoneVersions}
use Rattle.dns_versions.specs.Each.{Each2}
use Rattle.dns_versions.specs.Flush.{FailedWhere}
use Rattle.dns_primary.specs.declared.event.Noted.TheVariants.{OutOfMemory}
use Rattle.dns_primary.specs.declared.primary.Primary.{Primary}
use Rattle.dns_primary.specs.Machine.{ZoneState, Machine}
use Rattle.dns_primary.specs.Step as machine
use Rattle.dns_primary.specs.Step.{IsUpdateBegun}
use Rattle.dns_primary.specs.Queue.{IsUntouched}
use Rattle.dns_primary.specs.Steps.{AtAnyMomentOf, IsBegunOrLacks, OpensAsEvent, StayHonest, with_rooms}
use Rattle.dns_primary.proofs.Served.{failed_still, still_honest, still_leaves}

-- no device is touched after it
module _ {I S : Type 0} {i : zone_index.Ghosts I} {s : store.Ghosts S} (m : Machine) (old mid new : Primary I S i s)
    (still : Each2 (λ (a b : ZoneVersions I S). IsUntouched s.moment s.left_since s.failed s.is_honest a.store b.store) mid.pending.items new.pending.items)
  where
    pub failed_then : (fails : List Bool) → FailedWhere (λ b. s.failed b.store) fails old.pending.items mid.pending.items → FailedWhere (λ b. s.failed b.store) fails old.pending.items new.pending.items
    failed_then fails h = failed_still (λ (b : ZoneVersions I S). b.store) s.failed s.moment s.left_since s.is_honest fails old.pending.items mid.pending.items new.pending.items h still

    pub moments_then : (moved : Option (ℕ × ℕ)) → AtAnyMomentOf s moved m old.pending.items mid.pending.items → AtAnyMomentOf s moved m old.pending.items new.pending.items
    moments_then moved each =
        still_leaves (λ (b : ZoneVersions I S). b.store) s.failed s.moment s.left_since s.is_honest (λ (k : Option ℕ × ZoneState) c. OpensAsEvent s.opens k.0 k.1 c) old.pending.items mid.pending.items new.pending.items (with_rooms moved m.zones) each still

    pub honest_then : StayHonest s old.pending.items mid.pending.items → StayHonest s old.pending.items new.pending.items
    honest_then each = still_honest (λ (b : ZoneVersions I S). b.store) s.failed s.moment s.left_since s.is_honest old.pending.items mid.pending.items new.pending.items each still

-- the one or the other, by what is noted
pub begun_with_memory : (old mid : Machine) (lacked : Option (ℕ × ℕ)) (fails : List Bool) (stated : machine.Effects) → (stated.noted ≡ OutOfMemory → ⊥) → IsBegunOrLacks old lacked fails stated mid → IsUpdateBegun fails old lacked stated mid
begun_with_memory old mid lacked fails stated some (inl h) = h
begun_with_memory old mid lacked fails stated some (inr (is, l)) = absurd (some l.noted)
