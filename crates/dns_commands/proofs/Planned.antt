-- The plan of the version that a zone's file holds.
use Rattle.std.proofs.Common.{◌≡◌, ℕ, true, false, inl, List, Option, Some, None, Result, Ok, Err, refl, sym, ap, subst, ◌∙◌, arith}
use Rattle.std.specs.Prelude.{Bool, length, nat_lt, if◌then◌else◌}
use Rattle.std.proofs.lemmas.Bool.Decides.{nat_tests}
use Rattle.dns_names.specs.Name.{Labels}
use Rattle.dns_records.specs.Record.{Record}
use Rattle.dns_zone.specs.Zone.{IsZone, Zone, zone_fault}
use Rattle.dns_zone.specs.declared.ZoneError.{ZoneError}
use Rattle.dns_zone.specs.declared.ZoneError.TheVariants.{TooMany}
use Rattle.dns_changes.specs.Applied.{change_leads}
use Rattle.dns_changes.specs.Change.{Change, IsChange}
use Rattle.dns_changes.specs.Version.{IsVersionAfter}
use Rattle.dns_store.specs.Versions.{Kept, newest_of}
use Rattle.dns_versions.specs.Held.{newer}
use Rattle.dns_versions.specs.Staging.{IsPlan, Plan, has_room}
use Rattle.dns_devices.specs.declared.device_faults.DeviceFault.{DeviceFault}
use Rattle.dns_devices.specs.declared.device_faults.DeviceFault.TheVariants.{Exists, Device, Blank, Damaged, OldFormat, Geometry, ZoneTooLarge, SerialNotRaised, NoRoom, OutOfMemory}
use Rattle.dns_commands.specs.Load.{IsChangeTo, IsLoadedInto, IsPlanTold, IsSerialRaised}
use Rattle.dns_commands.proofs.Changed.{zone_few}

within : (b : Bool) → b ≡ false → None ≡ (if b then Some TooMany else None)
within true e = absurd (cc e)
within false e = refl

-- The records of the file are a version after the one that is shown.
next_after : (shown zone : Zone) (change : Change) → IsZone shown → IsZone zone → zone.apex ≡ shown.apex → IsChangeTo shown.records zone.records (Ok (Some change)) → IsVersionAfter shown change zone.records
next_after shown zone change valid next apex there = record {
  leads = change_leads shown.records zone.records change valid.ordered next.ordered there.2;
  version = record {
    ordered = next.ordered;
    each = next.each;
    valid = ap (λ (a : Labels). zone_fault a zone.records) (sym apex) ∙ next.valid ∙ within (nat_lt 65536 (length zone.records)) (let few = zone_few zone.apex zone.records next.valid in grind (arith, nat_tests, few));
    serial = there.1;
  };
}

-- So they are for what is planned: the entry of the change, and the same records again.
pub plan_next : (shown zone : Zone) (tip : Option Zone) (change entry : Change) (records : List Record) → tip ≡ None → IsZone shown → IsZone zone → zone.apex ≡ shown.apex → IsChangeTo shown.records zone.records (Ok (Some change)) → entry ≡ change → records ≡ zone.records → IsVersionAfter (newer shown tip) entry records
plan_next shown zone tip change entry records none valid next apex there is same =
    subst (λ (t : Option Zone). IsVersionAfter (newer shown t) entry records) (sym none)
    (subst (λ (rs : List Record). IsVersionAfter shown entry rs) (sym same) (subst (λ (c : Change). IsVersionAfter shown c zone.records) (sym is) (next_after shown zone change valid next apex there)))

pub plan_change : (shown zone : Zone) (tip : Option Zone) (change entry : Change) (records : List Record) → tip ≡ None → IsChangeTo shown.records zone.records (Ok (Some change)) → entry ≡ change → records ≡ zone.records → IsChange (newer shown tip).records records entry
plan_change shown zone tip change entry records none there is same =
    subst (λ (t : Option Zone). IsChange (newer shown t).records records entry) (sym none)
    (subst (λ (rs : List Record). IsChange shown.records rs entry) (sym same) (subst (λ (c : Change). IsChange shown.records zone.records c) (sym is) there.2))

-- The plan is one to the records of the file.
pub plan_file : (shown : Zone) (tip : Option Zone) (records after : List Record) (p : Plan) → tip ≡ None → records ≡ after → IsPlan (newer shown tip) records p → IsPlan shown after p
plan_file shown tip records after p none same is =
    subst (λ (rs : List Record). IsPlan shown rs p) same (subst (λ (t : Option Zone). IsPlan (newer shown t) records p) none is)

-- A plan to the records is one to those of its own version.
pub plan_own : (shown : Zone) (records : List Record) (p : Plan) → IsPlan shown records p → (p.version.records ≡ records) × IsPlan shown p.version.records p
plan_own shown records p is =
    let same : p.version.records ≡ records = ap (λ (z : Zone). z.records) is.version in
    (same, subst (λ (rs : List Record). IsPlan shown rs p) (sym same) is)

-- There is no plan.
pub plan_refused : (P : Kept → Type 0) (first after keep : ℕ) (records : List Record) (k : Kept) (fault : DeviceFault) → (records ≡ newest_of k → ⊥) → IsSerialRaised (newest_of k) records → P k → IsPlanTold k records (Err fault) → IsLoadedInto P first after keep records k (Err fault)
plan_refused P first after keep records k OutOfMemory other raised kept why = inl kept
plan_refused P first after keep records k NoRoom other raised kept why = (other, raised, why, kept)
plan_refused P first after keep records k Device other raised kept why = absurd why
plan_refused P first after keep records k Exists other raised kept why = absurd why
plan_refused P first after keep records k Blank other raised kept why = absurd why
plan_refused P first after keep records k (Damaged sector) other raised kept why = absurd why
plan_refused P first after keep records k OldFormat other raised kept why = absurd why
plan_refused P first after keep records k Geometry other raised kept why = absurd why
plan_refused P first after keep records k ZoneTooLarge other raised kept why = absurd why
plan_refused P first after keep records k SerialNotRaised other raised kept why = absurd why
