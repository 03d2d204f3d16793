-- What is judged ends as the versions of its zone say, and its reply waits.
use Rattle.std.proofs.Common.{◌≡◌, ℕ, Bool, true, false, List, [], ◌∷◌, ◌++◌, map, refl, sym, ap, subst, ◌∙◌}
use Rattle.std.specs.Prelude.{Some, slice_get, slice_set, slice_index_or, IsTrue, ◌↔◌, if◌then◌else◌}
use Rattle.std.proofs.lemmas.List.{map-append}
use Rattle.dns_records.specs.Record.{Record}
use Rattle.dns_wire.specs.Message.{header_of}
use Rattle.dns_wire.specs.Codes.{number_of_rcode}
use Rattle.dns_wire.specs.declared.codes.Rcode.{Rcode}
use Rattle.dns_wire.specs.declared.codes.Rcode.TheVariants.{NoError, ServFail}
use Rattle.dns_request.specs.Codes.{rcode_servfail}
use Rattle.dns_zone.specs.Zone.{Zone}
use Rattle.dns_update.specs.Verdict.{Verdict, Refuses, Keeps, Leaves}
use Rattle.dns_policy.specs.Prefix.{IsAllowed}
use Rattle.dns_store.specs.Versions.{Kept, staged_with}
use Rattle.dns_versions.specs.declared.zone_versions.ZoneVersions.{ZoneVersions}
use Rattle.dns_versions.specs.Each.{Each3}
use Rattle.dns_versions.specs.Held.{HasVersions}
use Rattle.dns_versions.specs.Staging.{has_room}
use Rattle.dns_primary.specs.declared.event.Waiting.{Waiting}
use Rattle.dns_primary.specs.declared.primary.ZoneSpec.{ZoneSpec}
use Rattle.dns_primary.specs.declared.update.Outcome.{Outcome}
use Rattle.dns_primary.specs.declared.update.Outcome.TheVariants as outcome
use Rattle.dns_primary.specs.Machine.{Setting, Made, ZoneState, Machine, kept_of, updates_of, versions_of}
use Rattle.dns_primary.specs.Flush.{Sent}
use Rattle.dns_primary.specs.Update.{Asked, newest_serial, waits, stages, replies, with_staged, judged_in}
use Rattle.dns_primary.specs.Outcome.{Ends, end_of}
use Rattle.dns_primary.specs.Keeps.{IsSet, IsWaiting}
use Rattle.dns_primary.specs.Queue.{HoldsZones, IsOfNewest}
use Rattle.dns_primary.proofs.Zonewise.{number_is}
use Rattle.dns_primary.proofs.Places.{set_same, map_set, map_get, at3, mid_set, right_set, push2}

pub kept_staged : (made : Made) (z : ZoneState) → kept_of (with_staged made z) ≡ staged_with made.records (kept_of z)
kept_staged made z = λ i. record { shape = z.setting.shape; loaded = z.loaded; shown = versions_of z.shown; staged = map-append (λ (x : Made). x.records) z.staged (made ∷ []) i; base = z.base; second = z.second; openings = z.openings; altered = z.altered; closed = z.closed }

-- the reply waits, and the zone at the position has these versions
pub record Waited (m : Machine) (a : Asked) (index : ℕ) (z : ZoneState) (rcode : Rcode) (versions : Kept) (ended : Machine × List Sent) : Type 0 where
  pub zone : ZoneState
  pub ended_is : ended ≡ (waits (record m { zones = slice_set m.zones index zone }) a index (number_of_rcode rcode) (newest_serial zone) (updates_of zone), [])
  pub versions_are : kept_of zone ≡ versions
  pub setting_is : zone.setting ≡ z.setting

abbrev pub EndsAs : Machine → Asked → ℕ → ZoneState → Outcome → Kept → Machine × List Sent → Type 0
EndsAs m a index z (outcome.Waits rcode) versions ended = Waited m a index z rcode versions ended
EndsAs m a index z (outcome.AtOnce rcode) versions ended = (ended ≡ (m, replies a (number_of_rcode rcode) ∷ [])) × (versions ≡ kept_of z)
EndsAs m a index z outcome.OutOfMemory versions ended = Unit {0}

module _ (m : Machine) (a : Asked) (index : ℕ) (z : ZoneState) (there : slice_get m.zones index ≡ Some z) where
  unchanged : (rcode : Rcode) → Waited m a index z rcode (kept_of z) (waits m a index (number_of_rcode rcode) (newest_serial z) (updates_of z), [])
  unchanged rcode = record {
    zone = z;
    ended_is = ap (λ (zs : List ZoneState). (waits (record m { zones = zs }) a index (number_of_rcode rcode) (newest_serial z) (updates_of z), [])) (sym (set_same m.zones index z there));
    versions_are = refl;
    setting_is = refl;
  }

  staged : (records : List Record) → Waited m a index z NoError (staged_with records (kept_of z)) (stages m a index z records, [])
  staged records = record {
    zone = with_staged (record { update = a.message; records = records }) z;
    ended_is = refl;
    versions_are = kept_staged (record { update = a.message; records = records }) z;
    setting_is = refl;
  }

  abbrev end_by : Bool → List Record → Ends
  end_by b after =
      if b then record { outcome = outcome.Waits NoError; versions = staged_with after (kept_of z) }
      else record { outcome = outcome.Waits ServFail; versions = kept_of z }

  abbrev ended_by : Bool → List Record → Machine × List Sent
  ended_by b after =
      if b then (stages m a index z after, [])
      else (waits m a index rcode_servfail (newest_serial z) (updates_of z), [])

  accepted : (b : Bool) (after : List Record) → EndsAs m a index z (end_by b after).outcome (end_by b after).versions (ended_by b after)
  accepted true after = staged after
  accepted false after = unchanged ServFail

  pub ends_as : (v : Verdict) → EndsAs m a index z (end_of (kept_of z) v).outcome (end_of (kept_of z) v).versions (judged_in m a index z v)
  ends_as (Refuses rcode) = unchanged rcode
  ends_as Keeps = unchanged NoError
  ends_as (Leaves after) = accepted (has_room (kept_of z) after) after

  pub ends_waiting : (v : Verdict) (rcode : Rcode) → outcome.Waits rcode ≡ (end_of (kept_of z) v).outcome → Waited m a index z rcode (end_of (kept_of z) v).versions (judged_in m a index z v)
  ends_waiting v rcode e = subst (λ (o : Outcome). EndsAs m a index z o (end_of (kept_of z) v).versions (judged_in m a index z v)) (sym e) (ends_as v)

  pub ends_at_once : (v : Verdict) (rcode : Rcode) → outcome.AtOnce rcode ≡ (end_of (kept_of z) v).outcome
      → (judged_in m a index z v ≡ (m, replies a (number_of_rcode rcode) ∷ [])) × ((end_of (kept_of z) v).versions ≡ kept_of z)
  ends_at_once v rcode e = subst (λ (o : Outcome). EndsAs m a index z o (end_of (kept_of z) v).versions (judged_in m a index z v)) (sym e) (ends_as v)

module _ {I S : Type 0} (keeps : S → Kept → Type 0) (zones : List Zone) (pending : List (ZoneVersions I S)) (settings : List ZoneSpec) (waiting : List Waiting) (m : Machine) (index : ℕ) (z : ZoneState) where
  pub was_held : (d : Zone) (e : ZoneVersions I S) → HoldsZones keeps zones pending settings waiting m.connections m → slice_get m.zones index ≡ Some z
      → HasVersions keeps (slice_index_or zones index d) (slice_index_or pending index e) (kept_of z)
  was_held d e held there = at3 (λ (z : Zone) (b : ZoneVersions I S) (k : Kept). HasVersions keeps z b k) zones pending (map kept_of m.zones) index d e (kept_of z) held.zones_are (map_get kept_of m.zones index z there)

  -- the machine stays, and what is after the zone keeps the same versions
  pub still_holds : (d : Zone) (new : ZoneVersions I S) → HoldsZones keeps zones pending settings waiting m.connections m → slice_get m.zones index ≡ Some z
      → HasVersions keeps (slice_index_or zones index d) new (kept_of z) → HoldsZones keeps zones (slice_set pending index new) settings waiting m.connections m
  still_holds d new held there one = record {
    zones_are =
        subst (λ (ks : List Kept). Each3 (λ (z : Zone) (b : ZoneVersions I S) (k : Kept). HasVersions keeps z b k) zones (slice_set pending index new) ks) (set_same (map kept_of m.zones) index (kept_of z) (map_get kept_of m.zones index z there))
        (mid_set (λ (z : Zone) (b : ZoneVersions I S) (k : Kept). HasVersions keeps z b k) zones pending (map kept_of m.zones) index d new (kept_of z) held.zones_are one);
    settings_are = held.settings_are;
    waiting_are = held.waiting_are;
    connections_are = held.connections_are;
  }

  -- one reply more waits, and the zone has other versions
  pub holds_more : (d : Zone) (new : ZoneVersions I S) (a : Asked) (rcode : Rcode) (versions : Kept) (ended : Machine × List Sent) (one : Waiting) → HoldsZones keeps zones pending settings waiting m.connections m → slice_get m.zones index ≡ Some z
      → Waited m a index z rcode versions ended → HasVersions keeps (slice_index_or zones index d) new versions
      → one.to ≡ a.to → one.address ≡ a.address → header_of one.request ≡ a.message.header → one.rcode ≡ rcode → one.zone ≡ index → IsOfNewest versions one
      → (ended.1 ≡ []) × HoldsZones keeps zones (slice_set pending index new) settings (waiting ++ one ∷ []) m.connections ended.0
  holds_more d new a rcode versions ended one held there w is to_is address_is header_is rcode_is zone_is newest =
      let after : Machine = waits (record m { zones = slice_set m.zones index w.zone }) a index (number_of_rcode rcode) (newest_serial w.zone) (updates_of w.zone) in
      let of_zone : IsOfNewest (kept_of w.zone) one = subst (λ (k : Kept). IsOfNewest k one) (sym w.versions_are) newest in
      let behind_is : HasVersions keeps (slice_index_or zones index d) new (kept_of w.zone) = subst (λ (k : Kept). HasVersions keeps (slice_index_or zones index d) new k) (sym w.versions_are) is in
      let holds : HoldsZones keeps zones (slice_set pending index new) settings (waiting ++ one ∷ []) m.connections after = record {
        zones_are =
            subst (λ (ks : List Kept). Each3 (λ (z : Zone) (b : ZoneVersions I S) (k : Kept). HasVersions keeps z b k) zones (slice_set pending index new) ks) (sym (map_set kept_of m.zones index w.zone))
            (mid_set (λ (z : Zone) (b : ZoneVersions I S) (k : Kept). HasVersions keeps z b k) zones pending (map kept_of m.zones) index d new (kept_of w.zone) held.zones_are behind_is);
        settings_are = right_set IsSet settings m.zones index z w.zone held.settings_are there
            (λ s set. record { keep = set.keep ∙ ap (λ (t : Setting). t.keep) (sym w.setting_is); update = λ x. subst (λ (t : Setting). IsTrue (t.may_update x) ↔ IsAllowed s.update.items x) (sym w.setting_is) (set.update x); transfer = λ x. subst (λ (t : Setting). IsTrue (t.may_transfer x) ↔ IsAllowed s.transfer.items x) (sym w.setting_is) (set.transfer x) });
        waiting_are = push2 IsWaiting waiting m.waiting one (record { to = a.to; address = a.address; header = a.message.header; rcode = number_of_rcode rcode; zone = index; serial = newest_serial w.zone; updates = updates_of w.zone }) held.waiting_are
            (record { to = to_is; address = address_is; header = header_is; rcode = ap number_of_rcode rcode_is; zone = zone_is; version = of_zone.version ∙ number_is w.zone; serial = of_zone.serial });
        connections_are = held.connections_are;
      } in
      (ap (λ (p : Machine × List Sent). p.1) w.ended_is, subst (λ (p : Machine × List Sent). HoldsZones keeps zones (slice_set pending index new) settings (waiting ++ one ∷ []) m.connections p.0) (sym w.ended_is) holds)

-- a zone is closed or not
pub by_state : {R : Type 0} (z : ZoneState) → (z.closed ≡ true → R) → (z.closed ≡ false → R) → R
by_state {R} z shut opened = by z.closed refl
  where
    by : (b : Bool) → z.closed ≡ b → R
    by true e = shut e
    by false e = opened e
