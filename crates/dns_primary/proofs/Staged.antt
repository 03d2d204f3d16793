-- What staging an update of a zone leaves, and what becomes of its reply.
use Rattle.std.proofs.Common.{◌≡◌, ℕ, List, [], ◌∷◌, ◌++◌, length, refl, sym, ap, subst, ◌∙◌}
use Rattle.std.specs.Prelude.{Some, slice_get, slice_set, slice_index_or}
use Rattle.slab.specs.Slab.{get, slab_len}
use Rattle.dns_wire.specs.Message.{header_of}
use Rattle.dns_wire.specs.declared.codes.Rcode.{Rcode}
use Rattle.dns_wire.specs.declared.codes.Rcode.TheVariants.{ServFail}
use Rattle.dns_request.specs.Codes.{rcode_servfail}
use Rattle.dns_zone.specs.Zone.{Zone}
use Rattle.dns_zone.specs.declared.index.ZoneIndex as zone_index
use Rattle.dns_store.specs.declared.zone_store.ZoneStore as store
use Rattle.dns_store.specs.Versions.{Kept}
use Rattle.dns_journal.specs.declared.journal.StageError.{StageError}
use Rattle.dns_journal.specs.declared.journal.StageError.TheVariants as refusal
use Rattle.dns_versions.specs.declared.zone_versions.ZoneVersions.{ZoneVersions}
use Rattle.dns_versions.specs.Held.{HasVersions}
use Rattle.dns_primary.specs.declared.event.Waiting.{Waiting}
use Rattle.dns_primary.specs.declared.primary.Primary.{Primary}
use Rattle.dns_primary.specs.declared.primary.ZoneSpec.{ZoneSpec}
use Rattle.dns_primary.specs.declared.update.Outcome.TheVariants as outcome
use Rattle.dns_primary.specs.Machine.{Machine, ZoneState, kept_of, peer_at, sending_at}
use Rattle.dns_primary.specs.Flush.{Sent}
use Rattle.dns_primary.specs.Update.{Admission, Admits, Asked, Rejects, admission, admitted, answer, judged_in}
use Rattle.dns_primary.specs.Outcome.{IsDone, end_of, refused_as}
use Rattle.dns_primary.specs.Keeps.{IsKept, sending_on}
use Rattle.dns_primary.specs.Queue.{HoldsZones, IsAnswered, IsOfNewest, verdict_on}
use Rattle.dns_primary.proofs.Queued.{ends_at_once, ends_waiting, holds_more, still_holds}

-- a primary that has the zones of a machine, and the connections and transfers of one that kept as many, keeps it
module _ {I S : Type 0} {i : zone_index.Ghosts I} {s : store.Ghosts S} (p new : Primary I S i s) (m : Machine) (kept : IsKept p m) where
  pub kept_on : (n : Machine) → HoldsZones s.keeps new.zones.items new.pending.items new.settings.items new.waiting.items m.connections n
      → new.connections ≡ p.connections → new.transfers ≡ p.transfers → IsKept new n
  kept_on n h same transfers = record {
    zones_are = h.zones_are;
    settings_are = h.settings_are;
    waiting_are = h.waiting_are;
    connections_are = λ number. ap (λ x. get x number) same ∙ kept.connections_are number ∙ ap (peer_at number) (sym h.connections_are);
    transfers_are = λ number. ap (λ x. sending_on number x.items) transfers ∙ kept.transfers_are number ∙ ap (sending_at number) (sym h.connections_are);
    as_many = ap (λ x. slab_len x) same ∙ kept.as_many ∙ ap (λ cs. length cs) (sym h.connections_are);
  }

module _ {I S : Type 0} (keeps : S → Kept → Type 0) (zones : List Zone) (pending : List (ZoneVersions I S)) (settings : List ZoneSpec) (waiting : List Waiting)
    (m : Machine) (index : ℕ) (z : ZoneState) (a : Asked) (held : HoldsZones keeps zones pending settings waiting m.connections m)
    (there : slice_get m.zones index ≡ Some z) (d : Zone) (new : ZoneVersions I S) where
  abbrev Holds : Machine → Type 0
  Holds n = HoldsZones keeps zones (slice_set pending index new) settings waiting m.connections n

  abbrev Has : Kept → Type 0
  Has k = HasVersions keeps (slice_index_or zones index d) new k

  -- its zone is closed, and the update is refused at once
  pub answered_closed : admission m.zones a ≡ Rejects rcode_servfail → Has (kept_of z) → IsAnswered Holds m a (answer m a) (outcome.AtOnce ServFail)
  answered_closed rejects has =
      subst (λ (x : Admission). IsAnswered Holds m a (admitted m a x) (outcome.AtOnce ServFail)) (sym rejects)
      (refl, still_holds keeps zones pending settings waiting m index z d new held there has)

  answered_at_once : admission m.zones a ≡ Admits index z → IsDone Has (kept_of z) (verdict_on a z) (outcome.AtOnce ServFail) → IsAnswered Holds m a (answer m a) (outcome.AtOnce ServFail)
  answered_at_once admits done =
      let ends = ends_at_once m a index z there (verdict_on a z) ServFail done.0 in
      let after = still_holds keeps zones pending settings waiting m index z d new held there (subst Has ends.1 done.1) in
      subst (λ (x : Admission). IsAnswered Holds m a (admitted m a x) (outcome.AtOnce ServFail)) (sym admits)
      (ap (λ (e : Machine × List Sent). e.1) ends.0, subst (λ (e : Machine × List Sent). Holds e.0) (sym ends.0) after)

  -- it could not be staged
  pub answered_unstaged : (error : StageError) → admission m.zones a ≡ Admits index z → IsDone Has (kept_of z) (verdict_on a z) (refused_as error)
      → IsAnswered Holds m a (answer m a) (refused_as error)
  answered_unstaged refusal.Full admits done = answered_at_once admits done
  answered_unstaged refusal.Closed admits done = answered_at_once admits done
  answered_unstaged refusal.OutOfMemory admits done = still_holds keeps zones pending settings waiting m index z d new held there done

  -- its reply waits
  pub answered_waiting : (rcode : Rcode) (one : Waiting) → admission m.zones a ≡ Admits index z → IsDone Has (kept_of z) (verdict_on a z) (outcome.Waits rcode)
      → one.to ≡ a.to → one.address ≡ a.address → header_of one.request ≡ a.message.header → one.rcode ≡ rcode → one.zone ≡ index → IsOfNewest (end_of (kept_of z) (verdict_on a z)).versions one
      → IsAnswered (HoldsZones keeps zones (slice_set pending index new) settings (waiting ++ one ∷ []) m.connections) m a (answer m a) (outcome.Waits rcode)
  answered_waiting rcode one admits done to address header code zone newest =
      subst (λ (x : Admission). IsAnswered (HoldsZones keeps zones (slice_set pending index new) settings (waiting ++ one ∷ []) m.connections) m a (admitted m a x) (outcome.Waits rcode)) (sym admits)
      (holds_more keeps zones pending settings waiting m index z d new a rcode (end_of (kept_of z) (verdict_on a z)).versions (judged_in m a index z (verdict_on a z)) one held there
      (ends_waiting m a index z there (verdict_on a z) rcode done.0) done.1 to address header code zone newest)

-- what could not be staged leaves a primary that keeps the machine
pub kept_unstaged : {I S : Type 0} {i : zone_index.Ghosts I} {s : store.Ghosts S} (p new : Primary I S i s) (m : Machine) (a : Asked) (ended : Machine × List Sent) (error : StageError) → IsKept p m
    → new.connections ≡ p.connections → new.transfers ≡ p.transfers
    → IsAnswered (HoldsZones s.keeps new.zones.items new.pending.items new.settings.items new.waiting.items m.connections) m a ended (refused_as error)
    → IsAnswered (IsKept new) m a ended (refused_as error)
kept_unstaged p new m a ended refusal.Full kept same transfers h = (h.0, kept_on p new m kept ended.0 h.1 same transfers)
kept_unstaged p new m a ended refusal.Closed kept same transfers h = (h.0, kept_on p new m kept ended.0 h.1 same transfers)
kept_unstaged p new m a ended refusal.OutOfMemory kept same transfers h = kept_on p new m kept m h same transfers
