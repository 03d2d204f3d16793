use Rattle.std.proofs.Common.{List, [], length, inr, refl, sym, ap, subst, arith}
use Rattle.std.specs.Prelude.{Option, None, slice_index_or, count_by, is_some}
use Rattle.dns_store.specs.declared.root.OpenError.TheVariants.{OutOfMemory}
use Rattle.dns_versions.specs.Each.{Each2}
use Rattle.dns_primary.specs.declared.event.Peer.{Peer}
use Rattle.dns_primary.specs.declared.event.Waiting.{Waiting}
use Rattle.dns_primary.specs.declared.primary.ZoneSpec.{ZoneSpec}
use Rattle.dns_primary.specs.Machine.{Machine}
use Rattle.dns_primary.specs.Keeps.{IsSet, IsWaiting, sending_on}
use Rattle.dns_primary.specs.Open.{AreOpened, AreRefused, AnySettings}
use Rattle.dns_primary.proofs.Opened.{opened_honest, opened_many, refused_honest, same_honest, all_held_anyway, all_left, all_reopened, each_reopened, all_set_again, set_up_anew, refused_held}
use Rattle.dns_primary.proofs.open.Primary+I+KeptStore+D+I.open.Goals as goal

pub invariant_of-result-clause-as_many : goal.invariant_of-result-clause-as_many
invariant_of-result-clause-as_many g c =
    let many = opened_many (length c.deref.result.now) c.args.apexes.now c.deref.result.now c.args.devices.items c.in-Ok-open_all.all.zones.items c.in-Ok-open_all.all.pending.items c.in-Ok-open_all.ensures in
    omega (arith, many.0, many.1)

pub invariant_of-result-clause-settled : goal.invariant_of-result-clause-settled
invariant_of-result-clause-settled g c =
    let many = opened_many (length c.deref.result.now) c.args.apexes.now c.deref.result.now c.args.devices.items c.in-Ok-open_all.all.zones.items c.in-Ok-open_all.all.pending.items c.in-Ok-open_all.ensures in
    omega (arith, many.0, ap (λ (l : List ZoneSpec). length l) c.deref.ensures.value)

pub returns-in-Ok-open_all-clause-recovered : goal.returns-in-Ok-open_all-clause-recovered
returns-in-Ok-open_all-clause-recovered g c m event tries is =
    let opened = subst (λ (l : List ZoneSpec). AreOpened (length l) c.args.apexes.now l c.args.devices.items c.in-Ok-open_all.all.zones.items c.in-Ok-open_all.all.pending.items) c.deref.ensures.value c.in-Ok-open_all.ensures in
    let each = each_reopened m event tries 0 m.zones c.args.apexes.now c.args.settings.items c.args.devices.items c.in-Ok-open_all.all.zones.items c.in-Ok-open_all.all.pending.items IsSet is opened in (
      each,
      λ honest.
          (let all = all_reopened m event tries 0 m.zones c.args.devices.items c.in-Ok-open_all.all.zones.items c.in-Ok-open_all.all.pending.items each honest in
          let new : Machine = record { zones = all.states; waiting = []; connections = [] } in (
            new,
            record { zones = all.recovered; waiting = refl; connections = refl },
            record {
              zones_are = all.held;
              settings_are = all_set_again g.D.Sectors m event tries 0 m.zones c.args.apexes.now c.args.settings.items c.args.devices.items all.states is all.recovered;
              waiting_are = subst (λ (l : List Waiting). Each2 IsWaiting l []) (sym c.new.ensures) tt;
              connections_are = λ number. ap (λ (l : List (Option Peer)). slice_index_or l number None) c.in-Ok.ensures.none;
              transfers_are = λ number. ap (sending_on number) c.new-in-Ok-open_all-2.ensures.items;
              as_many = ap (λ (l : List (Option Peer)). count_by is_some l) c.in-Ok.ensures.none;
            },
          )),
    )

pub returns-in-Ok-open_all-clause-configured : goal.returns-in-Ok-open_all-clause-configured
returns-in-Ok-open_all-clause-configured g c m event tries is =
    let opened = subst (λ (l : List ZoneSpec). AreOpened (length l) c.args.apexes.now l c.args.devices.items c.in-Ok-open_all.all.zones.items c.in-Ok-open_all.all.pending.items) c.deref.ensures.value c.in-Ok-open_all.ensures in
    let each = each_reopened m event tries 0 m.zones c.args.apexes.now c.args.settings.items c.args.devices.items c.in-Ok-open_all.all.zones.items c.in-Ok-open_all.all.pending.items AnySettings is opened in (
      each,
      λ honest.
          (let all = all_reopened m event tries 0 m.zones c.args.devices.items c.in-Ok-open_all.all.zones.items c.in-Ok-open_all.all.pending.items each honest in
          let set = set_up_anew m event tries 0 m.zones c.args.apexes.now c.args.settings.items c.args.devices.items c.in-Ok-open_all.all.zones.items c.in-Ok-open_all.all.pending.items AnySettings is all in
          let old : Machine = record { zones = all.states; waiting = []; connections = [] } in
          let new : Machine = record { zones = set.news; waiting = []; connections = [] } in (
            old,
            new,
            record { zones = all.recovered; waiting = refl; connections = refl },
            record { zones = set.anew; waiting = refl; connections = refl; rest = refl },
            record {
              zones_are = set.held;
              settings_are = set.set;
              waiting_are = subst (λ (l : List Waiting). Each2 IsWaiting l []) (sym c.new.ensures) tt;
              connections_are = λ number. ap (λ (l : List (Option Peer)). slice_index_or l number None) c.in-Ok.ensures.none;
              transfers_are = λ number. ap (sending_on number) c.new-in-Ok-open_all-2.ensures.items;
              as_many = ap (λ (l : List (Option Peer)). count_by is_some l) c.in-Ok.ensures.none;
            },
          )),
    )

pub returns-in-Ok-open_all-clause-anyway : goal.returns-in-Ok-open_all-clause-anyway
returns-in-Ok-open_all-clause-anyway g c m event tries is known =
    let opened = subst (λ (l : List ZoneSpec). AreOpened (length l) c.args.apexes.now l c.args.devices.items c.in-Ok-open_all.all.zones.items c.in-Ok-open_all.all.pending.items) c.deref.ensures.value c.in-Ok-open_all.ensures in
    let all = all_held_anyway m event tries 0 m.zones c.args.apexes.now c.args.settings.items c.args.devices.items c.in-Ok-open_all.all.zones.items c.in-Ok-open_all.all.pending.items is opened known in
    let new : Machine = record { zones = all.states; waiting = []; connections = [] } in (
      new,
      all.recovered,
      refl,
      refl,
      record {
        zones_are = all.held;
        settings_are = all.set;
        waiting_are = subst (λ (l : List Waiting). Each2 IsWaiting l []) (sym c.new.ensures) tt;
        connections_are = λ number. ap (λ (l : List (Option Peer)). slice_index_or l number None) c.in-Ok.ensures.none;
        transfers_are = λ number. ap (sending_on number) c.new-in-Ok-open_all-2.ensures.items;
        as_many = ap (λ (l : List (Option Peer)). count_by is_some l) c.in-Ok.ensures.none;
      },
    )

pub returns-in-Ok-open_all-clause-any_moment : goal.returns-in-Ok-open_all-clause-any_moment
returns-in-Ok-open_all-clause-any_moment g c m event tries is =
    let opened = subst (λ (l : List ZoneSpec). AreOpened (length l) c.args.apexes.now l c.args.devices.items c.in-Ok-open_all.all.zones.items c.in-Ok-open_all.all.pending.items) c.deref.ensures.value c.in-Ok-open_all.ensures in
    all_left m event tries 0 m.zones c.args.apexes.now c.args.settings.items c.args.devices.items c.in-Ok-open_all.all.zones.items c.in-Ok-open_all.all.pending.items AnySettings is opened

pub returns-in-Err-clause-recovered : goal.returns-in-Err-clause-recovered
returns-in-Err-clause-recovered g c m event tries is =
    let s = g.D.Sectors in
    let back = c.open_all.new.devices.items in
    let refused = subst (λ (l : List ZoneSpec). AreRefused s c.in-Err.refusal.error c.in-Err.refusal.index c.args.apexes.now l c.args.devices.items back) c.deref.ensures.value c.in-Err.ensures in
    let held = refused_held IsSet s m event tries g.met.D.Sectors.counts_now g.met.D.Sectors.only_now c.in-Err.refusal.error c.in-Err.refusal.index m.zones c.args.apexes.now c.args.settings.items c.args.devices.items back is refused in
    (held.recoverable, held.stopped)

pub returns-in-Err-clause-configured : goal.returns-in-Err-clause-configured
returns-in-Err-clause-configured g c m event tries is =
    let s = g.D.Sectors in
    let back = c.open_all.new.devices.items in
    let refused = subst (λ (l : List ZoneSpec). AreRefused s c.in-Err.refusal.error c.in-Err.refusal.index c.args.apexes.now l c.args.devices.items back) c.deref.ensures.value c.in-Err.ensures in
    let held = refused_held AnySettings s m event tries g.met.D.Sectors.counts_now g.met.D.Sectors.only_now c.in-Err.refusal.error c.in-Err.refusal.index m.zones c.args.apexes.now c.args.settings.items c.args.devices.items back is refused in
    (held.recoverable, held.stopped)

pub returns-in-Err-clause-any_moment : goal.returns-in-Err-clause-any_moment
returns-in-Err-clause-any_moment g c m event tries is =
    let s = g.D.Sectors in
    let back = c.open_all.new.devices.items in
    let refused = subst (λ (l : List ZoneSpec). AreRefused s c.in-Err.refusal.error c.in-Err.refusal.index c.args.apexes.now l c.args.devices.items back) c.deref.ensures.value c.in-Err.ensures in
    (refused_held AnySettings s m event tries g.met.D.Sectors.counts_now g.met.D.Sectors.only_now c.in-Err.refusal.error c.in-Err.refusal.index m.zones c.args.apexes.now c.args.settings.items c.args.devices.items back is refused).left

pub returns-in-Ok-open_all-clause-count : goal.returns-in-Ok-open_all-clause-count
returns-in-Ok-open_all-clause-count g c =
    let many = opened_many (length c.deref.result.now) c.args.apexes.now c.deref.result.now c.args.devices.items c.in-Ok-open_all.all.zones.items c.in-Ok-open_all.all.pending.items c.in-Ok-open_all.ensures in
    omega (arith, many.1, c.requires.as_many, ap (λ (l : List ZoneSpec). length l) c.deref.ensures.value)

pub returns-in-Ok-open_all-clause-opened : goal.returns-in-Ok-open_all-clause-opened
returns-in-Ok-open_all-clause-opened g c =
    subst (λ (l : List ZoneSpec). AreOpened (length l) c.args.apexes.now l c.args.devices.items c.in-Ok-open_all.all.zones.items c.in-Ok-open_all.all.pending.items) c.deref.ensures.value c.in-Ok-open_all.ensures

pub returns-in-Ok-open_all-clause-honest : goal.returns-in-Ok-open_all-clause-honest
returns-in-Ok-open_all-clause-honest g c =
    let opened = subst (λ (l : List ZoneSpec). AreOpened (length l) c.args.apexes.now l c.args.devices.items c.in-Ok-open_all.all.zones.items c.in-Ok-open_all.all.pending.items) c.deref.ensures.value c.in-Ok-open_all.ensures in
    opened_honest (length c.args.settings.items) c.args.apexes.now c.args.settings.items c.args.devices.items c.in-Ok-open_all.all.zones.items c.in-Ok-open_all.all.pending.items c.requires.as_many opened

pub returns-in-Err-clause-honest : goal.returns-in-Err-clause-honest
returns-in-Err-clause-honest g c =
    let s = g.D.Sectors in
    let back = c.open_all.new.devices.items in
    let refused = subst (λ (l : List ZoneSpec). AreRefused s c.in-Err.refusal.error c.in-Err.refusal.index c.args.apexes.now l c.args.devices.items back) c.deref.ensures.value c.in-Err.ensures in
    refused_honest s c.in-Err.refusal.error c.in-Err.refusal.index c.args.apexes.now c.args.settings.items c.args.devices.items back refused

pub returns-in_default-clause-honest : goal.returns-in_default-clause-honest
returns-in_default-clause-honest g c = same_honest g.D.Sectors c.args.devices.items

pub returns-in_default-clause-recovered : goal.returns-in_default-clause-recovered
returns-in_default-clause-recovered g c m event tries is =
    let devices = c.args.devices.items in
    let held = refused_held IsSet g.D.Sectors m event tries g.met.D.Sectors.counts_now g.met.D.Sectors.only_now OutOfMemory 0 m.zones c.args.apexes.now c.args.settings.items devices devices is (inr (refl, refl)) in
    (held.recoverable, held.stopped)

pub returns-in_default-clause-configured : goal.returns-in_default-clause-configured
returns-in_default-clause-configured g c m event tries is =
    let devices = c.args.devices.items in
    let held = refused_held AnySettings g.D.Sectors m event tries g.met.D.Sectors.counts_now g.met.D.Sectors.only_now OutOfMemory 0 m.zones c.args.apexes.now c.args.settings.items devices devices is (inr (refl, refl)) in
    (held.recoverable, held.stopped)

pub returns-in_default-clause-any_moment : goal.returns-in_default-clause-any_moment
returns-in_default-clause-any_moment g c m event tries is =
    let devices = c.args.devices.items in
    (refused_held AnySettings g.D.Sectors m event tries g.met.D.Sectors.counts_now g.met.D.Sectors.only_now OutOfMemory 0 m.zones c.args.apexes.now c.args.settings.items devices devices is (inr (refl, refl))).left
