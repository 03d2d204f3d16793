use Rattle.std.proofs.Common.{arith, refl, sym, ap, ◌∙◌, append-nil}
use Rattle.dns_zone.specs.Zone.{Zone}
use Rattle.dns_store.specs.Versions.{Versions, newest_after, opened_again}
use Rattle.dns_store.specs.Opens.{fresh}
use Rattle.dns_store.specs.Plain.{octets_of}
use Rattle.dns_store.proofs.InMemory.{held_as, kept_in_memory}
use Rattle.dns_primary.specs.Open.{shape_of}
use Rattle.dns_primary.proofs.open.open_one.Goals as goal

pub returns-in-Ok : goal.returns-in-Ok
returns-in-Ok g c =
    let e = c.in-Ok.ensures in
    let shape = shape_of c.args.apex.now c.args.own.now in
    record {
      intact = record { root = e.root; not_own = e.not_own };
      altered = e.altered;
      leaves = record { honest = e.honest; any_moment = λ honest range. e.any_moment honest range };
      takes = λ honest range may.
          (let t = e.opened honest range may in (
            t.0,
            t.1,
            λ o is.
                (let taken = t.2 o is in
                record {
                  zone_is = taken.newest_is;
                  tip_is = refl;
                  number_is = omega (arith, c.newest.ensures (fresh shape (opened_again o)) taken.keeps_them);
                  octets_are = c.snapshot_len.ensures ∙ ap (λ (z : Zone). octets_of z.records) taken.newest_is ∙ ap (λ (vs : Versions). octets_of (newest_after o.loaded vs)) (sym (append-nil o.versions));
                  snapshot_is = refl;
                  journal_is = refl;
                  kept = taken.keeps_them;
                }),
          ));
      memory = λ not.
          (let held = held_as shape c.in-Ok.store c.in-Ok.zone e.memory in
          let kept = kept_in_memory c.in-Ok.store (fresh shape held.opened) held.memory (λ h. not (e.honest.0 h)) in (
            held.opened,
            record {
              zone_is = held.newest_is;
              tip_is = refl;
              number_is = omega (arith, c.newest.ensures (fresh shape held.opened) kept);
              octets_are = c.snapshot_len.ensures ∙ ap (λ (z : Zone). octets_of z.records) held.newest_is ∙ ap (λ (vs : Versions). octets_of (newest_after held.opened.loaded vs)) (sym (append-nil held.opened.versions));
              snapshot_is = refl;
              journal_is = refl;
              kept = kept;
            },
          ));
    }
