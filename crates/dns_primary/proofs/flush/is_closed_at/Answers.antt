use Rattle.std.proofs.Common.{[], map, sym, ap, subst, ◌∙◌, arith}
use Rattle.std.proofs.lemmas.List.{length-map}
use Rattle.dns_store.specs.Versions.{Kept}
use Rattle.dns_versions.specs.Held.{HasVersions}
use Rattle.dns_versions.proofs.Lists.{get3, long3}
use Rattle.dns_primary.specs.Flush.{is_closed_in}
use Rattle.dns_primary.specs.Machine.{kept_of}
use Rattle.dns_primary.proofs.Flushed.{mapped, beyond}
use Rattle.dns_primary.proofs.flush.is_closed_at.Goals as goal

pub returns-in-Some : goal.returns-in-Some
returns-in-Some g c shown zones each =
    let h = c.in-Some.ensures.lookup in
    let there = get3 (λ z b k. HasVersions g.S.ZoneStore.keeps z b k) shown c.args.pending.now (map kept_of zones) c.args.index (record { apex = []; records = [] }) c.in-Some.zone.now each h.3.0 in
    let stored : g.S.ZoneStore.keeps c.in-Some.zone.now.store there.0 = subst (λ b. g.S.ZoneStore.keeps b.store there.0) (sym h.1) there.2.kept in
    let z = mapped zones c.args.index there.0 there.1 in
    c.is_closed.ensures there.0 stored ∙ ap (λ (k : Kept). k.closed) (sym z.2) ∙ sym (ap is_closed_in z.1)

pub returns-in-None : goal.returns-in-None
returns-in-None g c shown zones each =
    let h = c.in-None.ensures.lookup in
    let long = long3 (λ z b k. HasVersions g.S.ZoneStore.keeps z b k) shown c.args.pending.now (map kept_of zones) each in
    sym (ap is_closed_in (beyond zones c.args.index (omega (arith, h.3, long, length-map zones kept_of))))
