use Rattle.std.proofs.Common.{inl, inr, ⊎_elim, refl, ◌≡◌, ◌+◌, List, drop, arith, sym, ◌∙◌, ap, subst}
use Rattle.dns_sectors.specs.Device.{Only, LeavesOnly}
use Rattle.dns_layout.specs.Sector.{sector_at}
use Rattle.dns_layout.specs.Journal.{place_behind}
use Rattle.dns_layout.specs.Store.{journal_place, bank_end, version_of}
use Rattle.dns_records.specs.Record.{Record}
use Rattle.dns_zone.specs.Zone.{Zone}
use Rattle.dns_layout.specs.declared.root.Root.{Root}
use Rattle.dns_store.specs.Versions.{Shape, newest_after, opened_again}
use Rattle.dns_store.proofs.InMemory.{found_so}
use Rattle.dns_store.specs.Opens.{base_of, sizes_of}
use Rattle.dns_store.specs.Recovered.{AreLed}
use Rattle.dns_store.specs.Opening.{OpensAsPossible, IsNotReopened}
use Rattle.dns_store.proofs.Altered.{applied_altered}
use Rattle.dns_store.proofs.Leaves.{part_opened}
use Rattle.dns_layout.specs.declared.format.Format.TheVariants.{Two}
use Rattle.dns_store.proofs.Opening.{stands_first}
use Rattle.dns_store.proofs.Entering.{altered_there, spoilt_there, unaltered, raise_leaves, not_opened, newest_number}
use Rattle.dns_store.proofs.recovery.open.Goals as goal

pub returns-in-Err-clause-opened : goal.returns-in-Err-clause-opened
returns-in-Err-clause-opened g c honest range may =
    let shape : Shape = record { apex = c.args.apex.now; snapshot = c.args.snapshot; journal = c.args.journal } in
    let d = g.D.Sectors.seen c.args.device in (
      d,
      g.met.D.Sectors.seen_may_stay c.args.device honest,
      λ o is. not_opened shape o is.1.0 d c.in-Err.error is.1.1 is.1.2.4 (c.in-Err.ensures.found honest range is.1.0 (applied_altered o.altered is.1.0 d is.0 is.1.1) o is.1.2.0 is.1.2.1 is.1.2.3),
    )

pub returns-in-Err-raise_root-clause-opened : goal.returns-in-Err-raise_root-clause-opened
returns-in-Err-raise_root-clause-opened g c honest range may =
    (g.D.Sectors.seen c.args.device, g.met.D.Sectors.seen_may_stay c.args.device honest, λ o is. inl (inl refl))

pub returns-in-Err-clause-altered : goal.returns-in-Err-clause-altered
returns-in-Err-clause-altered g c honest range before o opened none altered =
    let shape : Shape = record { apex = c.args.apex.now; snapshot = c.args.snapshot; journal = c.args.journal } in
    let is = unaltered shape o before opened none in
    ⊎_elim (λ stopped. inl (subst (λ n. IsNotReopened n c.in-Err.error) is.4 stopped)) (λ named. inr named.0) (c.in-Err.ensures.found honest range before altered o is.0 is.1 is.3)

pub returns-in-Err-raise_root-clause-any_moment : goal.returns-in-Err-raise_root-clause-any_moment
returns-in-Err-raise_root-clause-any_moment g c honest range =
    let shape : Shape = record { apex = c.args.apex.now; snapshot = c.args.snapshot; journal = c.args.journal } in
    let d = g.D.Sectors.seen c.args.device in
    let reads = c.read_settled.ensures.reads in
    let only : Only (g.D.Sectors.seen c.read_settled.new.device) (g.D.Sectors.may_leave c.read_settled.new.device) = λ x l. c.in-Ok.ensures.durable honest x l ∙ sym (reads.seen honest) in
    raise_leaves shape c.args.device c.read_settled.new.device honest reads c.raise_root.new.device c.in-Ok.found.root (g.met.D.Sectors.seen_may_stay c.args.device honest)
    (λ o s x spoilt some is part. (c.in-Ok.ensures.found honest range x (applied_altered o.altered x d spoilt some) o s is part).says)
    (c.raise_root.ensures.any_moment (reads.honest.1 honest) only)

pub returns-clause-opened : goal.returns-clause-opened
returns-clause-opened g c honest range may =
    let shape : Shape = record { apex = c.args.apex.now; snapshot = c.args.snapshot; journal = c.args.journal } in
    let sz = sizes_of shape in
    let d = g.D.Sectors.seen c.args.device in
    let left = g.met.D.Sectors.seen_may_stay c.args.device honest in
    let reads = c.read_settled.ensures.reads in
    let same = reads.seen honest in
    let mid = reads.honest.1 honest in
    let only : Only (g.D.Sectors.seen c.read_settled.new.device) (g.D.Sectors.may_leave c.read_settled.new.device) = λ x l. c.in-Ok.ensures.durable honest x l ∙ sym same in (
      d,
      left,
      λ o is.
          (let x = is.1.0 in
          let s = is.1.2.0 in
          let part = is.1.2.3 in
          let read = c.in-Ok.ensures.found honest range x (applied_altered o.altered x d is.0 is.1.1) o s is.1.2.1 part in
          let there = stands_first Two sz x s is.1.2.1 in
          let over = c.in-Ok-raise_root.ensures.raised sz s (sector_at x 0) there.0 mid only (x, altered_there shape o s x d (g.D.Sectors.seen c.read_settled.new.device) part same is.1.1, (there.1, is.1.2.2)) read.says in
          let raised = over.2 in
          let bank = raised.2.names.bank in
          let again = raised.2.count ∙ ap (λ n. n + 1) is.1.2.4 in
          let keeps = c.over-store.ensures.keeps shape (opened_again o) s raised.0 there.0 over.0 (c.raise_root.ensures.honest.1 mid) (c.in-Ok-raise_root.ensures.durable mid) (spoilt_there shape o s part is.0) over.1 raised.3 raised.1 raised.4 (raised.5 (version_of s)) (part_opened shape o (o.openings + 1) s part)
          (read.until_is ∙ ap (λ n. bank_end sz n) (sym bank)) (read.at_is ∙ ap (λ n. place_behind (journal_place sz n) s.entries) (sym bank)) read.version_is (sym raised.1.opened_is) again
          (λ i. record { apex = c.in-Ok.ensures.apex.0 i; records = read.base_is i }) read.led in
          record { keeps_them = keeps; newest_is = λ i. record { apex = c.in-Ok.ensures.apex.1 i; records = read.newest_is i } }),
    )

pub returns-clause-memory : goal.returns-clause-memory
returns-clause-memory g c =
    let shape : Shape = record { apex = c.args.apex.now; snapshot = c.args.snapshot; journal = c.args.journal } in
    let store = c.over-store.result in
    let so = c.in-Ok.ensures.memory in
    let reads = so.reads in
    let bases = c.over-store.ensures.base in
    let records : c.over-store.result.base.records ≡ c.in-Ok.found.base.records = ap (λ (z : Zone). z.records) bases in
    let number = c.over-store.ensures.newest in
    let roots = c.raise_root.ensures.root in
    record {
      versions = reads.versions;
      few = omega (arith, number, reads.version_is);
      base_apex = ap (λ (z : Zone). z.apex) bases ∙ so.apex_is;
      newest_is = (let newest = reads.newest_is ∙ ap (λ (b : List Record). newest_after b reads.versions) (sym records) in λ i. record { apex = c.in-Ok.ensures.apex.1 i; records = newest i });
      holds = λ o may.
          c.over-store.ensures.memory shape o
          (found_so shape o so.start c.in-Ok.found.end _ c.raise_root.new.root c.in-Ok.found.base c.in-Ok.found.newest.records c.in-Ok.found.changes.items reads
          so.place_is so.until_is refl refl (sym number ∙ sym may.count)
          (ap (λ (r : Root). r.snapshot_room) roots ∙ so.snapshot_room_is) (ap (λ (r : Root). r.journal_room) roots ∙ so.journal_room_is) so.apex_is so.base_fits
          may.base_number (may.base_is ∙ records) may.rest_is);
    }

pub returns-clause-altered : goal.returns-clause-altered
returns-clause-altered g c honest range before o opened none altered =
    let shape : Shape = record { apex = c.args.apex.now; snapshot = c.args.snapshot; journal = c.args.journal } in
    let is = unaltered shape o before opened none in
    let read = c.in-Ok.ensures.found honest range before altered o is.0 is.1 is.3 in
    record {
      newest_is = λ i. record { apex = c.in-Ok.ensures.apex.1 i; records = read.newest_is i };
      number_is = c.over-store.ensures.newest ∙ read.version_is ∙ newest_number shape o is.0 is.3;
      base_is = c.over-store.ensures.base ∙ λ i. record { apex = c.in-Ok.ensures.apex.0 i; records = read.base_is i };
      led = subst (λ cs. AreLed (base_of o) (drop o.base o.versions) cs) (sym (ap (λ v. v.items) c.over-store.ensures.changes)) read.led;
    }

pub returns-clause-any_moment : goal.returns-clause-any_moment
returns-clause-any_moment g c honest range =
    let shape : Shape = record { apex = c.args.apex.now; snapshot = c.args.snapshot; journal = c.args.journal } in
    let d = g.D.Sectors.seen c.args.device in
    let reads = c.read_settled.ensures.reads in
    let only : Only (g.D.Sectors.seen c.read_settled.new.device) (g.D.Sectors.may_leave c.read_settled.new.device) = λ x l. c.in-Ok.ensures.durable honest x l ∙ sym (reads.seen honest) in
    subst (λ e. LeavesOnly g.D.Sectors.moment g.D.Sectors.left_since c.args.device e (OpensAsPossible g.D.Sectors shape c.args.device)) (sym c.over-store.ensures.device)
    (raise_leaves shape c.args.device c.read_settled.new.device honest reads c.raise_root.new.device c.in-Ok.found.root (g.met.D.Sectors.seen_may_stay c.args.device honest)
    (λ o s x spoilt some is part. (c.in-Ok.ensures.found honest range x (applied_altered o.altered x d spoilt some) o s is part).says)
    (c.raise_root.ensures.any_moment (reads.honest.1 honest) only))
