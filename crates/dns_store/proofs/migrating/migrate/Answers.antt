use Rattle.std.proofs.Common.{◌≡◌, ◌↔◌, inl, inr, ⊎_elim, ◌+◌, ◌≤◌, ℕ, Result, Ok, Bool, true, false, IsTrue, List, Err, length, refl, sym, ◌∙◌, ap, subst, arith}
use Rattle.dns_sectors.specs.Device.{Content, Only, LeavesOnly}
use Rattle.dns_layout.specs.Sector.{sector_at, tag, root_tag}
use Rattle.dns_layout.specs.Store.{OpensAsIn}
use Rattle.dns_layout.specs.declared.format.Format.TheVariants.{One}
use Rattle.dns_changes.specs.Change.{Change}
use Rattle.std.proofs.lemmas.Bool.{cases_lt}
use Rattle.dns_journal.specs.Reads.{HasRisen, OnlyReads}
use Rattle.dns_journal.proofs.Looking.{reads_then}
use Rattle.dns_journal.proofs.Altered.{altered_itself}
use Rattle.dns_store.specs.Versions.{Shape, Opened}
use Rattle.dns_store.specs.Opens.{sizes_of, opens}
use Rattle.dns_store.specs.Migrating.{StaysOrMigrates, IsReadOld, IsMigrateStopped, migrate_error}
use Rattle.dns_store.specs.Opening.{IsNotReopened}
use Rattle.dns_store.specs.declared.root.OpenError.{OpenError}
use Rattle.dns_store.proofs.Entering.{none_altered}
use Rattle.std.proofs.lemmas.Result.{err_from_is_err_and}
use Rattle.dns_records.specs.Record.{Record}
use Rattle.dns_zone.specs.Zone.{soas}
use Rattle.dns_layout.specs.Sector.{open_count}
use Rattle.dns_journal.specs.State.{IsOpenedTimes}
use Rattle.dns_store.specs.Versions.{Versions, newest_after}
use Rattle.dns_store.specs.Opens.{IsPartOfIn}
use Rattle.dns_layout.specs.Store.{Stored}
use Rattle.dns_store.specs.declared.migrating.MigrateError.{MigrateError}
use Rattle.dns_store.proofs.Anew.{read_old, writes_migrate, fits_not, new_tag, old_tag, number}
use Rattle.dns_store.proofs.migrating.migrate.Goals as goal

true_is : (b : Bool) → b ≡ true → IsTrue b
true_is true is = refl
true_is false is = absurd (cc is)

risen_later : (a m n : ℕ) → a ≤ m → HasRisen m n → m ≤ n → HasRisen a n
risen_later a m n le risen grows = ⊎_elim (λ less. inl (omega (arith, le, less)))
    (λ most. ⊎_elim (λ below. inl (omega (arith, below, grows))) (λ above. inr (omega (arith, above, le, most))) (cases_lt a m)) risen

-- the error of a result that is one
abbrev error_of : {T : Type 0} → Result T MigrateError → MigrateError
error_of (Ok x) = MigrateError.Device
error_of (Err e) = e

not_true : (b : Bool) {P : Type 0} → (IsTrue b ↔ P) → b ≡ false → P → ⊥
not_true true both is p = absurd (cc is)
not_true false both is p = absurd (cc (both.1 p))

pub returns-in_err-write_anew-clause-any_moment : goal.returns-in_err-write_anew-clause-any_moment
returns-in_err-write_anew-clause-any_moment g c honest range =
    let shape : Shape = record { apex = c.args.apex.now; snapshot = c.args.snapshot; journal = c.args.journal } in
    let d = g.D.Sectors.seen c.args.device.now in
    let left = g.met.D.Sectors.seen_may_stay c.args.device.now honest in
    let one = c.settle.ensures.reads in
    let two = c.is_new.ensures.reads in
    let first = reads_then c.args.device.now c.settle.new.device c.is_new.new.device one two in
    let three = c.read_store.ensures.reads in
    let reads = reads_then c.args.device.now c.is_new.new.device c.read_store.new.device first three in
    let same = reads.seen honest in
    let mid = reads.honest.1 honest in
    let near = one.honest.1 honest in
    let here = first.honest.1 honest in
    let not_new = λ (is : tag (sector_at (g.D.Sectors.seen c.args.device.now) 0) ≡ root_tag). not_true _ (c.in_ok-is_new.ensures.new near) c.if-branch.false (subst (λ (x : Content). tag (sector_at x 0) ≡ root_tag) (sym (one.seen honest)) is) in
    let only : Only (g.D.Sectors.seen c.read_store.new.device) (g.D.Sectors.may_leave c.read_store.new.device) =
    λ x l. c.in_ok-settle.ensures.durable honest x (two.crash near x (three.crash here x l)) ∙ sym same in
    writes_migrate shape c.args.device.now c.read_store.new.device honest reads c.write_anew.new.device c.in_ok-found.found.root c.in_ok-found.found.end.version c.in_ok-found.found.base c.in_ok-found.found.changes.items left not_new
    (λ o s is part opened. read_old shape o s (g.D.Sectors.seen c.is_new.new.device) d c.in_ok-found.found.root c.in_ok-found.found.end c.in_ok-found.found.base c.in_ok-found.found.changes.items c.in_ok-found.found.newest.records (first.seen honest)
    (c.in_ok-found.ensures.found here range (g.D.Sectors.seen c.is_new.new.device) (altered_itself One (g.D.Sectors.seen c.is_new.new.device)) o s (subst (λ (x : Content). OpensAsIn One (sizes_of shape) x s) (sym (first.seen honest)) is) part)
    c.in_ok-found.ensures.apex.0 is part opened)
    (subst (λ cs. LeavesOnly g.D.Sectors.moment g.D.Sectors.left_since c.read_store.new.device c.write_anew.new.device (StaysOrMigrates c.in_ok-found.found.root c.in_ok-found.found.end.version c.in_ok-found.found.base cs (g.D.Sectors.seen c.read_store.new.device))) c.deref.ensures.value
    (c.write_anew.ensures.any_moment mid only))

pub returns-clause-any_moment : goal.returns-clause-any_moment
returns-clause-any_moment g c honest range =
    let shape : Shape = record { apex = c.args.apex.now; snapshot = c.args.snapshot; journal = c.args.journal } in
    let d = g.D.Sectors.seen c.args.device.now in
    let left = g.met.D.Sectors.seen_may_stay c.args.device.now honest in
    let one = c.settle.ensures.reads in
    let two = c.is_new.ensures.reads in
    let first = reads_then c.args.device.now c.settle.new.device c.is_new.new.device one two in
    let three = c.read_store.ensures.reads in
    let reads = reads_then c.args.device.now c.is_new.new.device c.read_store.new.device first three in
    let same = reads.seen honest in
    let mid = reads.honest.1 honest in
    let near = one.honest.1 honest in
    let here = first.honest.1 honest in
    let not_new = λ (is : tag (sector_at (g.D.Sectors.seen c.args.device.now) 0) ≡ root_tag). not_true _ (c.in_ok-is_new.ensures.new near) c.if-branch.false (subst (λ (x : Content). tag (sector_at x 0) ≡ root_tag) (sym (one.seen honest)) is) in
    let only : Only (g.D.Sectors.seen c.read_store.new.device) (g.D.Sectors.may_leave c.read_store.new.device) =
    λ x l. c.in_ok-settle.ensures.durable honest x (two.crash near x (three.crash here x l)) ∙ sym same in
    writes_migrate shape c.args.device.now c.read_store.new.device honest reads c.write_anew.new.device c.in_ok-found.found.root c.in_ok-found.found.end.version c.in_ok-found.found.base c.in_ok-found.found.changes.items left not_new
    (λ o s is part opened. read_old shape o s (g.D.Sectors.seen c.is_new.new.device) d c.in_ok-found.found.root c.in_ok-found.found.end c.in_ok-found.found.base c.in_ok-found.found.changes.items c.in_ok-found.found.newest.records (first.seen honest)
    (c.in_ok-found.ensures.found here range (g.D.Sectors.seen c.is_new.new.device) (altered_itself One (g.D.Sectors.seen c.is_new.new.device)) o s (subst (λ (x : Content). OpensAsIn One (sizes_of shape) x s) (sym (first.seen honest)) is) part)
    c.in_ok-found.ensures.apex.0 is part opened)
    (subst (λ cs. LeavesOnly g.D.Sectors.moment g.D.Sectors.left_since c.read_store.new.device c.write_anew.new.device (StaysOrMigrates c.in_ok-found.found.root c.in_ok-found.found.end.version c.in_ok-found.found.base cs (g.D.Sectors.seen c.read_store.new.device))) c.deref.ensures.value
    (c.write_anew.ensures.any_moment mid only))

pub returns-then-branch-clause-migrated : goal.returns-then-branch-clause-migrated
returns-then-branch-clause-migrated g c honest range may =
    let shape : Shape = record { apex = c.args.apex.now; snapshot = c.args.snapshot; journal = c.args.journal } in
    let d = g.D.Sectors.seen c.args.device.now in
    let left = g.met.D.Sectors.seen_may_stay c.args.device.now honest in
    let one = c.settle.ensures.reads in
    let two = c.is_new.ensures.reads in
    let first = reads_then c.args.device.now c.settle.new.device c.is_new.new.device one two in
    let near = one.honest.1 honest in
    let new : tag (sector_at d 0) ≡ root_tag = subst (λ (x : Content). tag (sector_at x 0) ≡ root_tag) (one.seen honest) ((c.in_ok-is_new.ensures.new near).0 (true_is _ c.if-branch.true)) in (
      d,
      left,
      λ o is. ⊎_elim
          (λ there. ((λ x now. subst (λ (y : Content). opens shape o y) (sym (c.in_ok-settle.ensures.durable honest x (two.crash near x now))) there.0), tt))
          (λ was. absurd (old_tag shape was.0 d was.1 new))
          is,
    )

-- it was opened too often to be migrated
stopped_so : (n m : ℕ) (e : OpenError) → m ≡ n + 1 → IsNotReopened n e → IsMigrateStopped m (migrate_error e)
stopped_so n m e more (inl failed) = inl (ap migrate_error failed)
stopped_so n m e more (inr (inl memory)) = inr (inl (ap migrate_error memory))
stopped_so n m e more (inr (inr worn)) = inr (inr (ap migrate_error worn.0, omega (arith, worn.1, more)))

pub returns-in_err-found-clause-migrated : goal.returns-in_err-found-clause-migrated
returns-in_err-found-clause-migrated g c honest range may =
    let shape : Shape = record { apex = c.args.apex.now; snapshot = c.args.snapshot; journal = c.args.journal } in
    let d = g.D.Sectors.seen c.args.device.now in
    let left = g.met.D.Sectors.seen_may_stay c.args.device.now honest in
    let one = c.settle.ensures.reads in
    let two = c.is_new.ensures.reads in
    let first = reads_then c.args.device.now c.settle.new.device c.is_new.new.device one two in
    let near = one.honest.1 honest in
    let here = first.honest.1 honest in
    let not_new = λ (is : tag (sector_at (g.D.Sectors.seen c.args.device.now) 0) ≡ root_tag). not_true _ (c.in_ok-is_new.ensures.new near) c.if-branch.false (subst (λ (x : Content). tag (sector_at x 0) ≡ root_tag) (sym (one.seen honest)) is) in
    let e = g.D.Sectors.seen c.is_new.new.device in
    let error = c.in_err-found.field-0.0 in
    let p = err_from_is_err_and c.from_residual-in_err-found.result c.from_residual-in_err-found.ensures.1 in
    rw p.1 (
      d,
      left,
      λ o is.
          ⊎_elim (λ new. absurd (not_new (new_tag shape o d new)))
          (λ was.
          let stopped = none_altered One shape (open_count (sector_at e 0)) e error
          (c.in_err-found.ensures.found here range e (altered_itself One e) was.0 was.1.0 (subst (λ (x : Content). OpensAsIn One (sizes_of shape) x was.1.0) (sym (first.seen honest)) was.1.1) was.1.2) in
          let times : o.openings ≡ open_count (sector_at e 0) + 1 = was.2.openings ∙ ap (λ n. n + 1) (sym was.1.3 ∙ sym (ap (λ (x : Content). open_count (sector_at x 0)) (first.seen honest))) in
          subst (λ m. IsMigrateStopped o.openings m) (sym p.2) (stopped_so (open_count (sector_at e 0)) o.openings error times stopped))
          is,
    )

pub returns-in_err-write_anew-clause-migrated : goal.returns-in_err-write_anew-clause-migrated
returns-in_err-write_anew-clause-migrated g c honest range may =
    let shape : Shape = record { apex = c.args.apex.now; snapshot = c.args.snapshot; journal = c.args.journal } in
    let d = g.D.Sectors.seen c.args.device.now in
    let left = g.met.D.Sectors.seen_may_stay c.args.device.now honest in
    let one = c.settle.ensures.reads in
    let two = c.is_new.ensures.reads in
    let first = reads_then c.args.device.now c.settle.new.device c.is_new.new.device one two in
    let three = c.read_store.ensures.reads in
    let reads = reads_then c.args.device.now c.is_new.new.device c.read_store.new.device first three in
    let same = reads.seen honest in
    let mid = reads.honest.1 honest in
    let near = one.honest.1 honest in
    let here = first.honest.1 honest in
    let not_new = λ (is : tag (sector_at (g.D.Sectors.seen c.args.device.now) 0) ≡ root_tag). not_true _ (c.in_ok-is_new.ensures.new near) c.if-branch.false (subst (λ (x : Content). tag (sector_at x 0) ≡ root_tag) (sym (one.seen honest)) is) in
    let reader : (o : Opened) (s : Stored) → OpensAsIn One (sizes_of shape) d s → IsPartOfIn One shape o s → IsOpenedTimes o.openings d → IsReadOld shape o s (g.D.Sectors.seen c.read_store.new.device) c.in_ok-found.found.root c.in_ok-found.found.end.version c.in_ok-found.found.base c.deref.result.now =
    λ o s is part opened. subst (λ (cs : List Change). IsReadOld shape o s (g.D.Sectors.seen c.read_store.new.device) c.in_ok-found.found.root c.in_ok-found.found.end.version c.in_ok-found.found.base cs) (sym c.deref.ensures.value)
    (subst (λ (x : Content). IsReadOld shape o s x c.in_ok-found.found.root c.in_ok-found.found.end.version c.in_ok-found.found.base c.in_ok-found.found.changes.items) (sym same)
    (read_old shape o s (g.D.Sectors.seen c.is_new.new.device) d c.in_ok-found.found.root c.in_ok-found.found.end c.in_ok-found.found.base c.in_ok-found.found.changes.items c.in_ok-found.found.newest.records (first.seen honest)
    (c.in_ok-found.ensures.found here range (g.D.Sectors.seen c.is_new.new.device) (altered_itself One (g.D.Sectors.seen c.is_new.new.device)) o s (subst (λ (x : Content). OpensAsIn One (sizes_of shape) x s) (sym (first.seen honest)) is) part)
    c.in_ok-found.ensures.apex.0 is part opened)) in
    let p = err_from_is_err_and c.from_residual-in_err-write_anew.result c.from_residual-in_err-write_anew.ensures.1 in
    rw p.1 (
      d,
      left,
      λ o is.
          ⊎_elim (λ new. absurd (not_new (new_tag shape o d new)))
          (λ was. subst (λ m. IsMigrateStopped o.openings m) (sym p.2) (⊎_elim (λ device. inl device) (λ more. ⊎_elim (λ memory. inr (inl memory))
          (λ wide. absurd (fits_not shape was.0 o was.2
          (c.in_err-write_anew.ensures.too_large shape was.0 was.1.0 (reader was.0 was.1.0 was.1.1 was.1.2 was.1.3) (ap Err wide))))
          more) c.in_err-write_anew.ensures.only))
          is,
    )

pub returns-in_err-write_anew-clause-too_large : goal.returns-in_err-write_anew-clause-too_large
returns-in_err-write_anew-clause-too_large g c = λ honest o is range large.
    let p = err_from_is_err_and c.from_residual-in_err-write_anew.result c.from_residual-in_err-write_anew.ensures.1 in
    let shape : Shape = record { apex = c.args.apex.now; snapshot = c.args.snapshot; journal = c.args.journal } in
    let d = g.D.Sectors.seen c.args.device.now in
    let left = g.met.D.Sectors.seen_may_stay c.args.device.now honest in
    let one = c.settle.ensures.reads in
    let two = c.is_new.ensures.reads in
    let first = reads_then c.args.device.now c.settle.new.device c.is_new.new.device one two in
    let three = c.read_store.ensures.reads in
    let reads = reads_then c.args.device.now c.is_new.new.device c.read_store.new.device first three in
    let same = reads.seen honest in
    let mid = reads.honest.1 honest in
    let near = one.honest.1 honest in
    let here = first.honest.1 honest in
    let not_new = λ (is : tag (sector_at (g.D.Sectors.seen c.args.device.now) 0) ≡ root_tag). not_true _ (c.in_ok-is_new.ensures.new near) c.if-branch.false (subst (λ (x : Content). tag (sector_at x 0) ≡ root_tag) (sym (one.seen honest)) is) in
    let reader : (o : Opened) (s : Stored) → OpensAsIn One (sizes_of shape) d s → IsPartOfIn One shape o s → IsOpenedTimes o.openings d → IsReadOld shape o s (g.D.Sectors.seen c.read_store.new.device) c.in_ok-found.found.root c.in_ok-found.found.end.version c.in_ok-found.found.base c.deref.result.now =
    λ o s is part opened. subst (λ (cs : List Change). IsReadOld shape o s (g.D.Sectors.seen c.read_store.new.device) c.in_ok-found.found.root c.in_ok-found.found.end.version c.in_ok-found.found.base cs) (sym c.deref.ensures.value)
    (subst (λ (x : Content). IsReadOld shape o s x c.in_ok-found.found.root c.in_ok-found.found.end.version c.in_ok-found.found.base c.in_ok-found.found.changes.items) (sym same)
    (read_old shape o s (g.D.Sectors.seen c.is_new.new.device) d c.in_ok-found.found.root c.in_ok-found.found.end c.in_ok-found.found.base c.in_ok-found.found.changes.items c.in_ok-found.found.newest.records (first.seen honest)
    (c.in_ok-found.ensures.found here range (g.D.Sectors.seen c.is_new.new.device) (altered_itself One (g.D.Sectors.seen c.is_new.new.device)) o s (subst (λ (x : Content). OpensAsIn One (sizes_of shape) x s) (sym (first.seen honest)) is) part)
    c.in_ok-found.ensures.apex.0 is part opened)) in
    c.in_err-write_anew.ensures.too_large shape o is.0 (reader o is.0 is.1 is.2 is.3) (ap Err (sym p.2 ∙ ap error_of (sym p.1 ∙ large)))

pub returns-in_err-write_anew-clause-unwritten : goal.returns-in_err-write_anew-clause-unwritten
returns-in_err-write_anew-clause-unwritten g c =
    let one = c.settle.ensures.reads in
    let two = c.is_new.ensures.reads in
    let first = reads_then c.args.device.now c.settle.new.device c.is_new.new.device one two in
    let reads = reads_then c.args.device.now c.is_new.new.device c.read_store.new.device first c.read_store.ensures.reads in
    let p = err_from_is_err_and c.from_residual-in_err-write_anew.result c.from_residual-in_err-write_anew.ensures.1 in
    ⊎_elim (λ failed. inl (p.1 ∙ ap Err (p.2 ∙ ap error_of failed))) (λ same. inr (inr (subst (λ x. OnlyReads g.D.Sectors c.args.device.now x) (sym same) reads))) c.in_err-write_anew.ensures.unwritten

pub returns-in_err-write_anew-clause-refused : goal.returns-in_err-write_anew-clause-refused
returns-in_err-write_anew-clause-refused g c honest =
    let p = err_from_is_err_and c.from_residual-in_err-write_anew.result c.from_residual-in_err-write_anew.ensures.1 in
    rw p.1
    (⊎_elim (λ device. inl (record { error = OpenError.Device; named = p.2 ∙ device; refused = tt; damaged = tt }))
    (λ more. ⊎_elim (λ memory. inl (record { error = OpenError.OutOfMemory; named = p.2 ∙ memory; refused = tt; damaged = tt })) (λ wide. inr (p.2 ∙ wide)) more)
    c.in_err-write_anew.ensures.only)

pub returns-in_err-write_anew-clause-device : goal.returns-in_err-write_anew-clause-device
returns-in_err-write_anew-clause-device g c = λ failed.
    let p = err_from_is_err_and c.from_residual-in_err-write_anew.result c.from_residual-in_err-write_anew.ensures.1 in
    let one = c.settle.ensures.reads in
    let two = c.is_new.ensures.reads in
    let first = reads_then c.args.device.now c.settle.new.device c.is_new.new.device one two in
    let reads = reads_then c.args.device.now c.is_new.new.device c.read_store.new.device first c.read_store.ensures.reads in
    risen_later (g.D.Sectors.failed c.args.device.now) (g.D.Sectors.failed c.read_store.new.device) (g.D.Sectors.failed c.write_anew.new.device) reads.grows (c.in_err-write_anew.ensures.device (ap Err (sym p.2 ∙ ap error_of (sym p.1 ∙ failed)))) c.write_anew.ensures.grows

pub returns-clause-migrated : goal.returns-clause-migrated
returns-clause-migrated g c honest range may =
    let shape : Shape = record { apex = c.args.apex.now; snapshot = c.args.snapshot; journal = c.args.journal } in
    let d = g.D.Sectors.seen c.args.device.now in
    let left = g.met.D.Sectors.seen_may_stay c.args.device.now honest in
    let one = c.settle.ensures.reads in
    let two = c.is_new.ensures.reads in
    let first = reads_then c.args.device.now c.settle.new.device c.is_new.new.device one two in
    let three = c.read_store.ensures.reads in
    let reads = reads_then c.args.device.now c.is_new.new.device c.read_store.new.device first three in
    let same = reads.seen honest in
    let mid = reads.honest.1 honest in
    let near = one.honest.1 honest in
    let here = first.honest.1 honest in
    let not_new = λ (is : tag (sector_at (g.D.Sectors.seen c.args.device.now) 0) ≡ root_tag). not_true _ (c.in_ok-is_new.ensures.new near) c.if-branch.false (subst (λ (x : Content). tag (sector_at x 0) ≡ root_tag) (sym (one.seen honest)) is) in
    let only : Only (g.D.Sectors.seen c.read_store.new.device) (g.D.Sectors.may_leave c.read_store.new.device) =
    λ x l. c.in_ok-settle.ensures.durable honest x (two.crash near x (three.crash here x l)) ∙ sym same in
    let reader : (o : Opened) (s : Stored) → OpensAsIn One (sizes_of shape) d s → IsPartOfIn One shape o s → IsOpenedTimes o.openings d → IsReadOld shape o s (g.D.Sectors.seen c.read_store.new.device) c.in_ok-found.found.root c.in_ok-found.found.end.version c.in_ok-found.found.base c.deref.result.now =
    λ o s is part opened. subst (λ (cs : List Change). IsReadOld shape o s (g.D.Sectors.seen c.read_store.new.device) c.in_ok-found.found.root c.in_ok-found.found.end.version c.in_ok-found.found.base cs) (sym c.deref.ensures.value)
    (subst (λ (x : Content). IsReadOld shape o s x c.in_ok-found.found.root c.in_ok-found.found.end.version c.in_ok-found.found.base c.in_ok-found.found.changes.items) (sym same)
    (read_old shape o s (g.D.Sectors.seen c.is_new.new.device) d c.in_ok-found.found.root c.in_ok-found.found.end c.in_ok-found.found.base c.in_ok-found.found.changes.items c.in_ok-found.found.newest.records (first.seen honest)
    (c.in_ok-found.ensures.found here range (g.D.Sectors.seen c.is_new.new.device) (altered_itself One (g.D.Sectors.seen c.is_new.new.device)) o s (subst (λ (x : Content). OpensAsIn One (sizes_of shape) x s) (sym (first.seen honest)) is) part)
    c.in_ok-found.ensures.apex.0 is part opened)) in (
      d,
      left,
      λ o is. ⊎_elim
          (λ new. absurd (not_new (new_tag shape o d new)))
          (λ was.
          let read = reader was.0 was.1.0 was.1.1 was.1.2 was.1.3 in
          let found = c.in_ok-found.ensures.found here range (g.D.Sectors.seen c.is_new.new.device) (altered_itself One (g.D.Sectors.seen c.is_new.new.device)) was.0 was.1.0 (subst (λ (x : Content). OpensAsIn One (sizes_of shape) x was.1.0) (sym (first.seen honest)) was.1.1) was.1.2 in
          let to = was.2 in (
            (λ x now. c.in_ok-write_anew.ensures.migrated mid only shape was.0 was.1.0 read o to x now),
            (
              found.version_is ∙ number shape was.0 was.1.0 (g.D.Sectors.seen c.read_store.new.device) c.in_ok-found.found.root c.in_ok-found.found.end.version c.in_ok-found.found.base c.deref.result.now read ∙ ap (λ (vs : Versions). length vs) (sym to.versions),
              record {
                soa = c.soa.result.now;
                one = ap (λ (rs : List Record). soas rs) ((λ i. newest_after (to.loaded i) (to.versions i)) ∙ sym found.newest_is) ∙ c.soa.ensures.one;
                serial_is = c.serial.ensures;
              },
            ),
          ))
          is,
    )

pub returns-then-branch-clause-no_room : goal.returns-then-branch-clause-no_room
returns-then-branch-clause-no_room g c honest o is range wide =
    let shape : Shape = record { apex = c.args.apex.now; snapshot = c.args.snapshot; journal = c.args.journal } in
    let d = g.D.Sectors.seen c.args.device.now in
    let one = c.settle.ensures.reads in
    let two = c.is_new.ensures.reads in
    let first = reads_then c.args.device.now c.settle.new.device c.is_new.new.device one two in
    let near = one.honest.1 honest in
    let new : tag (sector_at d 0) ≡ root_tag = subst (λ (x : Content). tag (sector_at x 0) ≡ root_tag) (one.seen honest) ((c.in_ok-is_new.ensures.new near).0 (true_is _ c.if-branch.true)) in
    absurd (old_tag shape o d is new)

pub returns-in_err-write_anew-clause-no_room : goal.returns-in_err-write_anew-clause-no_room
returns-in_err-write_anew-clause-no_room g c honest o is range wide =
    let shape : Shape = record { apex = c.args.apex.now; snapshot = c.args.snapshot; journal = c.args.journal } in
    let d = g.D.Sectors.seen c.args.device.now in
    let one = c.settle.ensures.reads in
    let two = c.is_new.ensures.reads in
    let first = reads_then c.args.device.now c.settle.new.device c.is_new.new.device one two in
    let three = c.read_store.ensures.reads in
    let reads = reads_then c.args.device.now c.is_new.new.device c.read_store.new.device first three in
    let same = reads.seen honest in
    let here = first.honest.1 honest in
    let read : IsReadOld shape o is.0 (g.D.Sectors.seen c.read_store.new.device) c.in_ok-found.found.root c.in_ok-found.found.end.version c.in_ok-found.found.base c.deref.result.now =
    subst (λ (cs : List Change). IsReadOld shape o is.0 (g.D.Sectors.seen c.read_store.new.device) c.in_ok-found.found.root c.in_ok-found.found.end.version c.in_ok-found.found.base cs) (sym c.deref.ensures.value)
    (subst (λ (x : Content). IsReadOld shape o is.0 x c.in_ok-found.found.root c.in_ok-found.found.end.version c.in_ok-found.found.base c.in_ok-found.found.changes.items) (sym same)
    (read_old shape o is.0 (g.D.Sectors.seen c.is_new.new.device) d c.in_ok-found.found.root c.in_ok-found.found.end c.in_ok-found.found.base c.in_ok-found.found.changes.items c.in_ok-found.found.newest.records (first.seen honest)
    (c.in_ok-found.ensures.found here range (g.D.Sectors.seen c.is_new.new.device) (altered_itself One (g.D.Sectors.seen c.is_new.new.device)) o is.0 (subst (λ (x : Content). OpensAsIn One (sizes_of shape) x is.0) (sym (first.seen honest)) is.1) is.2)
    c.in_ok-found.ensures.apex.0 is.1 is.2 is.3)) in
    let p = err_from_is_err_and c.from_residual-in_err-write_anew.result c.from_residual-in_err-write_anew.ensures.1 in
    rw p.1 (tt, subst (λ x. OnlyReads g.D.Sectors c.args.device.now x) (sym (c.in_err-write_anew.ensures.no_room shape o is.0 read wide).1) reads)

pub returns-clause-no_room : goal.returns-clause-no_room
returns-clause-no_room g c honest o is range wide =
    let shape : Shape = record { apex = c.args.apex.now; snapshot = c.args.snapshot; journal = c.args.journal } in
    let d = g.D.Sectors.seen c.args.device.now in
    let one = c.settle.ensures.reads in
    let two = c.is_new.ensures.reads in
    let first = reads_then c.args.device.now c.settle.new.device c.is_new.new.device one two in
    let three = c.read_store.ensures.reads in
    let reads = reads_then c.args.device.now c.is_new.new.device c.read_store.new.device first three in
    let same = reads.seen honest in
    let here = first.honest.1 honest in
    let read : IsReadOld shape o is.0 (g.D.Sectors.seen c.read_store.new.device) c.in_ok-found.found.root c.in_ok-found.found.end.version c.in_ok-found.found.base c.deref.result.now =
    subst (λ (cs : List Change). IsReadOld shape o is.0 (g.D.Sectors.seen c.read_store.new.device) c.in_ok-found.found.root c.in_ok-found.found.end.version c.in_ok-found.found.base cs) (sym c.deref.ensures.value)
    (subst (λ (x : Content). IsReadOld shape o is.0 x c.in_ok-found.found.root c.in_ok-found.found.end.version c.in_ok-found.found.base c.in_ok-found.found.changes.items) (sym same)
    (read_old shape o is.0 (g.D.Sectors.seen c.is_new.new.device) d c.in_ok-found.found.root c.in_ok-found.found.end c.in_ok-found.found.base c.in_ok-found.found.changes.items c.in_ok-found.found.newest.records (first.seen honest)
    (c.in_ok-found.ensures.found here range (g.D.Sectors.seen c.is_new.new.device) (altered_itself One (g.D.Sectors.seen c.is_new.new.device)) o is.0 (subst (λ (x : Content). OpensAsIn One (sizes_of shape) x is.0) (sym (first.seen honest)) is.1) is.2)
    c.in_ok-found.ensures.apex.0 is.1 is.2 is.3)) in
    absurd (c.in_ok-write_anew.ensures.no_room shape o is.0 read wide).0
