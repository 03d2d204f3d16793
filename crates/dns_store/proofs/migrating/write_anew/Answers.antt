use Rattle.std.proofs.Common.{◌≡◌, ◌+◌, ◌-◌, ℕ, List, Result, Err, length, take, drop, sym, ◌∙◌, ap, subst, arith}
use Rattle.std.proofs.lemmas.Result.{err_from_is_err_and}
use Rattle.std.proofs.lemmas.List.{take_rest}
use Rattle.dns_changes.specs.Change.{Change}
use Rattle.dns_journal.specs.Bank.{IsTurned}
use Rattle.dns_journal.specs.Converting.{StaysOrConverts}
use Rattle.dns_sectors.proofs.Moments.{started, weaker}
use Rattle.dns_layout.specs.Sector.{sector_at}
use Rattle.dns_layout.specs.Store.{version_of}
use Rattle.dns_store.specs.Opens.{sizes_of, fresh}
use Rattle.dns_store.specs.Checkpoint.{IsBaseOf}
use Rattle.dns_store.specs.Migrating.{StaysOrMigrates, base_error}
use Rattle.dns_changes.specs.declared.ChangeError.{ChangeError}
use Rattle.dns_store.specs.declared.migrating.MigrateError.{MigrateError}
use Rattle.dns_store.proofs.Anew.{led, zones, too_wide, gone_led, gone_zones, base_fits, newest_fits, is_base, count_is, migrated_opens, converted, told, stays_old}
use Rattle.dns_store.proofs.migrating.write_anew.Goals as goal

pub returns-in_default-clause-any_moment : goal.returns-in_default-clause-any_moment
returns-in_default-clause-any_moment g c honest only =
    started g.D.Sectors.moment g.D.Sectors.left_since c.args.device.now (StaysOrMigrates c.args.root c.args.version c.args.base.now c.args.changes.now (g.D.Sectors.seen c.args.device.now))
    (λ x since. stays_old c.args.root c.args.version c.args.base.now c.args.changes.now (g.D.Sectors.seen c.args.device.now) x (only x (g.met.D.Sectors.only_now c.args.device.now x honest since)))

pub returns-in_default-clause-too_large : goal.returns-in_default-clause-too_large
returns-in_default-clause-too_large g c = λ shape o s read large.
    let d = g.D.Sectors.seen c.args.device.now in
    too_wide shape o s d c.args.root c.args.version c.args.base.now c.args.changes.now read
    (c.in_default.ensures.chosen (drop o.base o.versions) (led shape o s d c.args.root c.args.version c.args.base.now c.args.changes.now read) (zones shape o s d c.args.root c.args.version c.args.base.now c.args.changes.now read))

pub returns-in_err-_base-clause-any_moment : goal.returns-in_err-_base-clause-any_moment
returns-in_err-_base-clause-any_moment g c honest only =
    started g.D.Sectors.moment g.D.Sectors.left_since c.args.device.now (StaysOrMigrates c.args.root c.args.version c.args.base.now c.args.changes.now (g.D.Sectors.seen c.args.device.now))
    (λ x since. stays_old c.args.root c.args.version c.args.base.now c.args.changes.now (g.D.Sectors.seen c.args.device.now) x (only x (g.met.D.Sectors.only_now c.args.device.now x honest since)))

not_memory : {T : Type 0} (r : Result T MigrateError) (e : ChangeError) (m : MigrateError) → e ≡ ChangeError.OutOfMemory → m ≡ base_error e → r ≡ Err m → r ≡ Err MigrateError.ZoneTooLarge → ⊥
not_memory r e m is from told large =
    let one : m ≡ MigrateError.OutOfMemory = from ∙ ap base_error is in
    let two : m ≡ MigrateError.ZoneTooLarge = cc (sym told ∙ large) in
    let same : MigrateError.OutOfMemory ≡ MigrateError.ZoneTooLarge = sym one ∙ two in
    cc same

pub returns-in_err-_base-clause-too_large : goal.returns-in_err-_base-clause-too_large
returns-in_err-_base-clause-too_large g c = λ shape o s read large.
    let d = g.D.Sectors.seen c.args.device.now in
    let n = c.in-Some.kept in
    let chosen = c.in-Some.ensures.chosen (drop o.base o.versions) (led shape o s d c.args.root c.args.version c.args.base.now c.args.changes.now read) (zones shape o s d c.args.root c.args.version c.args.base.now c.args.changes.now read) in
    let vs = take (length c.args.changes.now - n) (drop o.base o.versions) in
    let fits = base_fits shape o s d c.args.root c.args.version c.args.base.now c.args.changes.now read n chosen in
    let p = err_from_is_err_and c.from_residual.result c.from_residual.ensures.1 in
    absurd (not_memory c.from_residual.result _ p.0 (c.in_err-_base.ensures.found vs (gone_led shape o s d c.args.root c.args.version c.args.base.now c.args.changes.now read n chosen) (gone_zones shape o s d c.args.root c.args.version c.args.base.now c.args.changes.now read n chosen) fits) p.2 p.1 large)

pub returns-in_err-convert-clause-any_moment : goal.returns-in_err-convert-clause-any_moment
returns-in_err-convert-clause-any_moment g c honest only =
    let d = g.D.Sectors.seen c.args.device.now in
    let n = c.in-Some.kept in
    weaker g.D.Sectors.moment g.D.Sectors.left_since c.args.device.now c.convert.new.device _ (StaysOrMigrates c.args.root c.args.version c.args.base.now c.args.changes.now (g.D.Sectors.seen c.args.device.now)) (c.convert.ensures.any_moment honest only)
    (λ x stays shape o s read.
    let vs = take (length c.args.changes.now - n) (drop o.base o.versions) in
    let chosen = c.in-Some.ensures.chosen (drop o.base o.versions) (led shape o s d c.args.root c.args.version c.args.base.now c.args.changes.now read) (zones shape o s d c.args.root c.args.version c.args.base.now c.args.changes.now read) in
    let next = c.in_ok-_base.ensures.found vs (gone_led shape o s d c.args.root c.args.version c.args.base.now c.args.changes.now read n chosen) (gone_zones shape o s d c.args.root c.args.version c.args.base.now c.args.changes.now read n chosen) (base_fits shape o s d c.args.root c.args.version c.args.base.now c.args.changes.now read n chosen) in
    converted shape o s d c.args.root c.args.version c.args.base.now c.args.changes.now read n chosen c.in_ok-_base._base c.in_ok-_base.octets.items c.deref.result.now c.saturating_sub-number.result c.saturating_sub-number.ensures c.deref.ensures.value next x
    (subst (λ (cs : List Change). StaysOrConverts c.args.root c.saturating_sub-number.result c.deref.result.now cs d x) (take_rest c.args.changes.now (length c.args.changes.now - n)) stays))

pub returns-clause-any_moment : goal.returns-clause-any_moment
returns-clause-any_moment g c honest only =
    let d = g.D.Sectors.seen c.args.device.now in
    let n = c.in-Some.kept in
    weaker g.D.Sectors.moment g.D.Sectors.left_since c.args.device.now c.convert.new.device _ (StaysOrMigrates c.args.root c.args.version c.args.base.now c.args.changes.now (g.D.Sectors.seen c.args.device.now)) (c.convert.ensures.any_moment honest only)
    (λ x stays shape o s read.
    let vs = take (length c.args.changes.now - n) (drop o.base o.versions) in
    let chosen = c.in-Some.ensures.chosen (drop o.base o.versions) (led shape o s d c.args.root c.args.version c.args.base.now c.args.changes.now read) (zones shape o s d c.args.root c.args.version c.args.base.now c.args.changes.now read) in
    let next = c.in_ok-_base.ensures.found vs (gone_led shape o s d c.args.root c.args.version c.args.base.now c.args.changes.now read n chosen) (gone_zones shape o s d c.args.root c.args.version c.args.base.now c.args.changes.now read n chosen) (base_fits shape o s d c.args.root c.args.version c.args.base.now c.args.changes.now read n chosen) in
    converted shape o s d c.args.root c.args.version c.args.base.now c.args.changes.now read n chosen c.in_ok-_base._base c.in_ok-_base.octets.items c.deref.result.now c.saturating_sub-number.result c.saturating_sub-number.ensures c.deref.ensures.value next x
    (subst (λ (cs : List Change). StaysOrConverts c.args.root c.saturating_sub-number.result c.deref.result.now cs d x) (take_rest c.args.changes.now (length c.args.changes.now - n)) stays))

pub returns-clause-migrated : goal.returns-clause-migrated
returns-clause-migrated g c honest only shape o s read after to x left =
    let d = g.D.Sectors.seen c.args.device.now in
    let n = c.in-Some.kept in
    let vs = take (length c.args.changes.now - n) (drop o.base o.versions) in
    let chosen = c.in-Some.ensures.chosen (drop o.base o.versions) (led shape o s d c.args.root c.args.version c.args.base.now c.args.changes.now read) (zones shape o s d c.args.root c.args.version c.args.base.now c.args.changes.now read) in
    let next = c.in_ok-_base.ensures.found vs (gone_led shape o s d c.args.root c.args.version c.args.base.now c.args.changes.now read n chosen) (gone_zones shape o s d c.args.root c.args.version c.args.base.now c.args.changes.now read n chosen) (base_fits shape o s d c.args.root c.args.version c.args.base.now c.args.changes.now read n chosen) in
    let first = told shape o s d c.args.root c.args.version c.args.base.now c.args.changes.now read n chosen in
    let made = c.in_ok-convert.ensures.converted (sizes_of shape) s (sector_at d 0) first.0 honest only first.1 read.says
    (subst (λ (cs : List Change). c.saturating_sub-number.result + length cs ≡ version_of s) (sym (take_rest c.args.changes.now (length c.args.changes.now - n)))
    (count_is shape o s d c.args.root c.args.version c.args.base.now c.args.changes.now read n chosen c.saturating_sub-number.result c.saturating_sub-number.ensures)) in
    let by = made.2 x left in
    let is = is_base shape o s d c.args.root c.args.version c.args.base.now c.args.changes.now read n chosen c.in_ok-_base._base c.in_ok-_base.octets.items next in
    migrated_opens shape o s d c.args.root c.args.version c.args.base.now c.args.changes.now read n chosen c.deref.result.now made.0
    (subst (λ (l : List ℕ). IsBaseOf (fresh shape o) (length o.versions - n) l (drop (length c.args.changes.now - n) c.args.changes.now)) (sym c.deref.ensures.value) is)
    (subst (λ (cs : List Change). IsTurned s c.deref.result.now cs made.0) (take_rest c.args.changes.now (length c.args.changes.now - n)) made.1) after to x by.opens by.tidy by.counted

pub returns-in_err-_base-clause-no_room : goal.returns-in_err-_base-clause-no_room
returns-in_err-_base-clause-no_room g c shape o s read wide =
    let d = g.D.Sectors.seen c.args.device.now in
    let fits = newest_fits shape o s d c.args.root c.args.version c.args.base.now c.args.changes.now read c.in-Some.kept (c.in-Some.ensures.chosen (drop o.base o.versions) (led shape o s d c.args.root c.args.version c.args.base.now c.args.changes.now read) (zones shape o s d c.args.root c.args.version c.args.base.now c.args.changes.now read)) in
    absurd (omega (arith, fits, wide))

pub returns-in_err-convert-clause-no_room : goal.returns-in_err-convert-clause-no_room
returns-in_err-convert-clause-no_room g c shape o s read wide =
    let d = g.D.Sectors.seen c.args.device.now in
    let fits = newest_fits shape o s d c.args.root c.args.version c.args.base.now c.args.changes.now read c.in-Some.kept (c.in-Some.ensures.chosen (drop o.base o.versions) (led shape o s d c.args.root c.args.version c.args.base.now c.args.changes.now read) (zones shape o s d c.args.root c.args.version c.args.base.now c.args.changes.now read)) in
    absurd (omega (arith, fits, wide))

pub returns-clause-no_room : goal.returns-clause-no_room
returns-clause-no_room g c shape o s read wide =
    let d = g.D.Sectors.seen c.args.device.now in
    let fits = newest_fits shape o s d c.args.root c.args.version c.args.base.now c.args.changes.now read c.in-Some.kept (c.in-Some.ensures.chosen (drop o.base o.versions) (led shape o s d c.args.root c.args.version c.args.base.now c.args.changes.now read) (zones shape o s d c.args.root c.args.version c.args.base.now c.args.changes.now read)) in
    absurd (omega (arith, fits, wide))
