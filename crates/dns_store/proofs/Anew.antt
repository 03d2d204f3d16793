-- What was read of a store of format 1, and what it is as it is migrated.
use Rattle.std.proofs.Common.{◌≡◌, ◌⊎◌, inl, inr, ⊎_elim, ℕ, ◌+◌, ◌-◌, ◌≤◌, ◌<◌, List, [], ◌∷◌, get_or, length, take, drop, refl, sym, ◌∙◌, ap, subst, arith, drop-drop}
use Rattle.std.proofs.lemmas.List.{length-drop, take_all}
use Rattle.std.specs.List.{flat_map}
use Rattle.dns_records.specs.Record.{Record, plain}
use Rattle.dns_zone.specs.Zone.{Zone}
use Rattle.dns_changes.specs.Change.{Change}
use Rattle.dns_sectors.specs.Device.{Content, LeavesOnly}
use Rattle.dns_sectors.specs.Crash.{Write, SomeApplied}
use Rattle.dns_sectors.specs.declared.device.Sectors.{Ghosts}
use Rattle.dns_sectors.proofs.Moments.{joined, weaker}
use Rattle.dns_layout.specs.Forms.{SaysRootIn}
use Rattle.dns_journal.specs.Reads.{OnlyReads}
use Rattle.dns_journal.specs.declared.read.Cursor.{Cursor}
use Rattle.dns_store.specs.Opening.{IsReadIn}
use Rattle.std.specs.Prelude.{replicate}
use Rattle.dns_layout.specs.Sector.{sector_at, tag, blank, root_tag, root_tag_in}
use Rattle.dns_store.specs.Formats.{IsFormat}
use Rattle.dns_store.specs.declared.device_format.DeviceFormat.{DeviceFormat}
use Rattle.dns_store.specs.declared.device_format.DeviceFormat.TheVariants as kinds
use Rattle.dns_layout.specs.Own.{NoneIntact}
use Rattle.dns_layout.specs.Store.{Sizes, Stored, OpensAs, OpensAsIn, OpensByIn, IsTidy, version_of}
use Rattle.dns_layout.specs.declared.format.Format.TheVariants.{One, Two}
use Rattle.dns_layout.specs.declared.root.Root.{Root}
use Rattle.dns_journal.specs.State.{IsOpenedTimes}
use Rattle.dns_journal.specs.Bank.{IsTurned}
use Rattle.dns_journal.specs.Converting.{StaysOrConverts}
use Rattle.dns_store.specs.Versions.{Versions, Shape, Opened, newest_after, moved_to}
use Rattle.dns_store.specs.Opens.{IsPartOf, IsPartOfIn, base_of, durable_part, fresh, opens, sizes_of}
use Rattle.dns_store.specs.Recovered.{AreLed}
use Rattle.dns_store.specs.Plain.{sectors_of_snapshot}
use Rattle.dns_store.specs.Checkpoint.{AllFit, AllZones, IsBaseOf, IsNextBase}
use Rattle.dns_store.specs.Choosing.{IsChosen, version_from}
use Rattle.dns_store.specs.Migrating.{IsMigrated, IsReadOld, StaysOrMigrates, MigratesAsPossible, old_opens}
use Rattle.dns_store.proofs.Places.{versions_behind}
use Rattle.dns_store.proofs.Moving.{fit_last, led_count, newest_on, part_turned}
use Rattle.dns_store.proofs.Lent.{led_take, led_drop, zones_of, zones_take}
use Rattle.dns_store.proofs.Opening.{stands_first}
use Rattle.dns_store.proofs.Entering.{unaltered}

pub one_choice : (s j : ℕ) (base : List Record) (vs : Versions) (n m : ℕ) → IsChosen s j base vs n → IsChosen s j base vs m → n ≡ m
one_choice s j base vs n m a b = omega (arith, a.most m b.may, b.most n a.may)

-- the newest version, from the base on
pub whole_newest : (o : Opened) → newest_after (base_of o) (drop o.base o.versions) ≡ newest_after o.loaded o.versions
whole_newest o =
    let vs = drop o.base o.versions in
    ap (λ (l : Versions). newest_after (base_of o) l) (sym (take_all (length vs) vs (omega arith))) ∙ newest_on o.loaded o.base (length vs) o.versions
    ∙ ap (λ (l : Versions). newest_after o.loaded l) (take_all (o.base + length vs) o.versions (omega (arith, length-drop o.base o.versions)))

-- what can be migrated has a newest version that fits
pub fits_not : (shape : Shape) (before after : Opened) → IsMigrated shape before after → shape.snapshot < sectors_of_snapshot (newest_after before.loaded before.versions) → ⊥
fits_not shape before after to wide =
    let vs = drop before.base before.versions in
    let last : version_from (base_of before) vs (length vs - 0) ≡ newest_after before.loaded before.versions =
    ap (λ (l : Versions). newest_after (base_of before) l) (take_all (length vs - 0) vs (omega arith)) ∙ whole_newest before in
    let fits = to.chosen.may.rooms 0 (omega arith) in
    omega (arith, wide, subst (λ (r : List Record). sectors_of_snapshot r ≤ shape.snapshot) last fits)

-- the same stored, with no sector altered
opens_unaltered : (s : Sizes) (c : Content) (k : Stored) → OpensAs s c k → OpensAs s c (record k { altered = [] })
opens_unaltered s c k (root, parts, by) = (
  root,
  parts,
  record {
    size = by.size;
    stands = by.stands;
    valid = by.valid;
    base = by.base;
    count = by.count;
    expected = by.expected;
    placed = by.placed;
    snapshot = by.snapshot;
    zeros = by.zeros;
    journal = by.journal;
    own = by.own;
  },
)

part_unaltered : (shape : Shape) (o : Opened) (s : Stored) (openings : ℕ) → IsPartOf shape o s → IsPartOf shape (record { loaded = o.loaded; versions = o.versions; base = o.base; openings = openings; altered = [] }) (record s { altered = [] })
part_unaltered shape o s openings part = record { number = part.number; so_far = part.so_far; valid = part.valid; snapshot = part.snapshot; changes = part.changes; altered = refl }

module _ (shape : Shape) (o : Opened) (s : Stored) (d : Content) (root : Root) (version : ℕ) (base : Zone) (changes : List Change) (read : IsReadOld shape o s d root version base changes) where
  abbrev vs : Versions
  vs = drop o.base o.versions

  records_are : base.records ≡ base_of o
  records_are = ap (λ (z : Zone). z.records) read.base_is

  pub led : AreLed base.records vs changes
  led = subst (λ (r : List Record). AreLed r vs changes) (sym records_are) read.led

  pub zones : AllZones base.apex vs
  zones =
      subst (λ a. AllZones a vs) (sym (ap (λ (z : Zone). z.apex) read.base_is))
      (zones_of One shape.apex shape.snapshot (base_of o) vs s.entries read.part.changes)

  pub long : length changes ≡ length vs
  long = led_count (base_of o) vs changes read.led

  behind : length vs ≡ length o.versions - o.base
  behind = length-drop o.base o.versions

  pub number : version_of s ≡ length o.versions
  number = omega (arith, versions_behind One shape.apex shape.snapshot s.base (base_of o) vs s.entries read.part.changes, read.part.number, read.part.so_far, behind)

  first : (parts : List (List ℕ)) × OpensByIn One (sizes_of shape) d (sector_at d 0) parts s
  first = stands_first One (sizes_of shape) d s read.opens

  snapshot_is : root.snapshot_room ≡ shape.snapshot
  snapshot_is = omega (arith, read.says.snapshot_room_is, first.1.valid.snapshot)

  journal_is : root.journal_room ≡ shape.journal
  journal_is = omega (arith, read.says.journal_room_is, first.1.valid.journal)

  -- how often it was opened
  pub openings : root.open_count ≡ o.openings
  openings = sym read.says.opened_is ∙ read.opened

  -- the newest version doesn't fit
  pub too_wide : root.snapshot_room < sectors_of_snapshot (newest_after base.records vs) → shape.snapshot < sectors_of_snapshot (newest_after o.loaded o.versions)
  too_wide wide =
      let newest : newest_after base.records vs ≡ newest_after o.loaded o.versions =
      ap (λ (r : List Record). newest_after r vs) records_are ∙ whole_newest o in
      omega (arith, snapshot_is, subst (λ (r : List Record). root.snapshot_room < sectors_of_snapshot r) newest wide)

  module _ (n : ℕ) (chosen : IsChosen root.snapshot_room root.journal_room base.records vs n) where
    abbrev gone : ℕ
    gone = length changes - n

    abbrev next : ℕ
    next = length o.versions - n

    pub choice : IsChosen shape.snapshot shape.journal (base_of o) vs n
    choice =
        subst (λ r. IsChosen shape.snapshot shape.journal r vs n) records_are
        (subst (λ j. IsChosen shape.snapshot j base.records vs n) journal_is (subst (λ m. IsChosen m root.journal_room base.records vs n) snapshot_is chosen))

    there : n ≤ length vs
    there = chosen.may.there

    -- The newest version fits.
    pub newest_fits : sectors_of_snapshot (newest_after o.loaded o.versions) ≤ shape.snapshot
    newest_fits =
        let last : version_from (base_of o) vs (length vs - 0) ≡ newest_after o.loaded o.versions =
        ap (λ (l : Versions). newest_after (base_of o) l) (take_all (length vs - 0) vs (omega arith)) ∙ whole_newest o in
        subst (λ (r : List Record). sectors_of_snapshot r ≤ shape.snapshot) last (choice.may.rooms 0 (omega arith))

    fit : AllFit shape.snapshot (drop next o.versions)
    fit =
        let position : length vs - n ≡ gone = omega (arith, long) in
        let sum : o.base + gone ≡ next = omega (arith, long, behind, there, read.part.so_far) in
        let rest : drop gone vs ≡ drop next o.versions = drop-drop gone o.base o.versions ∙ ap (λ m. drop m o.versions) sum in
        subst (AllFit shape.snapshot) (ap (λ m. drop m vs) position ∙ rest) (fit_last shape.snapshot (base_of o) vs n there choice.may.rooms)

    pub gone_led : AreLed base.records (take (length changes - n) vs) (take (length changes - n) changes)
    gone_led = led_take gone base.records vs changes led

    pub gone_zones : AllZones base.apex (take (length changes - n) vs)
    gone_zones = zones_take base.apex gone vs zones

    -- the version that the kept changes begin at fits
    pub base_fits : sectors_of_snapshot (newest_after base.records (take (length changes - n) vs)) ≤ root.snapshot_room
    base_fits =
        subst (λ m. sectors_of_snapshot (version_from base.records vs m) ≤ root.snapshot_room) (let e : length vs - n ≡ gone = omega (arith, long) in e) (chosen.may.rooms n (omega arith))

    -- Those octets are its snapshot.
    pub is_base : (zone : Zone) (octets : List ℕ) → IsNextBase base zone (take (length changes - n) vs) octets → IsBaseOf (fresh shape o) (length o.versions - n) octets (drop (length changes - n) changes)
    is_base zone octets is =
        let sum : o.base + gone ≡ next = omega (arith, long, behind, there, read.part.so_far) in
        let on : newest_after (base_of o) (take gone vs) ≡ newest_after o.loaded (take next o.versions) = newest_on o.loaded o.base gone o.versions ∙ ap (λ m. newest_after o.loaded (take m o.versions)) sum in
        let rest : drop gone vs ≡ drop next o.versions = drop-drop gone o.base o.versions ∙ ap (λ m. drop m o.versions) sum in
        record {
          later = omega (arith, sum);
          so_far = omega arith;
          octets_are = is.octets_are ∙ ap (λ (r : List Record). flat_map plain (newest_after r (take gone vs))) records_are ∙ ap (λ (r : List Record). flat_map plain r) on;
          led =
              subst (λ (r : List Record). AreLed r (drop next o.versions) (drop gone changes)) on
              (subst (λ (l : Versions). AreLed (newest_after (base_of o) (take gone vs)) l (drop gone changes)) rest (led_drop gone (base_of o) vs changes read.led));
        }

    -- how many changes are kept, and the number of the version that they begin at
    pub count_is : (m : ℕ) → m ≡ version - n → m + length (drop (length changes - n) changes) ≡ version_of s
    count_is m is = omega (arith, is, read.version_is, number, length-drop gone changes, long, behind, there, read.part.so_far)

    -- What is stored after the turn is what is migrated: no sector was altered.
    pub migrated : (octets : List ℕ) (new : Stored) → IsBaseOf (fresh shape o) (length o.versions - n) octets (drop (length changes - n) changes) → IsTurned s octets (drop (length changes - n) changes) new
        → (after : Opened) → IsMigrated shape o after → IsPartOf shape after (record new { altered = [] })
    migrated octets new is turned after to =
        let same : to.kept ≡ n = one_choice shape.snapshot shape.journal (base_of o) vs to.kept n to.chosen choice in
        let position : next ≡ after.base = omega (arith, to.base, same) in
        let part = part_turned One (fresh shape o) s new next octets (drop gone changes) read.part fit is turned in
        subst (λ (a : Opened). IsPartOf shape a (record new { altered = [] })) (λ i. record { loaded = sym to.loaded i; versions = sym to.versions i; base = position i; openings = after.openings; altered = sym to.altered i })
        (part_unaltered shape (durable_part (moved_to next (fresh shape o))) new after.openings part)

    -- it opens so
    pub migrated_opens : (octets : List ℕ) (new : Stored) → IsBaseOf (fresh shape o) (length o.versions - n) octets (drop (length changes - n) changes) → IsTurned s octets (drop (length changes - n) changes) new
        → (after : Opened) → IsMigrated shape o after → (c : Content) → OpensAs (sizes_of shape) c new → IsTidy (sizes_of shape) c → IsOpenedTimes (root.open_count + 1) c → opens shape after c
    migrated_opens octets new is turned after to c there tidy times = (
      subst (λ (ws : List Write). NoneIntact ws) (sym to.altered) tt,
      (
        c,
        subst (λ (ws : List Write). SomeApplied ws c c) (sym to.altered) refl,
        (
          record new { altered = [] },
          opens_unaltered (sizes_of shape) c new there,
          tidy,
          migrated octets new is turned after to,
          times ∙ ap (λ m. m + 1) openings ∙ sym to.openings,
        ),
      ),
    )

    -- A crash leaves what was read, or what is migrated.
    pub converted : (zone : Zone) (octets lent : List ℕ) (m : ℕ) → m ≡ version - n → lent ≡ octets → IsNextBase base zone (take (length changes - n) vs) octets → (c : Content)
        → StaysOrConverts root m lent (drop (length changes - n) changes) d c → old_opens shape o c ⊎ ((after : Opened) → IsMigrated shape o after → opens shape after c)
    converted zone octets lent m m_is lent_is is c stays = ⊎_elim
        (λ same. inl (s, same.0, read.part, same.1 ∙ openings))
        (λ turned. inr (λ after to.
        migrated_opens lent turned.0 (subst (λ (l : List ℕ). IsBaseOf (fresh shape o) next l (drop gone changes)) (sym lent_is) (is_base zone octets is)) turned.1 after to c turned.2 turned.3 turned.4))
        (stays (sizes_of shape) s (sector_at d 0) first.0 first.1 read.says (count_is m m_is))

    -- what `convert` is told
    pub told : (parts : List (List ℕ)) × OpensByIn One (sizes_of shape) d (sector_at d 0) parts s
    told = first

-- where nothing was written, it is held still
pub stays_old : (root : Root) (version : ℕ) (base : Zone) (changes : List Change) (d c : Content) → c ≡ d → StaysOrMigrates root version base changes d c
stays_old root version base changes d c is shape o s read = inl (s, subst (λ (x : Content). OpensAsIn One (sizes_of shape) x s) (sym is) read.opens, read.part, subst (λ (x : Content). IsOpenedTimes o.openings x) (sym is) read.opened)

tags_differ : root_tag_in Two ≡ root_tag_in One → ⊥
unfolding root_tag_in
tags_differ same =
    let letters : get_or {A = ℕ} (68 ∷ 80 ∷ 82 ∷ 50 ∷ []) 3 0 ≡ get_or {A = ℕ} (68 ∷ 80 ∷ 82 ∷ 49 ∷ []) 3 0 = ap (λ (l : List ℕ). get_or l 3 0) same in
    absurd (omega (arith, letters))

blank_differs : tag blank ≡ root_tag_in Two → ⊥
unfolding tag root_tag_in
blank_differs same =
    let letters : get_or {A = ℕ} (68 ∷ 80 ∷ 82 ∷ 50 ∷ []) 0 0 ≡ get_or {A = ℕ} (take 4 (replicate 512 0)) 0 0 = ap (λ (l : List ℕ). get_or l 0 0) (sym same) in
    absurd (omega (arith, letters))

-- it is format 2 by that tag alone
pub told_two : (x : List ℕ) → IsFormat x kinds.Two → tag x ≡ root_tag
told_two x is = is

pub told_other : (x : List ℕ) (f : DeviceFormat) → IsFormat x f → (f ≡ kinds.Two → ⊥) → tag x ≡ root_tag → ⊥
told_other x kinds.Blank is other tagged = blank_differs (sym (ap (λ (y : List ℕ). tag y) is) ∙ tagged)
told_other x kinds.One is other tagged = tags_differ (sym tagged ∙ is)
told_other x kinds.Two is other tagged = other refl
told_other x kinds.Other is other tagged = is.2 tagged

-- the root's tag tells the format
pub new_tag : (shape : Shape) (o : Opened) (c : Content) → opens shape o c × (o.altered ≡ []) → tag (sector_at c 0) ≡ root_tag
new_tag shape o c both = let is = unaltered shape o c both.0 both.1 in ap (λ (x : List ℕ). tag x) is.1.2.stands ∙ is.1.2.valid.tagged

pub old_tag : (shape : Shape) (o : Opened) (c : Content) → old_opens shape o c → tag (sector_at c 0) ≡ root_tag → ⊥
old_tag shape o c is new = tags_differ (sym new ∙ ap (λ (x : List ℕ). tag x) is.1.2.stands ∙ is.1.2.valid.tagged)

-- what was read, as it is told to what writes it anew
pub read_old : (shape : Shape) (o : Opened) (s : Stored) (e d : Content) (root : Root) (end : Cursor) (base : Zone) (changes : List Change) (newest : List Record) → e ≡ d
    → IsReadIn One (sizes_of shape) e o s root end base.records changes newest → base.apex ≡ shape.apex → OpensAsIn One (sizes_of shape) d s → IsPartOfIn One shape o s → IsOpenedTimes o.openings d → IsReadOld shape o s d root end.version base changes
read_old shape o s e d root end base changes newest same is apex opens part opened = record {
  opens = opens;
  part = part;
  opened = opened;
  says = subst (λ (x : Content). SaysRootIn One (sector_at x 0) root) same is.says;
  version_is = is.version_is;
  base_is = λ i. record { apex = apex i; records = is.base_is i };
  led = is.led;
}

module _ {D : Type 0} {g : Ghosts D} (shape : Shape) (old mid : D) (honest : g.is_honest old) (reads : OnlyReads g old mid) where
  pub reads_migrate : LeavesOnly g.moment g.left_since old mid (MigratesAsPossible g shape old)
  reads_migrate = weaker g.moment g.left_since old mid (g.may_leave old) (MigratesAsPossible g shape old) (reads.any_moment honest) (λ c left. (c, left, λ o is. is))

  module _ (new : D) (root : Root) (version : ℕ) (base : Zone) (changes : List Change) (left : g.may_leave old (g.seen old)) (not_new : tag (sector_at (g.seen old) 0) ≡ root_tag → ⊥)
      (read : (o : Opened) (s : Stored) → OpensAsIn One (sizes_of shape) (g.seen old) s → IsPartOfIn One shape o s → IsOpenedTimes o.openings (g.seen old) → IsReadOld shape o s (g.seen old) root version base changes) where
    read_there : (o : Opened) (s : Stored) → OpensAsIn One (sizes_of shape) (g.seen old) s → IsPartOfIn One shape o s → IsOpenedTimes o.openings (g.seen old) → IsReadOld shape o s (g.seen mid) root version base changes
    read_there o s is part opened = subst (λ (x : Content). IsReadOld shape o s x root version base changes) (sym (reads.seen honest)) (read o s is part opened)

    pub writes_migrate : LeavesOnly g.moment g.left_since mid new (StaysOrMigrates root version base changes (g.seen mid)) → LeavesOnly g.moment g.left_since old new (MigratesAsPossible g shape old)
    writes_migrate run =
        joined g.moment g.left_since old mid new (MigratesAsPossible g shape old) (StaysOrMigrates root version base changes (g.seen mid)) reads_migrate run
        (λ c stays. (
          g.seen old,
          left,
          λ o is. ⊎_elim
              (λ there_new. absurd (not_new (new_tag shape o (g.seen old) there_new)))
              (λ was. ⊎_elim (λ same. inr (was.0, same, was.2)) (λ becomes. inl (becomes o was.2, was.2.altered)) (stays shape was.0 was.1.0 (read_there was.0 was.1.0 was.1.1 was.1.2 was.1.3)))
              is,
        ))
