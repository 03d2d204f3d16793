-- What opening leaves of the device.
use Rattle.std.proofs.Common.{◌≡◌, ◌⊎◌, inl, inr, ⊎_elim, ℕ, ◌+◌, List, [], length, drop, refl, sym, ◌∙◌, ap, subst, arith}
use Rattle.std.proofs.lemmas.List.{length-drop}
use Rattle.dns_sectors.specs.Device.{Content, LeavesOnly}
use Rattle.dns_sectors.specs.Crash.{Write, SomeApplied}
use Rattle.dns_sectors.specs.declared.device.Sectors.{Ghosts}
use Rattle.dns_sectors.proofs.Moments.{joined, weaker}
use Rattle.dns_layout.specs.Sector.{sector_at}
use Rattle.dns_layout.specs.Own.{NoneIntact}
use Rattle.dns_layout.specs.Forms.{SaysRoot}
use Rattle.dns_layout.specs.Store.{Stored, OpensAs, IsTidy, version_of}
use Rattle.dns_layout.specs.declared.root.Root.{Root}
use Rattle.dns_layout.specs.declared.format.Format.{Format}
use Rattle.dns_layout.specs.declared.format.Format.TheVariants.{Two}
use Rattle.dns_journal.specs.Reads.{OnlyReads}
use Rattle.dns_journal.specs.State.{IsOpenedTimes}
use Rattle.dns_store.specs.Versions.{Shape, Opened, opened_again}
use Rattle.dns_store.specs.Opens.{IsPartOf, base_of, opens, sizes_of}
use Rattle.dns_store.specs.Damage.{NamesAlteredIn}
use Rattle.dns_store.specs.declared.root.OpenError.{OpenError}
use Rattle.dns_store.specs.declared.root.OpenError.TheVariants as errors
use Rattle.dns_store.proofs.Altered.{other_one}
use Rattle.dns_store.proofs.Leaves.{part_opened}
use Rattle.dns_store.proofs.Places.{versions_behind}
use Rattle.dns_store.specs.Opening.{OpensAsPossible, IsNotReopened, IsNotOpenedAs, NamesInUse, NamesUsedIn, RefusesAltered}
use Rattle.dns_store.specs.Turn.{StaysStored}
use Rattle.dns_store.proofs.Opening.{stands_first}

-- what is stored may have been altered where what it opens as may
pub altered_there : (shape : Shape) (o : Opened) (s : Stored) (c d e : Content) → IsPartOf shape o s → e ≡ d → SomeApplied o.altered c d → SomeApplied s.altered c e
altered_there shape o s c d e part same some =
    subst (λ (ws : List Write). SomeApplied ws c e) (sym part.altered) (subst (λ (x : Content). SomeApplied o.altered c x) (sym same) some)

pub spoilt_there : (shape : Shape) (o : Opened) (s : Stored) → IsPartOf shape o s → NoneIntact o.altered → NoneIntact s.altered
spoilt_there shape o s part spoilt = subst (λ (ws : List Write). NoneIntact ws) (sym part.altered) spoilt

-- what opens so with no sector altered
pub unaltered : (shape : Shape) (o : Opened) (d : Content) → opens shape o d → o.altered ≡ []
    → (s : Stored) × OpensAs (sizes_of shape) d s × IsTidy (sizes_of shape) d × IsPartOf shape o s × IsOpenedTimes o.openings d
unaltered shape o d (spoilt, (c, some, is)) none =
    let same : d ≡ c = subst (λ (ws : List Write). SomeApplied ws c d) none some in
    subst (λ (x : Content). (s : Stored) × OpensAs (sizes_of shape) x s × IsTidy (sizes_of shape) x × IsPartOf shape o s × IsOpenedTimes o.openings x) (sym same) is

module _ {D : Type 0} {g : Ghosts D} (shape : Shape) (old mid : D) (honest : g.is_honest old) (reads : OnlyReads g old mid) where
  pub read_leaves : LeavesOnly g.moment g.left_since old mid (OpensAsPossible g shape old)
  read_leaves = weaker g.moment g.left_since old mid (g.may_leave old) (OpensAsPossible g shape old) (reads.any_moment honest) (λ c left. (c, left, λ o is. inl is))

  -- the root that was read is raised
  pub raise_leaves : (new : D) (root : Root) → g.may_leave old (g.seen old)
      → ((o : Opened) (s : Stored) (c : Content) → NoneIntact o.altered → SomeApplied o.altered c (g.seen old) → OpensAs (sizes_of shape) c s → IsPartOf shape o s → SaysRoot (sector_at c 0) root)
      → LeavesOnly g.moment g.left_since mid new (StaysStored (g.seen mid) root)
      → LeavesOnly g.moment g.left_since old new (OpensAsPossible g shape old)
  raise_leaves new root left says run =
      joined g.moment g.left_since old mid new (OpensAsPossible g shape old) (StaysStored (g.seen mid) root) read_leaves run
      (λ e stays. (g.seen old, left, λ o is. still o e stays is.0 is.1.0 is.1.1 is.1.2.0 is.1.2.1 is.1.2.2 is.1.2.3 is.1.2.4))
    where
      still : (o : Opened) (e : Content) → StaysStored (g.seen mid) root e → NoneIntact o.altered → (c : Content) → SomeApplied o.altered c (g.seen old) → (s : Stored) → OpensAs (sizes_of shape) c s → IsTidy (sizes_of shape) c → IsPartOf shape o s
          → IsOpenedTimes o.openings c → opens shape o e ⊎ opens shape (opened_again o) e
      still o e stays spoilt c some s is tidy part times =
          let there = stands_first Two (sizes_of shape) c s is in
          let now = stays (sizes_of shape) s (sector_at c 0) there.0 (c, altered_there shape o s c (g.seen old) (g.seen mid) part (reads.seen honest) some, (there.1, tidy)) (says o s c spoilt some is part) in
          let over = subst (λ (ws : List Write). SomeApplied ws now.0 e) part.altered now.1 in
          ⊎_elim (λ same. inl (spoilt, (now.0, over, (s, now.2.0, now.2.1, part, same ∙ times))))
          (λ more. inr (spoilt, (now.0, over, (s, now.2.0, now.2.1, part_opened shape o (o.openings + 1) s part, more ∙ ap (λ n. n + 1) times)))) now.2.2

-- of a device that wasn't altered no altered sector is named
pub none_altered : (f : Format) (shape : Shape) (n : ℕ) (c : Content) (e : OpenError) → IsNotReopened n e ⊎ (NamesAlteredIn f c c e × NamesUsedIn f shape c e) → IsNotReopened n e
none_altered f shape n c e (inl stopped) = stopped
none_altered f shape n c errors.Device (inr (named, used)) = absurd named
none_altered f shape n c errors.Blank (inr (named, used)) = absurd named
none_altered f shape n c (errors.Damaged position) (inr (named, used)) = absurd (named.other refl)
none_altered f shape n c errors.Geometry (inr (named, used)) = absurd named
none_altered f shape n c errors.OutOfMemory (inr (named, used)) = absurd named

-- What is named is one of the altered sectors, as it stands.
pub in_use : (shape : Shape) (o : Opened) (c d : Content) (e : OpenError) → SomeApplied o.altered c d → NamesAlteredIn Two c d e → NamesUsedIn Two shape d e → NamesInUse shape o d e
in_use shape o c d errors.Device some named used = absurd named
in_use shape o c d errors.Blank some named used = absurd named
in_use shape o c d (errors.Damaged position) some named used = (other_one o.altered c d position some named.other, used)
in_use shape o c d errors.Geometry some named used = absurd named
in_use shape o c d errors.OutOfMemory some named used = absurd named

pub not_opened : (shape : Shape) (o : Opened) (c d : Content) (e : OpenError) → SomeApplied o.altered c d → IsOpenedTimes o.openings c → RefusesAltered Two shape c d e → IsNotOpenedAs shape o d e
not_opened shape o c d e some times (inl stopped) = inl (subst (λ n. IsNotReopened n e) times stopped)
not_opened shape o c d e some times (inr (named, used)) = inr (in_use shape o c d e some named used)

-- the number of the newest version
pub newest_number : (shape : Shape) (o : Opened) (s : Stored) → IsPartOf shape o s → version_of s ≡ length o.versions
newest_number shape o s part =
    omega (arith, versions_behind Two shape.apex shape.snapshot s.base (base_of o) (drop o.base o.versions) s.entries part.changes, part.number, part.so_far, length-drop o.base o.versions)
