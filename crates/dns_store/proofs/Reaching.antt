-- Where a sector of a store is reached, all that is read before it is there.
use Rattle.std.proofs.Common.{◌≡◌, ◌⊎◌, inl, inr, ⊎_elim, ℕ, ◌+◌, ◌*◌, ◌-◌, List, length, refl, sym, ◌∙◌, ap, subst, arith}
use Rattle.std.specs.List.{flat_map}
use Rattle.dns_records.specs.Record.{Record, plain}
use Rattle.dns_zone.specs.Zone.{IsZone}
use Rattle.dns_sectors.specs.Device.{Content}
use Rattle.dns_layout.specs.Apex.{IsPlainApex}
use Rattle.dns_layout.specs.Sector.{sector_at}
use Rattle.dns_layout.specs.Own.{IsIntactIn}
use Rattle.dns_layout.specs.Forms.{SaysRootIn, bank_number}
use Rattle.dns_layout.specs.declared.format.Format.{Format}
use Rattle.dns_layout.specs.declared.root.Root.{Root}
use Rattle.dns_journal.specs.Reads.{NamesSpoilt, AreIntact}
use Rattle.dns_journal.specs.declared.read.Cursor.{Cursor}
use Rattle.dns_journal.specs.declared.read.ReadError.{ReadError}
use Rattle.dns_store.specs.declared.root.OpenError.{OpenError}
use Rattle.dns_store.specs.Versions.{Shape}
use Rattle.dns_store.specs.Opens.{sizes_of}
use Rattle.dns_store.specs.Root.{open_error, RootRefusalIn, IsFoundRootIn}
use Rattle.dns_store.specs.Snapshot.{parts_in, HoldsSnapshotIn, IsBadSnapshotIn, IsReachedPartIn}
use Rattle.dns_store.specs.Damage.{NamesSector, NamesSpoiltIn, IsReachedEntryIn, IsReachedBankIn, bank_at, journal_from}
use Rattle.dns_store.proofs.Opening.{not_blank}
use Rattle.dns_store.proofs.Parts.{part_held}

-- The snapshot that is at this position is a zone's and intact, and the sector is reached from the cursor on.
pub record Behind (f : Format) (s : Shape) (x : List ℕ) (at : ℕ) (from : Cursor) (d : Content) (position : ℕ) : Type 0 where
  pub base : List Record
  pub holds : HoldsSnapshotIn f x at d (flat_map plain base)
  pub own : AreIntact f d at (parts_in f x)
  pub valid : IsZone (record { apex = s.apex; records = base })
  pub reached : IsReachedEntryIn f s.apex s.snapshot base from d position

abbrev pub Reaches : Format → Shape → List ℕ → ℕ → Cursor → Content → ℕ → Type 0
Reaches f s x at from d position = ((index : ℕ) × (position ≡ at + index) × IsReachedPartIn f x at d index) ⊎ Behind f s x at from d position

module _ (f : Format) (s : Shape) (d : Content) (r : Root) (found : IsFoundRootIn f (sizes_of s) (length d) (sector_at d 0) r) where
  -- where the bank is read that the root names
  pub reaches : (root : Root) → SaysRootIn f (sector_at d 0) root → (n : ℕ) → n ≡ bank_number root.bank → (position : ℕ) → IsReachedBankIn f s (sector_at d 0) r d position
      → Reaches f s (sector_at d 0) (1 + n * (s.snapshot + s.journal)) (record { at = 1 + n * (s.snapshot + s.journal) + s.snapshot; until = 1 + n * (s.snapshot + s.journal) + s.snapshot + s.journal; version = root.base; opened = root.bank_open }) d position
  reaches root says n is position there =
      let x = sector_at d 0 in
      let at : bank_at s r ≡ 1 + n * (s.snapshot + s.journal) = ap (λ b. 1 + b * (s.snapshot + s.journal)) (sym found.says.bank_is ∙ says.bank_is ∙ sym is) in
      let from : journal_from s r ≡ record { at = 1 + n * (s.snapshot + s.journal) + s.snapshot; until = 1 + n * (s.snapshot + s.journal) + s.snapshot + s.journal; version = root.base; opened = root.bank_open } =
      λ i. record { at = at i + s.snapshot; until = at i + s.snapshot + s.journal; version = (sym found.says.base_is ∙ says.base_is) i; opened = (sym found.says.bank_open_is ∙ says.bank_open_is) i } in
      ⊎_elim (λ part. inl (part.0, part.1 ∙ ap (λ n. n + part.0) at, subst (λ n. IsReachedPartIn f x n d part.0) at part.2))
      (λ behind. inr (record {
        base = behind.base;
        holds = subst (λ n. HoldsSnapshotIn f x n d (flat_map plain behind.base)) at behind.holds;
        own = subst (λ n. AreIntact f d n (parts_in f x)) at behind.own;
        valid = behind.valid;
        reached = subst (λ (k : Cursor). IsReachedEntryIn f s.apex s.snapshot behind.base k d position) from behind.reached;
      })) there

  -- the root isn't refused
  pub root_reached : IsPlainApex (sizes_of s).apex → (position : ℕ) → (e : OpenError) → (e ≡ OpenError.Device) ⊎ NamesSpoiltIn f d 0 1 e ⊎ RootRefusalIn f (sizes_of s) (length d) (sector_at d 0) e → NamesSector position e
  root_reached plain position e (inl failed) = inl failed
  root_reached plain position OpenError.Device (inr why) = inl refl
  root_reached plain position OpenError.Blank (inr (inl spoilt)) = absurd spoilt
  root_reached plain position OpenError.Blank (inr (inr is)) = absurd (not_blank f (sector_at d 0) found.valid.tagged is)
  root_reached plain position (OpenError.Damaged n) (inr (inl spoilt)) =
      let first : n ≡ 0 = omega (arith, spoilt.last) in
      absurd (spoilt.spoilt (subst (λ m. IsIntactIn f m (sector_at d m)) (sym first) found.own))
  root_reached plain position (OpenError.Damaged n) (inr (inr is)) =
      absurd
      (is.2
      (record {
        own = found.own;
        tagged = found.valid.tagged;
        bank = found.valid.bank;
        clear = found.valid.clear;
        name = (sizes_of s).apex;
        plain = plain;
        apex = found.valid.apex;
        fits = omega (arith, found.valid.fits, found.valid.snapshot);
        more = found.more;
      }))
  root_reached plain position OpenError.Geometry (inr (inl spoilt)) = absurd spoilt
  root_reached plain position OpenError.Geometry (inr (inr is)) = absurd (is.1 found.valid found.size)
  root_reached plain position OpenError.OutOfMemory (inr why) = inr (inl refl)

-- nor is the snapshot
pub snapshot_reached : (f : Format) (d : Content) (x : List ℕ) (at : ℕ) (octets : List ℕ) → HoldsSnapshotIn f x at d octets → AreIntact f d at (parts_in f x) → (size : ℕ) → size ≡ parts_in f x → (position : ℕ) → (e : ReadError) (r : OpenError) → r ≡ open_error e
    → NamesSpoilt f d at (at + size) e ⊎ IsBadSnapshotIn f x at d e → NamesSector position r
snapshot_reached f d x at octets holds own size size_is position ReadError.Device r is why = inl is
snapshot_reached f d x at octets holds own size size_is position (ReadError.Damaged n) r is (inl spoilt) =
    let there : at + (n - at) ≡ n = omega (arith, spoilt.first) in
    absurd (spoilt.spoilt (subst (λ m. IsIntactIn f m (sector_at d m)) there (own (n - at) (omega (arith, spoilt.first, spoilt.last, size_is)))))
snapshot_reached f d x at octets holds own size size_is position (ReadError.Damaged n) r is (inr (inl part)) = absurd (part_held f x at d octets holds n part)
snapshot_reached f d x at octets holds own size size_is position (ReadError.Damaged n) r is (inr (inr tail)) = absurd (tail.wrong holds.zeros)
snapshot_reached f d x at octets holds own size size_is position ReadError.OutOfMemory r is why = inr (inl is)
