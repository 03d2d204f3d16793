-- The sector that is named where a store is not read.
use Rattle.std.proofs.Common.{inl, inr, ⊎_elim, ◌⊎◌, ◌≡◌, ◌≤◌, ℕ, ◌+◌, List, [], ◌∷◌, ◌++◌, refl, sym, ◌∙◌, ap, subst, arith}
use Rattle.std.specs.List.{flat_map}
use Rattle.dns_names.specs.Name.{Labels}
use Rattle.dns_records.specs.Record.{Record, plain}
use Rattle.dns_zone.specs.Zone.{IsZone}
use Rattle.dns_changes.specs.Change.{Change, IsChange}
use Rattle.dns_changes.specs.Entry.{HasEntry, entry}
use Rattle.dns_sectors.specs.Device.{Content}
use Rattle.dns_layout.specs.Sector.{sector_at}
use Rattle.dns_layout.specs.Own.{IsIntactIn}
use Rattle.dns_layout.specs.Forms.{SaysRootIn}
use Rattle.dns_layout.specs.Store.{Sizes}
use Rattle.dns_layout.specs.declared.format.Format.{Format}
use Rattle.dns_layout.specs.declared.root.Root.{Root}
use Rattle.dns_journal.specs.Reads.{FindsEntry, IsRefusal, NamesSpoilt, IsThat}
use Rattle.dns_journal.specs.declared.read.Cursor.{Cursor}
use Rattle.dns_journal.specs.declared.read.ReadError.{ReadError}
use Rattle.dns_store.specs.declared.root.OpenError.{OpenError}
use Rattle.dns_store.specs.Root.{open_error, RootRefusalIn}
use Rattle.dns_store.specs.Versions.{Shape}
use Rattle.dns_store.specs.Plain.{sectors_of_snapshot_in}
use Rattle.dns_store.specs.Snapshot.{HoldsSnapshotIn, IsBadSnapshotIn, IsNoSnapshot}
use Rattle.dns_store.specs.Damage.{NamesSector, NamesSpoiltIn, ReadChange, IsStepAtIn, AreStepsIn, NamesWrongEntryIn, NamesWrongIn, bank_at}

-- what reading one sector or one entry says, as opening says it
pub spoilt_named : (f : Format) (d : Content) (from until : ℕ) (e : ReadError) (r : OpenError) → r ≡ open_error e → NamesSpoilt f d from until e → (r ≡ OpenError.Device) ⊎ (r ≡ OpenError.OutOfMemory) ⊎ NamesSpoiltIn f d from until r
spoilt_named f d from until ReadError.Device r is spoilt = inl is
spoilt_named f d from until (ReadError.Damaged position) r is spoilt = inr (inr (subst (λ (q : OpenError). NamesSpoiltIn f d from until q) (sym is) spoilt))
spoilt_named f d from until ReadError.OutOfMemory r is spoilt = inr (inl is)

pub of_memory : (e : ReadError) → open_error e ≡ OpenError.OutOfMemory → e ≡ ReadError.OutOfMemory
of_memory ReadError.Device is = absurd cc
of_memory (ReadError.Damaged position) is = absurd cc
of_memory ReadError.OutOfMemory is = refl

pub sector_named : (position : ℕ) (e : ReadError) (r : OpenError) → r ≡ open_error e → IsThat position e → NamesSector position r
sector_named position e r is (inl failed) = inl (is ∙ ap open_error failed)
sector_named position e r is (inr (inl memory)) = inr (inl (is ∙ ap open_error memory))
sector_named position e r is (inr (inr that)) = inr (inr (is ∙ ap open_error that))

module _ (f : Format) where
  -- in a wider range
  pub named_within : (d : Content) (low from until high : ℕ) (r : OpenError) → low ≤ from → until ≤ high → NamesSpoiltIn f d from until r → NamesSpoiltIn f d low high r
  named_within d low from until high OpenError.Device a b s = s
  named_within d low from until high OpenError.Blank a b s = s
  named_within d low from until high (OpenError.Damaged position) a b s = record { first = omega (arith, a, s.first); last = omega (arith, b, s.last); spoilt = s.spoilt }
  named_within d low from until high OpenError.Geometry a b s = s
  named_within d low from until high OpenError.OutOfMemory a b s = s

  pub one_more : (apex : Labels) (room : ℕ) (c : Content) (from : Cursor) (base : List Record) (steps : List ReadChange) (at : Cursor) (newest : List Record) (s : ReadChange)
      → AreStepsIn f apex room c from base steps at newest
      → IsStepAtIn f apex room c at newest s
      → AreStepsIn f apex room c from base (steps ++ s ∷ []) s.behind s.after
  one_more apex room c from base [] at newest s read next =
      (subst (λ (r : List Record). IsStepAtIn f apex room c from r s) read.1 (subst (λ (k : Cursor). IsStepAtIn f apex room c k newest s) read.0 next), (refl, refl))
  one_more apex room c from base (t ∷ steps) at newest s read next = (read.0, one_more apex room c t.behind t.after steps at newest s read.1 next)

  -- what reading an entry refuses
  pub refusal_named : (apex : Labels) (room : ℕ) (base : List Record) (from : Cursor) (c : Content) (steps : List ReadChange) (at : Cursor) (newest : List Record)
      → AreStepsIn f apex room c from base steps at newest
      → (low high : ℕ) → low ≤ at.at → at.until ≤ high
      → (e : ReadError) (r : OpenError)
      → r ≡ open_error e
      → NamesSpoilt f c at.at at.until e ⊎ IsRefusal f at c e
      → NamesSpoiltIn f c low high r ⊎ NamesWrongEntryIn f apex room base from c r
  refusal_named apex room base from c steps at newest read low high a b ReadError.Device r is wrong = inr (subst (λ (q : OpenError). NamesWrongEntryIn f apex room base from c q) (sym is) tt)
  refusal_named apex room base from c steps at newest read low high a b (ReadError.Damaged position) r is (inl spoilt) =
      inl (named_within c low at.at at.until high r a b (subst (λ (q : OpenError). NamesSpoiltIn f c at.at at.until q) (sym is) spoilt))
  refusal_named apex room base from c steps at newest read low high a b (ReadError.Damaged position) r is (inr wrong) =
      inr (subst (λ (q : OpenError). NamesWrongEntryIn f apex room base from c q) (sym is)
      (record { steps = steps; at = at; newest = newest; read = read; wrong = inl wrong }))
  refusal_named apex room base from c steps at newest read low high a b ReadError.OutOfMemory r is wrong = inr (subst (λ (q : OpenError). NamesWrongEntryIn f apex room base from c q) (sym is) tt)

  -- an entry that was read and holds no change
  pub fault_named : (apex : Labels) (room : ℕ) (base : List Record) (from : Cursor) (c : Content) (steps : List ReadChange) (at behind : Cursor) (newest : List Record) (octets : List ℕ) (head : ℕ)
      → AreStepsIn f apex room c from base steps at newest
      → FindsEntry f at behind c octets
      → head ≡ at.at
      → (r : OpenError)
      → ((after : List Record) (d : Change) → IsChange newest after d → HasEntry d → entry d ≡ octets → IsZone (record { apex = apex; records = after }) → sectors_of_snapshot_in f after ≤ room → r ≡ OpenError.OutOfMemory)
      → (r ≡ OpenError.OutOfMemory) ⊎ (r ≡ OpenError.Damaged head)
      → NamesWrongEntryIn f apex room base from c r
  fault_named apex room base from c steps at behind newest octets head read found position r only told =
      ⊎_elim
      (λ (memory : r ≡ OpenError.OutOfMemory). subst (λ (q : OpenError). NamesWrongEntryIn f apex room base from c q) (sym memory) tt)
      (λ (damaged : r ≡ OpenError.Damaged head).
      subst (λ (q : OpenError). NamesWrongEntryIn f apex room base from c q) (sym damaged)
      (record {
        steps = steps;
        at = at;
        newest = newest;
        read = read;
        wrong = inr (record {
          place_is = position;
          octets = octets;
          behind = behind;
          found = found;
          none = λ after d leads written is valid fits. let both : OpenError.OutOfMemory ≡ OpenError.Damaged head = sym (only after d leads written is valid fits) ∙ damaged in absurd cc;
        });
      }))
      told

  -- what the first sector is refused for
  pub root_named : (s : Shape) (c : Content) (sizes : Sizes) (count : ℕ) (r : OpenError) → (r ≡ OpenError.Device) ⊎ NamesSpoiltIn f c 0 1 r ⊎ RootRefusalIn f sizes count (sector_at c 0) r → NamesWrongIn f s c r
  root_named s c sizes count OpenError.Device why = tt
  root_named s c sizes count OpenError.Blank why = tt
  root_named s c sizes count (OpenError.Damaged position) (inl failed) = absurd cc
  root_named s c sizes count (OpenError.Damaged position) (inr (inl spoilt)) =
      let first : position ≡ 0 = omega (arith, spoilt.last) in
      inl (first, λ sound. spoilt.spoilt (subst (λ n. IsIntactIn f n (sector_at c n)) (sym first) sound.own))
  root_named s c sizes count (OpenError.Damaged position) (inr (inr is)) = inl (is.0, is.2)
  root_named s c sizes count OpenError.Geometry why = tt
  root_named s c sizes count OpenError.OutOfMemory why = tt

  module _ (s : Shape) (c : Content) (root : Root) (says : SaysRootIn f (sector_at c 0) root) (at : ℕ) (at_is : at ≡ bank_at s root) where
    -- a sector of the bank that isn't intact
    bank_named : (from until : ℕ) → at ≤ from → until ≤ at + s.snapshot + s.journal → (r : OpenError) → NamesSpoiltIn f c from until r → NamesWrongIn f s c r
    bank_named from until a b OpenError.Device spoilt = tt
    bank_named from until a b OpenError.Blank spoilt = tt
    bank_named from until a b (OpenError.Damaged position) spoilt =
        inr (root, says, inl (record { first = omega (arith, a, at_is, spoilt.first); last = omega (arith, b, at_is, spoilt.last); spoilt = spoilt.spoilt }))
    bank_named from until a b OpenError.Geometry spoilt = tt
    bank_named from until a b OpenError.OutOfMemory spoilt = tt

    pub snapshot_named : (size : ℕ) → size ≤ s.snapshot → (e : ReadError) (r : OpenError) → r ≡ open_error e → NamesSpoilt f c at (at + size) e ⊎ IsBadSnapshotIn f (sector_at c 0) at c e → NamesWrongIn f s c r
    snapshot_named size le ReadError.Device r is bad = subst (λ (q : OpenError). NamesWrongIn f s c q) (sym is) tt
    snapshot_named size le (ReadError.Damaged position) r is (inl spoilt) =
        bank_named at (at + size) (omega arith) (omega (arith, le)) r (subst (λ (q : OpenError). NamesSpoiltIn f c at (at + size) q) (sym is) spoilt)
    snapshot_named size le (ReadError.Damaged position) r is (inr bad) =
        subst (λ (q : OpenError). NamesWrongIn f s c q) (sym is)
        (inr (root, says, inr (inl (subst (λ n. IsBadSnapshotIn f (sector_at c 0) n c (ReadError.Damaged position)) at_is bad))))
    snapshot_named size le ReadError.OutOfMemory r is bad = subst (λ (q : OpenError). NamesWrongIn f s c q) (sym is) tt

    -- octets that are no zone's
    pub zone_named : (octets : List ℕ) → HoldsSnapshotIn f (sector_at c 0) at c octets → (r : OpenError) → (r ≡ OpenError.OutOfMemory) ⊎ (r ≡ OpenError.Damaged at) → (r ≡ OpenError.OutOfMemory) ⊎ IsNoSnapshot s.apex octets
        → NamesWrongIn f s c r
    zone_named octets holds r (inl memory) why = subst (λ (q : OpenError). NamesWrongIn f s c q) (sym memory) tt
    zone_named octets holds r (inr damaged) (inl memory) = let both : OpenError.OutOfMemory ≡ OpenError.Damaged at = sym memory ∙ damaged in absurd cc
    zone_named octets holds r (inr damaged) (inr none) =
        subst (λ (q : OpenError). NamesWrongIn f s c q) (sym damaged)
        (inr (root, says, inr (inr (inl (record { place_is = at_is; octets = octets; holds = subst (λ n. HoldsSnapshotIn f (sector_at c 0) n c octets) at_is holds; none = none })))))

    -- what the entries are refused for
    pub journal_named : (base : List Record) → HoldsSnapshotIn f (sector_at c 0) at c (flat_map plain base) → IsZone (record { apex = s.apex; records = base }) → (r : OpenError)
        → NamesSpoiltIn f c (at + s.snapshot) (at + s.snapshot + s.journal) r ⊎ NamesWrongEntryIn f s.apex s.snapshot base (record { at = at + s.snapshot; until = at + s.snapshot + s.journal; version = root.base; opened = root.bank_open }) c r → NamesWrongIn f s c r
    journal_named base holds valid OpenError.Device wrong = tt
    journal_named base holds valid OpenError.Blank wrong = tt
    journal_named base holds valid (OpenError.Damaged position) (inl spoilt) =
        bank_named (at + s.snapshot) (at + s.snapshot + s.journal) (omega arith) (omega arith) (OpenError.Damaged position) spoilt
    journal_named base holds valid (OpenError.Damaged position) (inr wrong) =
        inr (
          root,
          says,
          inr (inr (inr (record {
            base = base;
            holds = subst (λ n. HoldsSnapshotIn f (sector_at c 0) n c (flat_map plain base)) at_is holds;
            valid = valid;
            wrong = subst (λ n. NamesWrongEntryIn f s.apex s.snapshot base (record { at = n + s.snapshot; until = n + s.snapshot + s.journal; version = root.base; opened = root.bank_open }) c (OpenError.Damaged position)) at_is wrong;
          }))),
        )
    journal_named base holds valid OpenError.Geometry wrong = tt
    journal_named base holds valid OpenError.OutOfMemory wrong = tt
