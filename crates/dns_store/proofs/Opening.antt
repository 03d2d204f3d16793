-- What is read of a store that is there.
use Rattle.std.proofs.Common.{◌≡◌, inl, inr, ⊎_elim, ℕ, ◌+◌, ◌*◌, ◌-◌, ◌^◌, ◌≤◌, ◌<◌, List, [], ◌∷◌, ◌++◌, length, take, replicate, refl, sym, ◌∙◌, ap, subst, arith, append_assoc, ◌⊎◌}
use Rattle.std.specs.Prelude.{get_or}
use Rattle.std.proofs.lemmas.Bool.{cases_lt}
use Rattle.std.specs.List.{AllByRecursion}
use Rattle.dns_names.specs.Name.{Labels, IsName, IsLabel as IsLower, wire}
use Rattle.dns_names.specs.PlainLaws.{wire_lower}
use Rattle.dns_sectors.specs.Device.{Content}
use Rattle.dns_layout.specs.Apex.{HasLabelLength, IsPlainApex, labels_plain}
use Rattle.dns_layout.specs.Sector.{blank, tag, root_tag_in, digit_in, sector_at, open_count, number}
use Rattle.dns_layout.specs.Own.{IsIntactIn}
use Rattle.dns_layout.specs.Forms.{SaysRootIn, bank_number}
use Rattle.dns_layout.specs.Journal.{ReadsIn}
use Rattle.dns_layout.specs.Store.{Sizes, Stored, IsRootIn, OpensByIn, OpensAsIn, snapshot_place, journal_place, bank_end, all_sectors}
use Rattle.dns_layout.specs.declared.format.Format.{Format}
use Rattle.dns_layout.specs.declared.format.Format.TheVariants.{One, Two}
use Rattle.dns_layout.specs.declared.root.Root.{Root}
use Rattle.dns_journal.specs.declared.read.ReadError.{ReadError}
use Rattle.dns_journal.specs.declared.read.Cursor.{Cursor}
use Rattle.dns_journal.specs.Reads.{ReadsFrom, NamesSpoilt}
use Rattle.dns_journal.proofs.Altered.{spoilt_altered, names_altered}
use Rattle.dns_store.specs.declared.root.OpenError.{OpenError}
use Rattle.dns_store.specs.declared.root.OpenError.TheVariants.{Device, Blank, Damaged, Geometry, OutOfMemory}
use Rattle.dns_store.specs.Root.{RootRefusalIn, open_error, IsFoundRootIn, OpenRefusalIn, IsOfBank}
use Rattle.dns_store.specs.Snapshot.{IsBadSnapshotIn}
use Rattle.dns_store.specs.Versions.{Shape}
use Rattle.dns_store.specs.Opening.{NamesUsedIn, RefusesAltered}
use Rattle.dns_store.specs.Damage.{NamesSpoiltIn, NamesAlteredIn, bank_at, bank_until}
use Rattle.dns_store.proofs.Parts.{no_wrong_part, no_wrong_tail}

labels_are : (name : Labels) → AllByRecursion IsLower name → AllByRecursion HasLabelLength name
labels_are [] all = tt
labels_are (l ∷ rest) all = (record { some = all.0.some; short = all.0.short }, labels_are rest all.1)

wire_is : (name : Labels) → wire name ≡ labels_plain name ++ 0 ∷ []
wire_is [] = refl
wire_is (l ∷ rest) = ap (λ (xs : List ℕ). length l ∷ (l ++ xs)) (wire_is rest) ∙ ap (λ (xs : List ℕ). length l ∷ xs) (sym (append_assoc l (labels_plain rest) (0 ∷ [])))

pub plain_name : (name : Labels) → IsName name → IsPlainApex (wire name)
plain_name name is = record { name = name; labels = labels_are name is.labels; is = wire_is name; short = is.short; lower = wire_lower name is.labels }

pub not_blank : (f : Format) (x : List ℕ) → tag x ≡ root_tag_in f → x ≡ blank → ⊥
unfolding root_tag_in tag
not_blank f x tagged is =
    let letters : get_or {A = ℕ} (68 ∷ 80 ∷ 82 ∷ digit_in f ∷ []) 0 0 ≡ get_or {A = ℕ} (take 4 (replicate 512 0)) 0 0 = ap (λ (l : List ℕ). get_or l 0 0) (sym tagged ∙ ap (λ (l : List ℕ). take 4 l) is) in
    absurd (omega (arith, letters))

blank_intact : (f : Format) (at : ℕ) (x : List ℕ) → x ≡ blank → IsIntactIn f at x
blank_intact One at x is = tt
blank_intact Two at x is = λ not. absurd (not is)

module _ (f : Format) where
  pub stands_first : (s : Sizes) (c : Content) (k : Stored) → OpensAsIn f s c k → (parts : List (List ℕ)) × OpensByIn f s c (sector_at c 0) parts k
  stands_first s c k (root, parts, by) = (parts, subst (λ (r : List ℕ). OpensByIn f s c r parts k) (sym by.stands) by)

  module _ (s : Sizes) (c : Content) (k : Stored) (parts : List (List ℕ)) (by : OpensByIn f s c (sector_at c 0) parts k) (d : Content) where
    root_intact : IsIntactIn f 0 (sector_at c 0)
    root_intact = by.own 0 (omega arith) (λ left. absurd (omega (arith, left.from)))

    pub root_there : (shape : Shape) → IsPlainApex s.apex → (count : ℕ) → count ≡ length c → (e : OpenError) → (e ≡ Device) ⊎ NamesSpoiltIn f d 0 1 e ⊎ RootRefusalIn f s count (sector_at c 0) e → RefusesAltered f shape c d e
    root_there shape plain count size e (inl failed) = inl (inl failed)
    root_there shape plain count size Device (inr (inl spoilt)) = absurd spoilt
    root_there shape plain count size Blank (inr (inl spoilt)) = absurd spoilt
    root_there shape plain count size (Damaged position) (inr (inl spoilt)) =
        let first : position ≡ 0 = omega (arith, spoilt.last) in
        let not : IsIntactIn f 0 (sector_at d 0) → ⊥ = λ own. spoilt.spoilt (subst (λ n. IsIntactIn f n (sector_at d n)) (sym first) own) in
        inr (record { spoilt = spoilt.spoilt; other = subst (λ n. sector_at d n ≡ sector_at c n → ⊥) (sym first) (spoilt_altered f c d 0 root_intact not) }, inl first)
    root_there shape plain count size Geometry (inr (inl spoilt)) = absurd spoilt
    root_there shape plain count size OutOfMemory (inr (inl spoilt)) = absurd spoilt
    root_there shape plain count size Device (inr (inr refusal)) = absurd refusal
    root_there shape plain count size Blank (inr (inr refusal)) = absurd (not_blank f (sector_at c 0) by.valid.tagged refusal)
    root_there shape plain count size (Damaged position) (inr (inr refusal)) =
        ⊎_elim
        (λ (less : open_count (sector_at c 0) < 2 ^ 64 - 1).
        absurd
        (refusal.2
        (record {
          own = root_intact;
          tagged = by.valid.tagged;
          bank = by.valid.bank;
          clear = by.valid.clear;
          name = s.apex;
          plain = plain;
          apex = by.valid.apex;
          fits = omega (arith, by.valid.fits, by.valid.snapshot);
          more = less;
        })))
        (λ worn. inl (inr (inr (ap (λ n. Damaged n) refusal.0, worn)))) (cases_lt (open_count (sector_at c 0)) (2 ^ 64 - 1))
    root_there shape plain count size Geometry (inr (inr refusal)) = absurd (refusal.1 by.valid (size ∙ by.size))
    root_there shape plain count size OutOfMemory (inr (inr refusal)) = absurd refusal

    -- a sector of the bank that isn't intact was altered, and is in use
    pub bank_altered : (shape : Shape) (root : Root) → SaysRootIn f (sector_at d 0) root → (from until : ℕ) → snapshot_place s (number (sector_at c 0)) ≤ from → until ≤ bank_end s (number (sector_at c 0)) → bank_at shape root ≤ from → until ≤ bank_until shape root
        → (r : OpenError) → NamesSpoiltIn f d from until r → NamesAlteredIn f c d r × NamesUsedIn f shape d r
    bank_altered shape root says from until low high first last Device spoilt = (spoilt, spoilt)
    bank_altered shape root says from until low high first last Blank spoilt = (spoilt, spoilt)
    bank_altered shape root says from until low high first last (Damaged position) spoilt = (
      record { spoilt = spoilt.spoilt; other = names_altered f s k c d (sector_at c 0) parts from until position by low high spoilt },
      inr (root, says, omega (arith, first, spoilt.first), omega (arith, last, spoilt.last)),
    )
    bank_altered shape root says from until low high first last Geometry spoilt = (spoilt, spoilt)
    bank_altered shape root says from until low high first last OutOfMemory spoilt = (spoilt, spoilt)

    pub snapshot_there : (shape : Shape) (root : Root) → SaysRootIn f (sector_at d 0) root → (at : ℕ) → at ≡ snapshot_place s (number (sector_at c 0)) → at ≡ bank_at shape root → (size : ℕ) → size ≤ s.snapshot → size ≤ shape.snapshot → (e : ReadError) (r : OpenError) → r ≡ open_error e
        → NamesSpoilt f d at (at + size) e ⊎ IsBadSnapshotIn f (sector_at c 0) at c e → RefusesAltered f shape c d r
    snapshot_there shape root says at position there size le fits ReadError.Device r is bad = inl (inl is)
    snapshot_there shape root says at position there size le fits (ReadError.Damaged n) r is (inl spoilt) =
        inr (bank_altered shape root says at (at + size) (omega (arith, position)) (omega (arith, position, le)) (omega (arith, there)) (omega (arith, there, fits)) r (subst (λ (q : OpenError). NamesSpoiltIn f d at (at + size) q) (sym is) spoilt))
    snapshot_there shape root says at position there size le fits (ReadError.Damaged n) r is (inr bad) =
        absurd
        (⊎_elim (λ part. no_wrong_part f s c (sector_at c 0) parts k by n part) (λ tail. no_wrong_tail f s c (sector_at c 0) parts k by n tail)
        (subst (λ q. IsBadSnapshotIn f (sector_at c 0) q c (ReadError.Damaged n)) position bad))
    snapshot_there shape root says at position there size le fits ReadError.OutOfMemory r is bad = inl (inr (inl is))

    pub journal_there : (root : Root) → SaysRootIn f (sector_at c 0) root → (cursor : Cursor) → cursor.at ≡ journal_place s (number (sector_at c 0)) → cursor.until ≡ bank_end s (number (sector_at c 0)) → cursor.version ≡ root.base → cursor.opened ≡ root.bank_open → ReadsFrom f cursor c k.entries
    journal_there root says cursor at until version opened =
        subst (λ p. ReadsIn f cursor.until c p cursor.version cursor.opened k.entries) (sym at)
        (subst (λ u. ReadsIn f u c (journal_place s (number (sector_at c 0))) cursor.version cursor.opened k.entries) (sym until)
        (subst (λ v. ReadsIn f (bank_end s (number (sector_at c 0))) c (journal_place s (number (sector_at c 0))) v cursor.opened k.entries) (sym (version ∙ sym says.base_is ∙ by.base))
        (subst (λ o. ReadsIn f (bank_end s (number (sector_at c 0))) c (journal_place s (number (sector_at c 0))) k.base o k.entries) (sym (opened ∙ sym says.bank_open_is)) by.journal)))

  pub place_of : (s : Sizes) (c : Content) (root : Root) (n : ℕ) → SaysRootIn f (sector_at c 0) root → n ≡ bank_number root.bank → 1 + n * (s.snapshot + s.journal) ≡ snapshot_place s (number (sector_at c 0))
  place_of s c root n says is = ap (λ b. 1 + b * (s.snapshot + s.journal)) (is ∙ sym says.bank_is)

-- What a refusal says on any device.
pub of_reading : (e : ReadError) (r : OpenError) → r ≡ open_error e → IsOfBank r
of_reading ReadError.Device r is = subst (λ e. IsOfBank e) (sym is) tt
of_reading (ReadError.Damaged position) r is = subst (λ e. IsOfBank e) (sym is) tt
of_reading ReadError.OutOfMemory r is = subst (λ e. IsOfBank e) (sym is) tt

pub of_fault : (head : ℕ) (r : OpenError) → (r ≡ OutOfMemory) ⊎ (r ≡ Damaged head) → IsOfBank r
of_fault head r (inl memory) = subst (λ e. IsOfBank e) (sym memory) tt
of_fault head r (inr damaged) = subst (λ e. IsOfBank e) (sym damaged) tt

module _ (f : Format) where
  pub bank_refused : (s : Sizes) (count : ℕ) (x : List ℕ) → IsRootIn f s x × (count ≡ all_sectors s) → (r : OpenError) → IsOfBank r → OpenRefusalIn f s count x r
  bank_refused s count x root Device is = tt
  bank_refused s count x root Blank is = absurd is
  bank_refused s count x root (Damaged position) is = inr root
  bank_refused s count x root Geometry is = absurd is
  bank_refused s count x root OutOfMemory is = tt

  pub root_refused : (s : Sizes) (count : ℕ) (c : Content) (r : OpenError) → (r ≡ Device) ⊎ NamesSpoiltIn f c 0 1 r ⊎ RootRefusalIn f s count (sector_at c 0) r → OpenRefusalIn f s count (sector_at c 0) r
  root_refused s count c Device why = tt
  root_refused s count c Blank (inl failed) = absurd cc
  root_refused s count c Blank (inr (inl spoilt)) = absurd spoilt
  root_refused s count c Blank (inr (inr is)) = is
  root_refused s count c (Damaged position) (inl failed) = absurd cc
  root_refused s count c (Damaged position) (inr (inl spoilt)) =
      let first : position ≡ 0 = omega (arith, spoilt.last) in
      let not : IsIntactIn f 0 (sector_at c 0) → ⊥ = λ own. spoilt.spoilt (subst (λ n. IsIntactIn f n (sector_at c n)) (sym first) own) in
      inl (first, λ is. not (blank_intact f 0 (sector_at c 0) is), λ sound. not sound.own)
  root_refused s count c (Damaged position) (inr (inr is)) = inl is
  root_refused s count c Geometry (inl failed) = absurd cc
  root_refused s count c Geometry (inr (inl spoilt)) = absurd spoilt
  root_refused s count c Geometry (inr (inr is)) = inr (inr (inr is))
  root_refused s count c OutOfMemory why = tt

  pub found_there : (snapshot journal : ℕ) (a b : List ℕ) (count : ℕ) (c : Content) (r : Root) → a ≡ b → IsFoundRootIn f (record { snapshot = snapshot; journal = journal; apex = a }) count (sector_at c 0) r
      → IsRootIn f (record { snapshot = snapshot; journal = journal; apex = b }) (sector_at c 0) × (count ≡ all_sectors (record { snapshot = snapshot; journal = journal; apex = b }))
  found_there snapshot journal a b count c r name found = (
    subst (λ n. IsRootIn f (record { snapshot = snapshot; journal = journal; apex = n }) (sector_at c 0)) name found.valid,
    found.size,
  )
