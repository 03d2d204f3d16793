-- A head, and the bodies after it.
use Rattle.std.proofs.Common.{◌≡◌, ◌⊎◌, inl, inr, ⊎_elim, ℕ, zero, suc, ◌+◌, ◌-◌, ◌*◌, ◌≤◌, List, [], ◌∷◌, ◌++◌, length, take, drop, refl, sym, ◌∙◌, ap, subst, arith}
use Rattle.std.proofs.Math.Seq.{drop-append-add}
use Rattle.std.proofs.lemmas.Bool.{cases_lt}
use Rattle.std.proofs.lemmas.List.{length-take}
use Rattle.std.specs.Prelude.{min}
use Rattle.std.specs.List.{flat_map}
use Rattle.dns_sectors.specs.Device.{Content}
use Rattle.dns_layout.specs.Sector.{AreZeros, sector_at, open_count, payload_in, first_octets_in, number, entry_length, entry_sectors, old_entry_sectors, entry_sectors_in, head_room_in, payload_room_in}
use Rattle.dns_layout.specs.Forms.{SaysHeadIn}
use Rattle.dns_layout.specs.Journal.{Entry, entry_size, octets_of_in, IsNextHeadIn, IsBodyIn, AreBodiesIn, ReadsIn}
use Rattle.dns_layout.specs.declared.head.Head.{Head}
use Rattle.dns_journal.specs.Reads.{sectors_from, HoldsEntry, ReadsFrom, FindsEntry, IsWrongBody, IsWrongEnd, IsBadEntry, IsRefusal, NamesSpoilt}
use Rattle.dns_journal.specs.declared.read.ReadError.{ReadError}
use Rattle.dns_journal.specs.declared.read.ReadError.TheVariants.{Device, Damaged, OutOfMemory}
use Rattle.dns_journal.specs.declared.read.Cursor.{Cursor}
use Rattle.dns_journal.proofs.Looking.{length-from, stand_is, from_stands, are_at}
use Rattle.dns_layout.specs.declared.format.Format.{Format}
use Rattle.dns_layout.specs.declared.format.Format.TheVariants.{One, Two}

le_or_less : (n m : ℕ) → (n ≤ m) ⊎ (m ≤ n)
le_or_less n m = ⊎_elim (λ less. inl (omega (arith, less))) (λ more. inr more) (cases_lt n m)

drop_nothing : (n : ℕ) → drop {A = ℕ} n [] ≡ []
drop_nothing zero = refl
drop_nothing (suc n) = refl

whole : (f : Format) (n size : ℕ) → size ≡ head_room_in f + payload_room_in f * (entry_sectors_in f n - 1) → min n size ≡ n
unfolding entry_sectors old_entry_sectors
whole One n size is = omega (arith, is)
whole Two n size is = omega (arith, is)

-- What is left of the octets is as long as the head says.
pub kept_length : (f : Format) (n : ℕ) (items kept : List ℕ) → kept ≡ take n items → length items ≡ head_room_in f + payload_room_in f * (entry_sectors_in f n - 1) → length kept ≡ n
kept_length f n items kept is size = ap (λ (l : List ℕ). length l) is ∙ length-take n items ∙ whole f n (length items) size

no_bodies : (f : Format) (n : ℕ) (octets : ℕ) → n + 1 ≡ entry_sectors_in f octets → octets ≤ head_room_in f → n ≡ 0
unfolding entry_sectors old_entry_sectors
no_bodies One n octets is le = omega (arith, is, le)
no_bodies Two n octets is le = omega (arith, is, le)

pub drop_first : (f : Format) (first rest : List ℕ) (len : ℕ) → length first ≡ head_room_in f → head_room_in f ≤ len → drop len (first ++ rest) ≡ drop (len - head_room_in f) rest
drop_first f first rest len is le = ap (λ n. drop n (first ++ rest)) (omega (arith, is, le)) ∙ drop-append-add first rest (len - head_room_in f)

-- one part more
pub rooms_more : (f : Format) (a i n m : ℕ) → n ≡ a + payload_room_in f * i → m ≡ n + payload_room_in f → m ≡ a + payload_room_in f * (i + 1)
rooms_more One a i n m is more = omega (arith, is, more)
rooms_more Two a i n m is more = omega (arith, is, more)

module _ (f : Format) where
  module _ (x : List ℕ) (h : Head) (says : SaysHeadIn f x h) (at : ℕ) (c : Content) (first : length (first_octets_in f x) ≡ head_room_in f) where
    abbrev rest : List ℕ
    rest = flat_map (payload_in f) (sectors_from c (at + 1) (number x))

    nothing_behind : h.length ≤ head_room_in f → AreZeros (drop (entry_length x - head_room_in f) (flat_map (payload_in f) (sectors_from c (at + 1) (number x))))
    nothing_behind le =
        subst (λ n. AreZeros (drop (entry_length x - head_room_in f) (flat_map (payload_in f) (sectors_from c (at + 1) n)))) (sym (no_bodies f (number x) h.length says.bodies_is le))
        (subst (λ (l : List ℕ). AreZeros l) (sym (drop_nothing (entry_length x - head_room_in f))) refl)

    drop_is : head_room_in f ≤ h.length → drop h.length (first_octets_in f x ++ flat_map (payload_in f) (sectors_from c (at + 1) (number x))) ≡ drop (entry_length x - head_room_in f) (flat_map (payload_in f) (sectors_from c (at + 1) (number x)))
    drop_is le = drop_first f (first_octets_in f x) (flat_map (payload_in f) (sectors_from c (at + 1) (number x))) h.length first le ∙ ap (λ n. drop (n - head_room_in f) (flat_map (payload_in f) (sectors_from c (at + 1) (number x)))) (sym says.length_is)

    pub holds : (items : List ℕ) → AreBodiesIn f x 0 (sectors_from c (at + 1) (number x)) → items ≡ first_octets_in f x ++ flat_map (payload_in f) (sectors_from c (at + 1) (number x))
        → (h.length ≤ head_room_in f) ⊎ AreZeros (drop h.length items) → (kept : List ℕ) → kept ≡ take h.length items → length items ≡ head_room_in f + payload_room_in f * (entry_sectors_in f h.length - 1) → HoldsEntry f x at c kept
    holds items bodies is ends kept kept_is size = record {
      length_is = ap (λ (l : List ℕ). length l) kept_is ∙ length-take h.length items ∙ whole f h.length (length items) size ∙ sym says.length_is;
      bodies = bodies;
      zeros = ⊎_elim nothing_behind
          (λ zeros. ⊎_elim nothing_behind
          (λ more. subst (λ (l : List ℕ). AreZeros l) (ap (λ (l : List ℕ). drop h.length l) is ∙ drop_is more) zeros) (le_or_less h.length (head_room_in f))) ends;
      octets_are = kept_is ∙ ap (λ (l : List ℕ). take h.length l) is ∙ ap (λ n. take n (first_octets_in f x ++ flat_map (payload_in f) (sectors_from c (at + 1) (number x)))) (sym says.length_is);
    }

    pub no_end : (items : List ℕ) → items ≡ first_octets_in f x ++ flat_map (payload_in f) (sectors_from c (at + 1) (number x))
        → ((h.length ≤ head_room_in f) ⊎ AreZeros (drop h.length items) → ⊥) → AreZeros (drop (entry_length x - head_room_in f) (flat_map (payload_in f) (sectors_from c (at + 1) (number x)))) → ⊥
    no_end items is not zeros =
        ⊎_elim (λ less. not (inl less)) (λ more. not (inr (subst (λ (l : List ℕ). AreZeros l) (sym (ap (λ (l : List ℕ). drop h.length l) is ∙ drop_is more)) zeros))) (le_or_less h.length (head_room_in f))

  -- what is at a cursor, as an entry
  pub found : (old new : Cursor) (x : List ℕ) (h : Head) (c : Content) (octets : List ℕ) → sector_at c old.at ≡ x → IsNextHeadIn f old.until old.at old.version old.opened x → SaysHeadIn f x h → HoldsEntry f x old.at c octets
      → new.at ≡ old.at + entry_sectors_in f h.length → new.until ≡ old.until → new.version ≡ h.version → new.opened ≡ h.open_count → FindsEntry f old new c octets
  found old new x h c octets stands next says holds position until version opened = record {
    entry = record { head = x; bodies = sectors_from c (old.at + 1) (number x) };
    next = record { head = next; count = length-from c (old.at + 1) (number x); bodies = holds.bodies; zeros = holds.zeros };
    head = stands;
    bodies = from_stands (number x) c (old.at + 1);
    octets_are = holds.octets_are;
    size = omega (arith, length-from c (old.at + 1) (number x), next.bodies, holds.length_is, ap (entry_sectors_in f) holds.length_is);
    position = omega (arith, position, says.bodies_is, length-from c (old.at + 1) (number x));
    until_stays = until;
    version_is = version ∙ sym says.version_is ∙ next.next;
    opened_is = opened ∙ sym says.opened_is;
  }

  -- a valid head, and no bodies or no end of them: nothing can be read
  pub nothing_read : (cursor : Cursor) (x : List ℕ) (c : Content) → sector_at c cursor.at ≡ x → IsNextHeadIn f cursor.until cursor.at cursor.version cursor.opened x
      → (AreBodiesIn f x 0 (sectors_from c (cursor.at + 1) (number x)) → AreZeros (drop (entry_length x - head_room_in f) (flat_map (payload_in f) (sectors_from c (cursor.at + 1) (number x)))) → ⊥)
      → (es : List Entry) → ReadsFrom f cursor c es → ⊥
  nothing_read cursor x c stands next not [] there = there (subst (λ (y : List ℕ). IsNextHeadIn f cursor.until cursor.at cursor.version cursor.opened y) (sym stands) next)
  nothing_read cursor x c stands next not (e ∷ es) there =
      let head : e.head ≡ x = sym there.1 ∙ stands in
      let bodies : e.bodies ≡ sectors_from c (cursor.at + 1) (number x) = stand_is e.bodies c (cursor.at + 1) there.2 ∙ ap (λ n. sectors_from c (cursor.at + 1) n) (there.0.count ∙ ap (λ (y : List ℕ). number y) head) in
      not (subst (λ (y : List ℕ). AreBodiesIn f y 0 (sectors_from c (cursor.at + 1) (number x))) head (subst (λ (ys : List (List ℕ)). AreBodiesIn f e.head 0 ys) bodies there.0.bodies))
      (subst (λ (y : List ℕ). AreZeros (drop (entry_length y - head_room_in f) (flat_map (payload_in f) (sectors_from c (cursor.at + 1) (number x))))) head
      (subst (λ (ys : List (List ℕ)). AreZeros (drop (entry_length e.head - head_room_in f) (flat_map (payload_in f) ys))) bodies there.0.zeros))

  no_body : (x : List ℕ) (at : ℕ) (c : Content) (position : ℕ) → IsWrongBody f x at c position → AreBodiesIn f x 0 (sectors_from c at (number x)) → ⊥
  no_body x at c position fault are = fault.wrong (subst (λ n. IsBodyIn f x fault.index (sector_at c n)) (sym fault.place_is) (are_at f (number x) x c at fault.index are fault.within))

  -- where a sector is named as wrong, nothing can be read
  pub refused_read : (cursor : Cursor) (c : Content) (position : ℕ) → IsRefusal f cursor c (Damaged position) → (es : List Entry) → ReadsFrom f cursor c es → ⊥
  refused_read cursor c position (next, inl fault) = nothing_read cursor (sector_at c cursor.at) c refl next (λ are zeros. no_body (sector_at c cursor.at) (cursor.at + 1) c position fault are)
  refused_read cursor c position (next, inr fault) = nothing_read cursor (sector_at c cursor.at) c refl next (λ are zeros. fault.wrong zeros)

  -- nor is an entry there
  pub refused_found : (cursor new : Cursor) (c : Content) (octets : List ℕ) → FindsEntry f cursor new c octets → (position : ℕ) → IsRefusal f cursor c (Damaged position) → ⊥
  refused_found cursor new c octets finds position refusal =
      let x = sector_at c cursor.at in
      let head : finds.entry.head ≡ x = sym finds.head in
      let bodies : finds.entry.bodies ≡ sectors_from c (cursor.at + 1) (number x) = stand_is finds.entry.bodies c (cursor.at + 1) finds.bodies ∙ ap (λ n. sectors_from c (cursor.at + 1) n) (finds.next.count ∙ ap (λ (y : List ℕ). number y) head) in
      let are : AreBodiesIn f x 0 (sectors_from c (cursor.at + 1) (number x)) = subst (λ (y : List ℕ). AreBodiesIn f y 0 (sectors_from c (cursor.at + 1) (number x))) head (subst (λ (ys : List (List ℕ)). AreBodiesIn f finds.entry.head 0 ys) bodies finds.next.bodies) in
      let zeros : AreZeros (drop (entry_length x - head_room_in f) (flat_map (payload_in f) (sectors_from c (cursor.at + 1) (number x)))) =
      subst (λ (y : List ℕ). AreZeros (drop (entry_length y - head_room_in f) (flat_map (payload_in f) (sectors_from c (cursor.at + 1) (number x))))) head
      (subst (λ (ys : List (List ℕ)). AreZeros (drop (entry_length finds.entry.head - head_room_in f) (flat_map (payload_in f) ys))) bodies finds.next.zeros) in
      ⊎_elim (λ fault. no_body x (cursor.at + 1) c position fault are) (λ fault. fault.wrong zeros) refusal.1

  pub refused : (cursor : Cursor) (x : List ℕ) (c : Content) (e : ReadError) → sector_at c cursor.at ≡ x → IsNextHeadIn f cursor.until cursor.at cursor.version cursor.opened x → IsBadEntry f x cursor.at c e → IsRefusal f cursor c e
  refused cursor x c Device stands next not = tt
  refused cursor x c (Damaged position) stands next not =
      (subst (λ (y : List ℕ). IsNextHeadIn f cursor.until cursor.at cursor.version cursor.opened y) (sym stands) next, subst (λ (y : List ℕ). IsWrongBody f y (cursor.at + 1) c position ⊎ IsWrongEnd f y (cursor.at + 1) c position) (sym stands) not)
  refused cursor x c OutOfMemory stands next not = tt

  -- where an entry is, what reading refuses is that a sector isn't intact
  pub bad_found : (cursor new : Cursor) (x : List ℕ) (d c : Content) (from until : ℕ) (octets : List ℕ) (e : ReadError) → sector_at c cursor.at ≡ x → IsNextHeadIn f cursor.until cursor.at cursor.version cursor.opened x
      → FindsEntry f cursor new c octets → NamesSpoilt f d from until e ⊎ IsBadEntry f x cursor.at c e → NamesSpoilt f d from until e
  bad_found cursor new x d c from until octets e stands next finds (inl spoilt) = spoilt
  bad_found cursor new x d c from until octets Device stands next finds (inr bad) = tt
  bad_found cursor new x d c from until octets (Damaged position) stands next finds (inr bad) = absurd (refused_found cursor new c octets finds position (refused cursor x c (Damaged position) stands next bad))
  bad_found cursor new x d c from until octets OutOfMemory stands next finds (inr bad) = tt

  -- What is found is the first of what is read, whatever that is.
  pub first_read : (old new : Cursor) (c : Content) (octets : List ℕ) → FindsEntry f old new c octets → (es : List Entry) → ReadsFrom f old c es
      → (e : Entry) × (rest : List Entry) × (es ≡ e ∷ rest) × (octets ≡ octets_of_in f e) × ReadsFrom f new c rest
  first_read old new c octets finds [] there = absurd (there (subst (λ (y : List ℕ). IsNextHeadIn f old.until old.at old.version old.opened y) (sym finds.head) finds.next.head))
  first_read old new c octets finds (e ∷ es) there =
      let head : finds.entry.head ≡ e.head = sym finds.head ∙ there.1 in
      let bodies : finds.entry.bodies ≡ e.bodies =
      stand_is finds.entry.bodies c (old.at + 1) finds.bodies
      ∙ ap (λ n. sectors_from c (old.at + 1) n) (finds.next.count ∙ ap (λ (y : List ℕ). number y) head ∙ sym there.0.count)
      ∙ sym (stand_is e.bodies c (old.at + 1) there.2) in
      let same : finds.entry ≡ e = λ i. record { head = head i; bodies = bodies i } in
      let behind : ReadsIn f old.until c new.at new.version new.opened es =
      subst (λ p. ReadsIn f old.until c p new.version new.opened es) (sym (finds.position ∙ ap (λ (y : Entry). old.at + entry_size y) same))
      (subst (λ v. ReadsIn f old.until c (old.at + entry_size e) v new.opened es) (sym finds.version_is)
      (subst (λ o. ReadsIn f old.until c (old.at + entry_size e) (old.version + 1) o es) (sym (finds.opened_is ∙ ap (λ (y : List ℕ). open_count y) head)) there.3)) in
      (e, es, refl, finds.octets_are ∙ ap (octets_of_in f) same, subst (λ u. ReadsIn f u c new.at new.version new.opened es) (sym finds.until_stays) behind)

  -- nothing is there, so nothing is read
  pub none_is_read : (cursor : Cursor) (c : Content) → (IsNextHeadIn f cursor.until cursor.at cursor.version cursor.opened (sector_at c cursor.at) → ⊥) → (es : List Entry) → ReadsFrom f cursor c es → es ≡ []
  none_is_read cursor c ends [] there = refl
  none_is_read cursor c ends (e ∷ es) there = absurd (ends (subst (λ (y : List ℕ). IsNextHeadIn f cursor.until cursor.at cursor.version cursor.opened y) (sym there.1) there.0.head))

  -- What is found at a cursor is one entry.
  pub finds_once : (old new new' : Cursor) (c : Content) (octets octets' : List ℕ) → FindsEntry f old new c octets → FindsEntry f old new' c octets' → (new ≡ new') × (octets ≡ octets')
  finds_once old new new' c octets octets' a b =
      let head : a.entry.head ≡ b.entry.head = sym a.head ∙ b.head in
      let bodies : a.entry.bodies ≡ b.entry.bodies =
      stand_is a.entry.bodies c (old.at + 1) a.bodies
      ∙ ap (λ n. sectors_from c (old.at + 1) n) (a.next.count ∙ ap (λ (y : List ℕ). number y) head ∙ sym b.next.count)
      ∙ sym (stand_is b.entry.bodies c (old.at + 1) b.bodies) in
      let same : a.entry ≡ b.entry = λ i. record { head = head i; bodies = bodies i } in (
        λ i. record {
          at = (a.position ∙ ap (λ (y : Entry). old.at + entry_size y) same ∙ sym b.position) i;
          until = (a.until_stays ∙ sym b.until_stays) i;
          version = (a.version_is ∙ sym b.version_is) i;
          opened = (a.opened_is ∙ ap (λ (y : List ℕ). open_count y) head ∙ sym b.opened_is) i;
        },
        a.octets_are ∙ ap (octets_of_in f) same ∙ sym b.octets_are,
      )
