-- Targets that are found by the number of their suffix.
use Rattle.std.proofs.Common.{◌≡◌, ◌≢◌, ◌⊎◌, inl, inr, ℕ, zero, suc, ◌+◌, ◌/◌, ◌<◌, ◌≤◌, Bool, true, false, List, [], ◌∷◌, ◌++◌, length, drop, get_or, set, replicate, Some, None, refl, sym, ap, subst, ◌∙◌, arith, length-drop, length-append}
use Rattle.std.specs.Prelude.{nat_eq, nat_le}
use Rattle.std.specs.List.{fold}
use Rattle.std.proofs.lemmas.Bool.Decides.{eqb_tells, leb_tells}
use Rattle.std.proofs.lemmas.List.{get_or_append_left, get_or-set_same, get_or-set_other, map-append}
use Rattle.std.proofs.Math.Seq.{get_or-append_seam}
use Rattle.byteorder.specs.Endian.{little_number}
use Rattle.dns_names.specs.Name.{Labels, names_eq, wire}
use Rattle.dns_wire.specs.Indexed.{IsLast, IsTable, Linked, offset_at, linked_places, suffix_at, next_at, head_at, head_of, suffix_number, mixed, words_mixed}
use Rattle.dns_wire.proofs.Places.{names_same}

-- a word more is mixed in
pub words_next : (sum : ℕ) (octets : List ℕ) → 8 ≤ length octets → words_mixed (length octets / 8) sum octets ≡ words_mixed (length (drop 8 octets) / 8) (mixed sum (little_number 8 octets)) (drop 8 octets)
unfolding words_mixed
words_next sum octets long =
    let e : length octets / 8 ≡ suc (length (drop 8 octets) / 8) = omega (arith, length-drop 8 octets) in
    ap (λ (n : ℕ). words_mixed n sum octets) e

-- no word is left
pub words_end : (sum : ℕ) (octets : List ℕ) → length octets < 8 → words_mixed (length octets / 8) sum octets ≡ fold mixed sum octets
unfolding words_mixed
words_end sum octets short =
    let e : length octets / 8 ≡ 0 = omega arith in
    ap (λ (n : ℕ). words_mixed n sum octets) e

-- a suffix that none of the targets has
pub found_nowhere : (linked : List Linked) (name : Labels) → ((index : ℕ) → index < length linked → names_eq (suffix_at linked index) name ≡ false) → offset_at (linked_places linked) name ≡ None
found_nowhere [] name none = refl
found_nowhere (one ∷ linked) name none =
    let first : names_eq one.place.suffix name ≡ false = none 0 (omega arith) in
    let later = found_nowhere linked name (λ index inside. none (suc index) (omega arith)) in
    rw first later

-- the first target that has the suffix
found_first : (linked : List Linked) (name : Labels) (index : ℕ) → index < length linked → ((before : ℕ) → before < index → names_eq (suffix_at linked before) name ≡ false) → names_eq (suffix_at linked index) name ≡ true
    → Some (get_or linked index (record { place = record { offset = 0; suffix = [] }; next = 0 })).place.offset ≡ offset_at (linked_places linked) name
found_first [] name index inside none is = absurd (omega (arith, inside))
found_first (one ∷ linked) name zero inside none is = rw is refl
found_first (one ∷ linked) name (suc index) inside none is =
    let first : names_eq one.place.suffix name ≡ false = none 0 (omega arith) in
    let later = found_first linked name index (omega (arith, inside)) (λ before low. none (suc before) (omega arith)) is in
    rw first later

none_among : (one : Linked) (linked : List Linked) (name : Labels) (b : Bool) → names_eq one.place.suffix name ≡ b → None ≡ offset_at (linked_places (one ∷ linked)) name
    → (None ≡ offset_at (linked_places linked) name → (index : ℕ) → index < length linked → names_eq (suffix_at linked index) name ≡ false)
    → (index : ℕ) → index < length (one ∷ linked) → names_eq (suffix_at (one ∷ linked) index) name ≡ false
none_among one linked name true is none later index inside =
    let some : offset_at (linked_places (one ∷ linked)) name ≡ Some one.place.offset = rw is refl in
    let bad : None ≡ Some one.place.offset = none ∙ some in
    absurd cc
none_among one linked name false is none later zero inside = is
none_among one linked name false is none later (suc index) inside =
    let rest : offset_at (linked_places (one ∷ linked)) name ≡ offset_at (linked_places linked) name = rw is refl in
    later (none ∙ rest) index (omega (arith, inside))

-- where a suffix is nowhere, no target has it
pub none_has : (linked : List Linked) (name : Labels) → None ≡ offset_at (linked_places linked) name → (index : ℕ) → index < length linked → names_eq (suffix_at linked index) name ≡ false
none_has [] name none index inside = absurd (omega (arith, inside))
none_has (one ∷ linked) name none index inside = none_among one linked name (names_eq one.place.suffix name) refl none (none_has linked name) index inside

-- what is known of each target stays when one more is kept
kept_at : (linked : List Linked) (new : Linked) (index : ℕ) → index < length linked → get_or (linked ++ new ∷ []) index (record { place = record { offset = 0; suffix = [] }; next = 0 }) ≡ get_or linked index (record { place = record { offset = 0; suffix = [] }; next = 0 })
kept_at linked new index inside = get_or_append_left linked (new ∷ []) (record { place = record { offset = 0; suffix = [] }; next = 0 }) index inside

new_at : (linked : List Linked) (new : Linked) → get_or (linked ++ new ∷ []) (length linked) (record { place = record { offset = 0; suffix = [] }; next = 0 }) ≡ new
new_at linked new = get_or-append_seam linked new [] (record { place = record { offset = 0; suffix = [] }; next = 0 })

head_kept : (linked : List Linked) (new : Linked) (index : ℕ) → index < length linked → head_at (linked ++ new ∷ []) index ≡ head_at linked index
head_kept linked new index inside = ap (λ (l : Linked). head_of (suffix_number (wire l.place.suffix))) (kept_at linked new index inside)

head_new : (linked : List Linked) (new : Linked) → head_at (linked ++ new ∷ []) (length linked) ≡ head_of (suffix_number (wire new.place.suffix))
head_new linked new = ap (λ (l : Linked). head_of (suffix_number (wire l.place.suffix))) (new_at linked new)

last_kept : (linked : List Linked) (new : Linked) (before head link : ℕ) → before ≤ length linked → IsLast linked before head link → IsLast (linked ++ new ∷ []) before head link
last_kept linked new before head link low h =
    let inside : link ≤ before = h.inside in
    record {
      inside = h.inside;
      own = λ index is. head_kept linked new index (omega (arith, is, inside, low)) ∙ h.own index is;
      after = λ index from to same. h.after index from to (sym (head_kept linked new index (omega (arith, to, low))) ∙ same);
    }

-- the new target is the last with its head
last_new : (linked : List Linked) (new : Linked) (head : ℕ) → head_of (suffix_number (wire new.place.suffix)) ≡ head → IsLast (linked ++ new ∷ []) (length linked + 1) head (length linked + 1)
last_new linked new head is = record {
  inside = omega arith;
  own = λ index same. (let here : length linked ≡ index = omega (arith, same) in ap (head_at (linked ++ new ∷ [])) (sym here) ∙ head_new linked new ∙ is);
  after = λ index from to same. absurd (omega (arith, from, to));
}

-- and not the last with another
last_other : (linked : List Linked) (new : Linked) (head link : ℕ) → head_of (suffix_number (wire new.place.suffix)) ≢ head → IsLast linked (length linked) head link → IsLast (linked ++ new ∷ []) (length linked + 1) head link
last_other linked new head link other h =
    let old = last_kept linked new (length linked) head link (omega arith) h in
    let inside : link ≤ length linked = h.inside in
    record {
      inside = omega (arith, inside);
      own = old.own;
      after = λ index from to same. by index from to same (nat_eq index (length linked)) (eqb_tells index (length linked));
    }
  where
    by : (index : ℕ) → link ≤ index → index < length linked + 1 → head_at (linked ++ new ∷ []) index ≡ head → (b : Bool) → ((nat_eq index (length linked) ≡ true) × (index ≡ length linked)) ⊎ ((nat_eq index (length linked) ≡ false) × (index ≢ length linked)) → ⊥
    by index from to same b (inl here) = other (sym (head_new linked new) ∙ ap (head_at (linked ++ new ∷ [])) (sym here.1) ∙ same)
    by index from to same b (inr there) =
        let ne : index ≢ length linked = there.1 in
        let low : index < length linked = omega (arith, to, ne) in
        h.after index from low (sym (head_kept linked new index low) ∙ same)

-- a target is kept whose suffix none has
pub table_more : (linked : List Linked) (heads : List ℕ) (new : Linked) (head : ℕ) → head_of (suffix_number (wire new.place.suffix)) ≡ head → head < length heads → new.next ≡ get_or heads head 0 → None ≡ offset_at (linked_places linked) new.place.suffix
    → IsTable linked heads → IsTable (linked ++ new ∷ []) (set heads head (length linked + 1))
table_more linked heads new head is inside link none h = record {
  first = λ other. subst (λ (n : ℕ). IsLast longer n other (get_or heads' other 0)) (sym size) (first other (eqb_tells other head));
  next = λ index low. next index (eqb_tells index (length linked)) (omega (arith, low, size));
  apart = λ a b before low. apart a b (eqb_tells b (length linked)) before (omega (arith, low, size));
}
  where
    longer : List Linked
    longer = linked ++ new ∷ []

    heads' : List ℕ
    heads' = set heads head (length linked + 1)

    size : length (linked ++ new ∷ []) ≡ length linked + 1
    size = length-append linked (new ∷ [])

    first : (other : ℕ) → ((nat_eq other head ≡ true) × (other ≡ head)) ⊎ ((nat_eq other head ≡ false) × (other ≢ head)) → IsLast (linked ++ new ∷ []) (length linked + 1) other (get_or (set heads head (length linked + 1)) other 0)
    first other (inl same) =
        let own : IsLast (linked ++ new ∷ []) (length linked + 1) head (get_or (set heads head (length linked + 1)) head 0) = subst (IsLast (linked ++ new ∷ []) (length linked + 1) head) (sym (get_or-set_same heads head (length linked + 1) 0 inside)) (last_new linked new head is) in
        subst (λ (k : ℕ). IsLast (linked ++ new ∷ []) (length linked + 1) k (get_or (set heads head (length linked + 1)) k 0)) (sym same.1) own
    first other (inr ne) =
        subst (IsLast (linked ++ new ∷ []) (length linked + 1) other) (sym (get_or-set_other heads head other (length linked + 1) 0 ne.1))
        (last_other linked new other (get_or heads other 0) (λ e. ne.1 (sym e ∙ is)) (h.first other))

    next : (index : ℕ) → ((nat_eq index (length linked) ≡ true) × (index ≡ length linked)) ⊎ ((nat_eq index (length linked) ≡ false) × (index ≢ length linked)) → index < length linked + 1 → IsLast (linked ++ new ∷ []) index (head_at (linked ++ new ∷ []) index) (next_at (linked ++ new ∷ []) index)
    next index (inl here) low =
        let link' : next_at (linked ++ new ∷ []) (length linked) ≡ get_or heads head 0 = ap (λ (l : Linked). l.next) (new_at linked new) ∙ link in
        let own : head_at (linked ++ new ∷ []) (length linked) ≡ head = head_new linked new ∙ is in
        let last : IsLast (linked ++ new ∷ []) (length linked) head (get_or heads head 0) = last_kept linked new (length linked) head (get_or heads head 0) (omega arith) (h.first head) in
        subst (λ (k : ℕ). IsLast (linked ++ new ∷ []) k (head_at (linked ++ new ∷ []) k) (next_at (linked ++ new ∷ []) k)) (sym here.1)
        (subst (λ (k : ℕ). IsLast (linked ++ new ∷ []) (length linked) k (next_at (linked ++ new ∷ []) (length linked))) (sym own)
        (subst (IsLast (linked ++ new ∷ []) (length linked) head) (sym link') last))
    next index (inr there) low =
        let ne : index ≢ length linked = there.1 in
        let inside : index < length linked = omega (arith, low, ne) in
        let last : IsLast (linked ++ new ∷ []) index (head_at linked index) (next_at linked index) = last_kept linked new index (head_at linked index) (next_at linked index) (omega (arith, inside)) (h.next index inside) in
        let link' : next_at (linked ++ new ∷ []) index ≡ next_at linked index = ap (λ (l : Linked). l.next) (kept_at linked new index inside) in
        subst (λ (k : ℕ). IsLast (linked ++ new ∷ []) index k (next_at (linked ++ new ∷ []) index)) (sym (head_kept linked new index inside))
        (subst (IsLast (linked ++ new ∷ []) index (head_at linked index)) (sym link') last)

    suffix_kept : (index : ℕ) → index < length linked → suffix_at (linked ++ new ∷ []) index ≡ suffix_at linked index
    suffix_kept index low = ap (λ (l : Linked). l.place.suffix) (kept_at linked new index low)

    apart : (a b : ℕ) → ((nat_eq b (length linked) ≡ true) × (b ≡ length linked)) ⊎ ((nat_eq b (length linked) ≡ false) × (b ≢ length linked)) → a < b → b < length linked + 1 → names_eq (suffix_at (linked ++ new ∷ []) a) (suffix_at (linked ++ new ∷ []) b) ≡ false
    apart a b (inl here) before low =
        let inside : a < length linked = omega (arith, before, here.1) in
        let own : suffix_at (linked ++ new ∷ []) b ≡ new.place.suffix = ap (suffix_at (linked ++ new ∷ [])) here.1 ∙ ap (λ (l : Linked). l.place.suffix) (new_at linked new) in
        ap (λ (n : Labels). names_eq n (suffix_at (linked ++ new ∷ []) b)) (suffix_kept a inside)
        ∙ ap (names_eq (suffix_at linked a)) own
        ∙ none_has linked new.place.suffix none a inside
    apart a b (inr there) before low =
        let ne : b ≢ length linked = there.1 in
        let inside : b < length linked = omega (arith, low, ne) in
        ap (λ (n : Labels). names_eq n (suffix_at (linked ++ new ∷ []) b)) (suffix_kept a (omega (arith, before, inside)))
        ∙ ap (names_eq (suffix_at linked a)) (suffix_kept b inside)
        ∙ h.apart a b before inside

-- the heads grow by empty ones
pub heads_more : (heads : List ℕ) (count head : ℕ) → get_or (heads ++ replicate count 0) head 0 ≡ get_or heads head 0
heads_more [] zero head = refl
heads_more [] (suc count) zero = refl
heads_more [] (suc count) (suc head) = heads_more [] count head
heads_more (link ∷ heads) count zero = refl
heads_more (link ∷ heads) count (suc head) = heads_more heads count head

pub table_heads : (linked : List Linked) (heads heads' : List ℕ) → ((head : ℕ) → get_or heads' head 0 ≡ get_or heads head 0) → IsTable linked heads → IsTable linked heads'
table_heads linked heads heads' same h = record {
  first = λ head. subst (IsLast linked (length linked) head) (sym (same head)) (h.first head);
  next = h.next;
  apart = h.apart;
}

pub places_more : (linked : List Linked) (new : Linked) → linked_places (linked ++ new ∷ []) ≡ linked_places linked ++ new.place ∷ []
places_more linked new = map-append (λ l. l.place) linked (new ∷ [])

-- where a link leads, while a suffix is looked for: no target after it has the suffix
pub record StillLinked (linked : List Linked) (name : Labels) (head link : ℕ) : Type 0 where
  pub inside : link ≤ length linked
  pub own : (index : ℕ) → link ≡ index + 1 → head_at linked index ≡ head
  pub after : (index : ℕ) → link ≤ index → index < length linked → names_eq (suffix_at linked index) name ≡ false

-- another head is of another suffix
other_head : (linked : List Linked) (name : Labels) (index head : ℕ) → head_of (suffix_number (wire name)) ≡ head → head_at linked index ≢ head → names_eq (suffix_at linked index) name ≡ false
other_head linked name index head is other = go (names_eq (suffix_at linked index) name) refl
  where
    go : (b : Bool) → names_eq (suffix_at linked index) name ≡ b → b ≡ false
    go false e = refl
    go true e = absurd (other (ap (λ (n : Labels). head_of (suffix_number (wire n))) (names_same (suffix_at linked index) name e) ∙ is))

pub linked_first : (linked : List Linked) (heads : List ℕ) (name : Labels) (head : ℕ) → head_of (suffix_number (wire name)) ≡ head → IsTable linked heads → StillLinked linked name head (get_or heads head 0)
linked_first linked heads name head is h = record {
  inside = (h.first head).inside;
  own = (h.first head).own;
  after = λ index from to. other_head linked name index head is ((h.first head).after index from to);
}

pub linked_next : (linked : List Linked) (heads : List ℕ) (name : Labels) (head link index : ℕ) → head_of (suffix_number (wire name)) ≡ head → IsTable linked heads → link ≡ index + 1 → names_eq (suffix_at linked index) name ≡ false → StillLinked linked name head link
    → StillLinked linked name head (next_at linked index)
linked_next linked heads name head link index is h link-is not s =
    let low : link ≤ length linked = s.inside in
    let inside : index < length linked = omega (arith, low, link-is) in
    let last : IsLast linked index head (next_at linked index) = subst (λ (k : ℕ). IsLast linked index k (next_at linked index)) (s.own index link-is) (h.next index inside) in
    let below : next_at linked index ≤ index = last.inside in
    record {
      inside = omega (arith, below, inside);
      own = last.own;
      after = λ k from to. by k from to (eqb_tells k index) last;
    }
  where
    side : (k : ℕ) → next_at linked index ≤ k → k < length linked → k ≢ index → ((nat_le k index ≡ true) × (k ≤ index)) ⊎ ((nat_le k index ≡ false) × (index < k)) → IsLast linked index head (next_at linked index) → names_eq (suffix_at linked k) name ≡ false
    side k from to ne (inl low) last = (let least : k ≤ index = low.1 in other_head linked name k head is (last.after k from (omega (arith, least, ne))))
    side k from to ne (inr high) last = (let above : index < k = high.1 in s.after k (omega (arith, above, link-is)) to)

    by : (k : ℕ) → next_at linked index ≤ k → k < length linked → ((nat_eq k index ≡ true) × (k ≡ index)) ⊎ ((nat_eq k index ≡ false) × (k ≢ index)) → IsLast linked index head (next_at linked index) → names_eq (suffix_at linked k) name ≡ false
    by k from to (inl here) last = ap (λ (n : ℕ). names_eq (suffix_at linked n) name) here.1 ∙ not
    by k from to (inr there) last = side k from to there.1 (leb_tells k index) last

pub linked_none : (linked : List Linked) (name : Labels) (head link : ℕ) → link ≤ 0 → StillLinked linked name head link → None ≡ offset_at (linked_places linked) name
linked_none linked name head link end s = sym (found_nowhere linked name (λ index inside. s.after index (omega (arith, end)) inside))

-- the target that is linked has the suffix: none before it has it
pub linked_found : (linked : List Linked) (heads : List ℕ) (name : Labels) (index : ℕ) → IsTable linked heads → index < length linked → names_eq (suffix_at linked index) name ≡ true
    → Some (get_or linked index (record { place = record { offset = 0; suffix = [] }; next = 0 })).place.offset ≡ offset_at (linked_places linked) name
linked_found linked heads name index h inside is =
    found_first linked name index inside
    (λ before low. ap (names_eq (suffix_at linked before)) (sym (names_same (suffix_at linked index) name is)) ∙ h.apart before index low inside) is

-- numbers that differ are of different suffixes
pub other_number : (own number : ℕ) (suffix name : Labels) → own ≡ suffix_number (wire suffix) → number ≡ suffix_number (wire name) → own ≢ number → nat_eq own number ≡ names_eq suffix name
other_number own number suffix name is is' ne = go (eqb_tells own number) (names_eq suffix name) refl
  where
    go : ((nat_eq own number ≡ true) × (own ≡ number)) ⊎ ((nat_eq own number ≡ false) × (own ≢ number)) → (b : Bool) → names_eq suffix name ≡ b → nat_eq own number ≡ b
    go (inl same) b e = absurd (ne same.1)
    go (inr other) false e = other.0
    go (inr other) true e = absurd (ne (is ∙ ap (λ (n : Labels). suffix_number (wire n)) (names_same suffix name e) ∙ sym is'))
