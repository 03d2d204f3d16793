-- The octets of a change are those of one change.
use Rattle.std.proofs.Common.{◌≡◌, ℕ, Bool, true, false, ◌+◌, ◌<◌, ◌≤◌, ◌^◌, List, [], ◌∷◌, ◌++◌, length, take, refl, sym, ap, ◌∙◌, arith, append_assoc, append-nil, length-append}
use Rattle.std.specs.Prelude.{◌==◌}
use Rattle.std.proofs.lemmas.Bool.Decides.{nat_tests}
use Rattle.std.proofs.Math.Seq.{take-append_seam}
use Rattle.std.specs.List.{AllByRecursion, flat_map}
use Rattle.std.specs.Int.{w16, w32, to_be_bytes, from_be_bytes}
use Rattle.std.proofs.lemmas.Nat.{from_be_bytes-to_be_bytes_2, from_be_bytes-to_be_bytes_4}
use Rattle.dns_names.specs.Name.{Labels, IsName, wire}
use Rattle.dns_names.specs.PlainLaws.{parts_same, wire_first}
use Rattle.dns_records.specs.Record.{Record, IsRecord, plain}
use Rattle.dns_records.proofs.Frames.{known_small}
use Rattle.dns_changes.specs.Change.{Change, AreFew, is_formed}
use Rattle.dns_changes.specs.Entry.{counted, entry, HasEntry}

plain_parts : (r : Record) (rest : List ℕ) → plain r ++ rest ≡ wire r.owner ++ (to_be_bytes w16 r.rtype ++ (to_be_bytes w32 r.ttl ++ (to_be_bytes w16 (length r.rdata) ++ (r.rdata ++ rest))))
plain_parts r rest =
    let a = wire r.owner in
    let b = to_be_bytes w16 r.rtype in
    let c = to_be_bytes w32 r.ttl in
    let d = to_be_bytes w16 (length r.rdata) in
    append_assoc (a ++ b ++ c ++ d) r.rdata rest ∙ append_assoc (a ++ b ++ c) d (r.rdata ++ rest) ∙ append_assoc (a ++ b) c (d ++ (r.rdata ++ rest)) ∙ append_assoc a b (c ++ (d ++ (r.rdata ++ rest)))

abbrev made : Labels → ℕ → ℕ → List ℕ → Record
made owner rtype ttl rdata = record { owner = owner; rtype = rtype; ttl = ttl; rdata = rdata }

-- one valid record is at the front of octets at most
pub plain_first : (r s : Record) (x y : List ℕ) → IsRecord r → IsRecord s → plain r ++ x ≡ plain s ++ y → (r ≡ s) × (x ≡ y)
plain_first r s x y f g e =
    let name_r : IsName r.owner = f.owner in
    let name_s : IsName s.owner = g.owner in
    let owners = wire_first r.owner s.owner _ _ name_r.labels name_s.labels (sym (plain_parts r x) ∙ e ∙ plain_parts s y) in
    let types = parts_same (to_be_bytes w16 r.rtype) (to_be_bytes w16 s.rtype) _ _ owners.1 refl in
    let ttls = parts_same (to_be_bytes w32 r.ttl) (to_be_bytes w32 s.ttl) _ _ types.1 refl in
    let sizes = parts_same (to_be_bytes w16 (length r.rdata)) (to_be_bytes w16 (length s.rdata)) _ _ ttls.1 refl in
    let rtype : r.rtype ≡ s.rtype = sym (from_be_bytes-to_be_bytes_2 r.rtype (known_small r.rtype f.rtype)) ∙ ap (from_be_bytes w16) types.0 ∙ from_be_bytes-to_be_bytes_2 s.rtype (known_small s.rtype g.rtype) in
    let ttl : r.ttl ≡ s.ttl = sym (from_be_bytes-to_be_bytes_4 r.ttl f.ttl) ∙ ap (from_be_bytes w32) ttls.0 ∙ from_be_bytes-to_be_bytes_4 s.ttl g.ttl in
    let short_r : length r.rdata ≤ 4096 = f.short in
    let short_s : length s.rdata ≤ 4096 = g.short in
    let size : length r.rdata ≡ length s.rdata = sym (from_be_bytes-to_be_bytes_2 (length r.rdata) (omega arith)) ∙ ap (from_be_bytes w16) sizes.0 ∙ from_be_bytes-to_be_bytes_2 (length s.rdata) (omega arith) in
    let data' = parts_same r.rdata s.rdata x y sizes.1 size in
    ((λ i. made (owners.0 i) (rtype i) (ttl i) (data'.0 i)), data'.1)

flat_parts : (r : Record) (rs : List Record) (x : List ℕ) → flat_map plain (r ∷ rs) ++ x ≡ plain r ++ (flat_map plain rs ++ x)
flat_parts r rs x = append_assoc (plain r) (flat_map plain rs) x

-- as many records are there in one way at most
flat_first : (rs ss : List Record) (x y : List ℕ) → AllByRecursion IsRecord rs → AllByRecursion IsRecord ss → length rs ≡ length ss → flat_map plain rs ++ x ≡ flat_map plain ss ++ y → (rs ≡ ss) × (x ≡ y)
flat_first [] [] x y f g n e = (refl, e)
flat_first [] (s ∷ ss) x y f g n e = absurd (omega arith)
flat_first (r ∷ rs) [] x y f g n e = absurd (omega arith)
flat_first (r ∷ rs) (s ∷ ss) x y f g n e =
    let first = plain_first r s (flat_map plain rs ++ x) (flat_map plain ss ++ y) f.0 g.0 (sym (flat_parts r rs x) ∙ e ∙ flat_parts s ss y) in
    let rest = flat_first rs ss x y f.1 g.1 (omega arith) first.1 in
    ((λ i. first.0 i ∷ rest.0 i), rest.1)

counted_parts : (rs : List Record) (x : List ℕ) → counted rs ++ x ≡ to_be_bytes w32 (length rs) ++ (flat_map plain rs ++ x)
counted_parts rs x = append_assoc (to_be_bytes w32 (length rs)) (flat_map plain rs) x

-- what is after a count
pub count_first : (n : ℕ) (rs : List Record) (behind x : List ℕ) → n < 2 ^ 32 → length rs < 2 ^ 32 → to_be_bytes w32 n ++ behind ≡ counted rs ++ x → (n ≡ length rs) × (behind ≡ flat_map plain rs ++ x)
count_first n rs behind x few short e =
    let both = parts_same (to_be_bytes w32 n) (to_be_bytes w32 (length rs)) behind (flat_map plain rs ++ x) (e ∙ counted_parts rs x) refl in
    (sym (from_be_bytes-to_be_bytes_4 n few) ∙ ap (from_be_bytes w32) both.0 ∙ from_be_bytes-to_be_bytes_4 (length rs) short, both.1)

pub counted_first : (rs ss : List Record) (x y : List ℕ) → AllByRecursion IsRecord rs → AllByRecursion IsRecord ss → length rs < 2 ^ 32 → length ss < 2 ^ 32 → counted rs ++ x ≡ counted ss ++ y → (rs ≡ ss) × (x ≡ y)
counted_first rs ss x y f g few short e =
    let both = count_first (length rs) ss (flat_map plain rs ++ x) y few short (sym (counted_parts rs x) ∙ e) in
    flat_first rs ss x y f g both.0 both.1

-- after fewer records of a list there is one more
pub record OneMore (x : List ℕ) : Type 0 where
  pub next : Record
  pub rest : List ℕ
  pub valid : IsRecord next
  pub is : x ≡ plain next ++ rest

pub flat_more : (rs ss : List Record) (x y : List ℕ) → AllByRecursion IsRecord rs → AllByRecursion IsRecord ss → length rs < length ss → flat_map plain rs ++ x ≡ flat_map plain ss ++ y → OneMore x
flat_more rs [] x y f g n e = absurd (omega arith)
flat_more [] (s ∷ ss) x y f g n e = record { next = s; rest = flat_map plain ss ++ y; valid = g.0; is = e ∙ flat_parts s ss y }
flat_more (r ∷ rs) (s ∷ ss) x y f g n e =
    let first = plain_first r s (flat_map plain rs ++ x) (flat_map plain ss ++ y) f.0 g.0 (sym (flat_parts r rs x) ∙ e ∙ flat_parts s ss y) in
    flat_more rs ss x y f.1 g.1 (omega arith) first.1

-- records read so far, and what is left of the octets after the count
pub record IsRead (behind : List ℕ) (rs : List Record) (rest : List ℕ) : Type 0 where
  pub valid : AllByRecursion IsRecord rs
  pub stands : flat_map plain rs ++ rest ≡ behind

-- where a list is to be read there is one more record
pub one_more : (octets behind : List ℕ) (n : ℕ) (rs : List Record) (rest : List ℕ) → (n < 2 ^ 32) × (octets ≡ to_be_bytes w32 n ++ behind) → IsRead behind rs rest → length rs < n
    → (ss : List Record) (x : List ℕ) → AllByRecursion IsRecord ss → length ss < 2 ^ 32 → octets ≡ counted ss ++ x → OneMore rest
one_more octets behind n rs rest count h less ss x valid few e =
    let both = count_first n ss behind x count.0 few (sym count.1 ∙ e) in
    let n_is : n ≡ length ss = both.0 in
    flat_more rs ss rest x h.valid valid (omega arith) (h.stands ∙ both.1)

-- ---- the parts of an entry
pub entry_parts : (c : Change) → entry c ≡ plain c.old_soa ++ (plain c.new_soa ++ (counted c.removed ++ counted c.added))
entry_parts c = append_assoc (plain c.old_soa ++ plain c.new_soa) (counted c.removed) (counted c.added) ∙ append_assoc (plain c.old_soa) (plain c.new_soa) (counted c.removed ++ counted c.added)

abbrev pub change_of : Record → List Record → Record → List Record → Change
change_of old removed new added = record { old_soa = old; removed = removed; new_soa = new; added = added }

entry_of : (old new : Record) (removed added : List Record) (o a b d rest : List ℕ) → o ≡ plain old ++ a → a ≡ plain new ++ b → b ≡ counted removed ++ d → d ≡ counted added ++ rest → rest ≡ [] → entry (record { old_soa = old; removed = removed; new_soa = new; added = added }) ≡ o
entry_of old new removed added o a b d rest e f g h none =
    entry_parts (record { old_soa = old; removed = removed; new_soa = new; added = added })
    ∙ (λ i. plain old ++ (plain new ++ (counted removed ++ last i)))
    ∙ (λ i. plain old ++ (plain new ++ sym g i)) ∙ (λ i. plain old ++ sym f i) ∙ sym e
  where
    last : counted added ≡ d
    last = sym (append-nil (counted added)) ∙ ap (λ y. counted added ++ y) (sym none) ∙ sym h

-- the parts that were read are those of the change, where the octets are its entry
abbrev pub Reads : List ℕ → Record → List ℕ → Type 0
Reads o r rest = IsRecord r × (o ≡ plain r ++ rest)

abbrev pub ReadsAll : List ℕ → List Record → List ℕ → Type 0
ReadsAll o rs rest = AllByRecursion IsRecord rs × (length rs < 2 ^ 32) × (o ≡ counted rs ++ rest)

pub behind_old : (c : Change) (o a : List ℕ) (old : Record) → HasEntry c → entry c ≡ o → Reads o old a → (old ≡ c.old_soa) × (a ≡ plain c.new_soa ++ (counted c.removed ++ counted c.added))
behind_old c o a old h e f = plain_first old c.old_soa a (plain c.new_soa ++ (counted c.removed ++ counted c.added)) f.0 h.old_soa (sym f.1 ∙ sym e ∙ entry_parts c)

pub behind_new : (c : Change) (o a b : List ℕ) (old new : Record) → HasEntry c → entry c ≡ o → Reads o old a → Reads a new b → (new ≡ c.new_soa) × (b ≡ counted c.removed ++ counted c.added)
behind_new c o a b old new h e f g = plain_first new c.new_soa b (counted c.removed ++ counted c.added) g.0 h.new_soa (sym g.1 ∙ (behind_old c o a old h e f).1)

pub behind_removed : (c : Change) (o a b d : List ℕ) (old new : Record) (rs : List Record) → HasEntry c → entry c ≡ o → Reads o old a → Reads a new b → ReadsAll b rs d → (rs ≡ c.removed) × (d ≡ counted c.added)
behind_removed c o a b d old new rs h e f g k =
    let few : AreFew c.removed c.added = h.few in
    counted_first rs c.removed d (counted c.added) k.0 h.removed k.1 few.going (sym k.2 ∙ (behind_new c o a b old new h e f g).1)

pub behind_added : (c : Change) (o a b d rest : List ℕ) (old new : Record) (rs ss : List Record) → HasEntry c → entry c ≡ o → Reads o old a → Reads a new b → ReadsAll b rs d → ReadsAll d ss rest → (ss ≡ c.added) × (rest ≡ [])
behind_added c o a b d rest old new rs ss h e f g k m =
    let few : AreFew c.removed c.added = h.few in
    counted_first ss c.added rest [] m.0 h.added m.1 few.coming (sym m.2 ∙ (behind_removed c o a b d old new rs h e f g k).1 ∙ sym (append-nil (counted c.added)))

pub is_that : (c : Change) (o a b d rest : List ℕ) (old new : Record) (rs ss : List Record) → HasEntry c → entry c ≡ o → Reads o old a → Reads a new b → ReadsAll b rs d → ReadsAll d ss rest → change_of old rs new ss ≡ c
is_that c o a b d rest old new rs ss h e f g k m =
    let one = (behind_old c o a old h e f).0 in
    let two = (behind_new c o a b old new h e f g).0 in
    let three = (behind_removed c o a b d old new rs h e f g k).0 in
    let four = (behind_added c o a b d rest old new rs ss h e f g k m).0 in
    λ i. change_of (one i) (three i) (two i) (four i)

empty_is : (xs : List ℕ) → (length xs == 0) ≡ true → xs ≡ []
empty_is [] e = refl
empty_is (x ∷ xs) e = absurd (grind (arith, nat_tests))

pub has_entry : (o a b d rest : List ℕ) (old new : Record) (rs ss : List Record) → Reads o old a → Reads a new b → ReadsAll b rs d → ReadsAll d ss rest → (length rest == 0) ≡ true → is_formed (change_of old rs new ss) ≡ true
    → HasEntry (change_of old rs new ss) × (entry (change_of old rs new ss) ≡ o)
has_entry o a b d rest old new rs ss f g k m none form =
    (record { old_soa = f.0; new_soa = g.0; removed = k.0; added = m.0; few = record { going = k.1; coming = m.1 }; formed = form }, entry_of old new rs ss o a b d rest f.1 g.1 k.2 m.2 (empty_is rest none))

pub left_over : (rest : List ℕ) (r : Bool) → r ≡ (length rest == 0) → r ≡ false → rest ≡ [] → ⊥
left_over rest r e f none = let full : (length rest == 0) ≡ true = ap (λ (xs : List ℕ). length xs == 0) none in absurd cc

-- ---- one record
pub plain_length : (r : Record) → length (plain r) ≡ length (wire r.owner) + 8 + length r.rdata
plain_length r =
    let a = wire r.owner in
    let b = to_be_bytes w16 r.rtype in
    let c = to_be_bytes w32 r.ttl in
    let d = to_be_bytes w16 (length r.rdata) in
    let two : length b ≡ 2 = refl in
    let four : length c ≡ 4 = refl in
    let size : length d ≡ 2 = refl in
    omega (arith, length-append (a ++ b ++ c ++ d) r.rdata, length-append (a ++ b ++ c) d, length-append (a ++ b) c, length-append a b, two, four, size)

pub at_front : (o p rest : List ℕ) → o ≡ p ++ rest → (length p ≤ length o) × (take (length p) o ≡ p)
at_front o p rest e = (omega (arith, ap length e, length-append p rest), ap (take (length p)) e ∙ take-append_seam p rest)
