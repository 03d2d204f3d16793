-- The positions of the name that is in full after the header.
use Rattle.std.proofs.Common.{◌≡◌, ℕ, ◌+◌, ◌<◌, ◌≤◌, Bool, true, false, List, [], ◌∷◌, ◌++◌, length, Option, Some, None, refl, sym, ap, ◌∙◌, arith}
use Rattle.std.specs.Prelude.{nat_lt}
use Rattle.std.specs.Option.{option_or}
use Rattle.std.specs.Str.{bytes_eq}
use Rattle.std.proofs.lemmas.List.{length-append}
use Rattle.dns_names.specs.Name.{Labels, wire, labels_of, names_eq}
use Rattle.dns_names.specs.Plain.{IsPlain}
use Rattle.dns_wire.specs.Compress.{Place, new_places}
use Rattle.dns_wire.specs.Indexed.{offset_at}
use Rattle.dns_wire.specs.Puts.{noted}
use Rattle.dns_wire.proofs.Places.{names_same}
use Rattle.dns_wire.proofs.Suffixes.{FirstLabel, first_label, no_label, plain_eq}
use Rattle.dns_wire.proofs.NamePut.{places_next}
use Rattle.dns_wire.proofs.Indexed.{offset_at-append, noted_other}

-- names of two lengths are two
apart : (a b : Labels) → (length (wire a) ≡ length (wire b) → ⊥) → names_eq a b ≡ false
apart a b h = go (names_eq a b) refl
  where
    go : (t : Bool) → names_eq a b ≡ t → t ≡ false
    go false e = refl
    go true e = absurd (h (ap (λ (n : Labels). length (wire n)) (names_same a b e)))

-- another suffix is at none but the positions after the first
passed : (at : ℕ) (label : List ℕ) (rest suffix : Labels) (after : ℕ) → after ≡ at + 1 + length label → names_eq (label ∷ rest) suffix ≡ false
    → offset_at (new_places [] at (label ∷ rest)) suffix ≡ offset_at (new_places [] after rest) suffix
passed at label rest suffix after position other =
    ap (λ (ps : List Place). offset_at ps suffix) (places_next [] [] at label rest after refl position)
    ∙ offset_at-append (noted at (label ∷ rest)) (new_places [] after rest) suffix
    ∙ ap (λ (o : Option ℕ). option_or o (offset_at (new_places [] after rest) suffix)) (noted_other at label rest suffix other)

-- a longer name is at no position of a name
none_longer : (at : ℕ) (name suffix : Labels) → length (wire name) < length (wire suffix) → offset_at (new_places [] at name) suffix ≡ None
none_longer at [] suffix h = refl
none_longer at (label ∷ rest) suffix h =
    passed at label rest suffix (at + 1 + length label) refl (apart (label ∷ rest) suffix (λ same. omega (arith, same, h)))
    ∙ none_longer (at + 1 + length label) rest suffix (omega (arith, h, length-append label (wire rest)))

-- the root is at no position
pub no_root : (at : ℕ) (name : Labels) → offset_at (new_places [] at name) [] ≡ None
no_root at [] = refl
no_root at (label ∷ rest) = passed at label rest [] (at + 1 + length label) refl refl ∙ no_root (at + 1 + length label) rest

-- the suffix is looked for after a label of a longer name
pub looked_on : (at : ℕ) (octets suffix behind : List ℕ) (after : ℕ) (f : FirstLabel octets) → IsPlain octets → IsPlain suffix → length suffix < length octets → after ≡ at + 1 + length f.label → labels_of behind ≡ f.rest
    → offset_at (new_places [] at (labels_of octets)) (labels_of suffix) ≡ offset_at (new_places [] after (labels_of behind)) (labels_of suffix)
looked_on at octets suffix behind after f h k short position back =
    let own : length (wire (f.label ∷ f.rest)) ≡ length octets = ap (λ (n : Labels). length (wire n)) (sym f.is) ∙ ap length h.whole in
    let other : length (wire (labels_of suffix)) ≡ length suffix = ap length k.whole in
    ap (λ (n : Labels). offset_at (new_places [] at n) (labels_of suffix)) f.is
    ∙ passed at f.label f.rest (labels_of suffix) after position (apart (f.label ∷ f.rest) (labels_of suffix) (λ same. omega (arith, same, own, other, short)))
    ∙ ap (λ (n : Labels). offset_at (new_places [] after n) (labels_of suffix)) (sym back)

pub found_here : (at : ℕ) (octets suffix : List ℕ) → IsPlain octets → IsPlain suffix → 1 < length octets → nat_lt at 16384 ≡ true → bytes_eq octets suffix ≡ true
    → Some at ≡ offset_at (new_places [] at (labels_of octets)) (labels_of suffix)
found_here at octets suffix h k some low same =
    let f = first_label octets h some in
    let alike : names_eq (f.label ∷ f.rest) (labels_of suffix) ≡ true = ap (λ (n : Labels). names_eq n (labels_of suffix)) (sym f.is) ∙ sym (plain_eq octets suffix h k) ∙ same in
    let here : Some at ≡ offset_at (new_places [] at (f.label ∷ f.rest)) (labels_of suffix) = rw (low, new_places, alike) refl in
    here ∙ ap (λ (n : Labels). offset_at (new_places [] at n) (labels_of suffix)) (sym f.is)

pub found_nowhere : (at : ℕ) (octets suffix : List ℕ) → IsPlain octets → IsPlain suffix → length octets ≤ length suffix → bytes_eq octets suffix ≡ false
    → None ≡ offset_at (new_places [] at (labels_of octets)) (labels_of suffix)
found_nowhere at octets suffix h k short differ = sym (go (labels_of octets) refl)
  where
    go : (name : Labels) → labels_of octets ≡ name → offset_at (new_places [] at (labels_of octets)) (labels_of suffix) ≡ None
    go [] is = ap (λ (n : Labels). offset_at (new_places [] at n) (labels_of suffix)) is
    go (label ∷ rest) is =
        let own : length (wire (label ∷ rest)) ≡ length octets = ap (λ (n : Labels). length (wire n)) (sym is) ∙ ap length h.whole in
        let other : length (wire (labels_of suffix)) ≡ length suffix = ap length k.whole in
        let after = at + 1 + length label in
        ap (λ (n : Labels). offset_at (new_places [] at n) (labels_of suffix)) is
        ∙ passed at label rest (labels_of suffix) after refl (ap (λ (n : Labels). names_eq n (labels_of suffix)) (sym is) ∙ sym (plain_eq octets suffix h k) ∙ differ)
        ∙ none_longer after rest (labels_of suffix) (omega (arith, own, other, short, length-append label (wire rest)))

pub found_none : (at : ℕ) (octets : List ℕ) (suffix : Labels) → IsPlain octets → length octets ≤ 1 → None ≡ offset_at (new_places [] at (labels_of octets)) suffix
found_none at octets suffix h none = sym (ap (λ (n : Labels). offset_at (new_places [] at n) suffix) (no_label octets h none))

-- a plain form is short
pub plain_short : (octets : List ℕ) → IsPlain octets → length octets ≤ 255
plain_short octets h = let short = h.valid.short in omega (arith, short, ap length h.whole)

-- after no positions there are none
pub none_behind : (front back : List Place) → front ++ back ≡ [] → back ≡ []
none_behind [] back e = e
none_behind (p ∷ front) back e = absurd (let size = ap length e in omega (arith, size))

-- what is among the first positions is found there, and else after them
pub among_first : (front back : List Place) (name : Labels) (offset : ℕ) → Some offset ≡ offset_at front name → Some offset ≡ offset_at (front ++ back) name
among_first front back name offset e = ap (λ (o : Option ℕ). option_or o (offset_at back name)) e ∙ sym (offset_at-append front back name)

pub behind_first : (front back : List Place) (name : Labels) → None ≡ offset_at front name → offset_at back name ≡ offset_at (front ++ back) name
behind_first front back name e = ap (λ (o : Option ℕ). option_or o (offset_at back name)) e ∙ sym (offset_at-append front back name)
