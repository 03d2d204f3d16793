-- A plain form in front of other octets.
use Rattle.std.proofs.Common.{◌≡◌, ◌≢◌, ℕ, zero, suc, ◌+◌, ◌<◌, List, [], ◌∷◌, ◌++◌, length, get_or, take, drop, refl, sym, ap, subst, ◌∙◌, arith, append_assoc, drop-drop}
use Rattle.std.specs.List.{AllByRecursion}
use Rattle.std.proofs.lemmas.List.{length-append, length-drop, take_at, drop_at, get_or-drop}
use Rattle.dns_names.specs.Name.{Labels, IsLabel, IsName, wire, labels_within, labels_of}
use Rattle.dns_names.specs.Plain.{IsPlain}
use Rattle.dns_names.specs.PlainLaws.{fewer_labels, plain_of}
use Rattle.dns_wire.specs.Puts.{BeginsWithName}
use Rattle.dns_wire.specs.NameLaws.{some_octet}

-- the labels of a plain form in front of other octets
labels_within_front : (labels : Labels) (more : ℕ) (rest : List ℕ) → AllByRecursion IsLabel labels → length labels < more → labels_within more (wire labels ++ rest) ≡ labels
labels_within_front [] zero rest valid lt = absurd (omega arith)
labels_within_front [] (suc more) rest valid lt = refl
labels_within_front (l ∷ ls) zero rest valid lt = absurd (omega arith)
labels_within_front ([] ∷ ls) (suc more) rest valid lt = let some : 0 < 0 = valid.0.some in absurd (omega arith)
labels_within_front ((c ∷ l) ∷ ls) (suc more) rest valid lt =
    let whole : ((c ∷ l) ++ wire ls) ++ rest ≡ (c ∷ l) ++ (wire ls ++ rest) = append_assoc (c ∷ l) (wire ls) rest in
    let front : take (length (c ∷ l)) (((c ∷ l) ++ wire ls) ++ rest) ≡ c ∷ l = ap (take (length (c ∷ l))) whole ∙ take_at (c ∷ l) (wire ls ++ rest) (length (c ∷ l)) refl in
    let back : drop (length (c ∷ l)) (((c ∷ l) ++ wire ls) ++ rest) ≡ wire ls ++ rest = ap (drop (length (c ∷ l))) whole ∙ drop_at (c ∷ l) (wire ls ++ rest) (length (c ∷ l)) refl in
    let inner : labels_within more (wire ls ++ rest) ≡ ls = labels_within_front ls more rest valid.1 (omega arith) in
    ap (λ (x : List ℕ). x ∷ labels_within more (drop (length (c ∷ l)) (((c ∷ l) ++ wire ls) ++ rest))) front
    ∙ ap (λ (x : List ℕ). (c ∷ l) ∷ labels_within more x) back
    ∙ ap (λ (xs : Labels). (c ∷ l) ∷ xs) inner

pub labels_of_front : (octets : List ℕ) (name : Labels) (rest : List ℕ) → IsName name → octets ≡ wire name ++ rest → labels_of octets ≡ name
labels_of_front octets name rest valid e =
    let size : length (wire name ++ rest) ≡ length (wire name) + length rest = length-append (wire name) rest in
    ap labels_of e ∙ labels_within_front name (length (wire name ++ rest)) rest valid.labels (omega (arith, size, fewer_labels name))

-- what is left of the name from an offset on
pub record NameBehind (octets : List ℕ) (at size : ℕ) : Type 0 where
  pub left : Labels
  pub rest : List ℕ
  pub valid : AllByRecursion IsLabel left
  pub is : drop at octets ≡ wire left ++ rest
  pub sized : at + length (wire left) ≡ size

pub behind_first : (octets : List ℕ) (h : BeginsWithName octets) → NameBehind octets 0 (length (wire h.name))
behind_first octets h = record { left = h.name; rest = h.rest; valid = h.valid.labels; is = h.is; sized = omega arith }

pub behind_inside : (octets : List ℕ) (at size : ℕ) → NameBehind octets at size → at < length octets
behind_inside octets at size h =
    let e : length (drop at octets) ≡ length (wire h.left) + length h.rest = ap length h.is ∙ length-append (wire h.left) h.rest in
    omega (arith, e, length-drop at octets, some_octet h.left)

first_octet : (octets : List ℕ) (at k : ℕ) (tail : List ℕ) → drop at octets ≡ k ∷ tail → get_or octets at 0 ≡ k
first_octet octets at k tail e =
    let here : get_or (drop at octets) 0 0 ≡ get_or octets (at + 0) 0 = get_or-drop at octets 0 0 in
    let same : at + 0 ≡ at = omega arith in
    ap (λ (i : ℕ). get_or octets i 0) (sym same) ∙ sym here ∙ ap (λ (xs : List ℕ). get_or xs 0 0) e

pub behind_next : (octets : List ℕ) (at size k : ℕ) → get_or octets at 0 ≡ k → k ≢ 0 → NameBehind octets at size → NameBehind octets (at + (1 + k)) size
behind_next octets at size k here some h = go h.left h.valid h.is h.sized
  where
    go : (left : Labels) → AllByRecursion IsLabel left → drop at octets ≡ wire left ++ h.rest → at + length (wire left) ≡ size → NameBehind octets (at + (1 + k)) size
    go [] valid e sized = absurd (some (sym here ∙ first_octet octets at 0 h.rest e))
    go (l ∷ ls) valid e sized =
        let count : length l ≡ k = sym (first_octet octets at (length l) ((l ++ wire ls) ++ h.rest) e) ∙ here in
        let total : length (wire (l ∷ ls)) ≡ suc (length l + length (wire ls)) = ap suc (length-append l (wire ls)) in
        let one : 1 + k ≡ suc (length l) = omega (arith, count) in
        record {
          left = ls;
          rest = h.rest;
          valid = valid.1;
          is = sym (drop-drop (1 + k) at octets) ∙ ap (λ (i : ℕ). drop i (drop at octets)) one ∙ ap (drop (suc (length l))) e ∙ ap (drop (length l)) (append_assoc l (wire ls) h.rest) ∙ drop_at l (wire ls ++ h.rest) (length l) refl;
          sized = omega (arith, sized, total, count);
        }

pub behind_root : (octets : List ℕ) (at size : ℕ) → get_or octets at 0 ≡ 0 → NameBehind octets at size → at + 1 ≡ size
behind_root octets at size here h = go h.left h.valid h.is h.sized
  where
    go : (left : Labels) → AllByRecursion IsLabel left → drop at octets ≡ wire left ++ h.rest → at + length (wire left) ≡ size → at + 1 ≡ size
    go [] valid e sized = sized
    go (l ∷ ls) valid e sized =
        let count : length l ≡ 0 = sym (first_octet octets at (length l) ((l ++ wire ls) ++ h.rest) e) ∙ here in
        let pos : 0 < length l = valid.0.some in
        absurd (omega (arith, count))

-- the plain form in front
pub record Split (octets : List ℕ) (at : ℕ) : Type 0 where
  pub labels : labels_of (take at octets) ≡ labels_of octets
  pub plain : IsPlain (take at octets)
  pub size : at ≡ length (wire (labels_of octets))

pub split_front : (octets : List ℕ) (at : ℕ) (h : BeginsWithName octets) → at ≡ length (wire h.name) → Split octets at
split_front octets at h e =
    let name : labels_of octets ≡ h.name = labels_of_front octets h.name h.rest h.valid h.is in
    let front : take at octets ≡ wire h.name = ap (take at) h.is ∙ take_at (wire h.name) h.rest at (sym e) in
    let plain = plain_of (take at octets) h.name h.valid front in
    record {
      labels = plain.0 ∙ sym name;
      plain = plain.1;
      size = e ∙ ap (λ (n : Labels). length (wire n)) (sym name);
    }

pub behind_begin : (octets : List ℕ) → BeginsWithName octets → NameBehind octets 0 (length (wire (labels_of octets)))
behind_begin octets h = subst (λ (n : Labels). NameBehind octets 0 (length (wire n))) (sym (labels_of_front octets h.name h.rest h.valid h.is)) (behind_first octets h)

pub split_root : (octets : List ℕ) (root : ℕ) → BeginsWithName octets → root + 1 ≡ length (wire (labels_of octets)) → Split octets (root + 1)
split_root octets root h e = split_front octets (root + 1) h (e ∙ ap (λ (n : Labels). length (wire n)) (labels_of_front octets h.name h.rest h.valid h.is))
