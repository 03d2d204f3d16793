-- Plain forms, label by label.
use Rattle.std.proofs.Common.{◌≡◌, ℕ, suc, ◌+◌, ◌<◌, ◌≤◌, Bool, true, false, List, [], ◌∷◌, ◌++◌, length, get_or, take, drop, refl, sym, ap, subst, ◌∙◌, arith}
use Rattle.std.specs.Str.{bytes_eq}
use Rattle.std.proofs.lemmas.List.{length-append, take_at, drop_at}
use Rattle.dns_names.specs.Name.{Labels, IsName, wire, names_eq, labels_of}
use Rattle.dns_names.specs.Plain.{IsPlain}
use Rattle.dns_names.specs.PlainLaws.{plain_of}
use Rattle.dns_wire.specs.NameLaws.{some_octet}
use Rattle.dns_wire.proofs.Places.{bytes_same, bytes_self, names_same, names_self}

same_bool : (a b : Bool) → (a ≡ true → b ≡ true) → (b ≡ true → a ≡ true) → a ≡ b
same_bool true b f g = sym (f refl)
same_bool false true f g = g refl
same_bool false false f g = refl

-- plain forms are one where their names are
pub plain_eq : (a b : List ℕ) → IsPlain a → IsPlain b → bytes_eq a b ≡ names_eq (labels_of a) (labels_of b)
plain_eq a b h k =
    same_bool (bytes_eq a b) (names_eq (labels_of a) (labels_of b))
    (λ e. ap (λ (x : List ℕ). names_eq (labels_of x) (labels_of b)) (bytes_same a b e) ∙ names_self (labels_of b))
    (λ e.
    (let same : a ≡ b = sym h.whole ∙ ap wire (names_same (labels_of a) (labels_of b) e) ∙ k.whole in
    ap (λ (x : List ℕ). bytes_eq x b) same ∙ bytes_self b))

-- a plain form that begins with a label
pub record FirstLabel (octets : List ℕ) : Type 0 where
  pub label : List ℕ
  pub rest : Labels
  pub is : labels_of octets ≡ label ∷ rest
  pub count : get_or octets 0 0 ≡ length label
  pub more : 1 + length label < length octets
  pub front : take (1 + length label) octets ≡ length label ∷ label
  pub back : labels_of (drop (1 + length label) octets) ≡ rest
  pub plain : IsPlain (drop (1 + length label) octets)

name_behind : (label : List ℕ) (rest : Labels) → IsName (label ∷ rest) → IsName rest
name_behind label rest h =
    let short : suc (length (label ++ wire rest)) ≤ 255 = h.short in
    record { labels = h.labels.1; short = omega (arith, short, length-append label (wire rest)) }

first_of_labels : (octets : List ℕ) (label : List ℕ) (rest : Labels) → labels_of octets ≡ label ∷ rest → octets ≡ length label ∷ label ++ wire rest → IsName (label ∷ rest) → FirstLabel octets
first_of_labels octets label rest is e valid =
    let size : length octets ≡ suc (length (label ++ wire rest)) = ap length e in
    let width : 1 + length label ≡ suc (length label) = omega arith in
    let back : drop (1 + length label) octets ≡ wire rest = ap (λ (k : ℕ). drop k octets) width ∙ ap (drop (suc (length label))) e ∙ drop_at label (wire rest) (length label) refl in
    let plain = plain_of (drop (1 + length label) octets) rest (name_behind label rest valid) back in
    record {
      label = label;
      rest = rest;
      is = is;
      count = ap (λ (xs : List ℕ). get_or xs 0 0) e;
      more = omega (arith, size, length-append label (wire rest), some_octet rest);
      front = ap (λ (k : ℕ). take k octets) width ∙ ap (take (suc (length label))) e ∙ ap (λ (xs : List ℕ). length label ∷ xs) (take_at label (wire rest) (length label) refl);
      back = plain.0;
      plain = plain.1;
    }

pub first_label : (octets : List ℕ) → IsPlain octets → 1 < length octets → FirstLabel octets
first_label octets h some = go (labels_of octets) refl
  where
    go : (labels : Labels) → labels_of octets ≡ labels → FirstLabel octets
    go [] is =
        let e : wire [] ≡ octets = ap wire (sym is) ∙ h.whole in
        let size : 1 ≡ length octets = ap length e in
        absurd (omega (arith, size))
    go (label ∷ rest) is = first_of_labels octets label rest is (sym h.whole ∙ ap wire is) (subst IsName is h.valid)

pub no_label : (octets : List ℕ) → IsPlain octets → length octets ≤ 1 → labels_of octets ≡ []
no_label octets h none = go (labels_of octets) refl
  where
    go : (labels : Labels) → labels_of octets ≡ labels → labels_of octets ≡ []
    go [] is = is
    go (label ∷ rest) is =
        let f = first_of_labels octets label rest is (sym h.whole ∙ ap wire is) (subst IsName is h.valid) in
        let more : 1 + length f.label < length octets = f.more in
        absurd (omega arith)
