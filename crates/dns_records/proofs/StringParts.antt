-- Strings one after the other.
use Rattle.std.proofs.Common.{◌≡◌, ℕ, zero, suc, ◌+◌, ◌-◌, ◌<◌, ◌≤◌, get_or, List, [], ◌∷◌, ◌++◌, length, take, drop, refl, sym, ap, subst, ◌∙◌, arith, append-nil, length-append}
use Rattle.std.specs.List.{AllByRecursion, flat_map}
use Rattle.std.proofs.lemmas.List.{take_at, drop_at, take_all}
use Rattle.dns_records.specs.Types.{Strings}
use Rattle.dns_records.specs.Record.{Data, IsData, string}
use Rattle.dns_records.specs.TextStrings.{strings_within, strings_of, AreStrings, txt_data, FitsTxt}
use Rattle.dns_records.proofs.Readings.{parts_of}

within-flat : (ss : List (List ℕ)) (more : ℕ) → length ss ≤ more → strings_within more (flat_map string ss) ≡ ss
within-flat [] zero h = refl
within-flat [] (suc more) h = refl
within-flat (s ∷ ss) zero h = absurd (omega arith)
within-flat (s ∷ ss) (suc more) h =
    ap (λ (x : List ℕ). x ∷ strings_within more (drop (length s) (s ++ flat_map string ss))) (take_at s (flat_map string ss) (length s) refl)
    ∙ ap (λ (x : List ℕ). s ∷ strings_within more x) (drop_at s (flat_map string ss) (length s) refl)
    ∙ ap (λ (x : List (List ℕ)). s ∷ x) (within-flat ss more (omega arith))

fewer : (ss : List (List ℕ)) → length ss ≤ length (flat_map string ss)
fewer [] = omega arith
fewer (s ∷ ss) = omega (arith, fewer ss, length-append s (flat_map string ss))

pub strings_of-flat : (o : List ℕ) (ss : List (List ℕ)) → o ≡ flat_map string ss → strings_of o ≡ ss
strings_of-flat o ss e = ap strings_of e ∙ within-flat ss (length (flat_map string ss)) (fewer ss)

pub are_strings : (o : List ℕ) (ss : List (List ℕ)) → o ≡ flat_map string ss → AllByRecursion (λ (s : List ℕ). length s < 256) ss → AreStrings o
are_strings o ss e short =
    let same = strings_of-flat o ss e in
    record { whole = ap (flat_map string) same ∙ sym e; short = subst (AllByRecursion (λ (s : List ℕ). length s < 256)) (sym same) short }

-- the first string, and the others
pub record FirstString (n : ℕ) (behind : List ℕ) : Type 0 where
  pub long : n ≤ length behind
  pub parts : strings_of (n ∷ behind) ≡ take n behind ∷ strings_of (drop n behind)
  pub rest : AreStrings (drop n behind)

pub first_string : (n : ℕ) (behind : List ℕ) → AreStrings (n ∷ behind) → FirstString n behind
first_string n behind h = go (strings_of (n ∷ behind)) refl (sym h.whole) h.short
  where
    go : (ss : List (List ℕ)) → strings_of (n ∷ behind) ≡ ss → n ∷ behind ≡ flat_map string (strings_of (n ∷ behind)) → AllByRecursion (λ (s : List ℕ). length s < 256) (strings_of (n ∷ behind)) → FirstString n behind
    go [] same e short = (let none : n ∷ behind ≡ [] = e ∙ ap (flat_map string) same in absurd (cc))
    go (s ∷ ss) same e short =
        let whole : n ∷ behind ≡ flat_map string (s ∷ ss) = e ∙ ap (flat_map string) same in
        let width : n ≡ length s = cc in
        let text : behind ≡ s ++ flat_map string ss = cc in
        let front : take n behind ≡ s = ap (take n) text ∙ take_at s (flat_map string ss) n (sym width) in
        let back : drop n behind ≡ flat_map string ss = ap (drop n) text ∙ drop_at s (flat_map string ss) n (sym width) in
        let all = subst (AllByRecursion (λ (s : List ℕ). length s < 256)) same short in
        record {
          long = omega (arith, ap length text, length-append s (flat_map string ss));
          parts = same ∙ ap (λ (x : List ℕ). x ∷ ss) (sym front) ∙ ap (λ (x : List (List ℕ)). take n behind ∷ x) (sym (strings_of-flat (drop n behind) ss back));
          rest = are_strings (drop n behind) ss back all.1;
        }

-- a TXT
pub record Txt (d : Data) (o : List ℕ) : Type 0 where
  pub plain : AreStrings o
  pub whole : d ≡ txt_data (strings_of o)
  pub fits : FitsTxt (strings_of o)

abbrev data_at : ℕ → List ℕ → Data
data_at t x = record { rtype = t; octets = x }

pub txt_of : (d : Data) (o : List ℕ) → IsData d → d.rtype ≡ 16 → o ≡ d.octets → Txt d o
txt_of d o valid h e =
    let p = parts_of d 16 (Strings ∷ []) valid h refl in
    let none : p.1 ≡ [] = p.4 in
    let strings = p.3 in
    let front : d.octets ≡ p.0 = p.2 ∙ ap (λ (x : List ℕ). p.0 ++ x) none ∙ append-nil p.0 in
    let flat : o ≡ flat_map string strings.0 = e ∙ front ∙ strings.3 in
    let same = strings_of-flat o strings.0 flat in
    let plain = are_strings o strings.0 flat strings.2 in
    record {
      plain = plain;
      whole = ap (λ (t : ℕ). data_at t d.octets) h ∙ ap (data_at 16) (sym e ∙ sym plain.whole);
      fits = record { some = λ none. strings.1 (sym same ∙ none); short = plain.short };
    }

pub record SplitString (o front rest : List ℕ) : Type 0 where
  pub parts : strings_of o ≡ take (length front - 1) (drop 1 front) ∷ strings_of rest
  pub others : AreStrings rest

pub string_long : (o : List ℕ) → AreStrings o → 0 < length o → 1 + get_or o 0 0 ≤ length o
string_long [] h some = absurd (omega arith)
string_long (n ∷ behind) h some = (let first = first_string n behind h in omega (arith, first.long))

pub split_string : (o front rest : List ℕ) → AreStrings o → 0 < length o → front ≡ take (1 + get_or o 0 0) o → rest ≡ drop (1 + get_or o 0 0) o → SplitString o front rest
split_string [] front rest h some f b = absurd (omega arith)
split_string (n ∷ behind) front rest h some f b =
    let first = first_string n behind h in
    let one : 1 + n ≡ suc n = omega arith in
    let cut : front ≡ n ∷ take n behind = f ∙ ap (λ (k : ℕ). take k (n ∷ behind)) one in
    let back : rest ≡ drop n behind = b ∙ ap (λ (k : ℕ). drop k (n ∷ behind)) one in
    let long : length (n ∷ take n behind) - 1 ≡ length (take n behind) = omega arith in
    let text : take (length front - 1) (drop 1 front) ≡ take n behind = rw cut (ap (λ (k : ℕ). take k (take n behind)) long ∙ take_all (length (take n behind)) (take n behind) (omega arith)) in
    record {
      parts = first.parts ∙ ap (λ (x : List ℕ). x ∷ strings_of (drop n behind)) (sym text) ∙ ap (λ (x : List ℕ). take (length front - 1) (drop 1 front) ∷ strings_of x) (sym back);
      others = subst AreStrings (sym back) first.rest;
    }
