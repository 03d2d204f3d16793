-- Numbers and addresses in data read back from print.
use Rattle.std.proofs.Common.{◌≡◌, ℕ, zero, suc, ◌+◌, ◌*◌, ◌/◌, ◌%◌, ◌^◌, ◌<◌, inl, List, [], ◌∷◌, ◌++◌, length, get_or, decimal, Some, refl, ap, ◌∙◌, arith, length-append}
use Rattle.std.specs.Prelude.{option_map, codes}
use Rattle.std.specs.List.{AllByRecursion}
use Rattle.std.specs.Int.{w16, w32, to_be_bytes}
use Rattle.std.specs.Net.Addr.{segments_of, octets_of}
use Rattle.std.specs.Net.Text.{ipv4_text}
use Rattle.std.specs.Net.Grammar.{IsColonHex}
use Rattle.std.proofs.lemmas.Nat.{be_bytes_2, be_bytes_4}
use Rattle.std.proofs.NetLemmas.Texts.{IsDotted-ipv4_text}
use Rattle.dns_policy.specs.Printed.{printed_group, further_groups, printed_groups}
use Rattle.dns_policy.proofs.Addresses.{ipv4_read, ipv6_read}
use Rattle.dns_policy.proofs.PrintedBack.{FitSegments, group_is, groups_are, groups_no_dot}
use Rattle.dns_records.specs.Record.{number_of}
use Rattle.dns_masterfile.specs.Pieces.{Bare, IsWord}
use Rattle.dns_masterfile.specs.Data.{octets_of_text}
use Rattle.dns_masterfile.specs.Printed.{printed_as}
use Rattle.dns_masterfile.proofs.OnlyPieces.{IsPlain}
use Rattle.dns_masterfile.proofs.Covered.{empty_word}
use Rattle.dns_masterfile.proofs.Written.{IsWritten, word_append, digits_word, number_written}
use Rattle.dns_masterfile.proofs.StringsBack.{number_reads_back}
use Rattle.dns_records.specs.Types.{Ipv4, Ipv6, U16, U32, Value, size_of}

abbrev pub FitOctets : List ℕ → Type 0
FitOctets octets = AllByRecursion (λ c. c < 256) octets

fits_at : (o : List ℕ) (i : ℕ) → FitOctets o → get_or o i 0 < 256
fits_at [] i h = omega arith
fits_at (c ∷ cs) zero h = h.0
fits_at (c ∷ cs) (suc i) h = fits_at cs i h.1

-- What the text of octets of a form gives: a word, which is read as them.
pub record ReadsAs (f : Value) (octets : List ℕ) : Type 0 where
  pub word : IsWritten (Bare (printed_as f octets))
  pub read : octets_of_text f (printed_as f octets) ≡ Some octets

number16_as : (o : List ℕ) → FitOctets o → length o ≡ 2 → ReadsAs U16 o
number16_as [] h e = absurd (omega (arith, e))
number16_as (a ∷ []) h e = absurd (omega (arith, e))
number16_as (a ∷ b ∷ c ∷ o) h e = absurd (omega (arith, e))
number16_as (a ∷ b ∷ []) h e =
    let n : ℕ = number_of (a ∷ b ∷ []) in
    let small : n < 2 ^ 16 = omega (arith, h.0, h.1.0) in
    let wide : n < 2 ^ 64 = omega (arith, small) in
    let octets : to_be_bytes w16 n ≡ a ∷ b ∷ [] = be_bytes_2 (a ∷ b ∷ []) n refl (λ i. fits_at (a ∷ b ∷ []) i h) (omega arith) in
    record {
      word = number_written n wide;
      read = ap (option_map (to_be_bytes w16)) (number_reads_back (2 ^ 16) n small wide) ∙ ap (λ (x : List ℕ). Some x) octets;
    }

number32_as : (o : List ℕ) → FitOctets o → length o ≡ 4 → ReadsAs U32 o
number32_as [] h e = absurd (omega (arith, e))
number32_as (a ∷ []) h e = absurd (omega (arith, e))
number32_as (a ∷ b ∷ []) h e = absurd (omega (arith, e))
number32_as (a ∷ b ∷ c ∷ []) h e = absurd (omega (arith, e))
number32_as (a ∷ b ∷ c ∷ d ∷ x ∷ o) h e = absurd (omega (arith, e))
number32_as (a ∷ b ∷ c ∷ d ∷ []) h e =
    let n : ℕ = number_of (a ∷ b ∷ c ∷ d ∷ []) in
    let small : n < 2 ^ 32 = omega (arith, h.0, h.1.0, h.1.1.0, h.1.1.1.0) in
    let wide : n < 2 ^ 64 = omega (arith, small) in
    let octets : to_be_bytes w32 n ≡ a ∷ b ∷ c ∷ d ∷ [] = be_bytes_4 (a ∷ b ∷ c ∷ d ∷ []) n refl (λ i. fits_at (a ∷ b ∷ c ∷ d ∷ []) i h) (omega arith) in
    record {
      word = number_written n wide;
      read = ap (option_map (to_be_bytes w32)) (number_reads_back (2 ^ 32) n small wide) ∙ ap (λ (x : List ℕ). Some x) octets;
    }

-- Four decimal numbers.
dotted_more : (text : List ℕ) (n : ℕ) → IsWritten (Bare text) → n < 256 → IsWritten (Bare (text ++ codes "." ++ decimal n))
dotted_more text n h small =
    let number = number_written n (omega (arith, small)) in
    let dot = word_append IsPlain text (codes ".") h.1 (digits_dot) in
    (omega (arith, h.0, length-append text (codes "."), length-append (text ++ codes ".") (decimal n)), word_append IsPlain (text ++ codes ".") (decimal n) dot number.1)
  where
    digits_dot : IsWord IsPlain (codes ".")
    digits_dot = (codes "." ∷ [], refl, ((46, inl (refl, refl)), tt))

ipv4_as : (o : List ℕ) → FitOctets o → length o ≡ 4 → ReadsAs Ipv4 o
ipv4_as o h e =
    let at = λ (i : ℕ). fits_at o i h in
    let first = number_written (get_or o 0 0) (omega (arith, fits_at o 0 h)) in
    let two = dotted_more (decimal (get_or o 0 0)) (get_or o 1 0) first (fits_at o 1 h) in
    let three = dotted_more _ (get_or o 2 0) two (fits_at o 2 h) in
    let four = dotted_more _ (get_or o 3 0) three (fits_at o 3 h) in
    record {
      word = four;
      read = ipv4_read (ipv4_text o) o (IsDotted-ipv4_text o e (λ k. fits_at o k h));
    }

group_word : (s : ℕ) → s < 2 ^ 16 → IsWord IsPlain (printed_group s)
group_word s fits = digits_word 16 (printed_group s) (omega arith) (group_is s fits).0.0.1

further_word : (segments : List ℕ) → FitSegments segments → IsWord IsPlain (further_groups segments)
further_word [] h = empty_word IsPlain
further_word (s ∷ rest) h = word_append IsPlain (58 ∷ printed_group s) (further_groups rest) (word_append IsPlain (58 ∷ []) (printed_group s) colon (group_word s h.0)) (further_word rest h.1)
  where
    colon : IsWord IsPlain (58 ∷ [])
    colon = ((58 ∷ []) ∷ [], refl, ((58, inl (refl, refl)), tt))

groups_written : (segments : List ℕ) → FitSegments segments → 0 < length segments → IsWritten (Bare (printed_groups segments))
groups_written [] h some = absurd (omega (arith, some))
groups_written (s ∷ rest) h some = (
  omega (arith, (group_is s h.0).0.0.0, length-append (printed_group s) (further_groups rest)),
  word_append IsPlain (printed_group s) (further_groups rest) (group_word s h.0) (further_word rest h.1),
)

-- Octets two by two.
segments_fit : (n : ℕ) (o : List ℕ) → length o ≡ n + n → FitOctets o → FitSegments (segments_of o) × (length (segments_of o) ≡ n) × (octets_of (segments_of o) ≡ o)
segments_fit zero [] e h = (tt, refl, refl)
segments_fit zero (a ∷ o) e h = absurd (omega (arith, e))
segments_fit (suc n) [] e h = absurd (omega (arith, e))
segments_fit (suc n) (a ∷ []) e h = absurd (omega (arith, e))
segments_fit (suc n) (a ∷ b ∷ o) e h =
    let inner = segments_fit n o (omega (arith, e)) h.1.1 in
    let high : (a * 256 + b) / 256 ≡ a = omega (arith, h.1.0) in
    let low : (a * 256 + b) % 256 ≡ b = omega (arith, h.1.0) in (
      (omega (arith, h.0, h.1.0), inner.0),
      ap suc inner.1,
      ap (λ (x : ℕ). x ∷ ((a * 256 + b) % 256) ∷ octets_of (segments_of o)) high ∙ ap (λ (x : ℕ). a ∷ x ∷ octets_of (segments_of o)) low ∙ ap (λ (xs : List ℕ). a ∷ b ∷ xs) inner.2,
    )

ipv6_as : (o : List ℕ) → FitOctets o → length o ≡ 16 → ReadsAs Ipv6 o
ipv6_as o h e =
    let s = segments_fit 8 o e h in
    let segments : List ℕ = segments_of o in
    let spelled : IsColonHex (printed_groups segments) segments = inl (groups_are segments s.0, s.1) in
    record {
      word = groups_written segments s.0 (omega (arith, s.1));
      read = ipv6_read (printed_groups segments) segments (groups_no_dot segments s.0) spelled ∙ ap (λ (x : List ℕ). Some x) s.2;
    }

-- octets of each form are printed as a word that is read as them
pub reads_as : (f : Value) (octets : List ℕ) → FitOctets octets → length octets ≡ size_of f → ReadsAs f octets
reads_as U16 octets h e = number16_as octets h e
reads_as U32 octets h e = number32_as octets h e
reads_as Ipv4 octets h e = ipv4_as octets h e
reads_as Ipv6 octets h e = ipv6_as octets h e
