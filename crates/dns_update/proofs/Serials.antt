-- The serial of a SOA, and the next one.
use Rattle.std.proofs.Common.{◌≡◌, ℕ, zero, suc, ◌+◌, ◌-◌, ◌^◌, ◌<◌, ◌≤◌, true, ◌&&◌, List, [], ◌∷◌, ◌++◌, length, take, drop, refl, ap, ◌∙◌, arith, append_assoc, length-append}
use Rattle.std.specs.Prelude.{nat_lt}
use Rattle.std.proofs.lemmas.List.{take_at, drop_at, length-drop, length-take}
use Rattle.std.specs.Int.{w32, to_be_bytes}
use Rattle.std.specs.List.{AllByRecursion}
use Rattle.dns_records.specs.Types.{Values, U32, Name, type_soa}
use Rattle.dns_records.specs.Record.{Record, IsData, IsRecord, data_of, number_of, serial_of, with_serial}
use Rattle.dns_records.proofs.Readings.{parts_of, soa_with-valid, behind_fits}
use Rattle.dns_wire.proofs.NumbersBack.{four_back}
use Rattle.dns_serial.specs.Serial.{advance, greater, next_serial}

-- the next serial is greater
pub next_greater : (k : ℕ) → k < 2 ^ 32 → greater (next_serial k) k ≡ true
next_greater k h =
    let one : advance k (next_serial k) ≡ 1 = omega arith in
    ap (λ (n : ℕ). nat_lt 0 n && nat_lt n (2 ^ 31)) one

pub next_small : (k : ℕ) → next_serial k < 2 ^ 32
next_small k = omega arith

abbrev Octal : List ℕ → Type 0
Octal xs = AllByRecursion (λ octet. octet < 256) xs

taken : (n : ℕ) (xs : List ℕ) → Octal xs → Octal (take n xs)
taken zero xs h = tt
taken (suc n) [] h = tt
taken (suc n) (x ∷ xs) h = (h.0, taken n xs h.1)

four_small : (xs : List ℕ) → Octal xs → length xs ≤ 4 → number_of xs < 2 ^ 32
four_small [] h few = omega arith
four_small (a ∷ []) h few = omega arith
four_small (a ∷ b ∷ []) h few = omega arith
four_small (a ∷ b ∷ c ∷ []) h few = omega arith
four_small (a ∷ b ∷ c ∷ d ∷ []) h few = omega arith
four_small (a ∷ b ∷ c ∷ d ∷ e ∷ xs) h few = absurd (omega arith)

four_at_most : (xs : List ℕ) → length (take 4 xs) ≤ 4
four_at_most xs = omega (arith, length-take 4 xs)

pub serial_small : (r : Record) → IsRecord r → serial_of r < 2 ^ 32
serial_small r h =
    let behind = drop (length r.rdata - 20) r.rdata in
    four_small (take 4 behind) (taken 4 behind (behind_fits (length r.rdata - 20) r.rdata h.octets)) (four_at_most behind)

data_valid : (r : Record) → IsRecord r → IsData (data_of r)
data_valid r h = record { rtype = h.rtype; octets = h.octets; short = h.short; form = h.rdata }

-- after the two names there are five numbers
pub soa_long : (r : Record) → IsRecord r → r.rtype ≡ type_soa → 20 ≤ length r.rdata
soa_long r h e =
    let p = parts_of (data_of r) 6 (Name ∷ Name ∷ Values (U32 ∷ U32 ∷ U32 ∷ U32 ∷ U32 ∷ []) ∷ []) (data_valid r h) e refl in
    let size : length p.4.4.0 ≡ 20 = p.4.4.3 in
    omega (arith, ap length p.2, ap length p.4.2, ap length p.4.4.2, length-append p.0 p.1, length-append p.4.0 p.4.1, length-append p.4.4.0 p.4.4.1, size)

pub serial_is : (r : Record) (n : ℕ) → n < 2 ^ 32 → 20 ≤ length r.rdata → serial_of (with_serial r n) ≡ n
serial_is r n small long =
    let at = length r.rdata - 20 in
    let front = take at r.rdata in
    let number = to_be_bytes w32 n in
    let back = drop (at + 4) r.rdata in
    let first : length front ≡ at = omega (arith, length-take at r.rdata) in
    let last : length back ≡ 16 = omega (arith, length-drop (at + 4) r.rdata) in
    let size : length (front ++ number ++ back) - 20 ≡ at = omega (arith, length-append (front ++ number) back, length-append front number, first, last) in
    let behind : drop at (front ++ number ++ back) ≡ number ++ back = ap (drop at) (append_assoc front number back) ∙ drop_at front (number ++ back) at first in
    ap (λ (k : ℕ). number_of (take 4 (drop k (front ++ number ++ back)))) size ∙ ap (λ (xs : List ℕ). number_of (take 4 xs)) behind ∙ ap number_of (take_at number back 4 refl) ∙ four_back n small

pub next_valid : (r : Record) (n : ℕ) → IsRecord r → r.rtype ≡ type_soa → IsRecord (with_serial r n)
next_valid r n h e =
    let d = soa_with-valid (data_of r) n (data_valid r h) e in
    record { owner = h.owner; rtype = d.rtype; ttl = h.ttl; octets = d.octets; short = d.short; rdata = d.form }
