-- Numbers that were written read back.
use Rattle.std.proofs.Common.{◌≡◌, ℕ, ◌+◌, ◌*◌, ◌/◌, ◌%◌, ◌<◌, ◌^◌, Bool, true, false, arith}
use Rattle.std.specs.Int.{w16, w32, to_be_bytes}
use Rattle.std.proofs.lemmas.Bool.Decides.{nat_tests}
use Rattle.dns_records.specs.Types.{is_data_type}
use Rattle.dns_records.specs.Record.{number_of}
use Rattle.dns_wire.specs.Message.{bit}
use Rattle.dns_wire.specs.Text.{one_if}

pub two_back : (n : ℕ) → n < 2 ^ 16 → number_of (to_be_bytes w16 n) ≡ n
two_back n h = omega arith

pub four_back : (n : ℕ) → n < 2 ^ 32 → number_of (to_be_bytes w32 n) ≡ n
four_back n h = omega arith

pub known_small : (t : ℕ) → is_data_type t ≡ true → t < 2 ^ 16
known_small t h = grind (arith, nat_tests)

abbrev pub flags : ℕ → Bool → Bool → Bool → ℕ
flags opcode aa tc rd = 128 + 8 * opcode + 4 * one_if aa + 2 * one_if tc + one_if rd

pub qr_back : (opcode : ℕ) (aa tc rd : Bool) → opcode < 16 → bit (flags opcode aa tc rd) 7 ≡ true
qr_back opcode true true true h = grind (arith, nat_tests)
qr_back opcode true true false h = grind (arith, nat_tests)
qr_back opcode true false true h = grind (arith, nat_tests)
qr_back opcode true false false h = grind (arith, nat_tests)
qr_back opcode false true true h = grind (arith, nat_tests)
qr_back opcode false true false h = grind (arith, nat_tests)
qr_back opcode false false true h = grind (arith, nat_tests)
qr_back opcode false false false h = grind (arith, nat_tests)

pub opcode_back : (opcode : ℕ) (aa tc rd : Bool) → opcode < 16 → flags opcode aa tc rd / 8 % 16 ≡ opcode
opcode_back opcode true true true h = omega arith
opcode_back opcode true true false h = omega arith
opcode_back opcode true false true h = omega arith
opcode_back opcode true false false h = omega arith
opcode_back opcode false true true h = omega arith
opcode_back opcode false true false h = omega arith
opcode_back opcode false false true h = omega arith
opcode_back opcode false false false h = omega arith

pub aa_back : (opcode : ℕ) (aa tc rd : Bool) → opcode < 16 → bit (flags opcode aa tc rd) 2 ≡ aa
aa_back opcode true true true h = grind (arith, nat_tests)
aa_back opcode true true false h = grind (arith, nat_tests)
aa_back opcode true false true h = grind (arith, nat_tests)
aa_back opcode true false false h = grind (arith, nat_tests)
aa_back opcode false true true h = grind (arith, nat_tests)
aa_back opcode false true false h = grind (arith, nat_tests)
aa_back opcode false false true h = grind (arith, nat_tests)
aa_back opcode false false false h = grind (arith, nat_tests)

pub tc_back : (opcode : ℕ) (aa tc rd : Bool) → opcode < 16 → bit (flags opcode aa tc rd) 1 ≡ tc
tc_back opcode true true true h = grind (arith, nat_tests)
tc_back opcode true true false h = grind (arith, nat_tests)
tc_back opcode true false true h = grind (arith, nat_tests)
tc_back opcode true false false h = grind (arith, nat_tests)
tc_back opcode false true true h = grind (arith, nat_tests)
tc_back opcode false true false h = grind (arith, nat_tests)
tc_back opcode false false true h = grind (arith, nat_tests)
tc_back opcode false false false h = grind (arith, nat_tests)

pub rd_back : (opcode : ℕ) (aa tc rd : Bool) → opcode < 16 → bit (flags opcode aa tc rd) 0 ≡ rd
rd_back opcode true true true h = grind (arith, nat_tests)
rd_back opcode true true false h = grind (arith, nat_tests)
rd_back opcode true false true h = grind (arith, nat_tests)
rd_back opcode true false false h = grind (arith, nat_tests)
rd_back opcode false true true h = grind (arith, nat_tests)
rd_back opcode false true false h = grind (arith, nat_tests)
rd_back opcode false false true h = grind (arith, nat_tests)
rd_back opcode false false false h = grind (arith, nat_tests)
