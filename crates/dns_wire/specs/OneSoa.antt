-- A SOA whose two names are each one label before its owner, which ends the name of the question.
use Rattle.std.specs.Prelude.{◌≡◌, ℕ, ◌+◌, ◌<◌, ◌≤◌, List, [], ◌++◌, length}
use Rattle.std.specs.Int.{w16, w32, to_be_bytes}
use Rattle.dns_names.specs.Name.{Labels}
use Rattle.dns_records.specs.Types.{class_in, type_soa}
use Rattle.dns_records.specs.Record.{Record}
use Rattle.dns_wire.specs.Compress.{compressed_record, new_places, pointer}
use Rattle.dns_wire.specs.declared.one_soa.SoaParts.{SoaParts}

-- Its data: the label of each name, with its length before it, and a pointer to the owner; then the numbers.
abbrev pub soa_data : ℕ → List ℕ → List ℕ → List ℕ → List ℕ
soa_data offset first second numbers = (first ++ pointer offset) ++ ((second ++ pointer offset) ++ numbers)

-- The octets of the record before its data, whose owner is a pointer.
abbrev pub soa_head : ℕ → ℕ → ℕ → List ℕ
soa_head offset ttl size =
    pointer offset ++ to_be_bytes w16 type_soa ++ to_be_bytes w16 class_in ++ to_be_bytes w32 ttl
    ++ to_be_bytes w16 size

-- The parts of a SOA that is written after a question with this name.
pub record AreSoaParts (name : Labels) (r : Record) (parts : SoaParts) : Type 0 where
  pub low : parts.offset < 16384
  pub short : length parts.first.now + length parts.second.now ≤ 512
  pub numbers : length parts.numbers.now ≡ 20
  pub octets : (at : ℕ)
      → (compressed_record (new_places [] 12 name) at r).octets
      ≡ (let rdata = soa_data parts.offset parts.first.now parts.second.now parts.numbers.now in
      soa_head parts.offset r.ttl (length rdata) ++ rdata)
