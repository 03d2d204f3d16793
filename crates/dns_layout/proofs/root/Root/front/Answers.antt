use Rattle.std.proofs.Common.{◌≡◌, ◌∷◌, [], ◌++◌, ◌∙◌, arith, ap, length, List, ℕ}
use Rattle.byteorder.specs.Endian.{big_bytes}
use Rattle.byteorder.specs.Numbers.{length-bytes_high_first}
use Rattle.dns_layout.proofs.Octets.{five_written}
use Rattle.dns_layout.proofs.root.Root.front.Goals as goal

pub returns-clause-octets : goal.returns-clause-octets
returns-clause-octets c =
    let r = c.args.self.now in
    let opened = ap (λ (l : List ℕ). length l) c.u64_octets.ensures.octets ∙ length-bytes_high_first 8 r.bank_open in
    let size = ap (λ (l : List ℕ). length l) c.u64_octets-2.ensures.octets ∙ length-bytes_high_first 8 r.snapshot_length in
    let snapshot = ap (λ (l : List ℕ). length l) c.u32_octets.ensures.octets ∙ length-bytes_high_first 4 r.snapshot_room in
    let journal = ap (λ (l : List ℕ). length l) c.u32_octets-2.ensures.octets ∙ length-bytes_high_first 4 r.journal_room in
    five_written 8 16 20 24 c.u64_octets.result c.u64_octets-2.result c.u32_octets.result c.u32_octets-2.result (c.clear_octet.result ∷ []) _
    c.put.new.octets c.put-2.new.octets c.put-3.new.octets c.put-4.new.octets c.put-5.new.octets
    opened (omega (arith, size)) (omega (arith, snapshot)) (omega (arith, journal)) (omega arith)
    c.put.ensures c.put-2.ensures c.put-3.ensures c.put-4.ensures c.put-5.ensures
    ∙ ap (λ (y : List ℕ). y ++ (c.u64_octets-2.result ++ (c.u32_octets.result ++ (c.u32_octets-2.result ++ (c.clear_octet.result ∷ []))))) c.u64_octets.ensures.octets
    ∙ ap (λ (y : List ℕ). big_bytes 8 r.bank_open ++ (y ++ (c.u32_octets.result ++ (c.u32_octets-2.result ++ (c.clear_octet.result ∷ []))))) c.u64_octets-2.ensures.octets
    ∙ ap (λ (y : List ℕ). big_bytes 8 r.bank_open ++ (big_bytes 8 r.snapshot_length ++ (y ++ (c.u32_octets-2.result ++ (c.clear_octet.result ∷ []))))) c.u32_octets.ensures.octets
    ∙ ap (λ (y : List ℕ). big_bytes 8 r.bank_open ++ (big_bytes 8 r.snapshot_length ++ (big_bytes 4 r.snapshot_room ++ (y ++ (c.clear_octet.result ∷ []))))) c.u32_octets-2.ensures.octets
    ∙ ap (λ (n : ℕ). big_bytes 8 r.bank_open ++ (big_bytes 8 r.snapshot_length ++ (big_bytes 4 r.snapshot_room ++ (big_bytes 4 r.journal_room ++ (n ∷ []))))) c.clear_octet.ensures
