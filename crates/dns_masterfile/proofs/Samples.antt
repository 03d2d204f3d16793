-- Small files and what is computed of them: their records, or the first fault and its line.
use Rattle.std.specs.Prelude.{◌≡◌, ℕ, refl, List, [], ◌∷◌, ◌++◌, Ok, Err, codes, flat_map}
use Rattle.std.specs.Net.Reader.{read_ipv4, read_octet, read_number, read_ipv6, read_segments, read_segment}
use Rattle.dns_names.specs.Name.{Labels}
use Rattle.dns_records.specs.Record.{Record}
use Rattle.dns_masterfile.specs.declared.FileError.TheVariants.{Syntax, BadName, BadNumber, BadData, UnknownType}
use Rattle.dns_masterfile.specs.Reading.{read_file}

abbrev lines : List (List ℕ) → List ℕ
lines texts = flat_map (λ text. text ++ 10 ∷ []) texts

abbrev made : Labels → ℕ → ℕ → List ℕ → Record
made owner rtype ttl rdata = record { owner = owner; rtype = rtype; ttl = ttl; rdata = rdata }

abbrev tiny : Labels
tiny = codes "tiny" ∷ []

pub file1 : read_file (lines (codes "x 1h A 1.2.3.4" ∷ codes "@ 60 SOA ns h 1 2 3 4 5" ∷ codes "@ 60 NS ns" ∷ codes "ns 60 A 192.0.2.1" ∷ [])) tiny ≡ Err (1, UnknownType)
file1 = refl

pub file4 : read_file (lines (codes "x 60 AAAA 1:2:3:4:5:6:7:8::" ∷ codes "@ 60 SOA ns h 1 2 3 4 5" ∷ codes "@ 60 NS ns" ∷ codes "ns 60 A 192.0.2.1" ∷ [])) tiny ≡ Err (1, BadData)
unfolding read_ipv4 read_octet read_number read_ipv6 read_segments read_segment
file4 = refl

pub file9 : read_file (lines (codes "@ 60 SOA ns h 1 2 3 4 5" ∷ codes "@ 60 NS ns" ∷ codes "x 60 SRV 1 2 65536 a" ∷ codes "ns 60 A 192.0.2.1" ∷ [])) tiny ≡ Err (3, BadNumber)
file9 = refl

pub file11 : read_file (lines (codes "@ 60 SOA ns h 1 2 3 4 5" ∷ codes "@ 60 NS ns" ∷ (120 ∷ 32 ∷ 54 ∷ 48 ∷ 32 ∷ 65 ∷ 32 ∷ 49 ∷ 46 ∷ 50 ∷ 46 ∷ 51 ∷ 46 ∷ 52 ∷ 13 ∷ 120 ∷ []) ∷ codes "ns 60 A 192.0.2.1" ∷ [])) tiny ≡ Err (3, Syntax)
file11 = refl

pub file16 : read_file (lines (codes "@ 60 SOA ns h 1 2 3 4 5" ∷ codes "@ 60 NS ns" ∷ codes "x 60 CNAME a.." ∷ codes "ns 60 A 192.0.2.1" ∷ [])) tiny ≡ Err (3, BadName)
file16 = refl

pub file18 : read_file (lines (codes "@ 60 SOA ns h 1 2 3 4 5" ∷ codes "@ 60 NS ns" ∷ codes "ns 60 A 192.0.2.1" ∷ codes "a..b 60 A 1.2.3.4" ∷ [])) tiny ≡ Err (4, BadName)
unfolding read_ipv4 read_octet read_number read_ipv6 read_segments read_segment
file18 = refl

pub file30 : read_file (lines (codes "@ 60 SOA ns h 1 2 3 4 5" ∷ codes "x 60 A 1.2.3.4 )" ∷ codes "@ 60 NS ns" ∷ codes "ns 60 A 192.0.2.1" ∷ [])) tiny ≡ Err (2, Syntax)
unfolding read_ipv4 read_octet read_number read_ipv6 read_segments read_segment
file30 = refl

pub file34 : read_file (lines (codes "@ 60 SOA ns h 1 2 3 4 5" ∷ codes "x 60 AAAA :::" ∷ codes "@ 60 NS ns" ∷ codes "ns 60 A 192.0.2.1" ∷ [])) tiny ≡ Err (2, BadData)
unfolding read_ipv4 read_octet read_number read_ipv6 read_segments read_segment
file34 = refl

pub file53 : read_file (lines (codes "@ 60 SOA ns h 1 2 3 4 5" ∷ codes "@ 60 NS ns" ∷ codes "ns 60 A 192.0.2.1" ∷ codes "x 60 A 1.2.3.4 5" ∷ [])) tiny ≡ Err (4, Syntax)
unfolding read_ipv4 read_octet read_number read_ipv6 read_segments read_segment
file53 = refl

pub file5 : read_file (lines (codes "@ 60 SOA ns h 1 2 3 4 5" ∷ codes "@ 60 SOA a b 1 2 3 4 5" ∷ codes "@ 60 NS ns" ∷ codes "ns 60 A 192.0.2.1" ∷ [])) tiny ≡ Ok (made (codes "tiny" ∷ []) 6 60 (2 ∷ 110 ∷ 115 ∷ 4 ∷ 116 ∷ 105 ∷ 110 ∷ 121 ∷ 0 ∷ 1 ∷ 104 ∷ 4 ∷ 116 ∷ 105 ∷ 110 ∷ 121 ∷ 0 ∷ 0 ∷ 0 ∷ 0 ∷ 1 ∷ 0 ∷ 0 ∷ 0 ∷ 2 ∷ 0 ∷ 0 ∷ 0 ∷ 3 ∷ 0 ∷ 0 ∷ 0 ∷ 4 ∷ 0 ∷ 0 ∷ 0 ∷ 5 ∷ []) ∷ made (codes "tiny" ∷ []) 6 60 (1 ∷ 97 ∷ 4 ∷ 116 ∷ 105 ∷ 110 ∷ 121 ∷ 0 ∷ 1 ∷ 98 ∷ 4 ∷ 116 ∷ 105 ∷ 110 ∷ 121 ∷ 0 ∷ 0 ∷ 0 ∷ 0 ∷ 1 ∷ 0 ∷ 0 ∷ 0 ∷ 2 ∷ 0 ∷ 0 ∷ 0 ∷ 3 ∷ 0 ∷ 0 ∷ 0 ∷ 4 ∷ 0 ∷ 0 ∷ 0 ∷ 5 ∷ []) ∷ made (codes "tiny" ∷ []) 2 60 (2 ∷ 110 ∷ 115 ∷ 4 ∷ 116 ∷ 105 ∷ 110 ∷ 121 ∷ 0 ∷ []) ∷ made (codes "ns" ∷ codes "tiny" ∷ []) 1 60 (192 ∷ 0 ∷ 2 ∷ 1 ∷ []) ∷ [])
unfolding read_ipv4 read_octet read_number read_ipv6 read_segments read_segment
file5 = refl

pub file27 : read_file (lines (codes "dup 1 CNAME a" ∷ codes "dup 2 CNAME A" ∷ codes "@ 60 SOA ns h 1 2 3 4 5" ∷ codes "@ 60 NS ns" ∷ codes "ns 60 A 192.0.2.1" ∷ [])) tiny ≡ Ok (made (codes "dup" ∷ codes "tiny" ∷ []) 5 1 (1 ∷ 97 ∷ 4 ∷ 116 ∷ 105 ∷ 110 ∷ 121 ∷ 0 ∷ []) ∷ made (codes "dup" ∷ codes "tiny" ∷ []) 5 2 (1 ∷ 97 ∷ 4 ∷ 116 ∷ 105 ∷ 110 ∷ 121 ∷ 0 ∷ []) ∷ made (codes "tiny" ∷ []) 6 60 (2 ∷ 110 ∷ 115 ∷ 4 ∷ 116 ∷ 105 ∷ 110 ∷ 121 ∷ 0 ∷ 1 ∷ 104 ∷ 4 ∷ 116 ∷ 105 ∷ 110 ∷ 121 ∷ 0 ∷ 0 ∷ 0 ∷ 0 ∷ 1 ∷ 0 ∷ 0 ∷ 0 ∷ 2 ∷ 0 ∷ 0 ∷ 0 ∷ 3 ∷ 0 ∷ 0 ∷ 0 ∷ 4 ∷ 0 ∷ 0 ∷ 0 ∷ 5 ∷ []) ∷ made (codes "tiny" ∷ []) 2 60 (2 ∷ 110 ∷ 115 ∷ 4 ∷ 116 ∷ 105 ∷ 110 ∷ 121 ∷ 0 ∷ []) ∷ made (codes "ns" ∷ codes "tiny" ∷ []) 1 60 (192 ∷ 0 ∷ 2 ∷ 1 ∷ []) ∷ [])
unfolding read_ipv4 read_octet read_number read_ipv6 read_segments read_segment
file27 = refl

pub file29 : read_file (lines (codes "@ 60 SOA ns h 1 2 3 4 5" ∷ codes "@ 60 NS ns" ∷ codes "@ 60 CNAME a" ∷ codes "ns 60 A 192.0.2.1" ∷ [])) tiny ≡ Ok (made (codes "tiny" ∷ []) 6 60 (2 ∷ 110 ∷ 115 ∷ 4 ∷ 116 ∷ 105 ∷ 110 ∷ 121 ∷ 0 ∷ 1 ∷ 104 ∷ 4 ∷ 116 ∷ 105 ∷ 110 ∷ 121 ∷ 0 ∷ 0 ∷ 0 ∷ 0 ∷ 1 ∷ 0 ∷ 0 ∷ 0 ∷ 2 ∷ 0 ∷ 0 ∷ 0 ∷ 3 ∷ 0 ∷ 0 ∷ 0 ∷ 4 ∷ 0 ∷ 0 ∷ 0 ∷ 5 ∷ []) ∷ made (codes "tiny" ∷ []) 2 60 (2 ∷ 110 ∷ 115 ∷ 4 ∷ 116 ∷ 105 ∷ 110 ∷ 121 ∷ 0 ∷ []) ∷ made (codes "tiny" ∷ []) 5 60 (1 ∷ 97 ∷ 4 ∷ 116 ∷ 105 ∷ 110 ∷ 121 ∷ 0 ∷ []) ∷ made (codes "ns" ∷ codes "tiny" ∷ []) 1 60 (192 ∷ 0 ∷ 2 ∷ 1 ∷ []) ∷ [])
unfolding read_ipv4 read_octet read_number read_ipv6 read_segments read_segment
file29 = refl
