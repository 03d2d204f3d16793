-- Files, what they mean, and how that is printed.
use Rattle.std.specs.Prelude.{◌≡◌, ℕ, refl, List, [], ◌∷◌, ◌++◌, Some, Ok, Err, codes, flat_map, replicate, take}
use Rattle.std.specs.Int.{w32, to_be_bytes}
use Rattle.std.specs.Fmt.{digits}
use Rattle.std.specs.Net.Reader.{read_ipv4, read_octet, read_number, read_ipv6, read_segments, read_segment}
use Rattle.dns_names.specs.Name.{Labels, wire}
use Rattle.dns_records.specs.Record.{Record}
use Rattle.dns_masterfile.specs.declared.FileError.TheVariants.{Syntax, BadData, NoTtl, NoOwner, UnknownType, TooLong}
use Rattle.dns_masterfile.specs.Reading.{read_file}
use Rattle.dns_zone.specs.declared.ZoneError.TheVariants.{NoNs}
use Rattle.dns_zone.specs.Zone.{zone_fault}
use Rattle.dns_masterfile.specs.Printed.{printed_zone, in_print_order}
use Rattle.dns_zone.specs.ExampleZone.{example_records}

-- lines, each ended by a line feed
abbrev pub lines : List (List ℕ) → List ℕ
lines texts = flat_map (λ text. text ++ 10 ∷ []) texts

abbrev pub tiny : Labels
tiny = codes "tiny" ∷ []

abbrev pub ns : Labels
ns = codes "ns" ∷ tiny

abbrev pub of : Labels → ℕ → List ℕ → Record
of owner rtype rdata = record { owner = owner; rtype = rtype; ttl = 3600; rdata = rdata }

abbrev pub tiny_records : List Record
tiny_records =
    of tiny 6 (wire ns ++ wire (codes "hostmaster" ∷ tiny) ++ flat_map (to_be_bytes w32) (1 ∷ 7200 ∷ 900 ∷ 1209600 ∷ 300 ∷ []))
    ∷ of tiny 2 (wire ns)
    ∷ of ns 1 (192 ∷ 0 ∷ 2 ∷ 53 ∷ [])
    ∷ of ns 28 (32 ∷ 1 ∷ 13 ∷ 184 ∷ 0 ∷ 0 ∷ 0 ∷ 0 ∷ 0 ∷ 0 ∷ 0 ∷ 0 ∷ 0 ∷ 0 ∷ 0 ∷ 53 ∷ [])
    ∷ []

abbrev pub tiny_file : List ℕ
tiny_file = lines (
    codes "$TTL 3600"
    ∷ codes "@ SOA ns hostmaster 1 7200 900 1209600 300"
    ∷ codes "  NS ns"
    ∷ codes "ns A 192.0.2.53"
    ∷ codes "  AAAA 2001:db8::35"
    ∷ [])

abbrev pub tiny_print : List ℕ
tiny_print = lines (
    codes "tiny. 3600 IN SOA ns.tiny. hostmaster.tiny. 1 7200 900 1209600 300"
    ∷ codes "tiny. 3600 IN NS ns.tiny."
    ∷ codes "ns.tiny. 3600 IN A 192.0.2.53"
    ∷ codes "ns.tiny. 3600 IN AAAA 2001:db8:0:0:0:0:0:35"
    ∷ [])

pub tiny_read : read_file tiny_file tiny ≡ Ok tiny_records
unfolding read_ipv4 read_octet read_number read_ipv6 read_segments read_segment
tiny_read = refl

pub tiny_printed : printed_zone tiny_records ≡ tiny_print
unfolding digits
tiny_printed = refl

-- with another origin
pub tiny_read_again : read_file tiny_print (codes "other" ∷ []) ≡ Ok tiny_records
unfolding read_ipv4 read_octet read_number read_ipv6 read_segments read_segment
tiny_read_again = refl

-- a blank in place of the owner, and no entry before it
pub no_owner : read_file (lines (codes "$TTL 3600" ∷ codes " A 192.0.2.1" ∷ [])) tiny ≡ Err (2, NoOwner)
no_owner = refl

-- a file that is read, and no zone: it has no NS
pub no_ns : read_file (lines (codes "$TTL 3600" ∷ codes "@ SOA ns hostmaster 1 7200 900 1209600 300" ∷ [])) tiny ≡ Ok (take 1 tiny_records)
no_ns = refl

pub no_ns_fault : zone_fault tiny (take 1 tiny_records) ≡ Some NoNs
no_ns_fault = refl

abbrev pub print_e : List ℕ
print_e = lines (
    codes "example. 3600 IN SOA ns.example.com. hostmaster.example. 7 7200 900 1209600 300"
    ∷ codes "example. 3600 IN NS ns.example.com."
    ∷ codes "example. 3600 IN NS ns.example.net."
    ∷ codes "*.example. 3600 IN MX 10 host1.example."
    ∷ codes "*.example. 3600 IN TXT \"this is a wildcard\""
    ∷ codes "sub.*.example. 3600 IN TXT \"this is not a wildcard\""
    ∷ codes "host1.example. 3600 IN A 192.0.2.1"
    ∷ codes "_ssh._tcp.host1.example. 3600 IN SRV 0 0 22 host1.example."
    ∷ codes "_ssh._tcp.host2.example. 3600 IN SRV 0 0 22 host2.example."
    ∷ codes "subdel.example. 3600 IN NS ns.example.com."
    ∷ codes "subdel.example. 3600 IN NS ns.example.net."
    ∷ [])

pub e_printed : printed_zone example_records ≡ print_e
unfolding digits
e_printed = refl

pub e_read : read_file print_e [] ≡ Ok (in_print_order example_records)
unfolding read_ipv4 read_octet read_number read_ipv6 read_segments read_segment
e_read = refl

-- Places of the grammar that are easily read otherwise.
-- a quote within a bare word ends it
pub quote_in_word : read_file (codes "x 1 TXT ab\"cd\"") tiny ≡ Ok (record { owner = codes "x" ∷ tiny; rtype = 16; ttl = 1; rdata = 2 ∷ 97 ∷ 98 ∷ 2 ∷ 99 ∷ 100 ∷ [] } ∷ [])
quote_in_word = refl

-- parentheses alone are no entry, and one that isn't closed is the fault of the entry that opens it
pub unclosed : read_file (lines (codes " ( )" ∷ codes "x 1 ( A" ∷ codes "1.2.3.4" ∷ [])) tiny ≡ Err (2, Syntax)
unfolding read_ipv4 read_octet read_number read_ipv6 read_segments read_segment
unclosed = refl

pub unclosed_later : read_file (lines (codes "x 1 ( A" ∷ codes "1.2.3.400" ∷ [])) tiny ≡ Err (1, BadData)
unfolding read_ipv4 read_octet read_number read_ipv6 read_segments read_segment
unclosed_later = refl

-- the type's word is read before a missing TTL is found
pub no_ttl : read_file (codes "x IN A 1.2.3.4") tiny ≡ Err (1, NoTtl)
no_ttl = refl

pub no_type : read_file (codes "x IN B 1.2.3.4") tiny ≡ Err (1, UnknownType)
no_type = refl

-- an escaped `$` begins an owner
pub dollar : read_file (codes "\\$x 1 A 1.2.3.4") [] ≡ Ok (record { owner = codes "$x" ∷ []; rtype = 1; ttl = 1; rdata = 1 ∷ 2 ∷ 3 ∷ 4 ∷ [] } ∷ [])
unfolding read_ipv4 read_octet read_number read_ipv6 read_segments read_segment
dollar = refl

abbrev addressed : ℕ → ℕ → Record
addressed ttl last = record { owner = codes "x" ∷ []; rtype = 1; ttl = ttl; rdata = 1 ∷ 2 ∷ 3 ∷ last ∷ [] }

-- `$TTL` goes before the last TTL written
pub ttls : read_file (lines (codes "x 1 A 1.2.3.4" ∷ codes " A 1.2.3.5" ∷ codes "$TTL 9" ∷ codes " A 1.2.3.6" ∷ [])) [] ≡ Ok (addressed 1 4 ∷ addressed 1 5 ∷ addressed 9 6 ∷ [])
unfolding read_ipv4 read_octet read_number read_ipv6 read_segments read_segment
ttls = refl

-- RDATA of over 4,096 octets, before the next string's fault
abbrev long : ℕ → List ℕ
long n = replicate n 97

pub too_long : read_file (codes "x 1 TXT" ++ flat_map (λ n. 32 ∷ long n) (replicate 17 255) ++ codes " \\1") [] ≡ Err (1, TooLong)
too_long = refl

pub too_long_string : read_file (codes "x 1 TXT " ++ long 256) [] ≡ Err (1, BadData)
too_long_string = refl
