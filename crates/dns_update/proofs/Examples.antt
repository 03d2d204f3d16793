-- Updates of the example zone, whose serial is 7 and which has 11 records.
use Rattle.std.specs.Prelude.{◌≡◌, ℕ, List, [], ◌∷◌, refl, codes, length}
use Rattle.dns_names.specs.Name.{Labels, wire}
use Rattle.dns_records.specs.Types.{type_a, type_ns, type_cname, type_soa, type_txt, type_any, class_in, class_none, class_any}
use Rattle.dns_records.specs.Record.{Record, string}
use Rattle.dns_zone.specs.Records.{rrset}
use Rattle.dns_zone.specs.Zone.{soas}
use Rattle.dns_wire.specs.Message.{ResourceRecord}
use Rattle.dns_wire.specs.declared.codes.Rcode.TheVariants.{NxDomain, Refused, YxDomain, YxRrset, NxRrset, NotZone}
use Rattle.dns_changes.specs.Version.{serial_in}
use Rattle.dns_update.specs.Verdict.{Verdict, Refuses, Keeps, Leaves, verdict}
use Rattle.dns_zone.specs.ExampleZone.{example_zone, example, host1, host2, ns_com, ns_net, soa_octets}

abbrev records_in : Verdict → List Record
records_in (Leaves records) = records
records_in _ = []

abbrev size : Verdict → ℕ
size v = length (records_in v)

abbrev serial : Verdict → ℕ
serial v = serial_in (soas (records_in v))

abbrev item : ℕ → ℕ → Labels → ℕ → List ℕ → ResourceRecord
item class ttl owner rtype rdata = record { owner = owner; rtype = rtype; class = class; ttl = ttl; rdata = rdata }

abbrev adds : Labels → ℕ → List ℕ → ResourceRecord
adds owner rtype rdata = item class_in 3600 owner rtype rdata

abbrev deletes : Labels → ℕ → List ℕ → ResourceRecord
deletes owner rtype rdata = item class_none 0 owner rtype rdata

abbrev deletes_all : Labels → ℕ → ResourceRecord
deletes_all owner rtype = item class_any 0 owner rtype []

abbrev txt : Labels → ResourceRecord
txt owner = adds owner type_txt (string (codes "x"))

abbrev soa : ℕ → ℕ → ResourceRecord
soa number minimum = adds example type_soa (soa_octets ns_com (codes "hostmaster" ∷ example) (number ∷ 7200 ∷ 900 ∷ 1209600 ∷ minimum ∷ []))

abbrev updated : List ResourceRecord → Verdict
updated items = verdict example_zone [] items

abbrev required : List ResourceRecord → Verdict
required prerequisites = verdict example_zone prerequisites []

-- ---- what is done
-- both NS of the apex are deleted: the second, then the last, stays
abbrev without_servers : Verdict
without_servers = updated (deletes example type_ns (wire ns_com) ∷ deletes example type_ns (wire ns_net) ∷ [])

pub last_server_stays : (size without_servers ≡ 10) × (serial without_servers ≡ 8) × (rrset (records_in without_servers) example type_ns ≡ (record { owner = example; rtype = type_ns; ttl = 3600; rdata = wire ns_net }) ∷ [])
last_server_stays = (refl, refl, refl)

pub alias_beside_address : updated (adds host1 type_cname (wire host2) ∷ []) ≡ Keeps
alias_beside_address = refl

abbrev two_aliases : Verdict
two_aliases = updated (adds (codes "c" ∷ example) type_cname (wire host1) ∷ adds (codes "c" ∷ example) type_cname (wire host2) ∷ [])

pub second_alias_stays : (rrset (records_in two_aliases) (codes "c" ∷ example) type_cname ≡ (record { owner = codes "c" ∷ example; rtype = type_cname; ttl = 3600; rdata = wire host2 }) ∷ []) × (serial two_aliases ≡ 8)
second_alias_stays = (refl, refl)

pub servers_of_the_apex_stay : updated (deletes_all example type_ns ∷ deletes_all example type_soa ∷ deletes_all example type_any ∷ []) ≡ Keeps
servers_of_the_apex_stay = refl

pub another_ttl_is_a_change : serial (updated (item class_in 60 host1 type_a (192 ∷ 0 ∷ 2 ∷ 1 ∷ []) ∷ [])) ≡ 8
another_ttl_is_a_change = refl

pub name_outside_refuses_all : updated (txt (codes "t" ∷ example) ∷ txt (codes "t" ∷ codes "other" ∷ []) ∷ []) ≡ Refuses NotZone
name_outside_refuses_all = refl

-- ---- serials
pub equal_serial_ignored : updated (soa 7 301 ∷ []) ≡ Keeps
equal_serial_ignored = refl

pub greater_serial_taken : serial (updated (soa 100 300 ∷ [])) ≡ 100
greater_serial_taken = refl

-- each is greater than the one before, and the last isn't greater than 7
pub serials_round_the_circle : updated (soa 2147483654 300 ∷ soa 5 300 ∷ []) ≡ Refuses Refused
serials_round_the_circle = refl

-- ---- prerequisites
abbrev tcp : Labels
tcp = codes "_tcp" ∷ host1

-- an empty nonterminal is not in use
pub empty_nonterminal_unused : required (item class_none 0 tcp type_any [] ∷ []) ≡ Keeps
empty_nonterminal_unused = refl

pub empty_nonterminal_not_in_use : required (item class_any 0 tcp type_any [] ∷ []) ≡ Refuses NxDomain
empty_nonterminal_not_in_use = refl

pub name_in_use : required (item class_none 0 host1 type_any [] ∷ []) ≡ Refuses YxDomain
name_in_use = refl

pub rrset_exists : required (item class_none 0 host1 type_a [] ∷ []) ≡ Refuses YxRrset
rrset_exists = refl

-- a list of one of two servers is not the RRset; a list of both is, in any order
pub part_of_an_rrset : required (item class_in 0 example type_ns (wire ns_net) ∷ []) ≡ Refuses NxRrset
part_of_an_rrset = refl

pub whole_rrset : required (item class_in 0 example type_ns (wire ns_net) ∷ item class_in 0 example type_ns (wire ns_com) ∷ []) ≡ Keeps
whole_rrset = refl

pub prerequisites_first : verdict example_zone (item class_any 0 tcp type_any [] ∷ []) (txt (codes "t" ∷ codes "other" ∷ []) ∷ []) ≡ Refuses NxDomain
prerequisites_first = refl
