-- Hosts whose addresses are in a reply.
use Rattle.std.specs.Prelude.{◌≡◌, ℕ, ◌<◌, Bool, true, false, not, ◌&&◌, ◌||◌, ◌==◌, List, [], ◌∷◌, ◌++◌}
use Rattle.std.specs.List.{list_any, list_all}
use Rattle.dns_names.specs.Name.{Labels, names_eq}
use Rattle.dns_records.specs.Types.{type_a, type_aaaa}
use Rattle.dns_records.specs.Record.{Record}
use Rattle.dns_zone.specs.Records.{rrset, same}
use Rattle.dns_zone.specs.Zone.{Zone}
use Rattle.dns_answer.specs.Added.{record_count}
use Rattle.dns_answer.specs.declared.sections.Sections.{Sections}

-- Each of the records is among those.
abbrev pub all_stand : List Record → List Record → Bool
all_stand seen records = list_all (λ r. list_any (same r) seen) records

-- What is in the sections.
abbrev pub stood : Sections → List Record
stood s = (s.answer.items ++ s.authority.items) ++ s.additional.items

-- None of the records is among those, nor occurs twice.
abbrev pub none_stands : List Record → List Record → Bool
none_stands seen [] = true
none_stands seen (r ∷ rest) = not (list_any (same r) seen) && none_stands (r ∷ seen) rest

abbrev pub is_address : Record → Bool
is_address r = r.rtype == type_a || r.rtype == type_aaaa

-- Names are among others.
abbrev pub AreAmong : List Labels → List Labels → Type 0
AreAmong names others =
    (name : Labels) → list_any (names_eq name) names ≡ true → list_any (names_eq name) others ≡ true

-- Each address that is among those has one of the owners.
abbrev pub AreOwners : List Labels → List Record → Type 0
AreOwners owners seen =
    (r : Record)
    → is_address r ≡ true
    → list_any (same r) seen ≡ true
    → list_any (names_eq r.owner) owners ≡ true

-- No address of that owner is in the sections.
abbrev pub HasNoAddressOf : Labels → Sections → Type 0
HasNoAddressOf owner s =
    (r : Record) → is_address r ≡ true → r.owner ≡ owner → list_any (same r) (stood s) ≡ false

-- All addresses of the hosts, in the zone, are in the sections.
abbrev pub AreKnown : Zone → List Labels → Sections → Type 0
AreKnown z known s =
    (host : Labels)
    → list_any (names_eq host) known ≡ true
    → all_stand (stood s) (rrset z.records host type_a ++ rrset z.records host type_aaaa) ≡ true

-- They are, unless the sections have more records than so many, and no address is there but those of the
-- hosts and of the owners.
pub record AreHosts (most : ℕ) (z : Zone) (owners known : List Labels) (s : Sections) : Type 0 where
  pub all : (most < record_count s → ⊥) → AreKnown z known s
  pub alone : (r : Record)
      → is_address r ≡ true
      → list_any (same r) (stood s) ≡ true
      → (list_any (names_eq r.owner) owners || list_any (names_eq r.owner) known) ≡ true
