-- Versions of a zone, and the changes from each to the next.
use Rattle.std.specs.Prelude.{◌≡◌, ◌⊎◌, true, List, [], ◌∷◌, ◌++◌}
use Rattle.dns_names.specs.Name.{Labels}
use Rattle.dns_records.specs.Record.{Record, serial_of}
use Rattle.dns_serial.specs.Serial.{greater}
use Rattle.dns_zone.specs.Zone.{IsZone}
use Rattle.dns_changes.specs.Change.{Change, IsChange}

-- The change from a version to the next, whose serial is greater (RFC 1982 3.2).
pub record IsStep (before after : List Record) (c : Change) : Type 0 where
  pub change : IsChange before after c
  pub serial : greater (serial_of c.new_soa) (serial_of c.old_soa) ≡ true

-- The changes lead from a version of the zone of that apex to another, each to a valid zone.
abbrev pub LeadTo : Labels → List Record → List Change → List Record → Type 0
LeadTo apex from [] to = IsZone (record { apex = apex; records = from }) × (to ≡ from)
LeadTo apex from (c ∷ rest) to =
    IsZone (record { apex = apex; records = from })
    × (next : List Record)
    × IsStep from next c
    × LeadTo apex next rest to

-- One of two lists of changes ends with the other.
abbrev pub EndAlike : List Change → List Change → Type 0
EndAlike xs ys = ((front : List Change) × (xs ≡ front ++ ys)) ⊎ ((front : List Change) × (ys ≡ front ++ xs))
