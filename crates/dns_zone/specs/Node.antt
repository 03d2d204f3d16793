-- What a zone has for a name (RFC 1034 4.3.2, step 3; RFC 4592 3.3).
use Rattle.std.specs.Prelude.{◌≡◌, Bool, true, false, not, ◌&&◌, List, [], reverse, Option, Some, None}
use Rattle.std.specs.Prelude.{unwrap_or}
use Rattle.std.specs.List.{find}
use Rattle.dns_names.specs.Name.{Labels, names_eq, under, ancestors, wildcard}
use Rattle.dns_records.specs.Types.{type_ns}
use Rattle.dns_records.specs.Record.{Record}
use Rattle.dns_zone.specs.Records.{exists, owns_type, records_at}
use Rattle.dns_zone.specs.Zone.{Zone}
use Rattle.dns_zone.specs.declared.node.Match.{Match}
use Rattle.dns_zone.specs.declared.node.Match.TheVariants as found

-- The zone is cut there: the name is under the apex and owns NS (RFC 1034 4.2.1).
abbrev pub cuts_at : Zone → Labels → Bool
cuts_at z a = under a z.apex && not (names_eq a z.apex) && owns_type z.records a type_ns

-- The cut: the shortest ancestor under the apex that owns NS, the name itself included (RFC 1034 4.3.2,
-- step 3b).
abbrev pub cut : Zone → Labels → Option Labels
cut z name = find (cuts_at z) (reverse (ancestors name))

-- The closest encloser: the longest ancestor that exists, the name itself included (RFC 4592 3.3.1).
abbrev pub encloser : List Record → Labels → Labels
encloser records name = unwrap_or (find (exists records) (ancestors name)) []

-- The source of synthesis: `*` before the closest encloser (RFC 4592 3.3.1).
abbrev pub source : List Record → Labels → Labels
source records name = wildcard (encloser records name)

-- The zone is cut above the name or at it, and the cut owns these records.
pub record EndsAtCut (z : Zone) (name at : Labels) (rs : List Record) : Type 0 where
  pub cut : cut z name ≡ Some at
  pub owned : rs ≡ records_at z.records at

-- The name exists, below no cut, and owns these records.
pub record EndsAtName (z : Zone) (name : Labels) (rs : List Record) : Type 0 where
  pub uncut : cut z name ≡ None
  pub there : exists z.records name ≡ true
  pub owned : rs ≡ records_at z.records name

-- The name is below no cut and doesn't exist, and the source of synthesis exists and owns these records.
pub record EndsAtWildcard (z : Zone) (name at : Labels) (rs : List Record) : Type 0 where
  pub uncut : cut z name ≡ None
  pub absent : exists z.records name ≡ false
  pub above : at ≡ encloser z.records name
  pub there : exists z.records (source z.records name) ≡ true
  pub owned : rs ≡ records_at z.records (source z.records name)

-- The name is below no cut, and neither it nor the source of synthesis exists.
pub record EndsNowhere (z : Zone) (name : Labels) : Type 0 where
  pub uncut : cut z name ≡ None
  pub absent : exists z.records name ≡ false
  pub unmatched : exists z.records (source z.records name) ≡ false

-- What is reported for a name is what the zone has for it.
abbrev pub IsMatch : Zone → Labels → Match → Type 0
IsMatch z name (found.Cut at owned) = EndsAtCut z name at owned.now
IsMatch z name (found.Name owned) = EndsAtName z name owned.now
IsMatch z name (found.Wildcard above owned) = EndsAtWildcard z name above owned.now
IsMatch z name found.Nothing = EndsNowhere z name
