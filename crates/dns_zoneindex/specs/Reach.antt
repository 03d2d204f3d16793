-- How far the labels of a name lead, in the zone that is given by its records with the labels that lead to
-- them.
use Rattle.std.specs.Prelude.{◌≡◌, false, List, reverse, None}
use Rattle.dns_names.specs.Name.{Labels}
use Rattle.dns_zone.specs.Records.{exists}
use Rattle.dns_zone.specs.Zone.{Zone}
use Rattle.dns_zone.specs.Node.{cut, encloser}
use Rattle.dns_zoneindex.specs.Entries.{PathRecord, below}
use Rattle.dns_zoneindex.specs.Owned.{path_records}

abbrev pub zone_of_entries : Labels → List PathRecord → Zone
zone_of_entries apex es = record { apex = apex; records = path_records es }

-- The name is below no cut, and these are the entries at and under it.
pub record LeadsToName (z : Zone) (es : List PathRecord) (name : Labels) (own : List PathRecord)
    : Type 0 where
  pub uncut : cut z name ≡ None
  pub own_is : own ≡ below (reverse name) es

-- the same of the zone of the records with an apex
abbrev pub LeadsIn : Labels → List PathRecord → Labels → List PathRecord → Type 0
LeadsIn apex es name own = LeadsToName (zone_of_entries apex es) es name own

-- The name is below no cut and doesn't exist, and these are the entries at and under its closest encloser.
pub record LeadsAbove (z : Zone) (es : List PathRecord) (name at : Labels) (own : List PathRecord)
    : Type 0 where
  pub uncut : cut z name ≡ None
  pub absent : exists z.records name ≡ false
  pub above : at ≡ encloser z.records name
  pub own_is : own ≡ below (reverse at) es
