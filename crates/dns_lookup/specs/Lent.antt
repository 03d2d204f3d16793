-- The records that the code passes on with what a question finds.
use Rattle.std.specs.Prelude.{◌≡◌, ℕ, List, [], ◌∷◌, Some, slice_get}
use Rattle.dns_names.specs.Name.{Labels}
use Rattle.dns_records.specs.Types.{type_ns, type_cname}
use Rattle.dns_records.specs.Record.{Record}
use Rattle.dns_zone.specs.Records.{rrset}
use Rattle.dns_zone.specs.Zone.{Zone}
use Rattle.dns_lookup.specs.Lookup.{asked_records, outcome, zone_of}
use Rattle.dns_lookup.specs.Represented.{Represents}
use Rattle.dns_lookup.specs.declared.chain.Found.{Found}
use Rattle.dns_lookup.specs.declared.outcome.Kind.{Kind}
use Rattle.dns_lookup.specs.declared.outcome.Kind.TheVariants as kinds

-- The records that a name finds at the cut or the node: the NS, the CNAME, or those that were asked (RFC 1034
-- 4.3.2, step 3).
abbrev pub records_found : List Record → Kind → Labels → ℕ → List Record
records_found records kinds.Referral node t = rrset records node type_ns
records_found records kinds.Alias node t = rrset records node type_cname
records_found records kinds.Answers node t = asked_records records node t
records_found records kinds.NoData node t = []
records_found records kinds.NameError node t = []

-- The records of one name that was searched are those that it finds in its zone.
abbrev pub Lends : List Zone → ℕ → Found → Type 0
Lends zones t returned =
    (z : Zone) → slice_get zones returned.zone ≡ Some z → returned.records.now
    ≡ records_found z.records returned.kind returned.node t

-- Those of all of them.
abbrev pub AllLend : List Zone → ℕ → List Found → Type 0
AllLend zones t [] = Unit {0}
AllLend zones t (returned ∷ rest) = Lends zones t returned × AllLend zones t rest

-- What a name finds in the zone that answers for it.
pub record IsFirst (zones : List Zone) (t : ℕ) (first : Found) : Type 0 where
  pub zone : Zone
  pub closest : zone_of zones first.name ≡ Some zone
  pub represents : Represents zones
      (record { zone = zone; name = first.name; outcome = outcome zone first.name t }) first
  pub lends : Lends zones t first
