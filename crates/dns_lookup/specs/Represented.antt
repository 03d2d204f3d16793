-- What the code reports of a lookup.
use Rattle.std.specs.Prelude.{◌≡◌, List, [], ◌∷◌, Some, slice_get, map}
use Rattle.dns_names.specs.Name.{Labels}
use Rattle.dns_zone.specs.Zone.{Zone}
use Rattle.dns_lookup.specs.Lookup.{Outcome, Referral, Alias, Answers, NoData, NameError}
use Rattle.dns_lookup.specs.Lookup as lookup
use Rattle.dns_lookup.specs.declared.chain.Found.{Found}
use Rattle.dns_lookup.specs.declared.chain.Outcome as returned
use Rattle.dns_lookup.specs.declared.chain.Outcome.TheVariants.{One, Chain}
use Rattle.dns_lookup.specs.declared.outcome.Kind.{Kind}
use Rattle.dns_lookup.specs.declared.outcome.Kind.TheVariants as kinds

-- The kind and the node say what became of the name. A name error has the name itself.
abbrev pub IsKind : Outcome → Labels → Kind → Labels → Type 0
IsKind (Referral c) name kind node = (kind ≡ kinds.Referral) × (node ≡ c)
IsKind (Alias n) name kind node = (kind ≡ kinds.Alias) × (node ≡ n)
IsKind (Answers n) name kind node = (kind ≡ kinds.Answers) × (node ≡ n)
IsKind (NoData n) name kind node = (kind ≡ kinds.NoData) × (node ≡ n)
IsKind NameError name kind node = (kind ≡ kinds.NameError) × (node ≡ name)

-- One name that was searched: its zone by its index, the name, and what became of it.
pub record Represents (zones : List Zone) (f : lookup.Found) (returned : Found) : Type 0 where
  pub zone : slice_get zones returned.zone ≡ Some f.zone
  pub name : returned.name ≡ f.name
  pub kind : IsKind f.outcome f.name returned.kind returned.node

-- All of them, in order.
abbrev pub RepresentAll : List Zone → List lookup.Found → List Found → Type 0
RepresentAll zones [] [] = Unit {0}
RepresentAll zones (f ∷ fs) (returned ∷ rest) = Represents zones f returned × RepresentAll zones fs rest
RepresentAll zones [] (returned ∷ rest) = ⊥
RepresentAll zones (f ∷ fs) [] = ⊥

-- The names that were searched.
abbrev pub names_searched : List Found → List Labels
names_searched returned = map (λ (f : Found). f.name) returned

-- What is returned, as a list.
abbrev pub all_searched : returned.Outcome → List Found
all_searched (One found) = found ∷ []
all_searched (Chain found) = found.items
