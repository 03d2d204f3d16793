-- The records of a reply are records: those of zones, with owners that are names.
use Rattle.std.proofs.Common.{◌≡◌, ℕ, zero, suc, ◌<◌, Bool, true, false, List, [], ◌∷◌, ◌++◌, refl, ap, arith, cond}
use Rattle.std.specs.Prelude.{◌^◌, ◌&&◌, ◌==◌, min, Option, Some, None, filter, if◌then◌else◌, IfSome}
use Rattle.std.specs.List.{AllByRecursion, find, list_any}
use Rattle.std.proofs.lemmas.Bool.Decides.{nat_tests}
use Rattle.dns_names.specs.Name.{Labels, IsName, names_eq, ancestors}
use Rattle.dns_records.specs.Types.{type_a, type_aaaa, type_any, type_cname, type_ns}
use Rattle.dns_records.specs.Record.{Record, IsRecord, data_of, alias_of, host_of, minimum_of}
use Rattle.dns_records.specs.Typed.{is_name_type}
use Rattle.dns_records.specs.Laws.{name_data-plain}
use Rattle.dns_zone.specs.Records.{rrset, same}
use Rattle.dns_zone.specs.Zone.{Zone, soas}
use Rattle.dns_lookup.specs.Lookup.{Outcome, Referral, Alias, Answers, NoData, NameError, Found, alias_at, asked_records, chain, next_name, outcome, resolve, zone_of}
use Rattle.dns_answer.specs.Sections.{Shown, from_zone, records_of, as_owner, answers_of, answer_of, negative_soa, authority_at, authority_of, addresses_for, unseen, additional_of}
use Rattle.dns_answer.proofs.Each.{each_append, each_filter, each_mapped, each_flat, each_find}

abbrev pub HasRecords : Zone → Type 0
HasRecords z = AllByRecursion IsRecord z.records

pub record IsSound (f : Found) : Type 0 where
  pub name : IsName f.name
  pub zone : HasRecords f.zone

pub record IsSoundShown (s : Shown) : Type 0 where
  pub shown : IsRecord s.shown
  pub zone : HasRecords s.zone

-- records of one type
typed : (records : List Record) (name : Labels) (t : ℕ) → AllByRecursion IsRecord records → AllByRecursion (λ r. IsRecord r × (r.rtype ≡ t)) (rrset records name t)
typed [] name t h = tt
typed (r ∷ rs) name t h = go (names_eq r.owner name) (r.rtype == t) refl (typed rs name t h.1)
  where
    go : (a b : Bool) → (r.rtype == t) ≡ b → AllByRecursion (λ r. IsRecord r × (r.rtype ≡ t)) (rrset rs name t) → AllByRecursion (λ r. IsRecord r × (r.rtype ≡ t)) (cond (a && b) (r ∷ rrset rs name t) (rrset rs name t))
    go true true e k = ((h.0, grind (arith, nat_tests, e)), k)
    go true false e k = k
    go false b e k = k

-- the target of an alias is a name
target_is : (r : Record) → IsRecord r → r.rtype ≡ type_cname → IsName (alias_of r)
target_is r h e = (name_data-plain (data_of r) (record { rtype = h.rtype; octets = h.octets; short = h.short; form = h.rdata }) (ap is_name_type e)).valid

root_is : IsName []
root_is = record { labels = tt; short = omega arith }

alias_is : (z : Zone) (node : Labels) → HasRecords z → IsName (alias_at z node)
alias_is z node h = go (rrset z.records node type_cname) (typed z.records node type_cname h)
  where
    go : (rs : List Record) → AllByRecursion (λ r. IsRecord r × (r.rtype ≡ type_cname)) rs → IsName (elim rs as (λ _. Labels) [ [] ↦ [] | r ∷ rest ↦ alias_of r ])
    go [] k = root_is
    go (r ∷ rest) k = target_is r k.0.0 k.0.1

next_is : (z : Zone) (name : Labels) (o : Outcome) (seen : List Labels) → HasRecords z → IfSome (next_name (record { zone = z; name = name; outcome = o }) seen) IsName
next_is z name (Alias node) seen h = go (list_any (names_eq (alias_at z node)) seen)
  where
    go : (b : Bool) → IfSome (if b then None else Some (alias_at z node)) IsName
    go true = tt
    go false = alias_is z node h
next_is z name (Referral c) seen h = tt
next_is z name (Answers node) seen h = tt
next_is z name (NoData node) seen h = tt
next_is z name NameError seen h = tt

-- what a question finds
module _ (zones : List Zone) (known : AllByRecursion HasRecords zones) where
  zone_is : (name : Labels) → IfSome (zone_of zones name) HasRecords
  zone_is name = go (find (λ a. list_any (λ z. names_eq z.apex a) zones) (ancestors name))
    where
      go : (o : Option Labels) → IfSome (elim o as (λ _. Option Zone) [ Some a ↦ find (λ z. names_eq z.apex a) zones | None ↦ None ]) HasRecords
      go None = tt
      go (Some a) = each_find HasRecords (λ z. names_eq z.apex a) zones known

  chain_is : (more : ℕ) (seen : List Labels) (name : Labels) (t : ℕ) → IsName name → AllByRecursion IsSound (chain more zones seen name t)
  chain_is zero seen name t valid = tt
  chain_is (suc more) seen name t valid = go (zone_of zones name) (zone_is name) (λ target h. chain_is more (seen ++ name ∷ []) target t h)
    where
      found : Zone → Found
      found z = record { zone = z; name = name; outcome = outcome z name t }

      behind : (next : Option Labels) → IfSome next IsName → ((target : Labels) → IsName target → AllByRecursion IsSound (chain more zones (seen ++ name ∷ []) target t)) → AllByRecursion IsSound (elim next as (λ _. List Found) [ None ↦ [] | Some target ↦ chain more zones (seen ++ name ∷ []) target t ])
      behind None h rest = tt
      behind (Some target) h rest = rest target h

      go : (o : Option Zone) → IfSome o HasRecords → ((target : Labels) → IsName target → AllByRecursion IsSound (chain more zones (seen ++ name ∷ []) target t)) → AllByRecursion IsSound (elim o as (λ _. List Found) [ None ↦ [] | Some z ↦ found z ∷ elim (next_name (found z) (seen ++ name ∷ [])) as (λ _. List Found) [ None ↦ [] | Some target ↦ chain more zones (seen ++ name ∷ []) target t ] ])
      go None h rest = tt
      go (Some z) h rest = (record { name = valid; zone = h }, behind (next_name (found z) (seen ++ name ∷ [])) (next_is z name (outcome z name t) (seen ++ name ∷ []) h) rest)

  pub found_is : (name : Labels) (t : ℕ) → IsName name → AllByRecursion IsSound (resolve zones name t)
  found_is name t valid = chain_is 8 [] name t valid

shown_in : (z : Zone) (records : List Record) → HasRecords z → AllByRecursion IsRecord records → AllByRecursion IsSoundShown (from_zone z records)
shown_in z records h k = each_mapped IsSoundShown IsRecord (λ (r : Record). record { zone = z; shown = r }) records (λ r valid. record { shown = valid; zone = h }) k

owned_by : (name : Labels) (records : List Record) → IsName name → AllByRecursion IsRecord records → AllByRecursion IsRecord (as_owner name records)
owned_by name records valid k = each_mapped IsRecord IsRecord (λ (r : Record). record r { owner = name }) records (λ r h. record { owner = valid; rtype = h.rtype; ttl = h.ttl; octets = h.octets; short = h.short; rdata = h.rdata }) k

of_rrset : (z : Zone) (node : Labels) (t : ℕ) → HasRecords z → AllByRecursion IsRecord (rrset z.records node t)
of_rrset z node t h = each_filter IsRecord (λ r. names_eq r.owner node && r.rtype == t) z.records h

of_asked : (z : Zone) (node : Labels) (t : ℕ) → HasRecords z → AllByRecursion IsRecord (asked_records z.records node t)
of_asked z node t h = go (t == type_any)
  where
    go : (b : Bool) → AllByRecursion IsRecord (if b then filter (λ r. names_eq r.owner node) z.records else rrset z.records node t)
    go true = each_filter IsRecord (λ r. names_eq r.owner node) z.records h
    go false = of_rrset z node t h

answers_are : (t : ℕ) (f : Found) → IsSound f → AllByRecursion IsSoundShown (answers_of t f)
answers_are t f h = go f.outcome
  where
    go : (o : Outcome) → AllByRecursion IsSoundShown (answers_of t (record f { outcome = o }))
    go (Alias node) = shown_in f.zone _ h.zone (owned_by f.name _ h.name (of_rrset f.zone node type_cname h.zone))
    go (Answers node) = shown_in f.zone _ h.zone (owned_by f.name _ h.name (of_asked f.zone node t h.zone))
    go (Referral c) = tt
    go (NoData node) = tt
    go NameError = tt

soa_is : (z : Zone) → HasRecords z → AllByRecursion IsRecord (negative_soa z)
soa_is z h = each_mapped IsRecord IsRecord (λ (r : Record). record r { ttl = min r.ttl (minimum_of r) }) (soas z.records) (λ r k. record { owner = k.owner; rtype = k.rtype; ttl = lesser r.ttl (minimum_of r) k.ttl; octets = k.octets; short = k.short; rdata = k.rdata }) (each_filter IsRecord _ z.records h)
  where
    lesser : (a b : ℕ) → a < 2 ^ 32 → min a b < 2 ^ 32
    lesser a b small = omega arith

authority_one : (f : Found) → IsSound f → AllByRecursion IsSoundShown (authority_at f)
authority_one f h = go f.outcome
  where
    go : (o : Outcome) → AllByRecursion IsSoundShown (authority_at (record f { outcome = o }))
    go (Referral c) = shown_in f.zone _ h.zone (of_rrset f.zone c type_ns h.zone)
    go (NoData node) = shown_in f.zone _ h.zone (soa_is f.zone h.zone)
    go NameError = shown_in f.zone _ h.zone (soa_is f.zone h.zone)
    go (Alias node) = tt
    go (Answers node) = tt

authority_is : (fs : List Found) → AllByRecursion IsSound fs → AllByRecursion IsSoundShown (authority_of fs)
authority_is [] h = tt
authority_is (f ∷ []) h = authority_one f h.0
authority_is (f ∷ g ∷ rest) h = authority_is (g ∷ rest) h.1

unseen_is : (seen rs : List Record) → AllByRecursion IsRecord rs → AllByRecursion IsRecord (unseen seen rs)
unseen_is seen [] h = tt
unseen_is seen (r ∷ rest) h = go (list_any (same r) seen) (unseen_is seen rest h.1) (unseen_is (r ∷ seen) rest h.1)
  where
    go : (b : Bool) → AllByRecursion IsRecord (unseen seen rest) → AllByRecursion IsRecord (unseen (r ∷ seen) rest) → AllByRecursion IsRecord (elim b as (λ _. List Record) [ true ↦ unseen seen rest | false ↦ r ∷ unseen (r ∷ seen) rest ])
    go true j k = j
    go false j k = (h.0, k)

addresses_are : (s : Shown) → IsSoundShown s → AllByRecursion IsRecord (addresses_for s)
addresses_are s h = go (host_of s.shown)
  where
    go : (o : Option Labels) → AllByRecursion IsRecord (elim o as (λ _. List Record) [ None ↦ [] | Some host ↦ rrset s.zone.records host type_a ++ rrset s.zone.records host type_aaaa ])
    go None = tt
    go (Some host) = each_append IsRecord _ _ (of_rrset s.zone host type_a h.zone) (of_rrset s.zone host type_aaaa h.zone)

records_are : (shown : List Shown) → AllByRecursion IsSoundShown shown → AllByRecursion IsRecord (records_of shown)
records_are shown h = each_mapped IsRecord IsSoundShown (λ (s : Shown). s.shown) shown (λ s k. k.shown) h

-- the three sections
pub sections_are : (t : ℕ) (fs : List Found) → AllByRecursion IsSound fs → AllByRecursion IsRecord (records_of (answer_of t fs) ++ records_of (authority_of fs) ++ additional_of (answer_of t fs ++ authority_of fs))
sections_are t fs h =
    let answer = each_flat IsSoundShown IsSound (answers_of t) fs (answers_are t) h in
    let authority = authority_is fs h in
    let both = each_append IsSoundShown (answer_of t fs) (authority_of fs) answer authority in
    let additional = unseen_is (records_of (answer_of t fs ++ authority_of fs)) _ (each_flat IsRecord IsSoundShown addresses_for (answer_of t fs ++ authority_of fs) addresses_are both) in
    each_append IsRecord _ _ (each_append IsRecord _ _ (records_are (answer_of t fs) answer) (records_are (authority_of fs) authority)) additional
