-- The versions of a zone: the changes that are kept lead to the one that is shown, and so do those from one that was shown earlier.
use Rattle.std.proofs.Common.{◌≡◌, ◌<◌, ◌^◌, ℕ, suc, Bool, true, false, List, [], ◌∷◌, ◌++◌, length, take, drop, Option, Some, None, refl, sym, ap, subst, ◌∙◌, arith}
use Rattle.std.specs.Prelude.{◌==◌, option_map, if◌then◌else◌}
use Rattle.std.specs.List.{AllByRecursion}
use Rattle.dns_names.specs.Name.{Labels, names_eq}
use Rattle.dns_records.specs.Types.{type_soa}
use Rattle.dns_records.specs.Record.{Record, IsRecord}
use Rattle.dns_zone.specs.Zone.{Zone, IsZone, soas}
use Rattle.dns_zone.specs.Order.{names_same}
use Rattle.dns_zone.proofs.Kept.{numbers_same}
use Rattle.dns_zone.proofs.OneSoa.{zone_soa}
use Rattle.dns_changes.specs.Change.{Change}
use Rattle.dns_transfer.specs.Form.{advances}
use Rattle.dns_secondary.specs.Request.{soas_held}
use Rattle.dns_store.specs.Versions.{Versions, newest_after, shown_of, version_at}
use Rattle.dns_versions.specs.Held.{shown_zone}
use Rattle.dns_primary.specs.Machine.{Made, ZoneState, Machine, kept_of, versions_of}
use Rattle.dns_primary.specs.Update.{zone_position}
use Rattle.dns_primary.specs.Transfer.{changes_along, zone_at, zone_named}
use Rattle.dns_primary.specs.Runs.{Lasts, AllLast}
use Rattle.dns_primary.proofs.Zonewise.{pair_found, all_found, versions_joined}
use Rattle.dns_primary.proofs.Brought.{IsNamed, NamedAt, place_named}
use Rattle.dns_theorem.specs.Versions.{LeadTo, EndAlike}
use Rattle.dns_theorem.specs.Copies.{IsFollowed}
use Rattle.dns_theorem.specs.Headline.{changes_to, IsHeldOf}
use Rattle.dns_theorem.specs.Followed.{AreSoundVersions, HasSoundVersions}
use Rattle.dns_theorem.proofs.Chains.{pending, last_zone}
use Rattle.dns_theorem.proofs.Chained.{IsValidChange, Leads, leads_on, newest_joined, from_number, ends_alike, valid_pending, soas_valid, sound_front, sound_pending}

-- ---- zones of one name at two moments
record IsLater (apex : Labels) (z : ZoneState) (news : List ZoneState) : Type 0 where
  zone : ZoneState
  named : zone_named apex news ≡ Some zone
  lasts : Lasts z zone

place_same : (apex : Labels) (olds news : List ZoneState) → AllLast olds news → zone_position apex olds ≡ zone_position apex news
place_same apex [] [] h = refl
place_same apex [] (w ∷ news) h = absurd h
place_same apex (z ∷ olds) [] h = absurd h
place_same apex (z ∷ olds) (w ∷ news) h =
    let same : z.setting.shape ≡ w.setting.shape = sym (h.0).shape in
    let rest = place_same apex olds news h.1 in
    λ i. if names_eq (same i).apex apex then Some 0 else option_map suc (rest i)

later_at : (apex : Labels) (z : ZoneState) (olds news : List ZoneState) (o : Option ℕ) → AllLast olds news → zone_at olds o ≡ Some z → (w : ZoneState) × (zone_at news o ≡ Some w) × Lasts z w
later_at apex z olds news None h e = absurd cc
later_at apex z olds news (Some index) h e = (let f = pair_found Lasts olds news index z h e in (f.zone, f.stands, f.holds))

later : (apex : Labels) (z : ZoneState) (olds news : List ZoneState) → AllLast olds news → zone_named apex olds ≡ Some z → IsLater apex z news
later apex z olds news h e =
    let at = later_at apex z olds news (zone_position apex olds) h e in
    record { zone = at.0; named = ap (zone_at news) (sym (place_same apex olds news h)) ∙ at.1; lasts = at.2 }

apex_at : (apex : Labels) (zones : List ZoneState) (z : ZoneState) (o : Option ℕ) → NamedAt apex zones o → zone_at zones o ≡ Some z → names_eq z.setting.shape.apex apex ≡ true
apex_at apex zones z None n e = absurd cc
apex_at apex zones z (Some index) n e = subst (IsNamed apex) e n

pub apex_is : (apex : Labels) (zones : List ZoneState) (z : ZoneState) → zone_named apex zones ≡ Some z → z.setting.shape.apex ≡ apex
apex_is apex zones z e = names_same z.setting.shape.apex apex (apex_at apex zones z (zone_position apex zones) (place_named apex zones) e)

at_found : (P : ZoneState → Type 0) (zones : List ZoneState) (z : ZoneState) (o : Option ℕ) → AllByRecursion P zones → zone_at zones o ≡ Some z → P z
at_found P zones z None h e = absurd cc
at_found P zones z (Some index) h e = all_found P zones index z h e

pub named_found : (P : ZoneState → Type 0) (apex : Labels) (zones : List ZoneState) (z : ZoneState) → AllByRecursion P zones → zone_named apex zones ≡ Some z → P z
named_found P apex zones z h e = at_found P zones z (zone_position apex zones) h e

-- ---- a zone and its versions
drop_all : (xs ys : List Made) → drop (length xs) (versions_of (xs ++ ys)) ≡ versions_of ys
drop_all [] ys = refl
drop_all (x ∷ xs) ys = drop_all xs ys

take_all : (xs ys : List Made) → take (length xs) (versions_of (xs ++ ys)) ≡ versions_of xs
take_all [] ys = refl
take_all (x ∷ xs) ys = ap (λ (vs : Versions). x.records ∷ vs) (take_all xs ys)

module _ (w : ZoneState) (k : HasSoundVersions w) where
  abbrev pub apex : Labels
  apex = w.setting.shape.apex

  pub whole : Leads apex w.loaded (versions_of w.shown)
  whole = leads_on apex w.loaded (versions_of w.shown) (k.loaded).valid (k.loaded).each k.shown

  abbrev pub base : List Record
  base = version_at (kept_of w) w.base

  abbrev pub kept : List Change
  kept = changes_along base (drop w.base (versions_of w.shown))

  front_is : changes_along w.loaded (versions_of w.shown) ≡ (from_number w.loaded (versions_of w.shown) w.base).front ++ kept
  front_is = (from_number w.loaded (versions_of w.shown) w.base).is

  pub kept_valid : AllByRecursion IsValidChange kept
  kept_valid = valid_pending _ kept (subst (AllByRecursion IsValidChange) front_is whole.changes)

  -- the changes that are kept lead to what is shown
  pub kept_leads : (from : List Record) × LeadTo apex from kept (shown_of (kept_of w))
  kept_leads =
      let part = pending apex w.loaded _ kept (shown_of (kept_of w)) (subst (λ (cs : List Change). LeadTo apex w.loaded cs (shown_of (kept_of w))) front_is whole.leads) in
      (part.from, part.leads)

  -- those from a version that was shown earlier lead there too, and end as they do
  module _ (z : ZoneState) (l : Lasts z w) where
    shown_is : w.shown ≡ z.shown ++ l.more
    shown_is = l.shown

    from_is : newest_after w.loaded (versions_of z.shown) ≡ shown_of (kept_of z)
    from_is = ap (λ (rs : List Record). newest_after rs (versions_of z.shown)) l.loaded

    both_sound : AreSoundVersions apex w.loaded (versions_of z.shown ++ versions_of l.more)
    both_sound = subst (AreSoundVersions apex w.loaded) (ap versions_of shown_is ∙ versions_joined z.shown l.more) k.shown

    first : Leads apex w.loaded (versions_of z.shown)
    first = leads_on apex w.loaded (versions_of z.shown) (k.loaded).valid (k.loaded).each (sound_front apex w.loaded (versions_of z.shown) (versions_of l.more) both_sound)

    more_leads : Leads apex (newest_after w.loaded (versions_of z.shown)) (versions_of l.more)
    more_leads = leads_on apex (newest_after w.loaded (versions_of z.shown)) (versions_of l.more) (last_zone apex w.loaded _ _ first.leads) first.each
        (sound_pending apex w.loaded (versions_of z.shown) (versions_of l.more) both_sound)

    to_is : newest_after (newest_after w.loaded (versions_of z.shown)) (versions_of l.more) ≡ shown_of (kept_of w)
    to_is = sym (newest_joined w.loaded (versions_of z.shown) (versions_of l.more))
        ∙ ap (newest_after w.loaded) (sym (versions_joined z.shown l.more) ∙ ap versions_of (sym shown_is))

    since_is : drop (length z.shown) (versions_of w.shown) ≡ versions_of l.more
    since_is = ap (λ (us : List Made). drop (length z.shown) (versions_of us)) shown_is ∙ drop_all z.shown l.more

    changes_are : changes_along (newest_after w.loaded (versions_of z.shown)) (versions_of l.more) ≡ changes_to z w
    changes_are = λ i. changes_along (from_is i) (sym since_is i)

    abbrev newest : List Record
    newest = newest_after (newest_after w.loaded (versions_of z.shown)) (versions_of l.more)

    to_leads : LeadTo apex (shown_of (kept_of z)) (changes_to z w) (shown_of (kept_of w))
    to_leads = subst (λ (to : List Record). LeadTo apex (shown_of (kept_of z)) (changes_to z w) to) to_is
        (subst (λ (cs : List Change). LeadTo apex (shown_of (kept_of z)) cs newest) changes_are
        (subst (λ (from : List Record). LeadTo apex from (changes_along (newest_after w.loaded (versions_of z.shown)) (versions_of l.more)) newest) from_is more_leads.leads))

    before_is : newest_after w.loaded (take (length z.shown) (versions_of w.shown)) ≡ shown_of (kept_of z)
    before_is = ap (newest_after w.loaded) (ap (λ (us : List Made). take (length z.shown) (versions_of us)) shown_is ∙ take_all z.shown l.more) ∙ from_is

    later_front : changes_along w.loaded (versions_of w.shown) ≡ (from_number w.loaded (versions_of w.shown) (length z.shown)).front ++ changes_to z w
    later_front = (from_number w.loaded (versions_of w.shown) (length z.shown)).is
        ∙ ap (λ (from : List Record). (from_number w.loaded (versions_of w.shown) (length z.shown)).front ++ changes_along from (drop (length z.shown) (versions_of w.shown))) before_is

    alike : EndAlike (changes_to z w) kept
    alike = ends_alike (from_number w.loaded (versions_of w.shown) (length z.shown)).front (from_number w.loaded (versions_of w.shown) w.base).front (changes_to z w) kept (sym later_front ∙ front_is)

-- ---- what is held
soas_with : (r : Record) (rest : List Record) (b : Bool) → (r.rtype == type_soa) ≡ b → AllByRecursion (λ x. x.rtype ≡ type_soa) rest
    → AllByRecursion (λ x. x.rtype ≡ type_soa) (if b then r ∷ rest else rest)
soas_with r rest true e h = (numbers_same r.rtype type_soa e, h)
soas_with r rest false e h = h

soas_are : (records : List Record) → AllByRecursion (λ r. r.rtype ≡ type_soa) (soas records)
soas_are [] = tt
soas_are (r ∷ rest) = soas_with r (soas rest) (r.rtype == type_soa) refl (soas_are rest)

pub record IsFewSoas (records : List Record) : Type 0 where
  pub few : length records < 2 ^ 16
  pub each : AllByRecursion IsRecord records
  pub are : AllByRecursion (λ r. r.rtype ≡ type_soa) records

one_few : (records : List Record) (soa : Record) → records ≡ soa ∷ [] → length records < 2 ^ 16
one_few records soa e = (let one : length records ≡ 1 = ap length e in omega (arith, one))

-- what is held was shown, and is followed
module _ (apex : Labels) (held : Zone) (z w : ZoneState) (k : HasSoundVersions w) (l : Lasts z w) (named : w.setting.shape.apex ≡ apex) (is : held ≡ shown_zone (kept_of z)) (near : advances (changes_to z w) < 2 ^ 31) where
  records_are : shown_of (kept_of z) ≡ held.records
  records_are = sym (ap (λ (x : Zone). x.records) is)

  held_valid : AllByRecursion IsRecord held.records
  held_valid = subst (AllByRecursion IsRecord) (from_is w k z l ∙ records_are) (first w k z l).each

  held_zone : IsZone (record { apex = w.setting.shape.apex; records = held.records })
  held_zone = subst (λ (rs : List Record). IsZone (record { apex = w.setting.shape.apex; records = rs })) (from_is w k z l ∙ records_are) (last_zone w.setting.shape.apex w.loaded _ _ (first w k z l).leads)

  held_soa : length (soas held.records) < 2 ^ 16
  held_soa = (let h = zone_soa (record { apex = w.setting.shape.apex; records = held.records }) held_zone in one_few (soas held.records) h.soa h.one)

  held_soas : IsFewSoas (soas held.records)
  held_soas = record { few = held_soa; each = soas_valid held.records held_valid; are = soas_are held.records }

  held_followed : IsFollowed apex (Some held) (kept w k) (shown_of (kept_of w))
  held_followed = (
    changes_to z w,
    subst (λ (a : Labels). LeadTo a held.records (changes_to z w) (shown_of (kept_of w))) named
        (subst (λ (from : List Record). LeadTo w.setting.shape.apex from (changes_to z w) (shown_of (kept_of w))) records_are (to_leads w k z l)),
    near,
    alike w k z l,
  )

same_some : (a b : ZoneState) → ◌≡◌ {A = Option ZoneState} (Some a) (Some b) → a ≡ b
same_some a b e = cc

-- what was shown of a zone at an earlier moment, and is held
module _ (earlier now : Machine) (lasts : AllLast earlier.zones now.zones) (sound : AllByRecursion HasSoundVersions now.zones) (apex : Labels) where
  pub known : (w : ZoneState) → zone_named apex now.zones ≡ Some w → HasSoundVersions w
  known w e = named_found HasSoundVersions apex now.zones w sound e

  lasts_to : (z w : ZoneState) → zone_named apex earlier.zones ≡ Some z → zone_named apex now.zones ≡ Some w → Lasts z w
  lasts_to z w before here =
      let l = later apex z earlier.zones now.zones lasts before in
      subst (Lasts z) (same_some l.zone w (sym l.named ∙ here)) l.lasts

  pub held_few : (held : Option Zone) → IsHeldOf apex earlier now held → IsFewSoas (soas_held held)
  held_few None h = record { few = omega arith; each = tt; are = tt }
  held_few (Some held) (z, w, before, here, is, near) = held_soas apex held z w (known w here) (lasts_to z w before here) (apex_is apex now.zones w here) is near

  pub held_is_followed : (w : ZoneState) (here : zone_named apex now.zones ≡ Some w) (held : Option Zone) → IsHeldOf apex earlier now held
      → IsFollowed apex held (kept w (known w here)) (shown_of (kept_of w))
  held_is_followed w here None h = tt
  held_is_followed w here (Some held) (z, v, before, there, is, near) =
      let same : v ≡ w = same_some v w (sym there ∙ here) in
      let near_here : advances (changes_to z w) < 2 ^ 31 = subst (λ (x : ZoneState). advances (changes_to z x) < 2 ^ 31) same near in
      held_followed apex held z w (known w here) (lasts_to z w before here) (apex_is apex now.zones w here) is near_here
