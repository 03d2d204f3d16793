-- What is chosen of the changes of a store that is migrated.
use Rattle.std.proofs.Common.{◌≡◌, ◌⊎◌, inl, inr, ⊎_elim, ℕ, zero, suc, ◌+◌, ◌-◌, ◌*◌, ◌^◌, ◌≤◌, ◌<◌, true, List, [], ◌∷◌, None, length, drop, refl, sym, ◌∙◌, ap, subst, arith, get_or}
use Rattle.std.proofs.Math.Bool.{Bool-set}
use Rattle.std.proofs.Math.Logic.{∥∥₁_elim}
use Rattle.std.proofs.lemmas.Bool.{cases_lt}
use Rattle.std.proofs.lemmas.Bool.Decides.{nat_tests}
use Rattle.std.proofs.lemmas.List.{take_all}
use Rattle.std.specs.Prelude.{nat_le, sum_by}
use Rattle.std.specs.List.{AllByRecursion}
use Rattle.dns_names.specs.Name.{Labels, IsName}
use Rattle.dns_records.specs.Record.{Record, IsRecord, plain}
use Rattle.dns_zone.specs.Zone.{IsZone}
use Rattle.dns_zone.specs.Sets.{sorted_from}
use Rattle.dns_zone.proofs.OneSoa.{zone_few}
use Rattle.dns_changes.specs.Change.{Change, IsChange, applied, change_fault}
use Rattle.dns_changes.specs.Applied.{change_leads}
use Rattle.dns_changes.proofs.Entries.{plain_length}
use Rattle.dns_layout.specs.Sector.{snapshot_sectors}
use Rattle.dns_journal.specs.Bank.{sectors_for}
use Rattle.dns_store.specs.Versions.{Versions, newest_after}
use Rattle.dns_store.specs.Room.{entries_along}
use Rattle.dns_store.specs.Staged.{entries_length}
use Rattle.dns_store.specs.Recovered.{AreLed}
use Rattle.dns_store.specs.Checkpoint.{newest_sectors, IsMostKept, AllZones}
use Rattle.dns_store.specs.Choosing.{version_from, IsChosen, IsFirstFitting}
use Rattle.dns_store.specs.Plain.{octets_of, sectors_of_snapshot}
use Rattle.dns_store.proofs.Counts.{octets_more}
use Rattle.dns_store.proofs.Applying.{counts_applied}
use Rattle.dns_store.proofs.Lent.{led_sums}

-- the change to the next version
pub step_at : (i : ℕ) (base : List Record) (vs : Versions) (cs : List Change) (c : Change) → AreLed base vs cs → i < length cs → c ≡ get_or cs i c → IsChange (version_from base vs i) (version_from base vs (suc i)) c
step_at i base [] [] c led lt is = absurd (omega (arith, lt))
step_at i base [] (d ∷ cs) c led lt is = absurd led
step_at i base (v ∷ vs) [] c led lt is = absurd led
step_at zero base (v ∷ vs) (d ∷ cs) c led lt is = subst (λ (e : Change). IsChange base v e) (sym is) led.0
step_at (suc i) base (v ∷ vs) (d ∷ cs) c led lt is = step_at i v vs cs c led.1 (omega (arith, lt)) is

pub led_length : (base : List Record) (vs : Versions) (cs : List Change) → AreLed base vs cs → length cs ≡ length vs
led_length base [] [] led = refl
led_length base [] (c ∷ cs) led = absurd led
led_length base (v ∷ vs) [] led = absurd led
led_length base (v ∷ vs) (c ∷ cs) led = omega (arith, led_length v vs cs led.1)

-- each of them is a valid zone
pub zone_at : (apex : Labels) (n : ℕ) (base : List Record) (vs : Versions) → IsZone (record { apex = apex; records = base }) → AllZones apex vs → IsZone (record { apex = apex; records = version_from base vs n })
zone_at apex zero base vs valid zones = valid
zone_at apex (suc n) base [] valid zones = valid
zone_at apex (suc n) base (v ∷ vs) valid zones = zone_at apex n v vs zones.0 zones.1

short_one : (r : Record) → IsRecord r → length (plain r) ≤ 4359
short_one r valid = let name : IsName r.owner = valid.owner in omega (arith, plain_length r, name.short, valid.short)

pub short_all : (rs : List Record) → AllByRecursion IsRecord rs → octets_of rs ≤ 4359 * length rs
short_all [] each = omega arith
short_all (r ∷ rs) each = let one = short_one r each.0 in let rest = short_all rs each.1 in omega (arith, octets_more r rs, one, rest)

-- what is counted from a version on are the octets of the one that a change makes of it
pub octets_made : (apex : Labels) (before after : List Record) (c : Change) (octets n : ℕ) → IsZone (record { apex = apex; records = before }) → IsZone (record { apex = apex; records = after }) → change_fault c before ≡ None → applied c before ≡ after → octets ≡ octets_of before
    → ((kept : ℕ) → octets ≡ octets_of (c.old_soa ∷ c.removed) + kept → octets_of (c.new_soa ∷ c.added) + kept < 2 ^ 64 → n ≡ octets_of (c.new_soa ∷ c.added) + kept) → n ≡ octets_of after
octets_made apex before after c octets n valid next applies makes is moved =
    let sum = counts_applied before c (sorted_from before valid.ordered) applies in
    let new : octets_of after ≡ octets_of (c.new_soa ∷ c.added) + sum.kept = ap octets_of (sym makes) ∙ sum.new in
    let test : nat_le (octets_of after) (4359 * length after) ≡ true = ∥∥₁_elim next.each (Bool-set (nat_le (octets_of after) (4359 * length after)) true) (λ all. let short = short_all after all in grind (arith, nat_tests, short)) in
    let short : octets_of after ≤ 4359 * length after = grind (arith, nat_tests, test) in
    let few = zone_few (record { apex = apex; records = after }) next in
    moved sum.kept (is ∙ sum.old) (omega (arith, short, few, new)) ∙ sym new

-- ... and of the next one
pub octets_next : (apex : Labels) (before after : List Record) (c : Change) (octets n : ℕ) → IsZone (record { apex = apex; records = before }) → IsZone (record { apex = apex; records = after }) → IsChange before after c → octets ≡ octets_of before
    → ((kept : ℕ) → octets ≡ octets_of (c.old_soa ∷ c.removed) + kept → octets_of (c.new_soa ∷ c.added) + kept < 2 ^ 64 → n ≡ octets_of (c.new_soa ∷ c.added) + kept) → n ≡ octets_of after
octets_next apex before after c octets n valid next change is moved =
    let leads = change_leads before after c valid.ordered next.ordered change in
    octets_made apex before after c octets n valid next leads.fits leads.result is moved

-- the first fitting one, up to the base
pub fits_first : (room : ℕ) (base : List Record) (vs : Versions) (octets r : ℕ) → octets ≡ octets_of base → (room < snapshot_sectors octets → r ≡ 0 + 1) → (snapshot_sectors octets ≤ room → r ≡ 0) → IsFirstFitting room base vs 0 r
fits_first room base vs octets r is wide narrow = ⊎_elim
    (λ (less : room < snapshot_sectors octets).
    let one : r ≡ 1 = omega (arith, wide less) in
    let there : room < sectors_of_snapshot (version_from base vs (r - 1)) = subst (λ m. room < sectors_of_snapshot (version_from base vs m)) (let e : 0 ≡ r - 1 = omega (arith, one) in e) (subst (λ m. room < snapshot_sectors m) is less) in
    record { fit = λ j from to. absurd (omega (arith, from, to, one)); before = inr there; few = omega (arith, one) })
    (λ (le : snapshot_sectors octets ≤ room).
    let none : r ≡ 0 = narrow le in
    record { fit = λ j from to. subst (λ m. sectors_of_snapshot (version_from base vs m) ≤ room) (let e : 0 ≡ j = omega (arith, to) in e) (subst (λ m. snapshot_sectors m ≤ room) is le); before = inl none; few = omega (arith, none) })
    (cases_lt room (snapshot_sectors octets))

-- ... and up to the next one
pub fits_next : (room : ℕ) (base : List Record) (vs : Versions) (i first octets r : ℕ) → IsFirstFitting room base vs i first → octets ≡ octets_of (version_from base vs (suc i)) → (room < snapshot_sectors octets → r ≡ i + 1 + 1) → (snapshot_sectors octets ≤ room → r ≡ first) → IsFirstFitting room base vs (i + 1) r
fits_next room base vs i first octets r so_far is wide narrow = ⊎_elim
    (λ (less : room < snapshot_sectors octets).
    let two : r ≡ i + 2 = omega (arith, wide less) in
    let there : room < sectors_of_snapshot (version_from base vs (r - 1)) = subst (λ m. room < sectors_of_snapshot (version_from base vs m)) (let e : suc i ≡ r - 1 = omega (arith, two) in e) (subst (λ m. room < snapshot_sectors m) is less) in
    record { fit = λ j from to. absurd (omega (arith, from, to, two)); before = inr there; few = omega (arith, two) })
    (λ (le : snapshot_sectors octets ≤ room).
    let same : r ≡ first = narrow le in
    record {
      fit = λ j from to. ⊎_elim
          (λ (old : j < i + 1). so_far.fit j (omega (arith, from, same)) (omega (arith, old)))
          (λ (last : i + 1 ≤ j). subst (λ m. sectors_of_snapshot (version_from base vs m) ≤ room) (let e : suc i ≡ j = omega (arith, last, to) in e) (subst (λ m. snapshot_sectors m ≤ room) is le))
          (cases_lt j (i + 1));
      before = subst (λ m. (m ≡ 0) ⊎ (room < sectors_of_snapshot (version_from base vs (m - 1)))) (sym same) so_far.before;
      few = omega (arith, same, so_far.few);
    })
    (cases_lt room (snapshot_sectors octets))

-- the sectors of the newest changes, and of the entries between the newest versions
newest_same : (base : List Record) (vs : Versions) (cs : List Change) (n : ℕ) → AreLed base vs cs → newest_sectors sectors_for cs n ≡ newest_sectors (λ size. size) (entries_along base vs) n
newest_same base vs cs n led =
    let long : length cs ≡ length (entries_along base vs) = led_length base vs cs led ∙ sym (entries_length base vs) in
    ap (λ m. sum_by sectors_for (drop (m - n) cs)) long ∙ led_sums base vs cs (length (entries_along base vs) - n) led

-- no version from the base on fits
pub none_fits : (room : ℕ) (base : List Record) (vs : Versions) (cs : List Change) (first : ℕ) → AreLed base vs cs → IsFirstFitting room base vs (length vs) first → length cs < first → room < sectors_of_snapshot (newest_after base vs)
none_fits room base vs cs first led is more =
    let long = led_length base vs cs led in
    let last : first ≡ length vs + 1 = omega (arith, is.few, more, long) in
    ⊎_elim (λ none. absurd (omega (arith, none, last)))
    (λ wide.
    subst (λ (l : Versions). room < sectors_of_snapshot (newest_after base l)) (take_all (length vs) vs (omega arith))
    (subst (λ m. room < sectors_of_snapshot (version_from base vs m)) (let e : first - 1 ≡ length vs = omega (arith, last) in e) wide))
    is.before

-- so many are chosen
pub is_chosen : (room journal : ℕ) (base : List Record) (vs : Versions) (cs : List Change) (first n : ℕ) → AreLed base vs cs → IsFirstFitting room base vs (length vs) first → first ≤ length cs → IsMostKept sectors_for cs (length cs - first) journal n → IsChosen room journal base vs n
is_chosen room journal base vs cs first n led is some kept =
    let long = led_length base vs cs led in
    record {
      may = record {
        there = omega (arith, kept.there, long);
        entries = subst (λ m. m ≤ journal) (newest_same base vs cs n led) kept.fits;
        rooms = λ i le. is.fit (length vs - i) (omega (arith, le, kept.few, some, long)) (omega arith);
      };
      most = λ m may.
          (let few : m ≤ length cs - first = ⊎_elim
          (λ none. omega (arith, none, may.there, long))
          (λ wide. ⊎_elim
          (λ (less : length cs - first < m).
          ⊎_elim (λ (zero_is : first < 1). absurd (omega (arith, zero_is, less, may.there, long)))
          (λ (one : 1 ≤ first).
          let there = may.rooms (length vs - (first - 1)) (omega (arith, less, one, some, long)) in
          let position : length vs - (length vs - (first - 1)) ≡ first - 1 = omega (arith, one, some, long) in
          let fits : sectors_of_snapshot (version_from base vs (first - 1)) ≤ room = subst (λ q. sectors_of_snapshot (version_from base vs q) ≤ room) position there in
          absurd (omega (arith, fits, wide)))
          (cases_lt first 1))
          (λ le. le)
          (cases_lt (length cs - first) m))
          is.before in
          kept.most m few (omega (arith, may.there, long)) (subst (λ q. q ≤ journal) (sym (newest_same base vs cs m led)) may.entries));
    }
