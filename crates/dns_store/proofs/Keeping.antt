-- How many changes a checkpoint keeps, and the version that it begins at.
use Rattle.std.proofs.Common.{◌≡◌, ⊎_elim, ℕ, zero, suc, ◌+◌, ◌-◌, ◌≤◌, ◌<◌, true, List, [], ◌∷◌, length, take, drop, get_or, refl, sym, ◌∙◌, ap, subst, arith, drop-drop}
use Rattle.std.proofs.lemmas.Bool.{cases_lt}
use Rattle.std.proofs.lemmas.List.Sums.{sum_by-drop_more, sum_by-take-drop}
use Rattle.std.specs.Prelude.{sum_by}
use Rattle.dns_names.specs.Name.{Labels}
use Rattle.dns_records.specs.Record.{Record}
use Rattle.dns_zone.specs.Records.{is_ordered}
use Rattle.dns_zone.specs.Zone.{IsZone}
use Rattle.dns_changes.specs.Change.{Change, IsChange}
use Rattle.dns_store.specs.Versions.{Versions, newest_after}
use Rattle.dns_store.specs.Recovered.{AreLed}
use Rattle.dns_store.specs.Checkpoint.{newest_sectors, IsMostKept, AllZones}

module _ {X : Type 0} (sectors : X → ℕ) (entries : List X) where
  drop_less : (i n : ℕ) → sum_by sectors (drop (i + n) entries) ≤ sum_by sectors (drop i entries)
  drop_less i n =
      let parts = sum_by-take-drop sectors (drop i entries) n in
      let rest : sum_by sectors (drop n (drop i entries)) ≡ sum_by sectors (drop (i + n) entries) = ap (λ (xs : List X). sum_by sectors xs) (drop-drop n i entries) in
      omega (arith, parts, rest)

  -- more of the newest take no fewer sectors
  newest_grows : (a b : ℕ) → a ≤ b → newest_sectors sectors entries a ≤ newest_sectors sectors entries b
  newest_grows a b le =
      let there : length entries - b + (length entries - a - (length entries - b)) ≡ length entries - a = omega (arith, le) in
      subst (λ i. sum_by sectors (drop i entries) ≤ sum_by sectors (drop (length entries - b) entries)) there (drop_less (length entries - b) (length entries - a - (length entries - b)))

  -- one more of the newest
  pub newest_more : (n : ℕ) (x : X) → n < length entries → x ≡ get_or entries (length entries - 1 - n) x → newest_sectors sectors entries (n + 1) ≡ sectors x + newest_sectors sectors entries n
  newest_more n x lt is =
      let first : length entries - (n + 1) ≡ length entries - 1 - n = omega arith in
      let next : length entries - 1 - n + 1 ≡ length entries - n = omega (arith, lt) in
      ap (λ i. sum_by sectors (drop i entries)) first ∙ sum_by-drop_more sectors entries (length entries - 1 - n) x (omega (arith, lt))
      ∙ ap (λ (y : X). sectors y + sum_by sectors (drop (length entries - 1 - n + 1) entries)) (sym is) ∙ ap (λ i. sectors x + sum_by sectors (drop i entries)) next

  -- The next doesn't fit: no greater number does.
  pub most_here : (keep room n : ℕ) → n ≤ keep → n ≤ length entries → newest_sectors sectors entries n ≤ room → room < newest_sectors sectors entries (n + 1) → IsMostKept sectors entries keep room n
  most_here keep room n few there fits more = record {
    few = few;
    there = there;
    fits = fits;
    most = λ m m_few m_there m_fits. ⊎_elim (λ (less : n < m). absurd (omega (arith, newest_grows (n + 1) m (omega (arith, less)), m_fits, more))) (λ le. le) (cases_lt n m);
  }

-- One of the changes that lead from a version on.
pub record StepAt (apex : Labels) (before : List Record) (vs : Versions) (i : ℕ) (c : Change) : Type 0 where
  pub leads : IsChange (newest_after before (take i vs)) (newest_after before (take (suc i) vs)) c
  pub ordered : is_ordered (newest_after before (take i vs)) ≡ true
  pub valid : IsZone (record { apex = apex; records = newest_after before (take (suc i) vs) })

pub step_at : (apex : Labels) (before : List Record) (vs : Versions) (cs : List Change) (i : ℕ) (c : Change) → AreLed before vs cs → AllZones apex vs → is_ordered before ≡ true → i < length cs → c ≡ get_or cs i c → StepAt apex before vs i c
step_at apex before [] [] i c led zones ordered lt is = absurd (omega (arith, lt))
step_at apex before [] (d ∷ cs) i c led zones ordered lt is = absurd led
step_at apex before (v ∷ vs) [] i c led zones ordered lt is = absurd led
step_at apex before (v ∷ vs) (d ∷ cs) zero c led zones ordered lt is = record { leads = subst (λ (e : Change). IsChange before v e) (sym is) led.0; ordered = ordered; valid = zones.0 }
step_at apex before (v ∷ vs) (d ∷ cs) (suc i) c led zones ordered lt is =
    let rest = step_at apex v vs cs i c led.1 zones.1 zones.0.ordered (omega (arith, lt)) is in
    record { leads = rest.leads; ordered = rest.ordered; valid = rest.valid }

pub led_all : (before : List Record) (vs : Versions) (cs : List Change) → AreLed before vs cs → take (length cs) vs ≡ vs
led_all before [] [] led = refl
led_all before [] (c ∷ cs) led = absurd led
led_all before (v ∷ vs) [] led = absurd led
led_all before (v ∷ vs) (c ∷ cs) led = ap (λ (ws : Versions). v ∷ ws) (led_all v vs cs led.1)

pub zones_newest : (apex : Labels) (before : List Record) (vs : Versions) → IsZone (record { apex = apex; records = before }) → AllZones apex vs → IsZone (record { apex = apex; records = newest_after before vs })
zones_newest apex before [] valid zones = valid
zones_newest apex before (v ∷ vs) valid zones = zones_newest apex v vs zones.0 zones.1

pub drop_end : {X : Type 0} (xs : List X) → drop (length xs) xs ≡ []
drop_end [] = refl
drop_end (x ∷ xs) = drop_end xs

-- There is a greatest number.
pub most_there : {X : Type 0} (sectors : X → ℕ) (entries : List X) (keep room : ℕ) → (n : ℕ) × IsMostKept sectors entries keep room n
most_there {X} sectors entries zero room =
    let whole : length entries - 0 ≡ length entries = omega arith in
    let none : newest_sectors sectors entries 0 ≡ 0 = ap (λ i. sum_by sectors (drop i entries)) whole ∙ ap (λ (xs : List X). sum_by sectors xs) (drop_end entries) in
    (0, record { few = omega arith; there = omega arith; fits = omega (arith, none); most = λ m few there fits. few })
most_there {X} sectors entries (suc keep) room =
    let less = most_there sectors entries keep room in
    let stays : (suc keep ≤ length entries → newest_sectors sectors entries (suc keep) ≤ room → ⊥) → (n : ℕ) × IsMostKept sectors entries (suc keep) room n =
    λ not. (
      less.0,
      record {
        few = omega (arith, less.1.few);
        there = less.1.there;
        fits = less.1.fits;
        most = λ m few there fits.
            ⊎_elim (λ (small : m < suc keep). less.1.most m (omega (arith, small)) there fits)
            (λ (large : suc keep ≤ m).
            (let same : m ≡ suc keep = omega (arith, large, few) in
            absurd (not (omega (arith, there, same)) (subst (λ j. newest_sectors sectors entries j ≤ room) same fits)))) (cases_lt m (suc keep));
      },
    ) in
    ⊎_elim (λ (short : length entries < suc keep). stays (λ there fits. omega (arith, short, there)))
    (λ (there : suc keep ≤ length entries).
    ⊎_elim (λ (large : room < newest_sectors sectors entries (suc keep)). stays (λ _ fits. omega (arith, large, fits)))
    (λ (fits : newest_sectors sectors entries (suc keep) ≤ room). (suc keep, record { few = omega arith; there = there; fits = fits; most = λ m few _ _. few })) (cases_lt room (newest_sectors sectors entries (suc keep)))) (cases_lt (length entries) (suc keep))
