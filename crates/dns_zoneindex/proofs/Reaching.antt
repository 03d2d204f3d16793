-- One label further along a name.
use Rattle.std.proofs.Common.{◌≡◌, ℕ, zero, suc, ◌<◌, Bool, true, false, cond, not, ◌&&◌, ◌||◌, List, [], ◌∷◌, length, drop, reverse, refl, sym, ap, ◌∙◌, subst}
use Rattle.std.specs.Prelude.{Some, None}
use Rattle.dns_names.specs.Name.{Labels, under, names_eq, wildcard}
use Rattle.dns_records.specs.Record.{Record}
use Rattle.dns_records.specs.Types.{type_ns}
use Rattle.dns_zone.specs.Node.{cut, cuts_at, EndsAtCut, EndsAtName, EndsAtWildcard, EndsNowhere, source}
use Rattle.dns_zone.specs.Records.{exists, owns_type, records_at}
use Rattle.dns_zone.specs.Zone.{Zone}
use Rattle.dns_zone.proofs.Cuts.{or_else}
use Rattle.dns_zone.proofs.Enclosers.{encloser_here, encloser_up}
use Rattle.dns_zone.proofs.Uncut.{cut_up, cut_past, owns_nothing, uncut_outside, under_above}
use Rattle.dns_zoneindex.specs.Entries.{PathRecord, under_label, below, here_of, some}
use Rattle.dns_zoneindex.specs.Owned.{path_records}
use Rattle.dns_zoneindex.specs.Reach.{zone_of_entries, LeadsToName, LeadsAbove}
use Rattle.dns_zoneindex.proofs.Down.{down}
use Rattle.dns_zoneindex.proofs.Exists.{exists_at, some_of}
use Rattle.dns_zoneindex.proofs.Led.{owned_at}
use Rattle.dns_zoneindex.proofs.Owned.{AreOwned}

-- what is at and under a name tells whether it exists
pub there : (name : Labels) (es own : List PathRecord) → AreOwned es → own ≡ below (reverse name) es → 0 < length own → exists (path_records es) name ≡ true
there name es own h is pos = sym (exists_at name es h) ∙ ap some (sym is) ∙ sym (some_of own pos)

pub absent : (name : Labels) (es own : List PathRecord) → AreOwned es → own ≡ below (reverse name) es → own ≡ [] → exists (path_records es) name ≡ false
absent name es own h is none = sym (exists_at name es h) ∙ ap some (sym is) ∙ ap some none

pub owned : (name : Labels) (es own : List PathRecord) (rs : List Record) → AreOwned es → own ≡ below (reverse name) es → rs ≡ here_of own → rs ≡ records_at (path_records es) name
owned name es own rs h is here = here ∙ ap here_of is ∙ owned_at name es h

absent_uncut : (z : Zone) (n : Labels) → exists z.records n ≡ false → cuts_at z n ≡ false
absent_uncut z n e = both (under n z.apex) (not (names_eq n z.apex)) (owns_type z.records n type_ns) (owns_nothing z.records n type_ns e)
  where
    both : (a b c : Bool) → c ≡ false → (a && b && c) ≡ false
    both true true c f = f
    both true false c f = refl
    both false b c f = refl

none_below : (xs : List Record) (l : List ℕ) (n : Labels) → exists xs n ≡ false → exists xs (l ∷ n) ≡ false
none_below [] l n e = refl
none_below (x ∷ xs) l n e = told_it (under x.owner (l ∷ n)) refl (none_below xs l n (rest (under x.owner n) (exists xs n) e))
  where
    first : (a b : Bool) → (a || b) ≡ false → a ≡ false
    first true b f = absurd cc
    first false b f = refl

    rest : (a b : Bool) → (a || b) ≡ false → b ≡ false
    rest true b f = absurd cc
    rest false b f = f

    told_it : (b : Bool) → under x.owner (l ∷ n) ≡ b → exists xs (l ∷ n) ≡ false → (under x.owner (l ∷ n) || exists xs (l ∷ n)) ≡ false
    told_it true is k = (let up = under_above x.owner (l ∷ n) n refl is in let no_one = first (under x.owner n) (exists xs n) e in absurd cc)
    told_it false is k = ap (λ b. b || exists xs (l ∷ n)) is ∙ k

-- ---- the states
pub at_root : (apex : Labels) (es : List PathRecord) (name : Labels) → name ≡ [] → LeadsToName (zone_of_entries apex es) es name es
at_root apex es name is = record {
  uncut = subst (λ n. cut (zone_of_entries apex es) n ≡ None) (sym is) (uncut_outside (zone_of_entries apex es) [] (never (names_eq [] apex)));
  own_is = ap (λ n. below (reverse n) es) (sym is);
}
  where
    never : (b : Bool) → (b && not b) ≡ false
    never true = refl
    never false = refl

-- the name is a cut
pub to_cut : (apex : Labels) (es : List PathRecord) (name above : Labels) (l : List ℕ) (own : List PathRecord) (rs : List Record) → name ≡ l ∷ above → LeadsToName (zone_of_entries apex es) es above own
    → rs ≡ records_at (path_records es) name → cuts_at (zone_of_entries apex es) name ≡ true → EndsAtCut (zone_of_entries apex es) name name rs
to_cut apex es name above l own rs is h held cuts =
    let z = zone_of_entries apex es in
    let here : cuts_at z (l ∷ above) ≡ true = subst (λ n. cuts_at z n ≡ true) is cuts in
    record {
      cut = subst (λ n. cut z n ≡ Some n) (sym is) (cut_up z l above ∙ (λ i. or_else (h.uncut i) (cond (here i) (Some (l ∷ above)) None)));
      owned = held;
    }

-- the name exists and is none
pub to_there : (apex : Labels) (es : List PathRecord) (name above : Labels) (l : List ℕ) (own child : List PathRecord) → name ≡ l ∷ above → LeadsToName (zone_of_entries apex es) es above own
    → child ≡ below (reverse name) es → cuts_at (zone_of_entries apex es) name ≡ false → LeadsToName (zone_of_entries apex es) es name child
to_there apex es name above l own child is h child_is cuts =
    let z = zone_of_entries apex es in
    record {
      uncut = subst (λ n. cut z n ≡ None) (sym is) (cut_past z l above (subst (λ n. cuts_at z n ≡ false) is cuts) ∙ h.uncut);
      own_is = child_is;
    }

-- the name doesn't exist, and the one above does
pub to_above : (apex : Labels) (es : List PathRecord) (name above : Labels) (l : List ℕ) (own child : List PathRecord) → AreOwned es → name ≡ l ∷ above → LeadsToName (zone_of_entries apex es) es above own
    → 0 < length own → child ≡ under_label l own → child ≡ [] → LeadsAbove (zone_of_entries apex es) es name above own
to_above apex es name above l own child h is led pos child_is none =
    let z = zone_of_entries apex es in
    let gone : exists z.records (l ∷ above) ≡ false = absent (l ∷ above) es child h (down (l ∷ above) above l es own child refl led.own_is child_is) none in
    subst (λ n. LeadsAbove z es n above own) (sym is) (record {
      uncut = cut_past z l above (absent_uncut z (l ∷ above) gone) ∙ led.uncut;
      absent = gone;
      above = sym (encloser_up z.records l above gone ∙ encloser_here z.records above (there above es own h led.own_is pos));
      own_is = led.own_is;
    })

-- a cut stays the cut of all names under it
pub stays_cut : (apex : Labels) (es : List PathRecord) (name above : Labels) (l : List ℕ) (at : Labels) (rs : List Record) → name ≡ l ∷ above → EndsAtCut (zone_of_entries apex es) above at rs → EndsAtCut (zone_of_entries apex es) name at rs
stays_cut apex es name above l at rs is h =
    let z = zone_of_entries apex es in
    record {
      cut = subst (λ n. cut z n ≡ Some at) (sym is) (cut_up z l above ∙ ap (λ o. or_else o (cond (cuts_at z (l ∷ above)) (Some (l ∷ above)) None)) h.cut);
      owned = h.owned;
    }

-- under a name that doesn't exist none does
pub stays_above : (apex : Labels) (es : List PathRecord) (name above : Labels) (l : List ℕ) (at : Labels) (own : List PathRecord) → name ≡ l ∷ above → LeadsAbove (zone_of_entries apex es) es above at own → LeadsAbove (zone_of_entries apex es) es name at own
stays_above apex es name above l at own is h =
    let z = zone_of_entries apex es in
    let gone = none_below z.records l above h.absent in
    subst (λ n. LeadsAbove z es n at own) (sym is) (record {
      uncut = cut_past z l above (absent_uncut z (l ∷ above) gone) ∙ h.uncut;
      absent = gone;
      above = h.above ∙ sym (encloser_up z.records l above gone);
      own_is = h.own_is;
    })

-- the same for a name under it by any number of labels
pub cut_below : (apex : Labels) (es : List PathRecord) (n : ℕ) (name here at : Labels) (rs : List Record) → here ≡ drop n name
    → EndsAtCut (zone_of_entries apex es) here at rs
    → EndsAtCut (zone_of_entries apex es) name at rs
cut_below apex es zero name here at rs is h = subst (λ x. EndsAtCut (zone_of_entries apex es) x at rs) is h
cut_below apex es (suc n) [] here at rs is h = subst (λ x. EndsAtCut (zone_of_entries apex es) x at rs) is h
cut_below apex es (suc n) (l ∷ name) here at rs is h = stays_cut apex es (l ∷ name) name l at rs refl (cut_below apex es n name here at rs is h)

pub above_below : (apex : Labels) (es : List PathRecord) (n : ℕ) (name here at : Labels) (own : List PathRecord) → here ≡ drop n name
    → LeadsAbove (zone_of_entries apex es) es here at own
    → LeadsAbove (zone_of_entries apex es) es name at own
above_below apex es zero name here at own is h = subst (λ x. LeadsAbove (zone_of_entries apex es) es x at own) is h
above_below apex es (suc n) [] here at own is h = subst (λ x. LeadsAbove (zone_of_entries apex es) es x at own) is h
above_below apex es (suc n) (l ∷ name) here at own is h = stays_above apex es (l ∷ name) name l at own refl (above_below apex es n name here at own is h)

-- ---- the answers
pub end_name : (apex : Labels) (es : List PathRecord) (name : Labels) (own : List PathRecord) (rs : List Record) → AreOwned es → LeadsToName (zone_of_entries apex es) es name own → 0 < length own → rs ≡ here_of own → EndsAtName (zone_of_entries apex es) name rs
end_name apex es name own rs h led pos here = record {
  uncut = led.uncut;
  there = there name es own h led.own_is pos;
  owned = owned name es own rs h led.own_is here;
}

abbrev star : List ℕ
star = 42 ∷ []

wild_is : (apex : Labels) (es : List PathRecord) (name at : Labels) (own child : List PathRecord) → LeadsAbove (zone_of_entries apex es) es name at own → child ≡ under_label star own → child ≡ below (reverse (source (path_records es) name)) es
wild_is apex es name at own child led is =
    down (source (path_records es) name) at star es own child (ap wildcard (sym led.above)) led.own_is is

pub end_wildcard : (apex : Labels) (es : List PathRecord) (name at : Labels) (own child : List PathRecord) (rs : List Record) → AreOwned es → LeadsAbove (zone_of_entries apex es) es name at own
    → child ≡ under_label star own → 0 < length child → rs ≡ here_of child → EndsAtWildcard (zone_of_entries apex es) name at rs
end_wildcard apex es name at own child rs h led is pos here =
    let wild = wild_is apex es name at own child led is in
    record {
      uncut = led.uncut;
      absent = led.absent;
      above = led.above;
      there = there (source (path_records es) name) es child h wild pos;
      owned = owned (source (path_records es) name) es child rs h wild here;
    }

pub end_nowhere : (apex : Labels) (es : List PathRecord) (name at : Labels) (own child : List PathRecord) → AreOwned es → LeadsAbove (zone_of_entries apex es) es name at own → child ≡ under_label star own → child ≡ [] → EndsNowhere (zone_of_entries apex es) name
end_nowhere apex es name at own child h led is none = record {
  uncut = led.uncut;
  absent = led.absent;
  unmatched = absent (source (path_records es) name) es child h (wild_is apex es name at own child led is) none;
}

-- a set of no records
none_cut : (apex : Labels) (es : List PathRecord) (name : Labels) → es ≡ [] → cut (zone_of_entries apex es) name ≡ None
none_cut apex es [] e = uncut_outside (zone_of_entries apex es) [] (never (names_eq [] apex))
  where
    never : (b : Bool) → (b && not b) ≡ false
    never true = refl
    never false = refl
none_cut apex es (l ∷ rest) e = cut_past (zone_of_entries apex es) l rest (absent_uncut (zone_of_entries apex es) (l ∷ rest) (ap (λ x. exists (path_records x) (l ∷ rest)) e)) ∙ none_cut apex es rest e

pub end_empty : (apex : Labels) (es : List PathRecord) (name : Labels) → es ≡ [] → EndsNowhere (zone_of_entries apex es) name
end_empty apex es name e = record {
  uncut = none_cut apex es name e;
  absent = ap (λ x. exists (path_records x) name) e;
  unmatched = subst (λ x. exists (path_records x) (source (path_records es) name) ≡ false) (sym e) refl;
}
