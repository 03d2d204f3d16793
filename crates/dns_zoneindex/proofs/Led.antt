-- What the labels of a name lead to is what the name owns.
use Rattle.std.proofs.Common.{◌≡◌, ℕ, Bool, true, false, cond, List, [], ◌∷◌, refl, sym, ap, ◌∙◌, subst, reverse}
use Rattle.std.specs.Prelude.{◌&&◌, filter}
use Rattle.std.specs.Cmp.{both_ways}
use Rattle.std.specs.Str.{bytes_eq}
use Rattle.std.proofs.lemmas.List.{reverse-reverse}
use Rattle.dns_names.specs.Name.{Labels, names_eq}
use Rattle.dns_records.specs.Record.{Record}
use Rattle.dns_zone.specs.Order.{names_same, names_itself}
use Rattle.dns_zone.specs.Records.{records_at}
use Rattle.dns_zoneindex.specs.Entries.{PathRecord, under_label, below, here_of}
use Rattle.dns_zoneindex.specs.Owned.{path_records}
use Rattle.dns_zoneindex.proofs.Owned.{AreOwned}

abbrev pub led : Labels → PathRecord → Bool
led path e = names_eq path e.path

here_led : (es : List PathRecord) → here_of es ≡ path_records (filter (led []) es)
here_led [] = refl
here_led (e ∷ es) = elim (e.path) as (λ p. (elim p [ [] ↦ e.record_there ∷ here_of es | m ∷ rest ↦ here_of es ]) ≡ path_records (cond (names_eq [] p) (e ∷ filter (led []) es) (filter (led []) es))) [
  | [] ↦ ap (λ z. e.record_there ∷ z) (here_led es)
  | m ∷ rest ↦ here_led es
]

pick : (b c : Bool) (r : Record) (x y : PathRecord) (u v w z : List PathRecord) → path_records (x ∷ []) ≡ path_records (y ∷ []) → path_records (cond c (x ∷ v) v) ≡ path_records (cond c (y ∷ w) w) → path_records v ≡ path_records w → path_records (cond b (cond c (x ∷ v) v) v) ≡ path_records (cond (b && c) (y ∷ w) w)
pick true c r x y u v w z h k n = k
pick false c r x y u v w z h k n = n

-- a test on what is kept or not
filter_cond : (p : PathRecord → Bool) (b : Bool) (x : PathRecord) (es : List PathRecord) → filter p (cond b (x ∷ es) es) ≡ cond b (cond (p x) (x ∷ filter p es) (filter p es)) (filter p es)
filter_cond p true x es = refl
filter_cond p false x es = refl

same_pick : (c : Bool) (x y : PathRecord) (v w : List PathRecord) → x.record_there ≡ y.record_there → path_records v ≡ path_records w → path_records (cond c (x ∷ v) v) ≡ path_records (cond c (y ∷ w) w)
same_pick true x y v w h k = λ i. h i ∷ k i
same_pick false x y v w h k = k

step_led : (l : List ℕ) (path : Labels) (es : List PathRecord) → path_records (filter (led path) (under_label l es)) ≡ path_records (filter (led (l ∷ path)) es)
step_led l path [] = refl
step_led l path (e ∷ es) = elim (e.path) as (λ p. path_records (filter (led path) (elim p [ [] ↦ under_label l es | m ∷ rest ↦ cond (bytes_eq l m) (record { path = rest; record_there = e.record_there } ∷ under_label l es) (under_label l es) ])) ≡ path_records (cond (names_eq (l ∷ path) p) (e ∷ filter (led (l ∷ path)) es) (filter (led (l ∷ path)) es))) [
  | [] ↦ step_led l path es
  | m ∷ rest ↦ (let x : PathRecord = record { path = rest; record_there = e.record_there } in
      let n = step_led l path es in
      ap path_records (filter_cond (led path) (bytes_eq l m) x (under_label l es))
      ∙ pick (bytes_eq l m) (names_eq path rest) e.record_there x e [] (filter (led path) (under_label l es)) (filter (led (l ∷ path)) es) [] refl (same_pick (names_eq path rest) x e (filter (led path) (under_label l es)) (filter (led (l ∷ path)) es) refl n) n)
]

pub below_led : (path : Labels) (es : List PathRecord) → here_of (below path es) ≡ path_records (filter (led path) es)
below_led [] es = here_led es
below_led (l ∷ path) es = below_led path (under_label l es) ∙ step_led l path es

turned : (owner name : Labels) → names_eq (reverse name) (reverse owner) ≡ names_eq owner name
turned owner name = both_ways (names_eq (reverse name) (reverse owner)) (names_eq owner name)
    (λ e. (let same = sym (reverse-reverse owner) ∙ ap reverse (sym (names_same (reverse name) (reverse owner) e)) ∙ reverse-reverse name in subst (λ x. names_eq owner x ≡ true) same (names_itself owner)))
    (λ e. (let same = names_same owner name e in subst (λ x. names_eq (reverse x) (reverse owner) ≡ true) same (names_itself (reverse owner))))

owned_led : (name : Labels) (es : List PathRecord) → AreOwned es → path_records (filter (led (reverse name)) es) ≡ records_at (path_records es) name
owned_led name [] h = refl
owned_led name (e ∷ es) h =
    let test : led (reverse name) e ≡ names_eq e.record_there.owner name = ap (λ p. names_eq (reverse name) p) h.0 ∙ turned e.record_there.owner name in
    ap (λ b. path_records (cond b (e ∷ filter (led (reverse name)) es) (filter (led (reverse name)) es))) test ∙ pulled (names_eq e.record_there.owner name) (owned_led name es h.1)
  where
    pulled : (b : Bool) → path_records (filter (led (reverse name)) es) ≡ records_at (path_records es) name → path_records (cond b (e ∷ filter (led (reverse name)) es) (filter (led (reverse name)) es)) ≡ cond b (e.record_there ∷ records_at (path_records es) name) (records_at (path_records es) name)
    pulled true k = ap (λ z. e.record_there ∷ z) k
    pulled false k = k

-- the records of a name, as the list of all tells them
pub owned_at : (name : Labels) (es : List PathRecord) → AreOwned es → here_of (below (reverse name) es) ≡ records_at (path_records es) name
owned_at name es h = below_led (reverse name) es ∙ owned_led name es h
