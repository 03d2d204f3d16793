-- Where something is at or under a name, the name exists.
use Rattle.std.proofs.Common.{◌≡◌, ℕ, ◌<◌, Bool, true, false, cond, List, [], ◌∷◌, ◌++◌, length, refl, sym, ap, ◌∙◌, subst, reverse, arith}
use Rattle.std.specs.Prelude.{◌&&◌, ◌||◌}
use Rattle.std.specs.List.{list_any}
use Rattle.std.specs.Cmp.{both_ways}
use Rattle.std.specs.Str.{bytes_eq}
use Rattle.std.proofs.lemmas.List.{reverse-reverse, reverse-append}
use Rattle.dns_names.specs.Name.{Labels, under}
use Rattle.dns_zone.specs.Order.{bytes_same, bytes_itself, both_true}
use Rattle.dns_zone.specs.Ancestry.{under_from, under_with}
use Rattle.dns_zone.specs.Records.{exists}
use Rattle.dns_zoneindex.specs.Entries.{PathRecord, under_label, below, some}
use Rattle.dns_zoneindex.specs.Owned.{path_records}
use Rattle.dns_zoneindex.proofs.Owned.{AreOwned}

abbrev pub starts : Labels → Labels → Bool
starts [] q = true
starts (l ∷ p) [] = false
starts (l ∷ p) (m ∷ q) = bytes_eq l m && starts p q

starts_from : (p q : Labels) → starts p q ≡ true → (rest : Labels) × (q ≡ p ++ rest)
starts_from [] q h = (q, refl)
starts_from (l ∷ p) [] h = absurd cc
starts_from (l ∷ p) (m ∷ q) h =
    let both = both_true (bytes_eq l m) (starts p q) h in
    let more = starts_from p q both.1 in
    (more.0, λ i. sym (bytes_same l m both.0) i ∷ more.1 i)

starts_with : (p rest : Labels) → starts p (p ++ rest) ≡ true
starts_with [] rest = refl
starts_with (l ∷ p) rest = rw (bytes_itself l) (starts_with p rest)

turned : (owner name : Labels) → starts (reverse name) (reverse owner) ≡ under owner name
turned owner name = both_ways (starts (reverse name) (reverse owner)) (under owner name)
    (λ e. (let h = starts_from (reverse name) (reverse owner) e in
    under_with owner name (reverse h.0, sym (reverse-reverse owner) ∙ ap reverse h.1 ∙ reverse-append (reverse name) h.0 ∙ ap (λ z. reverse h.0 ++ z) (reverse-reverse name))))
    (λ e. (let h = under_from owner name e in
    subst (λ x. starts (reverse name) x ≡ true) (sym (ap reverse h.1 ∙ reverse-append h.0 name)) (starts_with (reverse name) (reverse h.0))))

any_cond : (f : PathRecord → Bool) (b : Bool) (x : PathRecord) (es : List PathRecord) (c : Bool) → list_any f es ≡ c → list_any f (cond b (x ∷ es) es) ≡ (b && f x) || c
any_cond f true x es c h = ap (λ z. f x || z) h
any_cond f false x es c h = h

step_some : (l : List ℕ) (p : Labels) (es : List PathRecord) → list_any (λ e. starts p e.path) (under_label l es) ≡ list_any (λ e. starts (l ∷ p) e.path) es
step_some l p [] = refl
step_some l p (e ∷ es) = elim (e.path) as (λ q. list_any (λ x. starts p x.path) (elim q [ [] ↦ under_label l es | m ∷ rest ↦ cond (bytes_eq l m) (record { path = rest; record_there = e.record_there } ∷ under_label l es) (under_label l es) ]) ≡ (starts (l ∷ p) q || list_any (λ x. starts (l ∷ p) x.path) es)) [
  | [] ↦ step_some l p es
  | m ∷ rest ↦ any_cond (λ x. starts p x.path) (bytes_eq l m) (record { path = rest; record_there = e.record_there }) (under_label l es) (list_any (λ x. starts (l ∷ p) x.path) es) (step_some l p es)
]

below_some : (p : Labels) (es : List PathRecord) → some (below p es) ≡ list_any (λ e. starts p e.path) es
below_some [] [] = refl
below_some [] (e ∷ es) = refl
below_some (l ∷ p) es = below_some p (under_label l es) ∙ step_some l p es

owned_some : (name : Labels) (es : List PathRecord) → AreOwned es → list_any (λ e. starts (reverse name) e.path) es ≡ exists (path_records es) name
owned_some name [] h = refl
owned_some name (e ∷ es) h = λ i. (ap (λ p. starts (reverse name) p) h.0 ∙ turned e.record_there.owner name) i || owned_some name es h.1 i

pub exists_at : (name : Labels) (es : List PathRecord) → AreOwned es → some (below (reverse name) es) ≡ exists (path_records es) name
exists_at name es h = below_some (reverse name) es ∙ owned_some name es h

pub some_of : (es : List PathRecord) → 0 < length es → true ≡ some es
some_of [] h = absurd (omega (arith, h))
some_of (e ∷ es) h = refl
