-- Entries that are at the labels of their owners, and the set that they are.
use Rattle.std.proofs.Common.{◌≡◌, Bool, true, false, cond, List, [], ◌∷◌, ◌++◌, map, refl, sym, ap, ◌∙◌, subst, reverse}
use Rattle.std.specs.Prelude.{◌&&◌, filter, not}
use Rattle.std.specs.FinMap.Entries.{by_order}
use Rattle.std.specs.Ordering.{is_lt, is_gt, is_eq, ordering_then}
use Rattle.std.specs.declared.cmp.Ordering.{Ordering}
use Rattle.std.specs.declared.cmp.Ordering.TheVariants.{Less, Equal, Greater}
use Rattle.std.proofs.lemmas.List.{map-append}
use Rattle.dns_names.specs.Name.{Labels, names_eq, name_cmp}
use Rattle.dns_records.specs.Record.{Record, record_cmp}
use Rattle.dns_zone.specs.Order.{both_true, names_same, names_itself}
use Rattle.dns_zone.specs.Records.{records_at, put, without}
use Rattle.dns_zone.specs.Sets.{Sorted, Below}
use Rattle.dns_zoneindex.specs.Entries.{PathRecord}
use Rattle.dns_zoneindex.specs.Owned.{path_records, stands_at_owner, are_owned}
use Rattle.dns_zoneindex.specs.Setting.{keep, set_at}
use Rattle.dns_zoneindex.specs.Growth.{path_cmp, NotBefore, Rising}
use Rattle.dns_zoneindex.proofs.Paths.{ahead, beyond, at, set_split}
use Rattle.dns_zone.proofs.Replaced.{AllAt}
use Rattle.dns_zone.proofs.Parted.{fore, past, put_parted, without_parted}

-- the test as a fact
abbrev pub AreOwned : List PathRecord → Type 0
AreOwned [] = Unit {0}
AreOwned (e ∷ es) = (e.path ≡ reverse e.record_there.owner) × AreOwned es

pub owned_from : (es : List PathRecord) → are_owned es ≡ true → AreOwned es
owned_from [] h = tt
owned_from (e ∷ es) h =
    let both = both_true (stands_at_owner e) (are_owned es) h in
    (names_same e.path (reverse e.record_there.owner) both.0, owned_from es both.1)

pub owned_test : (es : List PathRecord) → AreOwned es → are_owned es ≡ true
owned_test [] h = refl
owned_test (e ∷ es) h = λ i. subst (λ p. names_eq e.path p ≡ true) h.0 (names_itself e.path) i && owned_test es h.1 i

owned_append : (a b : List PathRecord) → AreOwned a → AreOwned b → AreOwned (a ++ b)
owned_append [] b h k = k
owned_append (e ∷ a) b h k = (h.0, owned_append a b h.1 k)

owned_keep : (p : PathRecord → Bool) (es : List PathRecord) → AreOwned es → AreOwned (keep p es)
owned_keep p [] h = tt
owned_keep p (e ∷ es) h = elim (p e) as (λ b. AreOwned (cond b (e ∷ keep p es) (keep p es))) [ true ↦ (h.0, owned_keep p es h.1) | false ↦ owned_keep p es h.1 ]

owned_there : (name : Labels) (rs : List Record) → AllAt name rs → AreOwned (map (at (reverse name)) rs)
owned_there name [] h = tt
owned_there name (r ∷ rs) h = (ap reverse (sym h.0), owned_there name rs h.1)

-- entries of a set in order are in order of their paths
less_head : (a b : Ordering) → ordering_then a b ≡ Less → is_gt a ≡ false
less_head Less b e = refl
less_head Equal b e = refl
less_head Greater b e = absurd cc

not_before : (r : Record) (path : Labels) (es : List PathRecord) → path ≡ reverse r.owner → AreOwned es → Below r (path_records es) → NotBefore path es
not_before r path [] p h b = tt
not_before r path (f ∷ es) p h b = ((λ i. is_gt (path_cmp (p i) (h.0 i))) ∙ less_head (name_cmp r.owner f.record_there.owner) _ b.0, not_before r path es p h.1 b.1)

pub rising : (es : List PathRecord) → AreOwned es → Sorted (path_records es) → Rising es
rising [] h s = tt
rising (e ∷ es) h s = (not_before e.record_there e.path es h.0 h.1 s.0, rising es h.1 s.1)

-- records that are kept by the position of their owner
kept_records : (p : PathRecord → Bool) (q : Record → Bool) (es : List PathRecord) → ((e : PathRecord) → e.path ≡ reverse e.record_there.owner → p e ≡ q e.record_there) → AreOwned es → path_records (keep p es) ≡ filter q (path_records es)
kept_records p q [] f h = refl
kept_records p q (e ∷ es) f h = ap (λ b. path_records (cond b (e ∷ keep p es) (keep p es))) (f e h.0) ∙ one (q e.record_there) (kept_records p q es f h.1)
  where
    one : (b : Bool) → path_records (keep p es) ≡ filter q (path_records es) → path_records (cond b (e ∷ keep p es) (keep p es)) ≡ cond b (e.record_there ∷ filter q (path_records es)) (filter q (path_records es))
    one true n = ap (λ z. e.record_there ∷ z) n
    one false n = n

records_there : (path : Labels) (rs : List Record) → path_records (map (at path) rs) ≡ rs
records_there path [] = refl
records_there path (r ∷ rs) = ap (λ z. r ∷ z) (records_there path rs)

-- other records of a name, seen from the set
pub set_records : (name : Labels) (rs : List Record) (es : List PathRecord) → AreOwned es → Sorted (path_records es)
    → path_records (set_at (reverse name) rs es) ≡ filter (fore name) (path_records es) ++ (rs ++ filter (past name) (path_records es))
set_records name rs es h s =
    let p = reverse name in
    let f = λ (e : PathRecord). e.record_there in
    ap path_records (set_split p rs es (rising es h s))
    ∙ map-append f (keep (ahead p) es) (map (at p) rs ++ keep (beyond p) es)
    ∙ ap (λ z. path_records (keep (ahead p) es) ++ z) (map-append f (map (at p) rs) (keep (beyond p) es))
    ∙ (λ i. kept_records (ahead p) (fore name) es (λ e is. ap (λ x. is_gt (path_cmp p x)) is) h i ++ (records_there p rs i ++ kept_records (beyond p) (past name) es (λ e is. ap (λ x. is_lt (path_cmp p x)) is) h i))

pub set_owned : (name : Labels) (rs : List Record) (es : List PathRecord) → AreOwned es → Sorted (path_records es) → AllAt name rs → AreOwned (set_at (reverse name) rs es)
set_owned name rs es h s all =
    let p = reverse name in
    subst AreOwned (sym (set_split p rs es (rising es h s))) (owned_append (keep (ahead p) es) (map (at p) rs ++ keep (beyond p) es) (owned_keep (ahead p) es h) (owned_append (map (at p) rs) (keep (beyond p) es) (owned_there name rs all) (owned_keep (beyond p) es h)))

-- the name's own records, one put in or taken out
pub set_put : (r : Record) (es : List PathRecord) → AreOwned es → Sorted (path_records es) → path_records (set_at (reverse r.owner) (put r (records_at (path_records es) r.owner)) es) ≡ put r (path_records es)
set_put r es h s = set_records r.owner (put r (records_at (path_records es) r.owner)) es h s ∙ sym (put_parted r (path_records es) s)

pub set_without : (r : Record) (es : List PathRecord) → AreOwned es → Sorted (path_records es) → path_records (set_at (reverse r.owner) (without r (records_at (path_records es) r.owner)) es) ≡ without r (path_records es)
set_without r es h s = set_records r.owner (without r (records_at (path_records es) r.owner)) es h s ∙ sym (without_parted r (path_records es) s)

-- whose records they are
pub all_at : (name : Labels) (xs : List Record) → AllAt name (records_at xs name)
all_at name [] = tt
all_at name (x ∷ xs) = step (names_eq x.owner name) refl (all_at name xs)
  where
    step : (b : Bool) → names_eq x.owner name ≡ b → AllAt name (records_at xs name) → AllAt name (cond b (x ∷ records_at xs name) (records_at xs name))
    step true e n = (names_same x.owner name e, n)
    step false e n = n

pub all_put : (name : Labels) (r : Record) (xs : List Record) → r.owner ≡ name → AllAt name xs → AllAt name (put r xs)
all_put name r [] e h = (e, tt)
all_put name r (x ∷ xs) e h = elim (record_cmp r x) as (λ o. AllAt name (by_order o (r ∷ x ∷ xs) (r ∷ xs) (x ∷ put r xs))) [ Less ↦ (e, h) | Equal ↦ (e, h.1) | Greater ↦ (h.0, all_put name r xs e h.1) ]

pub all_without : (name : Labels) (r : Record) (xs : List Record) → AllAt name xs → AllAt name (without r xs)
all_without name r [] h = tt
all_without name r (x ∷ xs) h = elim (not (is_eq (record_cmp r x))) as (λ b. AllAt name (cond b (x ∷ without r xs) (without r xs))) [ true ↦ (h.0, all_without name r xs h.1) | false ↦ all_without name r xs h.1 ]
