-- Items are done name by name: what they do to a set depends on the order of those of one name alone.
use Rattle.std.proofs.Common.{◌≡◌, ℕ, zero, suc, ◌<◌, Bool, true, false, not, ◌&&◌, List, [], ◌∷◌, Option, None, length, get_or, refl, sym, ap, subst, ◌∙◌, arith, cond}
use Rattle.std.specs.Prelude.{filter}
use Rattle.std.specs.List.{AllByRecursion}
use Rattle.std.specs.List.Sorted.{IsPermutation, IsStableBy, ties}
use Rattle.std.specs.Ordering.{is_lt, ordering_reverse}
use Rattle.std.specs.Cmp.{IsStrictWeakOrder}
use Rattle.std.specs.declared.cmp.Ordering.{Ordering}
use Rattle.std.specs.declared.cmp.Ordering.TheVariants.{Less, Equal, Greater}
use Rattle.std.proofs.lemmas.List.Sorted.{All-permutation, ranks_by}
use Rattle.dns_names.specs.Name.{Labels, names_eq, name_cmp}
use Rattle.dns_records.specs.Record.{Record}
use Rattle.dns_zone.specs.Order.{name_total, names_itself, names_same}
use Rattle.dns_zone.specs.Records.{is_ordered, others, records_at}
use Rattle.dns_zone.specs.Sets.{found, same_sets, sorted_from}
use Rattle.dns_zone.proofs.Listed.{filter_same}
use Rattle.dns_zone.proofs.Parted.{none_eq, tied_eq}
use Rattle.dns_zone.proofs.Typed.{kept_twice}
use Rattle.dns_wire.specs.Message.{ResourceRecord}
use Rattle.dns_wire.specs.declared.codes.Rcode.{Rcode}
use Rattle.dns_update.specs.ResourceRecord.{first_fault, otherwise}
use Rattle.dns_update.specs.Effect.{effect, effects}
use Rattle.dns_update.proofs.Aside.{found_at}
use Rattle.dns_update.proofs.AtOwner.{effect_at, effect_ordered, effects_ordered, effects_others, is_named}
use Rattle.dns_update.proofs.ResourceRecords.{no_fault}

-- ---- what a name owns after the items
-- those of all names but one, of another
at_others : (m n : Labels) (xs : List Record) → names_eq m n ≡ false → records_at (others xs m) n ≡ records_at xs n
at_others m n xs e =
    kept_twice (λ r. not (names_eq r.owner m)) (λ r. names_eq r.owner n) xs
    ∙ filter_same (λ r. not (names_eq r.owner m) && names_eq r.owner n) (λ r. names_eq r.owner n) (λ r. by r.owner (names_eq r.owner m) (names_eq r.owner n) refl refl) xs
  where
    by : (o : Labels) (a b : Bool) → names_eq o m ≡ a → names_eq o n ≡ b → (not a && b) ≡ b
    by o true true f g = (let clash : names_eq m n ≡ true = subst (λ (k : Labels). names_eq k n ≡ true) (names_same o m f) g in absurd cc)
    by o true false f g = refl
    by o false b f g = refl

-- an item leaves what another name owns
effect_apart : (apex n : Labels) (i : ResourceRecord) (xs : List Record) → is_named n i ≡ false → records_at (effect apex xs i) n ≡ records_at xs n
effect_apart apex n i xs e =
    let left = effects_others apex i.owner (i ∷ []) xs (ap (λ b. b && true) (names_itself i.owner)) in
    sym (at_others i.owner n (effect apex xs i) e) ∙ ap (λ (ys : List Record). records_at ys n) left ∙ at_others i.owner n xs e

-- what the items leave of a name's records is what those of the name do
pub effects_named : (apex n : Labels) (items : List ResourceRecord) (xs : List Record) → is_ordered xs ≡ true → records_at (effects apex xs items) n ≡ effects apex (records_at xs n) (filter (is_named n) items)
effects_named apex n [] xs h = refl
effects_named apex n (i ∷ items) xs h = step (is_named n i) refl (effects_named apex n items (effect apex xs i) (effect_ordered apex i xs h))
  where
    rest : List ResourceRecord
    rest = filter (is_named n) items

    step : (b : Bool) → is_named n i ≡ b → records_at (effects apex (effect apex xs i) items) n ≡ effects apex (records_at (effect apex xs i) n) rest → records_at (effects apex (effect apex xs i) items) n ≡ effects apex (records_at xs n) (cond b (i ∷ rest) rest)
    step true e left =
        let same : i.owner ≡ n = names_same i.owner n e in
        let one : records_at (effect apex xs i) n ≡ effect apex (records_at xs n) i = subst (λ (m : Labels). records_at (effect apex xs i) m ≡ effect apex (records_at xs m) i) same (effect_at apex i xs (sorted_from xs h)) in
        left ∙ ap (λ (ys : List Record). effects apex ys rest) one
    step false e left = left ∙ ap (λ (ys : List Record). effects apex ys rest) (effect_apart apex n i xs e)

-- items that are the same name by name do the same
pub done_by_name : (apex : Labels) (some more : List ResourceRecord) (xs : List Record) → is_ordered xs ≡ true → ((n : Labels) → filter (is_named n) some ≡ filter (is_named n) more) → effects apex xs some ≡ effects apex xs more
done_by_name apex some more xs h same =
    let a = effects apex xs some in
    let b = effects apex xs more in
    same_sets a b (sorted_from a (effects_ordered apex some xs h)) (sorted_from b (effects_ordered apex more xs h))
    (λ q. sym (found_at q a)
    ∙ ap (found q) (effects_named apex q.owner some xs h ∙ ap (effects apex (records_at xs q.owner)) (same q.owner) ∙ sym (effects_named apex q.owner more xs h))
    ∙ found_at q b)

-- ---- items in order of their owners
abbrev pub is_earlier : ResourceRecord → ResourceRecord → Bool
is_earlier i j = is_lt (name_cmp i.owner j.owner)

pub owners_rank : IsStrictWeakOrder (λ (i j : ResourceRecord). is_lt (name_cmp i.owner j.owner))
owners_rank = ranks_by name_total (λ (i : ResourceRecord). i.owner)

tied_is : (n o : Labels) → (not (is_lt (name_cmp n o)) && not (is_lt (name_cmp o n))) ≡ names_eq o n
tied_is n o = step (name_cmp n o) refl
  where
    step : (c : Ordering) → name_cmp n o ≡ c → (not (is_lt c) && not (is_lt (name_cmp o n))) ≡ names_eq o n
    step Less e = sym (none_eq n o Less e (λ f. absurd cc))
    step Equal e = ap (λ (c : Ordering). not (is_lt c)) (name_total.antisymm o n ∙ ap ordering_reverse e) ∙ sym (tied_eq n o e)
    step Greater e = ap (λ (c : Ordering). not (is_lt c)) (name_total.antisymm o n ∙ ap ordering_reverse e) ∙ sym (none_eq n o Greater e (λ f. absurd cc))

items_same : (p q : ResourceRecord → Bool) → ((i : ResourceRecord) → p i ≡ q i) → (items : List ResourceRecord) → filter p items ≡ filter q items
items_same p q h [] = refl
items_same p q h (i ∷ items) = λ k. cond (h i k) (i ∷ items_same p q h items k) (items_same p q h items k)

-- an item of that owner
abbrev owned_by : Labels → ResourceRecord
owned_by n = record { owner = n; rtype = 0; class = 0; ttl = 0; rdata = [] }

named_ties : (n : Labels) (items : List ResourceRecord) → filter (ties is_earlier (owned_by n)) items ≡ filter (is_named n) items
named_ties n items = items_same (ties is_earlier (owned_by n)) (is_named n) (λ i. tied_is n i.owner) items

-- those of one name stay in their order
pub named_stay : (some more : List ResourceRecord) → IsStableBy is_earlier some more → (n : Labels) → filter (is_named n) more ≡ filter (is_named n) some
named_stay some more stable n = sym (named_ties n more) ∙ stable (owned_by n) ∙ named_ties n some

-- ---- what holds of each item, in any order
each_at : (P : ResourceRecord → Type 0) (items : List ResourceRecord) → AllByRecursion P items → (k : ℕ) (d : ResourceRecord) → k < length items → P (get_or items k d)
each_at P [] h k d inside = absurd (omega arith)
each_at P (i ∷ items) h zero d inside = h.0
each_at P (i ∷ items) h (suc k) d inside = each_at P items h.1 k d (omega arith)

all_each : (P : ResourceRecord → Type 0) (items : List ResourceRecord) → ((k : ℕ) (d : ResourceRecord) → k < length items → P (get_or items k d)) → AllByRecursion P items
all_each P [] h = tt
all_each P (i ∷ items) h = (h 0 i (omega arith), all_each P items (λ k d inside. h (suc k) d (omega arith)))

pub each_moved : (P : ResourceRecord → Type 0) (some more : List ResourceRecord) → IsPermutation some more → AllByRecursion P some → AllByRecursion P more
each_moved P some more moved h = all_each P more (All-permutation P some more moved (each_at P some h))

each_passes : (fault : ResourceRecord → Option Rcode) (items : List ResourceRecord) → first_fault fault items ≡ None → AllByRecursion (λ i. fault i ≡ None) items
each_passes fault [] e = tt
each_passes fault (i ∷ items) e = (let both = no_fault (fault i) (first_fault fault items) e in (both.0, each_passes fault items both.1))

all_pass : (fault : ResourceRecord → Option Rcode) (items : List ResourceRecord) → AllByRecursion (λ i. fault i ≡ None) items → first_fault fault items ≡ None
all_pass fault [] h = refl
all_pass fault (i ∷ items) h = ap (λ (o : Option Rcode). otherwise o (first_fault fault items)) h.0 ∙ all_pass fault items h.1

pub passes_moved : (fault : ResourceRecord → Option Rcode) (some more : List ResourceRecord) → IsPermutation some more → first_fault fault some ≡ None → first_fault fault more ≡ None
passes_moved fault some more moved e = all_pass fault more (each_moved (λ i. fault i ≡ None) some more moved (each_passes fault some e))
