-- Records put into the additional section one after the other.
use Rattle.std.proofs.Common.{◌≡◌, ℕ, ◌+◌, ◌<◌, Bool, true, false, ◌||◌, List, [], ◌∷◌, ◌++◌, length, get_or, take, refl, sym, ap, ◌∙◌, append_assoc}
use Rattle.std.specs.Prelude.{Option, Some, None}
use Rattle.std.specs.List.{list_any, flat_map}
use Rattle.std.proofs.lemmas.List.{append-nil, take_more, map-append}
use Rattle.std.proofs.lemmas.List.Folds.{list_any-append}
use Rattle.std.proofs.lemmas.Grind.{flat_map-append}
use Rattle.dns_names.specs.Name.{Labels}
use Rattle.dns_records.specs.Types.{type_a, type_aaaa}
use Rattle.dns_records.specs.Record.{Record, host_of}
use Rattle.dns_zone.specs.Records.{same, rrset}
use Rattle.dns_zone.specs.Zone.{Zone}
use Rattle.dns_lookup.specs.Lookup.{Found}
use Rattle.dns_answer.specs.Sections.{Shown, from_zone, addresses_for, unseen, records_of, answer_of, authority_of}
use Rattle.dns_answer.specs.Added.{AddsUnseen, AreReplySections}
use Rattle.dns_answer.specs.Known.{stood}
use Rattle.dns_answer.specs.declared.sections.Sections.{Sections}

abbrev pub chosen : Bool → List Record → List Record → List Record
chosen true a b = a
chosen false a b = b

pub opened : (seen : List Record) (r : Record) (rest : List Record) → unseen seen (r ∷ rest) ≡ chosen (list_any (same r) seen) (unseen seen rest) (r ∷ unseen (r ∷ seen) rest)
opened seen r rest = of_test (list_any (same r) seen)
  where
    of_test : (b : Bool) → elim b [ true ↦ unseen seen rest | false ↦ r ∷ unseen (r ∷ seen) rest ] ≡ chosen b (unseen seen rest) (r ∷ unseen (r ∷ seen) rest)
    of_test true = refl
    of_test false = refl

-- only what was seen counts, in whatever order
unseen_same : (s t : List Record) → ((q : Record) → list_any (same q) s ≡ list_any (same q) t) → (xs : List Record) → unseen s xs ≡ unseen t xs
unseen_same s t h [] = refl
unseen_same s t h (r ∷ rest) =
    let one = unseen_same s t h rest in
    let two = unseen_same (r ∷ s) (r ∷ t) (λ q. ap (λ (b : Bool). same q r || b) (h q)) rest in
    opened s r rest ∙ (λ i. chosen (h r i) (one i) (r ∷ two i)) ∙ sym (opened t r rest)

turned : (a b c : Bool) → ((a || b) || c) ≡ (b || (a || c))
turned true true c = refl
turned true false c = refl
turned false b c = refl

pub moved : (q r : Record) (s t : List Record) → list_any (same q) ((r ∷ s) ++ t) ≡ list_any (same q) (s ++ r ∷ t)
moved q r s t = list_any-append (same q) (r ∷ s) t ∙ turned (same q r) (list_any (same q) s) (list_any (same q) t) ∙ sym (list_any-append (same q) s (r ∷ t))

pub unseen_append : (s xs ys : List Record) → unseen s (xs ++ ys) ≡ unseen s xs ++ unseen (s ++ unseen s xs) ys
unseen_append s [] ys = ap (λ (t : List Record). unseen t ys) (sym (append-nil s))
unseen_append s (r ∷ xs) ys =
    opened s r (xs ++ ys)
    ∙ of_test (list_any (same r) s) (unseen_append s xs ys) (unseen_append (r ∷ s) xs ys ∙ ap (λ (t : List Record). unseen (r ∷ s) xs ++ t) (unseen_same ((r ∷ s) ++ unseen (r ∷ s) xs) (s ++ r ∷ unseen (r ∷ s) xs) (λ q. moved q r s (unseen (r ∷ s) xs)) ys))
    ∙ ap (λ (u : List Record). u ++ unseen (s ++ u) ys) (sym (opened s r xs))
  where
    of_test : (b : Bool) → unseen s (xs ++ ys) ≡ unseen s xs ++ unseen (s ++ unseen s xs) ys → unseen (r ∷ s) (xs ++ ys) ≡ unseen (r ∷ s) xs ++ unseen (s ++ r ∷ unseen (r ∷ s) xs) ys
        → chosen b (unseen s (xs ++ ys)) (r ∷ unseen (r ∷ s) (xs ++ ys)) ≡ chosen b (unseen s xs) (r ∷ unseen (r ∷ s) xs) ++ unseen (s ++ chosen b (unseen s xs) (r ∷ unseen (r ∷ s) xs)) ys
    of_test true here there = here
    of_test false here there = ap (λ (t : List Record). r ∷ t) there

-- nothing is put in
pub adds_none : (s : Sections) → AddsUnseen s s []
adds_none s = record { answer = refl; authority = refl; additional = sym (append-nil s.additional.items) }

-- one step after another
pub adds_then : (a b c : Sections) (xs ys : List Record) → AddsUnseen a b xs → AddsUnseen b c ys → AddsUnseen a c (xs ++ ys)
adds_then a b c xs ys one two =
    let u = unseen (stood a) xs in
    let base = a.answer.items ++ a.authority.items in
    let now : (b.answer.items ++ b.authority.items) ++ b.additional.items ≡ stood a ++ u =
    (λ i. (one.answer i ++ one.authority i) ++ one.additional i) ∙ sym (append_assoc base a.additional.items u) in
    record {
      answer = two.answer ∙ one.answer;
      authority = two.authority ∙ one.authority;
      additional =
          two.additional
          ∙ (λ i. one.additional i ++ unseen (now i) ys)
          ∙ append_assoc a.additional.items u (unseen (stood a ++ u) ys)
          ∙ ap (λ (t : List Record). a.additional.items ++ t) (sym (unseen_append (stood a) xs ys));
    }

-- a record of a zone as it is shown
abbrev pub shown_in : Zone → Record → Shown
shown_in z r = record { zone = z; shown = r }

abbrev addresses_of : Zone → Option Labels → List Record
addresses_of z None = []
addresses_of z (Some host) = rrset z.records host type_a ++ rrset z.records host type_aaaa

by_host : (z : Zone) (r : Record) → addresses_for (shown_in z r) ≡ addresses_of z (host_of r)
by_host z r = of_host (host_of r)
  where
    of_host : (o : Option Labels) → elim o [ None ↦ [] | Some host ↦ rrset z.records host type_a ++ rrset z.records host type_aaaa ] ≡ addresses_of z o
    of_host None = refl
    of_host (Some host) = refl

pub no_host : (z : Zone) (r : Record) → None ≡ host_of r → addresses_for (shown_in z r) ≡ []
no_host z r e = by_host z r ∙ ap (addresses_of z) (sym e)

pub at_host : (z : Zone) (r : Record) (host : Labels) → Some host ≡ host_of r → addresses_for (shown_in z r) ≡ rrset z.records host type_a ++ rrset z.records host type_aaaa
at_host z r host e = by_host z r ∙ ap (addresses_of z) (sym e)

-- the addresses of one record more
pub next_addresses : (z : Zone) (rs : List Record) (i : ℕ) (r : Record) → i < length rs → r ≡ get_or rs i r → flat_map addresses_for (from_zone z (take (i + 1) rs)) ≡ flat_map addresses_for (from_zone z (take i rs)) ++ addresses_for (shown_in z r)
next_addresses z rs i r inside is =
    ap (λ (xs : List Record). flat_map addresses_for (from_zone z xs)) (take_more rs i r inside ∙ ap (λ (x : Record). take i rs ++ x ∷ []) (sym is))
    ∙ ap (flat_map addresses_for) (map-append (shown_in z) (take i rs) (r ∷ []))
    ∙ flat_map-append addresses_for (from_zone z (take i rs)) (shown_in z r ∷ [])
    ∙ ap (λ (xs : List Record). flat_map addresses_for (from_zone z (take i rs)) ++ xs) (append-nil (addresses_for (shown_in z r)))

-- both kinds of addresses after both sections
pub gathered : (t : ℕ) (fs : List Found) (bare whole : Sections) → bare.answer.items ≡ records_of (answer_of t fs) → bare.authority.items ≡ records_of (authority_of fs) → bare.additional.items ≡ []
    → AddsUnseen bare whole (flat_map addresses_for (answer_of t fs) ++ flat_map addresses_for (authority_of fs)) → AreReplySections t fs whole
gathered t fs bare whole answer authority none added =
    let first = records_of (answer_of t fs) in
    let second = records_of (authority_of fs) in
    let hosts = flat_map addresses_for (answer_of t fs) ++ flat_map addresses_for (authority_of fs) in
    let seen : (first ++ second) ++ [] ≡ records_of (answer_of t fs ++ authority_of fs) = append-nil (first ++ second) ∙ sym (map-append (λ (s : Shown). s.shown) (answer_of t fs) (authority_of fs)) in
    record {
      answer = added.answer ∙ answer;
      authority = added.authority ∙ authority;
      additional =
          added.additional
          ∙ (λ i. none i ++ unseen ((answer i ++ authority i) ++ none i) hosts)
          ∙ (λ i. unseen (seen i) (sym (flat_map-append addresses_for (answer_of t fs) (authority_of fs)) i));
    }
