-- One record and the address of its host, which are all of a reply.
use Rattle.std.proofs.Common.{◌≡◌, ℕ, Bool, true, false, ◌||◌, ◌∷◌, [], ◌++◌, List, length, ◌<◌, refl, sym, ap, ◌∙◌, arith, cond}
use Rattle.std.specs.Prelude.{Some, None, ◌==◌, is_some}
use Rattle.std.specs.List.{list_any, flat_map}
use Rattle.dns_answer.proofs.Only.{hostless, no_authority}
use Rattle.std.proofs.lemmas.Option.{slice_get_within}
use Rattle.std.proofs.lemmas.List.{append-nil}
use Rattle.std.proofs.lemmas.Bool.Decides.{nat_tests}
use Rattle.dns_names.specs.Name.{Labels}
use Rattle.dns_zone.specs.Zone.{Zone}
use Rattle.dns_zone.specs.Records.{same, rrset}
use Rattle.dns_records.specs.Record.{Record, host_of}
use Rattle.dns_records.specs.Types.{type_a, type_aaaa}
use Rattle.dns_lookup.specs.Lookup.{Found}
use Rattle.dns_lookup.specs.Represented.{RepresentAll}
use Rattle.dns_lookup.specs.RepresentedLaws.{outcome_of}
use Rattle.dns_lookup.specs.declared.chain.Found.{Found as Represented}
use Rattle.dns_lookup.specs.declared.outcome.Kind.TheVariants as kinds
use Rattle.dns_answer.specs.Short.{AreSectionsOf}
use Rattle.dns_answer.specs.Known.{is_address}
use Rattle.dns_answer.specs.Sections.{Shown, from_zone, as_owner, records_of, answers_of, answer_of, authority_at, authority_of, additional_of, addresses_for, unseen}
use Rattle.dns_answer.proofs.Adding.{chosen, opened, at_host, no_host, shown_in}
use Rattle.dns_answer.proofs.UpTo.{no_address}
use Rattle.dns_answer.proofs.Shown.{answers_at, authority_by}

-- the zone of the one name that was searched
pub zone_within : (zones : List Zone) (fs : List Found) (one : Represented) → RepresentAll zones fs (one ∷ []) → one.zone < length zones
zone_within zones [] one h = absurd h
zone_within zones (f ∷ fs) one (is, rest) = slice_get_within zones one.zone f.zone is.zone

-- an address is of one of the two types
pub either_type : (t : ℕ) (xs : List Record) → (t == type_a || t == type_aaaa) ≡ true → cond (t == type_a) xs [] ++ cond (t == type_aaaa) xs [] ≡ xs
either_type t xs e = go (t == type_a) refl (t == type_aaaa) refl e
  where
    go : (a : Bool) → (t == type_a) ≡ a → (b : Bool) → (t == type_aaaa) ≡ b → (a || b) ≡ true → cond a xs [] ++ cond b xs [] ≡ xs
    go true one true two h = absurd (let first : t ≡ type_a = grind (arith, nat_tests) in let second : t ≡ type_aaaa = grind (arith, nat_tests) in omega arith)
    go true one false two h = append-nil xs
    go false one true two h = refl
    go false one false two h = absurd cc

-- what has a host is no address
pub host_apart : (r : Record) (host : Labels) → Some host ≡ host_of r → is_address r ≡ false
host_apart r host e = go (is_address r) refl
  where
    no_host_by_type : (t : ℕ) → r.rtype ≡ t → host_of (record r { rtype = t }) ≡ None → is_address r ≡ false
    no_host_by_type t is none = absurd (let there : host_of r ≡ host_of (record r { rtype = t }) = ap (λ (k : ℕ). host_of (record r { rtype = k })) is in cc)

    go : (b : Bool) → is_address r ≡ b → is_address r ≡ false
    go false h = h
    go true h = by_type (r.rtype == type_a) refl (r.rtype == type_aaaa) refl
      where
        by_type : (a : Bool) → (r.rtype == type_a) ≡ a → (b : Bool) → (r.rtype == type_aaaa) ≡ b → is_address r ≡ false
        by_type true one b two = no_host_by_type type_a (grind (arith, nat_tests)) refl
        by_type false one true two = no_host_by_type type_aaaa (grind (arith, nat_tests)) refl
        by_type false one false two = λ i. one i || two i

-- the additional section
alone : (z : Zone) (stored r a : Record) (host : Labels) → Some host ≡ host_of stored → is_address r ≡ false → is_address a ≡ true → rrset z.records host type_a ++ rrset z.records host type_aaaa ≡ a ∷ [] → unseen (r ∷ []) (addresses_for (shown_in z stored) ++ []) ≡ a ∷ []
alone z stored r a host has other address all =
    let new : list_any (same a) (r ∷ []) ≡ false = no_address (r ∷ []) a (ap (λ (b : Bool). b || false) other) address in
    ap (unseen (r ∷ [])) (append-nil (addresses_for (shown_in z stored)) ∙ at_host z stored host has ∙ all)
    ∙ opened (r ∷ []) a []
    ∙ ap (λ (b : Bool). chosen b (unseen (r ∷ []) []) (a ∷ unseen (a ∷ r ∷ []) [])) new

pub answer_pair : (t : ℕ) (f : Found) (at : Labels) (stored r a : Record) (host : Labels) → f.outcome ≡ outcome_of kinds.Answers at → answers_of t f ≡ from_zone f.zone (as_owner f.name (stored ∷ [])) → r ≡ record stored { owner = f.name }
    → Some host ≡ host_of stored → is_address a ≡ true → rrset f.zone.records host type_a ++ rrset f.zone.records host type_aaaa ≡ a ∷ [] → AreSectionsOf t (f ∷ []) (r ∷ []) [] (a ∷ [])
answer_pair t f at stored r a host kind is made has address all =
    let asked = record stored { owner = f.name } in
    let shown : Shown = record { zone = f.zone; shown = asked } in
    let answer : answer_of t (f ∷ []) ≡ shown ∷ [] = append-nil (answers_of t f) ∙ is in
    let authority : authority_at f ≡ [] = ap (authority_by f.zone) kind in
    record {
      answers = ap records_of answer ∙ ap (λ x. x ∷ []) (sym made);
      authorities = ap records_of authority;
      additionals = (λ i. additional_of (answer i ++ authority i)) ∙ alone f.zone asked asked a host has (host_apart asked host has) address all;
    }

pub server_pair : (t : ℕ) (f : Found) (at : Labels) (stored r a : Record) (host : Labels) → f.outcome ≡ outcome_of kinds.Referral at → authority_by f.zone (outcome_of kinds.Referral at) ≡ from_zone f.zone (stored ∷ []) → r ≡ stored
    → Some host ≡ host_of stored → is_address a ≡ true → rrset f.zone.records host type_a ++ rrset f.zone.records host type_aaaa ≡ a ∷ [] → AreSectionsOf t (f ∷ []) [] (r ∷ []) (a ∷ [])
server_pair t f at stored r a host kind is made has address all =
    let shown : Shown = record { zone = f.zone; shown = stored } in
    let answer : answer_of t (f ∷ []) ≡ [] = append-nil (answers_of t f) ∙ ap (answers_at f.zone f.name t) kind in
    let authority : authority_at f ≡ shown ∷ [] = ap (authority_by f.zone) kind ∙ is in
    record {
      answers = ap records_of answer;
      authorities = ap records_of authority ∙ ap (λ x. x ∷ []) (sym made);
      additionals = (λ i. additional_of (answer i ++ authority i)) ∙ alone f.zone stored stored a host has (host_apart stored host has) address all;
    }

-- a name that answers with one record without a host
pub alone_at : (t : ℕ) (f : Found) (stored : Record) → answers_of t f ≡ from_zone f.zone (as_owner f.name (stored ∷ [])) → is_some (host_of stored) ≡ false → (flat_map addresses_for (from_zone f.zone (stored ∷ [])) ≡ []) × (authority_at f ≡ [])
alone_at t f stored is none =
    let some : answers_of t f ≡ [] → ⊥ = λ e. (let bad : length (from_zone f.zone (as_owner f.name (stored ∷ []))) ≡ length {A = Shown} [] = ap length (sym is ∙ e) in omega (arith, bad)) in
    (append-nil (addresses_for (shown_in f.zone stored)) ∙ no_host f.zone stored (sym (hostless (host_of stored) none)), no_authority f.zone f.name t f.outcome some)

-- such names alone
pub alone_sections : (t : ℕ) (fs : List Found) (shown : List Record) → shown ≡ records_of (answer_of t fs) → flat_map addresses_for (answer_of t fs) ≡ [] → authority_of fs ≡ [] → AreSectionsOf t fs shown [] []
alone_sections t fs shown answers none authority = record {
  answers = sym answers;
  authorities = ap records_of authority;
  additionals =
      ap (λ (xs : List Shown). additional_of (answer_of t fs ++ xs)) authority
      ∙ ap additional_of (append-nil (answer_of t fs))
      ∙ ap (unseen (records_of (answer_of t fs))) none;
}
