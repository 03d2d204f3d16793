-- One record that is all of a reply, or of its authority section.
use Rattle.std.proofs.Common.{◌≡◌, ℕ, false, ◌∷◌, [], ◌++◌, List, length, refl, sym, ap, ◌∙◌, arith}
use Rattle.std.specs.Prelude.{Option, Some, None, is_some}
use Rattle.std.proofs.lemmas.List.{append-nil}
use Rattle.dns_names.specs.Name.{Labels}
use Rattle.dns_zone.specs.Zone.{Zone}
use Rattle.dns_records.specs.Record.{Record, host_of}
use Rattle.dns_records.specs.Types.{type_a, type_aaaa}
use Rattle.dns_zone.specs.Records.{rrset}
use Rattle.dns_lookup.specs.Lookup.{Found, Outcome, Referral, Alias, Answers, NoData, NameError}
use Rattle.dns_lookup.specs.RepresentedLaws.{outcome_of}
use Rattle.dns_lookup.specs.declared.outcome.Kind.{Kind}
use Rattle.dns_lookup.specs.declared.outcome.Kind.TheVariants as kinds
use Rattle.std.specs.List.{flat_map}
use Rattle.dns_answer.specs.Short.{AreSectionsOf}
use Rattle.dns_answer.specs.Sections.{Shown, from_zone, as_owner, records_of, answers_of, answer_of, authority_at, additional_of, addresses_for, negative_soa, unseen}
use Rattle.dns_answer.proofs.Shown.{answers_at, authority_by, negative_authority, no_servers}

pub hostless : {A : Type 0} (o : Option A) → is_some o ≡ false → o ≡ None
hostless None h = refl
hostless (Some a) h = absurd cc

-- what answers adds nothing to the authority section
pub no_authority : (z : Zone) (name : Labels) (t : ℕ) (o : Outcome) → (answers_at z name t o ≡ [] → ⊥) → authority_by z o ≡ []
no_authority z name t (Referral c) h = absurd (h refl)
no_authority z name t (Alias n) h = refl
no_authority z name t (Answers n) h = refl
no_authority z name t (NoData n) h = absurd (h refl)
no_authority z name t NameError h = absurd (h refl)

pub only_all : (t : ℕ) (f : Found) (stored r : Record) → answers_of t f ≡ from_zone f.zone (as_owner f.name (stored ∷ [])) → is_some (host_of stored) ≡ false → r ≡ record stored { owner = f.name } → AreSectionsOf t (f ∷ []) (r ∷ []) [] []
only_all t f stored r is none same =
    let shown : Shown = record { zone = f.zone; shown = record stored { owner = f.name } } in
    let answer : answer_of t (f ∷ []) ≡ shown ∷ [] = append-nil (answers_of t f) ∙ is in
    let some : answers_of t f ≡ [] → ⊥ = λ e. (let bad : length (shown ∷ []) ≡ length {A = Shown} [] = ap length (sym is ∙ e) in omega (arith, bad)) in
    let authority : authority_at f ≡ [] = no_authority f.zone f.name t f.outcome some in
    let alone : addresses_for shown ≡ [] = ap (λ (o : Option Labels). elim o [ None ↦ [] | Some host ↦ rrset f.zone.records host type_a ++ rrset f.zone.records host type_aaaa ]) (hostless (host_of stored) none) in
    record {
      answers = ap records_of answer ∙ ap (λ x. x ∷ []) (sym same);
      authorities = ap records_of authority;
      additionals = ap additional_of (ap (λ a. a ++ authority_at f) answer ∙ ap (λ a. (shown ∷ []) ++ a) authority)
          ∙ ap (λ (xs : List Record). unseen (records_of (shown ∷ [])) (xs ++ [])) alone;
    }

-- what is no alias and answers nothing adds nothing to the answer section
no_answer : (z : Zone) (name : Labels) (t : ℕ) (kind : Kind) (at : Labels) → (kind ≡ kinds.Alias → ⊥) → (kind ≡ kinds.Answers → ⊥) → answers_at z name t (outcome_of kind at) ≡ []
no_answer z name t kinds.Referral at a b = refl
no_answer z name t kinds.Alias at a b = absurd (a refl)
no_answer z name t kinds.Answers at a b = absurd (b refl)
no_answer z name t kinds.NoData at a b = refl
no_answer z name t kinds.NameError at a b = refl

pub only_negative : (t : ℕ) (f : Found) (kind : Kind) (at : Labels) (r : Record) → f.outcome ≡ outcome_of kind at → (kind ≡ kinds.Referral → ⊥) → (kind ≡ kinds.Alias → ⊥) → (kind ≡ kinds.Answers → ⊥) → negative_soa f.zone ≡ r ∷ [] → AreSectionsOf t (f ∷ []) [] (r ∷ []) []
only_negative t f kind at r is a b c soa =
    let answer : answer_of t (f ∷ []) ≡ [] = append-nil (answers_of t f) ∙ ap (answers_at f.zone f.name t) is ∙ no_answer f.zone f.name t kind at b c in
    let servers : flat_map addresses_for (authority_at f) ≡ [] = ap (λ (o : Outcome). flat_map addresses_for (authority_by f.zone o)) is ∙ no_servers f.zone at kind a in
    record {
      answers = ap records_of answer;
      authorities = ap (λ (o : Outcome). records_of (authority_by f.zone o)) is ∙ negative_authority f.zone at kind a b c ∙ soa;
      additionals = ap (λ (xs : List Shown). additional_of (xs ++ authority_at f)) answer ∙ ap (unseen (records_of (authority_at f))) servers;
    }
