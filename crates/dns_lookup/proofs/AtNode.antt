-- What becomes of a name, by the records of its node.
use Rattle.std.proofs.Common.{◌≡◌, ℕ, Bool, true, false, List, length, refl, sym, ap, subst, ◌∙◌, cond}
use Rattle.std.specs.Prelude.{Option, Some, None, not, ◌&&◌, ◌==◌}
use Rattle.dns_names.specs.Name.{Labels}
use Rattle.dns_records.specs.Types.{type_cname, type_any}
use Rattle.dns_records.specs.Record.{Record}
use Rattle.dns_zone.specs.Order.{both_true}
use Rattle.dns_zone.specs.Owned.{owns_no_type}
use Rattle.dns_zone.specs.Records.{rrset, owns_type, is_none_of}
use Rattle.dns_zone.specs.Zone.{Zone}
use Rattle.dns_lookup.specs.Lookup.{Outcome, Referral, Alias, Answers, NoData, NameError, cut, node, at_node, asked_records, outcome}
use Rattle.dns_lookup.specs.Represented.{IsKind}
use Rattle.dns_lookup.specs.declared.outcome.Kind.TheVariants as kinds

pub twice : (b : Bool) → not (not b) ≡ b
twice true = refl
twice false = refl

-- a name owns a type where the records of the type are not none
pub owned_by : (set : List Record) (node : Labels) (t : ℕ) (rs : List Record) → rs ≡ rrset set node t → not (length rs == 0) ≡ owns_type set node t
owned_by set node t rs is = ap not (ap (λ (xs : List Record). length xs == 0) is ∙ owns_no_type set node t) ∙ twice (owns_type set node t)

-- an alias is followed
abbrev pub is_followed : List Record → Labels → ℕ → Bool
is_followed set node t = owns_type set node type_cname && not (t == type_cname) && not (t == type_any)

pub followed : (set : List Record) (node : Labels) (t : ℕ) (aliases : List Record) → aliases ≡ rrset set node type_cname → (not (length aliases == 0) && not (t == type_cname) && not (t == type_any)) ≡ is_followed set node t
followed set node t aliases is = ap (λ (b : Bool). b && not (t == type_cname) && not (t == type_any)) (owned_by set node type_cname aliases is)

pub is_alias : (set : List Record) (node name : Labels) (t : ℕ) → is_followed set node t ≡ true → IsKind (at_node set node t) name kinds.Alias node
is_alias set node name t e = subst (λ (b : Bool). IsKind (cond b (Alias node) (cond (is_none_of (asked_records set node t)) (NoData node) (Answers node))) name kinds.Alias node) (sym e) (refl, refl)

pub is_no_data : (set : List Record) (node name : Labels) (t : ℕ) → is_followed set node t ≡ false → is_none_of (asked_records set node t) ≡ true → IsKind (at_node set node t) name kinds.NoData node
is_no_data set node name t e f =
    subst (λ (b : Bool). IsKind (cond b (Alias node) (cond (is_none_of (asked_records set node t)) (NoData node) (Answers node))) name kinds.NoData node) (sym e) (subst (λ (b : Bool). IsKind (cond b (NoData node) (Answers node)) name kinds.NoData node) (sym f) (refl, refl))

pub is_answers : (set : List Record) (node name : Labels) (t : ℕ) → is_followed set node t ≡ false → is_none_of (asked_records set node t) ≡ false → IsKind (at_node set node t) name kinds.Answers node
is_answers set node name t e f =
    subst (λ (b : Bool). IsKind (cond b (Alias node) (cond (is_none_of (asked_records set node t)) (NoData node) (Answers node))) name kinds.Answers node) (sym e) (subst (λ (b : Bool). IsKind (cond b (NoData node) (Answers node)) name kinds.Answers node) (sym f) (refl, refl))

abbrev by_parts : Zone → ℕ → Option Labels → Option Labels → Outcome
by_parts z t c n = elim c [ Some a ↦ Referral a | None ↦ elim n [ Some m ↦ at_node z.records m t | None ↦ NameError ] ]

no_alias : (n at : Labels) (b : Bool) → cond b (NoData n) (Answers n) ≡ Alias at → ⊥
no_alias n at true e = cc
no_alias n at false e = cc

owns_followed : (set : List Record) (n at : Labels) (t : ℕ) (b : Bool) → is_followed set n t ≡ b → cond b (Alias n) (cond (is_none_of (asked_records set n t)) (NoData n) (Answers n)) ≡ Alias at → owns_type set at type_cname ≡ true
owns_followed set n at t true is e =
    let same : n ≡ at = cc in
    let two = both_true (owns_type set n type_cname && not (t == type_cname)) (not (t == type_any)) is in
    let one = both_true (owns_type set n type_cname) (not (t == type_cname)) two.0 in
    subst (λ (m : Labels). owns_type set m type_cname ≡ true) same one.0
owns_followed set n at t false is e = absurd (no_alias n at (is_none_of (asked_records set n t)) e)

owned_from : (z : Zone) (t : ℕ) (at : Labels) (c n : Option Labels) → by_parts z t c n ≡ Alias at → owns_type z.records at type_cname ≡ true
owned_from z t at (Some c) n e = absurd cc
owned_from z t at None (Some n) e = owns_followed z.records n at t (is_followed z.records n t) refl e
owned_from z t at None None e = absurd cc

-- an alias owns a CNAME
pub alias_owned : (z : Zone) (name : Labels) (t : ℕ) (at : Labels) → outcome z name t ≡ Alias at → owns_type z.records at type_cname ≡ true
alias_owned z name t at e = owned_from z t at (cut z name) (node z.records name) e
