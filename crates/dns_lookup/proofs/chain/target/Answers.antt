use Rattle.std.proofs.Common.{◌≡◌, Bool, true, false, refl, sym, ap, subst, ◌∙◌}
use Rattle.std.specs.Prelude.{Option, Some, None, IfNone, slice_get, not, cond}
use Rattle.std.specs.Option.{option_copied}
use Rattle.dns_names.specs.Name.{Labels, labels_of}
use Rattle.dns_zone.specs.Zone.{Zone}
use Rattle.dns_records.specs.Types.{type_cname}
use Rattle.dns_records.specs.Typed.{is_name_type, name_of}
use Rattle.dns_zone.specs.Records.{rrset, owns_type}
use Rattle.dns_zone.specs.Owned.{owns_no_type}
use Rattle.dns_lookup.proofs.Aliases.{first_typed, none_first}
use Rattle.dns_lookup.proofs.chain.target.Goals as goal

owned : (b : Bool) → true ≡ not b → b ≡ false
owned true e = absurd cc
owned false e = refl

unless_none : {T : Type 0} (o : Option T) (P : Type 0) → (o ≡ None → P) → IfNone o P
unless_none None P h = h refl
unless_none (Some x) P h = tt

pub returns-in_err-first-clause-none : goal.returns-in_err-first-clause-none
returns-in_err-first-clause-none c =
    subst (λ o. IfNone o ((z : Zone) (node : Labels) → c.args.aliases.now ≡ rrset z.records node type_cname → owns_type z.records node type_cname ≡ false)) (sym c.from_residual.ensures) (λ z node lent.
    let empty : slice_get (rrset z.records node type_cname) 0 ≡ None = sym (ap option_copied (sym c.in_err-first.was) ∙ c.first.ensures.value ∙ ap (λ rs. slice_get rs 0) lent) in
    owned (owns_type z.records node type_cname) (sym (none_first (rrset z.records node type_cname) empty) ∙ owns_no_type z.records node type_cname))

pub returns-clause-none : goal.returns-clause-none
returns-clause-none c = unless_none c.as_name.result _ (λ unnamed z node lent.
    let r = c.in_ok-first.field-0.now in
    let first : slice_get (rrset z.records node type_cname) 0 ≡ Some r = sym (c.in_ok-first.ensures.value ∙ ap (λ rs. slice_get rs 0) lent) in
    let typed : r.rtype ≡ type_cname = first_typed z.records node type_cname r first in
    let some : c.as_name.result ≡ Some (labels_of r.rdata) = c.as_name.ensures.value ∙ ap name_of c.data.ensures ∙ ap (λ t. cond (is_name_type t) (Some (labels_of r.rdata)) None) typed in
    absurd cc)
