use Rattle.std.proofs.Common.{◌≡◌, refl, sym, ap, ◌∙◌}
use Rattle.std.specs.Ordering.{nat_cmp, ordering_then}
use Rattle.std.specs.Cmp.{tied_itself}
use Rattle.std.specs.Cmp.Lexicographic.{slice_cmp}
use Rattle.std.specs.declared.cmp.Ordering.{Ordering}
use Rattle.std.specs.declared.cmp.Ordering.TheVariants.{Less, Equal, Greater}
use Rattle.dns_names.specs.Name.{Labels, name_cmp}
use Rattle.dns_names.specs.Compare.{name_cmp-same}
use Rattle.dns_zone.specs.Order.{name_total}
use Rattle.dns_zone.proofs.search.side_of_parts.Goals as goal

apart : (o b : Ordering) → (o ≡ Equal → ⊥) → o ≡ ordering_then o b
apart Less b f = refl
apart Equal b f = absurd (f refl)
apart Greater b f = refl

pub returns-then-is : goal.returns-then-is
returns-then-is c =
    let r = c.args.r.now in
    let owner = c.args.owner.now in
    let same = sym c.owner.ensures ∙ sym c.lend-own.ensures ∙ c.is.ensures.0 c.if-is.true in
    let tied : name_cmp r.owner owner ≡ Equal = ap (λ (n : Labels). name_cmp n owner) same ∙ tied_itself name_total owner in
    c.then.ensures
    ∙ (λ i. ordering_then ((c.cmp.ensures ∙ (λ j. nat_cmp (c.rtype.ensures j) c.args.rtype)) i) ((c.cmp-then-is.ensures ∙ (λ j. slice_cmp nat_cmp (c.rdata.ensures.octets j) c.args.rdata.now)) i))
    ∙ sym (ap (λ (o : Ordering). ordering_then o (ordering_then (nat_cmp r.rtype c.args.rtype) (slice_cmp nat_cmp r.rdata c.args.rdata.now))) tied)

pub returns : goal.returns
returns c =
    let r = c.args.r.now in
    let owner = c.args.owner.now in
    let own = c.lend-own.ensures ∙ c.owner.ensures in
    c.cmp-2.ensures ∙ ap (λ (n : Labels). name_cmp n owner) own
    ∙ apart (name_cmp r.owner owner) (ordering_then (nat_cmp r.rtype c.args.rtype) (slice_cmp nat_cmp r.rdata c.args.rdata.now)) (λ e. let there = c.is.ensures.1 (own ∙ name_cmp-same r.owner owner e) in let no = c.if-is.false in absurd cc)
