use Rattle.std.proofs.Common.{◌≡◌, ℕ, ◌-◌, refl, sym, ap, subst, ◌∙◌, arith, List, ◌++◌, ◌∷◌, []}
use Rattle.std.specs.Prelude.{Some, None, IfNone}
use Rattle.dns_lookup.specs.Lookup.{zone_of, chain, next_name}
use Rattle.dns_lookup.specs.Represented.{RepresentAll, names_searched}
use Rattle.dns_lookup.specs.Lent.{AllLend}
use Rattle.dns_lookup.specs.declared.chain.Found.{Found}
use Rattle.dns_lookup.proofs.Chained.{Chained, ends_outside, ends_here, goes_on, lent_more, found_in}
use Rattle.dns_lookup.proofs.chain.follow.Goals as goal

pub names-init : goal.names-init
names-init g c =
    let zones = c.args.zones.now in
    let t = c.args.qtype in
    let first = c.args.first in
    let items : c.push.new.self.items ≡ first ∷ [] = c.in_ok-push.ensures.items ∙ ap (λ (ones : List Found). ones ++ first ∷ []) c.in_ok-found.ensures.items in
    (7, omega (arith, c.in_ok-found.ensures.len, c.in_ok-push.ensures.len), λ f is. record { before = f ∷ []; are = subst (λ (ones : List Found). RepresentAll zones (f ∷ []) ones) (sym items) (is, tt); rest = refl }, λ holds. subst (λ (ones : List Found). AllLend zones t ones) (sym items) (holds, tt))

pub returns-in_default-clause-represents : goal.returns-in_default-clause-represents
returns-in_default-clause-represents g c f is =
    let zones = c.args.zones.now in
    let t = c.args.qtype in
    let here = c.names.here in
    let so_far = c.names.invariant in
    let none : zone_of zones here ≡ None = subst (λ o. IfNone o (zone_of zones here ≡ None)) c.in_default.is c.search.ensures.none in
    ends_outside zones t (f ∷ chain 7 zones (f.name ∷ []) c.args.target t) so_far.0 c.names.found.items here (omega (arith, so_far.1, c.names-test.true, c.len.ensures)) (so_far.2 f is) none

pub returns-in_default-clause-lent : goal.returns-in_default-clause-lent
returns-in_default-clause-lent g c = c.names.invariant.3

pub names-preserved : goal.names-preserved
names-preserved g c =
    let zones = c.args.zones.now in
    let t = c.args.qtype in
    let here = c.names.here in
    let one = c.in-Some.one in
    let found = c.names.found.items in
    let so_far = c.names.invariant in
    let z = c.in-Some.ensures.found in
    let target = c.in-Some-next.name in
    let next : Some target ≡ next_name (found_in z.0 here t) (names_searched found ++ one.name ∷ []) =
    c.in-Some-next.ensures zones (found_in z.0 here t) t z.2 c.in-Some.ensures.lent refl ∙ ap (λ (ones : List Found). next_name (found_in z.0 here t) (names_searched ones ++ one.name ∷ [])) c.as_slice.ensures.value in (
      so_far.0 - 1,
      omega (arith, so_far.1, c.names-test.true, c.len.ensures, c.in_ok-push-2.ensures.len),
      λ f is.
          let whole = f ∷ chain 7 zones (f.name ∷ []) c.args.target t in
          let on = goes_on zones t whole so_far.0 found here z.0 one target (omega (arith, so_far.1, c.names-test.true, c.len.ensures)) (so_far.2 f is) z.1 z.2 next in
          let left : on.left ≡ so_far.0 - 1 = omega (arith, on.one_less) in
          subst (λ (ones : List Found). Chained zones t whole (so_far.0 - 1) ones target) (sym c.in_ok-push-2.ensures.items) (subst (λ (n : ℕ). Chained zones t whole n (found ++ one ∷ []) target) left on.chained),
      λ holds. subst (λ (ones : List Found). AllLend zones t ones) (sym c.in_ok-push-2.ensures.items) (lent_more zones t found one (so_far.3 holds) c.in-Some.ensures.lent),
    )

pub returns-in-None-clause-represents : goal.returns-in-None-clause-represents
returns-in-None-clause-represents g c f is =
    let zones = c.args.zones.now in
    let t = c.args.qtype in
    let here = c.names.here in
    let one = c.in-Some.one in
    let found = c.names.found.items in
    let so_far = c.names.invariant in
    let z = c.in-Some.ensures.found in
    let whole = f ∷ chain 7 zones (f.name ∷ []) c.args.target t in
    let none : None ≡ next_name (found_in z.0 here t) (names_searched found ++ one.name ∷ []) =
    c.in-None.ensures zones (found_in z.0 here t) t z.2 c.in-Some.ensures.lent refl ∙ ap (λ (ones : List Found). next_name (found_in z.0 here t) (names_searched ones ++ one.name ∷ [])) c.as_slice.ensures.value in
    let all = ends_here zones t whole so_far.0 found here z.0 one (omega (arith, so_far.1, c.names-test.true, c.len.ensures)) (so_far.2 f is) z.1 z.2 none in
    subst (λ (ones : List Found). RepresentAll zones whole ones) (sym c.in_ok-push-2.ensures.items) all

pub returns-in-None-clause-lent : goal.returns-in-None-clause-lent
returns-in-None-clause-lent g c holds =
    let zones = c.args.zones.now in
    let t = c.args.qtype in
    subst (λ (ones : List Found). AllLend zones t ones) (sym c.in_ok-push-2.ensures.items) (lent_more zones t c.names.found.items c.in-Some.one (c.names.invariant.3 holds) c.in-Some.ensures.lent)

pub returns-clause-lent : goal.returns-clause-lent
returns-clause-lent g c = c.names.invariant.3
