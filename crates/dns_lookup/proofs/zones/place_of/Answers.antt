use Rattle.std.proofs.Common.{◌≡◌, ◌<◌, true, false, length, sym, ap, ◌∙◌, arith}
use Rattle.dns_names.specs.Name.{names_eq}
use Rattle.dns_lookup.proofs.Upward.{eq_true, eq_false, find_next, any_next, find_here, any_here, has_apex}
use Rattle.dns_lookup.proofs.zones.place_of.Goals as goal

pub loop-i-preserved : goal.loop-i-preserved
loop-i-preserved g c =
    let zones = c.args.zones.now in
    let apex = c.args.apex.now in
    let z = c.index-zones-i.result in
    let inside : c.loop-i.i < length zones = omega arith in
    let other : names_eq z.apex apex ≡ false = ap (λ a. names_eq a apex) (sym (c.lend.ensures ∙ c.apex.ensures.name)) ∙ eq_false c.lend.result apex (λ e. (let yes' = c.is.ensures.1 e in let was = c.if-is.false in cc)) in
    record {
      found = c.loop-i.invariant.found ∙ find_next (has_apex apex) zones c.loop-i.i z inside c.index-zones-i.is other;
      some = c.loop-i.invariant.some ∙ any_next (has_apex apex) zones c.loop-i.i z inside c.index-zones-i.is other;
    }

pub returns-then-is-clause-found : goal.returns-then-is-clause-found
returns-then-is-clause-found g c =
    let zones = c.args.zones.now in
    let apex = c.args.apex.now in
    let z = c.index-zones-i.result in
    let inside : c.loop-i.i < length zones = omega arith in
    let here : names_eq z.apex apex ≡ true = ap (λ a. names_eq a apex) (sym (c.lend.ensures ∙ c.apex.ensures.name)) ∙ eq_true c.lend.result apex (c.is.ensures.0 c.if-is.true) in
    find_here (has_apex apex) zones c.loop-i.i z inside c.index-zones-i.is here ∙ sym c.loop-i.invariant.found

pub returns-then-is-clause-some : goal.returns-then-is-clause-some
returns-then-is-clause-some g c =
    let zones = c.args.zones.now in
    let apex = c.args.apex.now in
    let z = c.index-zones-i.result in
    let inside : c.loop-i.i < length zones = omega arith in
    let here : names_eq z.apex apex ≡ true = ap (λ a. names_eq a apex) (sym (c.lend.ensures ∙ c.apex.ensures.name)) ∙ eq_true c.lend.result apex (c.is.ensures.0 c.if-is.true) in
    c.loop-i.invariant.some ∙ any_here (has_apex apex) zones c.loop-i.i z inside c.index-zones-i.is here
