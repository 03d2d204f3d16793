use Rattle.std.proofs.Common.{◌≡◌, ◌==◌, true, false, List, refl, sym, ap, subst, ◌∙◌, arith, map, eq-eqb}
use Rattle.std.proofs.lemmas.List.{drop_all}
use Rattle.std.proofs.lemmas.Bool.Decides.{nat_tests}
use Rattle.dns_replay.specs.declared.keeps.ZoneKeep.{ZoneKeep}
use Rattle.dns_replay.specs.Commands.{said_zone_keep}
use Rattle.dns_replay.specs.Keeps.{is_among}
use Rattle.dns_replay.proofs.KeepLists.{keep_after, keep_here}
use Rattle.dns_replay.proofs.keeps.is_among.Goals as goal

pub loop-one-init : goal.loop-one-init
loop-one-init c = refl

pub loop-one-preserved : goal.loop-one-preserved
loop-one-preserved c =
    let k = c.one-item.result in
    let other : (k.zone == c.args.zone) ≡ false = grind (arith, nat_tests, c.if-one-zone.false) in
    sym (keep_after c.args.keeps.now c.args.zone c.loop-one.one-index k c.loop-one-test.true (subst (λ (x : ZoneKeep). (x.zone == c.args.zone) ≡ false) c.one-item.is other)) ∙ c.loop-one.invariant

pub returns-then-one-zone : goal.returns-then-one-zone
returns-then-one-zone c =
    let k = c.one-item.result in
    let same : (k.zone == c.args.zone) ≡ true = eq-eqb k.zone c.args.zone c.if-one-zone.true in
    sym (keep_here c.args.keeps.now c.args.zone c.loop-one.one-index k c.loop-one-test.true (subst (λ (x : ZoneKeep). (x.zone == c.args.zone) ≡ true) c.one-item.is same)) ∙ c.loop-one.invariant

pub returns : goal.returns
returns c = ap (λ (ks : List ZoneKeep). is_among c.args.zone (map said_zone_keep ks)) (sym (drop_all c.loop-one.one-index c.args.keeps.now (omega arith))) ∙ c.loop-one.invariant
