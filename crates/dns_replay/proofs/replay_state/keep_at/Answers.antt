use Rattle.std.proofs.Common.{refl, sym, subst}
use Rattle.dns_replay.specs.Keeps.{Keep}
use Rattle.dns_replay.specs.Crashes.{IsToldAs}
use Rattle.dns_replay.proofs.Kept.{keep_found, keep_none}
use Rattle.dns_replay.proofs.replay_state.keep_at.Goals as goal

pub returns-in-Some : goal.returns-in-Some
returns-in-Some c =
    let is = keep_found c.args.keeps.now c.args.index c.in-Some.one.now c.in-Some.ensures in
    subst (λ (k : Keep). IsToldAs k c.told_as.result) (sym is) c.told_as.ensures

pub returns-in-None : goal.returns-in-None
returns-in-None c = rw (keep_none c.args.keeps.now c.args.index c.in-None.ensures) refl
