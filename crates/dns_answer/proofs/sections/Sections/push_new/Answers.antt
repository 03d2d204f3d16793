use Rattle.std.proofs.Common.{inl, inr, arith}
use Rattle.dns_answer.proofs.UpTo.{up_to_new}
use Rattle.dns_answer.proofs.sections.Sections.push_new.Goals as goal

pub returns-then-has_more : goal.returns-then-has_more
returns-then-has_more c =
    let so = c.loop-stored.invariant in
    up_to_new c.args.most c.args.self.now c.loop-stored.self c.args.records.now c.loop-stored.stored-index c.requires so.answer so.authority so.additional so.idle (inr (c.has_more.ensures.0 c.if-has_more.true))

pub returns : goal.returns
returns c =
    let so = c.loop-stored.invariant in
    up_to_new c.args.most c.args.self.now c.loop-stored.self c.args.records.now c.loop-stored.stored-index c.requires so.answer so.authority so.additional so.idle (inl (omega (arith, c.loop-stored-test.false)))
