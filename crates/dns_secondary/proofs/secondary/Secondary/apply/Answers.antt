use Rattle.std.proofs.lemmas.Result.{err_from_is_err_and}
use Rattle.dns_secondary.proofs.Verdicts.{tells_ok, fails_err, fails_first}
use Rattle.dns_secondary.proofs.secondary.Secondary.apply.Goals as goal

pub returns-clause-told : goal.returns-clause-told
returns-clause-told g c = tells_ok c.args.self.now c.args.reading.now c.in_ok-reading.reading (c.args.message.now.message).answers c.conclude.result c.conclude.new.self c.in_ok-reading.ensures.reached c.conclude.ensures.told c.conclude.ensures.ends

pub returns-clause-refused : goal.returns-clause-refused
returns-clause-refused g c = fails_err c.args.self.now c.args.reading.now c.in_ok-reading.reading (c.args.message.now.message).answers c.conclude.result c.in_ok-reading.ensures.reached c.conclude.ensures.refused

pub returns-in_err-reading-clause-refused : goal.returns-in_err-reading-clause-refused
returns-in_err-reading-clause-refused g c =
    let p = err_from_is_err_and c.from_residual.result c.from_residual.ensures.1 in
    rw (p.1, p.2) (fails_first c.args.self.now c.args.reading.now (c.args.message.now.message).answers c.in_err-reading.field-0.0 c.in_err-reading.ensures.refused)
