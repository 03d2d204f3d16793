use Rattle.dns_fetch.proofs.Idle.{counted_new, counted_none, counted_same}
use Rattle.dns_fetch.proofs.taking_in.idle_with.Goals as goal

pub returns-then-has_no_answers : goal.returns-then-has_no_answers
returns-then-has_no_answers g c = λ s was fed few.
    counted_none s c.args.secondary.now c.args.message.now c.args.idle c.args.before c.has_no_answers.result c.has_no_answers.ensures fed c.if-has_no_answers.true

pub returns-then-is_whole_with : goal.returns-then-is_whole_with
returns-then-is_whole_with g c = λ s was fed few.
    counted_same s c.args.secondary.now c.args.message.now c.args.idle c.args.before c.has_no_answers.result c.has_no_answers.ensures fed c.is_whole_with.result c.is_whole_with.ensures was few c.if-is_whole_with.true

pub returns : goal.returns
returns g c = λ s was fed few.
    counted_new s c.args.secondary.now c.args.message.now c.args.idle c.args.before c.has_no_answers.result c.has_no_answers.ensures fed c.is_whole_with.result c.is_whole_with.ensures was c.if-has_no_answers.false c.if-is_whole_with.false
