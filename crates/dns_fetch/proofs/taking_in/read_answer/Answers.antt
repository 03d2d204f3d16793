use Rattle.std.proofs.Common.{arith, subst, map, take}
use Rattle.dns_fetch.specs.FetchFaults.{ComesOfAsking}
use Rattle.dns_fetch.specs.TakingIn.{TellRefusal}
use Rattle.dns_fetch.proofs.Heard.{passed, told_end, told_more}
use Rattle.dns_fetch.proofs.Idle.{goes_below}
use Rattle.dns_fetch.proofs.Carried.{hearing_begun, hearing_ends, hearing_on, hearing_refuses}
use Rattle.dns_fetch.proofs.taking_in.read_answer.Goals as goal

pub pieces-init : goal.pieces-init
pieces-init g c = hearing_begun g.S.Stream c.args.stream.now c.args.secondary.now c.new-framing.result c.new-framing.ensures

pub returns-in_err-count-clause-refused : goal.returns-in_err-count-clause-refused
returns-in_err-count-clause-refused g c =
    passed _ _ c.from_residual.result _ c.from_residual.ensures.1 (λ fault h. absurd h) c.in_err-count.ensures.others

pub returns-in_err-feed_messages-clause-refused : goal.returns-in_err-feed_messages-clause-refused
returns-in_err-feed_messages-clause-refused g c =
    let count = c.in_ok-count.count in
    let into = c.read_some.new.into in
    let ms = map (λ m. m.items) c.in_ok-messages.messages.items in
    let framed = c.in_ok-messages.ensures.framed in
    let refused = subst (λ xs. ComesOfAsking c.in_err-feed_messages.field-0.0 (TellRefusal c.pieces.idle c.pieces.secondary (map (λ m. m.items) xs))) c.deref.ensures.value c.in_err-feed_messages.ensures.refused in
    passed (TellRefusal c.pieces.idle c.pieces.secondary ms) _ c.from_residual-in_err-feed_messages.result _ c.from_residual-in_err-feed_messages.ensures.1
    (λ fault h. hearing_refuses g.S.Stream c.framing_law.ensures.cut c.args.stream.now c.pieces.stream c.read_some.new.stream c.pieces.idle c.args.secondary.now c.pieces.secondary ms c.pieces.framing c.feed.new.self (take count into) fault c.pieces.invariant c.in_ok-count.ensures.came framed h)
    refused

pub returns-then-branch-clause-told : goal.returns-then-branch-clause-told
returns-then-branch-clause-told g c =
    let count = c.in_ok-count.count in
    let into = c.read_some.new.into in
    let ms = map (λ m. m.items) c.in_ok-messages.messages.items in
    let framed = c.in_ok-messages.ensures.framed in
    let told = told_end (λ m. m.items) c.pieces.idle c.feed_messages.new.idle c.pieces.secondary c.feed_messages.new.secondary c.deref.result.now c.in_ok-messages.messages.items c.in_ok-feed_messages.field-0 c.deref.ensures.value c.if-branch.true c.in_ok-feed_messages.ensures.told in
    hearing_ends g.S.Stream c.framing_law.ensures.cut c.args.stream.now c.pieces.stream c.read_some.new.stream c.pieces.idle c.args.secondary.now c.pieces.secondary c.feed_messages.new.secondary ms c.pieces.framing c.feed.new.self (take count into) c.pieces.invariant c.in_ok-count.ensures.came framed told

pub pieces-preserved : goal.pieces-preserved
pieces-preserved g c =
    let count = c.in_ok-count.count in
    let into = c.read_some.new.into in
    let ms = map (λ m. m.items) c.in_ok-messages.messages.items in
    let framed = c.in_ok-messages.ensures.framed in
    let told = told_more (λ m. m.items) c.pieces.idle c.feed_messages.new.idle c.pieces.secondary c.feed_messages.new.secondary c.deref.result.now c.in_ok-messages.messages.items c.in_ok-feed_messages.field-0 c.deref.ensures.value c.if-branch.false c.in_ok-feed_messages.ensures.told in
    hearing_on g.S.Stream c.framing_law.ensures.cut c.args.stream.now c.pieces.stream c.read_some.new.stream c.pieces.idle c.feed_messages.new.idle c.args.secondary.now c.pieces.secondary c.feed_messages.new.secondary ms c.pieces.framing c.feed.new.self (take count into) c.pieces.invariant c.in_ok-count.ensures.came framed told

pub feed_messages-requires : goal.feed_messages-requires
feed_messages-requires g c =
    let h = c.pieces.invariant in
    goes_below 0 c.pieces.idle c.args.secondary.now c.pieces.secondary h.messages (omega arith) h.more
