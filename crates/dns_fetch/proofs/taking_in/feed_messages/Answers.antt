use Rattle.std.proofs.Common.{inl, inr, arith, map}
use Rattle.dns_fetch.specs.FetchFaults.{ComesOfAsking}
use Rattle.dns_fetch.specs.TakingIn.{TellRefusal}
use Rattle.dns_fetch.proofs.Heard.{beyond_fed, counted_fed, ended_fed, err_goes, more_fed, next_at, refused_fed, split_at, stalled_fed}
use Rattle.dns_fetch.proofs.Idle.{counted_below}
use Rattle.dns_fetch.proofs.taking_in.feed_messages.Goals as goal

pub returns-in_err-feed-clause-refused : goal.returns-in_err-feed-clause-refused
returns-in_err-feed-clause-refused g c =
    let s = c.args.secondary.now in
    let i = c.loop-message.message-index in
    let m = c.message-item.result in
    let ms = c.args.messages.now in
    let parts = split_at (λ m. m.items) ms i m (omega arith) c.message-item.is in
    err_goes (λ e. ComesOfAsking e (TellRefusal c.args.idle.now s (map (λ m. m.items) ms))) c.from_residual.result _ c.from_residual.ensures.1
    (refused_fed c.args.idle.now c.loop-message.idle s c.loop-message.secondary _ _ _ m.items c.deref.result.now c.in_err-feed.field-0.0 c.loop-message.invariant.more parts c.deref.ensures.value c.in_err-feed.ensures.refused)

pub returns-in-Done-clause-told : goal.returns-in-Done-clause-told
returns-in-Done-clause-told g c =
    let i = c.loop-message.message-index in
    let m = c.message-item.result in
    let parts = split_at (λ m. m.items) c.args.messages.now i m (omega arith) c.message-item.is in
    ended_fed c.args.idle.now c.loop-message.idle c.args.secondary.now c.loop-message.secondary c.feed.new.self _ _ _ m.items c.deref.result.now c.in_ok-feed.field-0 c.loop-message.invariant.more parts c.deref.ensures.value c.in_ok-feed.ensures.fed (inl c.in-Done.is)

pub returns-in-UpToDate-clause-told : goal.returns-in-UpToDate-clause-told
returns-in-UpToDate-clause-told g c =
    let i = c.loop-message.message-index in
    let m = c.message-item.result in
    let parts = split_at (λ m. m.items) c.args.messages.now i m (omega arith) c.message-item.is in
    ended_fed c.args.idle.now c.loop-message.idle c.args.secondary.now c.loop-message.secondary c.feed.new.self _ _ _ m.items c.deref.result.now c.in_ok-feed.field-0 c.loop-message.invariant.more parts c.deref.ensures.value c.in_ok-feed.ensures.fed (inr c.in-UpToDate.is)

pub loop-message-preserved : goal.loop-message-preserved
loop-message-preserved g c =
    let i = c.loop-message.message-index in
    let m = c.message-item.result in
    let now = c.loop-message.secondary in
    let counted = counted_fed c.loop-message.idle c.idle_with.result now c.feed.new.self m.items c.deref.result.now c.deref-in-More.result.now c.in_ok-feed.field-0 c.deref.ensures.value c.deref-in-More.ensures.value c.in_ok-feed.ensures.fed c.in-More.is
    (λ fed. c.idle_with.ensures now c.received_count-before.ensures fed (c.is_too_much.ensures.within c.if-is_too_much.false)) in
    let few = counted_below now c.feed.new.self m.items c.loop-message.idle c.idle_with.result counted c.loop-message.invariant.few c.if-idle-eq-IDLE_LIMIT.false in
    record {
      more = more_fed c.args.idle.now c.loop-message.idle c.idle_with.result c.args.secondary.now now c.feed.new.self _ _ m.items c.deref.result.now c.in_ok-feed.field-0 c.loop-message.invariant.more (next_at (λ m. m.items) c.args.messages.now i m (omega arith) c.message-item.is) c.deref.ensures.value c.in_ok-feed.ensures.fed c.in-More.is counted few;
      few = few;
    }

pub returns-then-idle-eq-IDLE_LIMIT-clause-refused : goal.returns-then-idle-eq-IDLE_LIMIT-clause-refused
returns-then-idle-eq-IDLE_LIMIT-clause-refused g c =
    let i = c.loop-message.message-index in
    let m = c.message-item.result in
    let now = c.loop-message.secondary in
    let parts = split_at (λ m. m.items) c.args.messages.now i m (omega arith) c.message-item.is in
    let counted = counted_fed c.loop-message.idle c.idle_with.result now c.feed.new.self m.items c.deref.result.now c.deref-in-More.result.now c.in_ok-feed.field-0 c.deref.ensures.value c.deref-in-More.ensures.value c.in_ok-feed.ensures.fed c.in-More.is
    (λ fed. c.idle_with.ensures now c.received_count-before.ensures fed (c.is_too_much.ensures.within c.if-is_too_much.false)) in
    stalled_fed c.args.idle.now c.loop-message.idle c.idle_with.result c.args.secondary.now now c.feed.new.self _ _ _ m.items c.deref.result.now c.in_ok-feed.field-0 c.loop-message.invariant.more parts c.deref.ensures.value c.in_ok-feed.ensures.fed c.in-More.is counted c.if-idle-eq-IDLE_LIMIT.true

pub returns-then-is_too_much-clause-refused : goal.returns-then-is_too_much-clause-refused
returns-then-is_too_much-clause-refused g c =
    let i = c.loop-message.message-index in
    let m = c.message-item.result in
    let parts = split_at (λ m. m.items) c.args.messages.now i m (omega arith) c.message-item.is in
    beyond_fed c.args.idle.now c.loop-message.idle c.args.secondary.now c.loop-message.secondary c.feed.new.self _ _ _ m.items c.deref.result.now c.in_ok-feed.field-0 c.loop-message.invariant.more parts c.deref.ensures.value c.in_ok-feed.ensures.fed c.in-More.is (c.is_too_much.ensures.beyond c.if-is_too_much.true)
