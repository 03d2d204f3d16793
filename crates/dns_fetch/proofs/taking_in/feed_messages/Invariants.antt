use Rattle.std.proofs.Common.{◌<◌, map, take}
use Rattle.dns_fetch.specs.TakingIn.{HearsMore, idle_limit}
use Rattle.dns_fetch.proofs.taking_in.feed_messages.Given as goal

abbrev pub invariant-loop-message : goal.invariant-loop-message
invariant-loop-message g l = record {
  more : HearsMore l.initial.idle l.initial.secondary (map (λ m. m.items) (take l.message-index l.messages)) l.idle l.secondary;
  few : l.idle < idle_limit;
}
