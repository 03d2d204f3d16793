use Rattle.std.proofs.Common.{◌≡◌, ◌<◌, ◌∷◌, [], length, map, drop, zero-add, sym, ap, subst, ◌∙◌, arith, add-one, length-append}
use Rattle.std.specs.Prelude.{slice_index_or}
use Rattle.dns_replay.specs.Commands.{said_zone_keep}
use Rattle.dns_replay.specs.Crashes.{IsLeftBy, keep_at}
use Rattle.dns_replay.proofs.Crashed.{drop_more, first_dropped, left_more}
use Rattle.dns_replay.proofs.replay_state.crash_all.Goals as goal

pub loop-index-preserved : goal.loop-index-preserved
loop-index-preserved g c =
    let i = c.loop-index.index in
    let ds = c.args.devices.items in
    let d = c.remove-device.result in
    let left = c.after_crash.result in
    let small : i < length ds = omega (arith, c.loop-index.invariant.all, c.loop-index-test.true) in
    let device_is : d ≡ slice_index_or ds i d = c.remove-device.ensures.value ∙ ap (λ l. slice_index_or l 0 d) c.loop-index.invariant.rest ∙ first_dropped ds i d in
    let kept = g.D.ScriptDevice.left_by in
    let keeps = map said_zone_keep c.args.keeps.now in
    let one : IsLeftBy g.D.Sectors kept (keep_at keeps i) d left = record { honest = c.after_crash.ensures.honest; told_as = c.keep_at.result; is = c.keep_at.ensures; exact = c.after_crash.ensures.kept; left = λ x. c.after_crash.ensures.left x } in
    let there = subst (λ x. IsLeftBy g.D.Sectors kept (keep_at keeps i) x left) device_is one in
    record {
      each = rw (add-one, c.push_reserved.ensures.items) (left_more g.D.Sectors kept keeps 0 ds i d c.loop-index.left.items left small c.loop-index.invariant.each (subst (λ n. IsLeftBy g.D.Sectors kept (keep_at keeps n) (slice_index_or ds i d) left) (sym (zero-add i)) there));
      rest = c.remove-device.ensures.by_index.2 ∙ ap (λ l. drop 1 l) c.loop-index.invariant.rest ∙ drop_more ds i ∙ ap (λ n. drop n ds) (sym (add-one i));
      all = c.loop-index.invariant.all;
      room = omega (arith, c.loop-index.invariant.room, c.push_reserved.ensures.capacity);
      many = omega (arith, ap (λ l. length l) c.push_reserved.ensures.items, length-append c.loop-index.left.items (left ∷ []), c.loop-index.invariant.many);
    }
