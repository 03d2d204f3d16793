use Rattle.std.proofs.Common.{◌+◌, ◌-◌, length, drop, map, refl, arith}
use Rattle.std.specs.Prelude.{slice_range}
use Rattle.std.specs.Char.{to_ascii_lowercase}
use Rattle.std.proofs.lemmas.Option.{slice_get_within}
use Rattle.dns_names.specs.Runs.{run_up}
use Rattle.dns_wire.specs.Viewed.{labels_at}
use Rattle.dns_wire.proofs.Copying.{copied_first, copied_room, copied_small, copied_next, copied_far, copied_root, Within}
use Rattle.dns_wire.proofs.Shown.{name_viewed}
use Rattle.dns_wire.proofs.plain.copy_plain.Goals as goal
use Rattle.dns_wire.proofs.plain.copy_plain.Goals.{In-Root, In-Pointer}

pub runs-init : goal.runs-init
runs-init c =
    let m = c.args.message.now in
    let at = c.args.at in
    let h = name_viewed m at c.requires.there in
    record { inside = h.inside; small = omega arith; room = c.requires.room; few = c.requires.few; known = c.requires.known; copied = copied_first m c.args.out.now at (labels_at m at) h.end h.stands.stands }

pub returns-in_default-clause-plain : goal.returns-in_default-clause-plain
returns-in_default-clause-plain c =
    let m = c.args.message.now in
    let name = labels_at m c.args.at in
    let h = name_viewed m c.args.at c.requires.there in
    absurd (copied_room m c.runs.out c.runs.run c.runs.size name h.stands.valid.short c.runs.invariant.small c.runs.invariant.copied c.in_default.ensures.refused)

root : (c : In-Root) → Within c.args.message.now c.runs.run c.in-Root.stop
root c =
    let f = rw c.in-Root.is at c.in-Ok.ensures.found in
    record { up = run_up c.args.message.now c.runs.run f.0 c.in-Root.stop f.1; inside = slice_get_within c.args.message.now c.in-Root.stop 0 f.2 }

pub slice_bounds-copy_lower-count : goal.slice_bounds-copy_lower-count
slice_bounds-copy_lower-count c = let w = root c in let up = w.up in omega arith

pub slice_bounds-copy_lower-start : goal.slice_bounds-copy_lower-start
slice_bounds-copy_lower-start c = let w = root (goal.at.slice_bounds-copy_lower-start c).In-Root in let up = w.up in omega arith

pub slice_bounds-copy_lower-end : goal.slice_bounds-copy_lower-end
slice_bounds-copy_lower-end c = let w = root (goal.at.slice_bounds-copy_lower-end c).In-Root in let up = w.up in let inside = w.inside in omega arith

pub overflow_sub-result : goal.overflow_sub-result
overflow_sub-result c = let w = root (goal.at.overflow_sub-result c).In-Root in let up = w.up in omega arith

pub returns-in-Root-clause-plain : goal.returns-in-Root-clause-plain
returns-in-Root-clause-plain c =
    let m = c.args.message.now in
    let out = c.runs.out in
    let stop = c.in-Root.stop in
    let f = rw c.in-Root.is at c.in-Ok.ensures.found in
    let text = map to_ascii_lowercase (slice_range m c.runs.run (stop + 1)) in
    (copied_root m out c.runs.run c.runs.size (labels_at m c.args.at) f.0 stop c.copy_lower.new.out (drop (c.runs.size + length (slice_range m c.runs.run (stop + 1))) out) text f.1 f.2 refl c.copy_lower.ensures c.runs.invariant.copied).0

pointed : (c : In-Pointer) → Within c.args.message.now c.runs.run c.in-Pointer.stop
pointed c =
    let f = rw c.in-Pointer.is at c.in-Ok.ensures.found in
    let inside = slice_get_within c.args.message.now c.in-Pointer.stop f.2.high f.2.first in
    record { up = run_up c.args.message.now c.runs.run f.0 c.in-Pointer.stop f.1; inside = inside }

pub slice_bounds-copy_lower-count-in-Pointer : goal.slice_bounds-copy_lower-count-in-Pointer
slice_bounds-copy_lower-count-in-Pointer c = (pointed c).up

pub slice_bounds-copy_lower-start-in-Pointer : goal.slice_bounds-copy_lower-start-in-Pointer
slice_bounds-copy_lower-start-in-Pointer c = let w = pointed (goal.at.slice_bounds-copy_lower-start-in-Pointer c).In-Pointer in let up = w.up in omega arith

pub slice_bounds-copy_lower-end-in-Pointer : goal.slice_bounds-copy_lower-end-in-Pointer
slice_bounds-copy_lower-end-in-Pointer c = let w = pointed (goal.at.slice_bounds-copy_lower-end-in-Pointer c).In-Pointer in let up = w.up in let inside = w.inside in omega arith

pub overflow_sub-size-in-Pointer : goal.overflow_sub-size-in-Pointer
overflow_sub-size-in-Pointer c = (pointed (goal.at.overflow_sub-size-in-Pointer c).In-Pointer).up

pub runs-preserved : goal.runs-preserved
runs-preserved c =
    let m = c.args.message.now in
    let out = c.runs.out in
    let stop = c.in-Pointer.stop in
    let name = labels_at m c.args.at in
    let h = name_viewed m c.args.at c.requires.there in
    let f = rw c.in-Pointer.is at c.in-Ok.ensures.found in
    let text = map to_ascii_lowercase (slice_range m c.runs.run stop) in
    let new = c.copy_lower-in-Pointer.new.out in
    let next = copied_next m out c.runs.run c.runs.size name f.0 stop c.in-Pointer.target new (drop (c.runs.size + length (slice_range m c.runs.run stop)) out) text f.1 f.2 refl c.copy_lower-in-Pointer.ensures c.runs.invariant.copied in
    let far = copied_far m new c.in-Pointer.target c.behind_pointers-run.result (c.runs.size + (stop - c.runs.run)) name c.behind_pointers-run.ensures.leads.leads next in
    record {
      inside = omega (arith, c.behind_pointers-run.ensures.leads.back, f.4, c.runs.invariant.inside);
      small = copied_small m new c.behind_pointers-run.result (c.runs.size + (stop - c.runs.run)) name h.stands.valid.short far;
      room = omega arith;
      few = omega (arith, c.behind_pointers-run.ensures.size, c.runs.invariant.few);
      known = c.behind_pointers-run.ensures.known;
      copied = far;
    }

pub behind_pointers-run-requires-clause-name : goal.behind_pointers-run-requires-clause-name
behind_pointers-run-requires-clause-name c =
    let m = c.args.message.now in
    let out = c.runs.out in
    let stop = c.in-Pointer.stop in
    let f = rw c.in-Pointer.is at c.in-Ok.ensures.found in
    let text = map to_ascii_lowercase (slice_range m c.runs.run stop) in
    let new = c.copy_lower-in-Pointer.new.out in
    let next = copied_next m out c.runs.run c.runs.size (labels_at m c.args.at) f.0 stop c.in-Pointer.target new (drop (c.runs.size + length (slice_range m c.runs.run stop)) out) text f.1 f.2 refl c.copy_lower-in-Pointer.ensures c.runs.invariant.copied in
    (next.rest, next.end, next.stands)

pub behind_pointers-run-requires-clause-inside : goal.behind_pointers-run-requires-clause-inside
behind_pointers-run-requires-clause-inside c =
    let m = c.args.message.now in
    let f = rw c.in-Pointer.is at c.in-Ok.ensures.found in
    omega (arith, f.4, run_up m c.runs.run f.0 c.in-Pointer.stop f.1, slice_get_within m (c.in-Pointer.stop + 1) f.2.low f.2.second)
