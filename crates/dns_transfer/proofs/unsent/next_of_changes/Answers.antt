use Rattle.std.proofs.Common.{◌≡◌, ◌+◌, ◌-◌, ◌<◌, Some, None, length, sym, ap, ◌∙◌, arith}
use Rattle.std.specs.Prelude.{slice_get}
use Rattle.std.specs.Option.{option_copied}
use Rattle.dns_transfer.specs.Records.{sequence}
use Rattle.dns_transfer.specs.Left.{left_in}
use Rattle.dns_transfer.proofs.Lists.{within, past}
use Rattle.dns_transfer.proofs.Sequences.{next_within, next_behind, no_more}
use Rattle.dns_transfer.proofs.unsent.next_of_changes.Goals as goal

pub overflow_add-result : goal.overflow_add-result
overflow_add-result c =
    let change = c.in-Some.change.now in
    let record_is : slice_get (sequence change) c.changes.behind ≡ Some c.in-Some-nth_of_sequence.record.now = sym c.nth_of_sequence.ensures ∙ ap option_copied c.in-Some-nth_of_sequence.is in
    omega (arith, within (sequence change) c.changes.behind c.in-Some-nth_of_sequence.record.now record_is, c.sequence_len-len.ensures)

pub returns-in-Some-nth_of_sequence : goal.returns-in-Some-nth_of_sequence
returns-in-Some-nth_of_sequence c =
    let change = c.in-Some.change.now in
    let here : slice_get c.args.history.now c.changes.number ≡ Some change = sym c.get.ensures ∙ ap option_copied c.in-Some.is in
    let record_is : slice_get (sequence change) c.changes.behind ≡ Some c.in-Some-nth_of_sequence.record.now = sym c.nth_of_sequence.ensures ∙ ap option_copied c.in-Some-nth_of_sequence.is in
    c.changes.invariant ∙ next_within c.args.history.now c.changes.number c.changes.behind change c.in-Some-nth_of_sequence.record.now here record_is

pub overflow_sub-behind : goal.overflow_sub-behind
overflow_sub-behind c =
    let change = c.in-Some.change.now in
    let none : slice_get (sequence change) c.changes.behind ≡ None = sym c.nth_of_sequence.ensures ∙ ap option_copied c.in_default-nth_of_sequence.is in
    omega (arith, past (sequence change) c.changes.behind none, c.sequence_len-len.ensures)

pub overflow_add-number : goal.overflow_add-number
overflow_add-number c =
    let here : slice_get c.args.history.now c.changes.number ≡ Some c.in-Some.change.now = sym c.get.ensures ∙ ap option_copied c.in-Some.is in
    omega (arith, within c.args.history.now c.changes.number c.in-Some.change.now here, c.len-len.ensures)

pub changes-smaller : goal.changes-smaller
changes-smaller c =
    let here : slice_get c.args.history.now c.changes.number ≡ Some c.in-Some.change.now = sym c.get.ensures ∙ ap option_copied c.in-Some.is in
    let inside : c.changes.number < length c.args.history.now = within c.args.history.now c.changes.number c.in-Some.change.now here in
    let less : length c.args.history.now - (c.changes.number + 1) < length c.args.history.now - c.changes.number = omega arith in less

pub changes-preserved : goal.changes-preserved
changes-preserved c =
    let h = c.args.history.now in
    let change = c.in-Some.change.now in
    let here : slice_get h c.changes.number ≡ Some change = sym c.get.ensures ∙ ap option_copied c.in-Some.is in
    let none : slice_get (sequence change) c.changes.behind ≡ None = sym c.nth_of_sequence.ensures ∙ ap option_copied c.in_default-nth_of_sequence.is in
    c.changes.invariant ∙ next_behind h c.changes.number c.changes.behind change here none
    ∙ ap (λ n. left_in h (c.changes.number + 1) (c.changes.behind - n)) (sym c.sequence_len-len.ensures)

pub returns : goal.returns
returns c =
    let none : slice_get c.args.history.now c.changes.number ≡ None = sym c.get.ensures ∙ ap option_copied c.in_default.is in
    c.changes.invariant ∙ no_more c.args.history.now c.changes.number c.changes.behind none
