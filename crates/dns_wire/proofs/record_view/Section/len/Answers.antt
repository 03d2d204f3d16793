use Rattle.std.proofs.Common.{List, length, sym, ap, ◌∙◌}
use Rattle.dns_wire.specs.Message.{ResourceRecord}
use Rattle.dns_wire.proofs.ResourceRecordsShown.{left_is}
use Rattle.dns_wire.proofs.record_view.Section.len.Goals as goal

pub returns : goal.returns
returns c =
    let s = c.self.inside in
    sym c.self.invariant.count ∙ ap (λ (xs : List ResourceRecord). length xs) (sym (left_is s.message.now s.next s.left c.self.invariant) ∙ c.self.view_is)
