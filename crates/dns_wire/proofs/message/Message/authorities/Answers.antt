use Rattle.std.proofs.Common.{ap, ◌∙◌}
use Rattle.dns_wire.specs.Message.{Message}
use Rattle.dns_wire.specs.Received.{received}
use Rattle.dns_wire.proofs.ResourceRecordsShown.{left_is, items_within, section, message_of_view}
use Rattle.dns_wire.proofs.Shown.{behind_header}
use Rattle.dns_wire.proofs.message.Message.authorities.Goals as goal

pub over-requires : goal.over-requires
over-requires c =
    let s = c.self.inside in
    let m = s.octets.now in
    section m 8 s.authorities c.number.result (received m).message.authorities s.additionals (items_within m s.answers (received m).message.answers s.authorities (behind_header m (received m).message s.answers s.authorities s.additionals c.self.invariant).inside c.self.invariant.answer) c.self.invariant.authority c.self.invariant.stands.nscount c.number.ensures

pub returns : goal.returns
returns c =
    let s = c.self.inside in
    let m = s.octets.now in
    let h = section m 8 s.authorities c.number.result (received m).message.authorities s.additionals (items_within m s.answers (received m).message.answers s.authorities (behind_header m (received m).message s.answers s.authorities s.additionals c.self.invariant).inside c.self.invariant.answer) c.self.invariant.authority c.self.invariant.stands.nscount c.number.ensures in
    c.over.ensures ∙ left_is m s.authorities c.number.result h ∙ ap (λ (x : Message). x.authorities) (message_of_view m c.args.self.now c.self.view_is)
