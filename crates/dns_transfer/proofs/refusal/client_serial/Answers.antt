use Rattle.std.proofs.Common.{◌≡◌, length, sym, ap, ◌∙◌}
use Rattle.dns_transfer.proofs.Soa.{client_formed}
use Rattle.dns_transfer.proofs.refusal.client_serial.Goals as goal

pub serial_of-requires-clause-form : goal.serial_of-requires-clause-form
serial_of-requires-clause-form c =
    let request = c.args.request.now in
    let all = sym c.authorities-authorities.ensures ∙ c.in-Some.ensures.some in
    let one : length request.message.message.authorities ≡ 1 = ap length (sym c.authorities-authorities.ensures) ∙ sym c.len.ensures ∙ c.if-len-ne1.false in
    client_formed request.message.octets request.message.message request.question c.in-Some.item c.next.new.self c.octets-octets.ensures.message all one (sym c.in_ok-is_client_soa.ensures ∙ c.if-not-branch.false)
