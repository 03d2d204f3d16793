use Rattle.std.proofs.Common.{◌≡◌, sym, ap, ◌∙◌, Bool}
use Rattle.std.specs.Prelude.{slice_get, if◌then◌else◌}
use Rattle.dns_wire.specs.Codes.{number_of_rcode}
use Rattle.dns_wire.specs.Text.{text}
use Rattle.dns_request.specs.Codes.{rcode_servfail}
use Rattle.dns_answer.specs.Answer.{bare_reply}
use Rattle.dns_primary.specs.Flush.{is_closed_in}
use Rattle.dns_primary.proofs.flush.released_octets.Goals as goal
use Rattle.dns_primary.proofs.flush.released_octets.Goals.{then-is_closed_at, else-is_closed_at}

pub returns : goal.returns
returns g c shown zones w each waits =
    let closed = is_closed_in (slice_get zones w.zone) in
    let closed_is : c.is_closed_at.result ≡ closed = c.is_closed_at.ensures shown zones each ∙ ap (λ n. is_closed_in (slice_get zones n)) waits.zone in
    let code : number_of_rcode c.if-is_closed_at.rcode ≡ (if closed then rcode_servfail else w.rcode) = elim c.if-is_closed_at.branch [
      | then-is_closed_at b ↦ ap number_of_rcode b.rcode-is ∙ sym (ap (λ (t : Bool). if t then 2 else w.rcode) (sym closed_is ∙ b.if-is_closed_at.true))
      | else-is_closed_at b ↦ ap number_of_rcode b.rcode-is ∙ waits.rcode ∙ sym (ap (λ (t : Bool). if t then 2 else w.rcode) (sym closed_is ∙ b.if-is_closed_at.false))
    ] in
    c.header_only.ensures ∙ (λ j. text (bare_reply (waits.header j) (code j)))
