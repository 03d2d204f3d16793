use Rattle.std.proofs.Common.{◌≤◌, List, length, sym, subst}
use Rattle.dns_answer.specs.Sections.{Shown, records_of}
use Rattle.dns_answer.proofs.Shown.{lent_last, last_represented}
use Rattle.dns_answer.proofs.found_sections.server_count.Goals as goal

pub returns-in-Some : goal.returns-in-Some
returns-in-Some c zones t fs are holds =
    let last = c.in-Some.last.now in
    let l = last_represented zones fs c.args.found.now last are c.in-Some.ensures.value in
    subst (λ (xs : List Shown). length c.servers.result.now ≤ length (records_of xs)) (sym l.2) (c.servers.ensures.few zones t l.0 l.1 (lent_last zones t c.args.found.now last holds c.in-Some.ensures.value))
