use Rattle.std.proofs.Common.{◌<◌, arith}
use Rattle.std.proofs.lemmas.List.{take_rest}
use Rattle.dns_records.proofs.Forms.{strings_next, strings_cut, strings_are, strings_done}
use Rattle.dns_records.proofs.fields.are_strings.Goals as goal

pub strings-preserved : goal.strings-preserved
strings-preserved c =
    let small : c.in-Some.len.now < 256 = omega arith in
    let next = strings_next c.in-Some.len.now c.in-Some.behind.now small c.if-behind-len.false in
    let before = rw c.in-Some.ensures.cases.0 at c.strings.invariant in
    rw take_rest (λ h. next.0 (before.0 h), λ h. before.1 (next.1 h))

pub returns-then-behind-len : goal.returns-then-behind-len
returns-then-behind-len c =
    let before = rw c.in-Some.ensures.cases.0 at c.strings.invariant in
    ((λ t. absurd (cc)), (λ h. absurd (strings_cut c.in-Some.len.now c.in-Some.behind.now c.if-behind-len.true (before.0 (strings_are c.args.octets.now h)))))

pub returns : goal.returns
returns c = strings_done c.args.octets.now c.strings.rest.now c.is_empty.result c.strings.invariant c.in_default.ensures.cases c.is_empty.ensures
