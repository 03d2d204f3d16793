use Rattle.std.proofs.Common.{◌≡◌, ◌≤◌, ℕ, true, false, ◌||◌, length, sym, ap, subst, ◌∙◌, arith, rules}
use Rattle.std.specs.Prelude.{◌==◌, not, nat_lt, Some, None, IsOk}
use borrow.Author.Tests.{le-ltb}
use Rattle.dns_names.specs.Lower.{AreOctets}
use Rattle.dns_wire.specs.Message.{header_of}
use Rattle.dns_wire.specs.Reading.{message_of}
use Rattle.dns_request.specs.Request.{read_as, too_long}
use Rattle.dns_request.proofs.Passing.{is_read, kind_not_served, kind_served, none_read, not_served}
use Rattle.dns_request.proofs.Counts.{read_refused}
use Rattle.dns_request.proofs.classification.classify.Goals as goal

pub returns-then-is_none-clause-request : goal.returns-then-is_none-clause-request
returns-then-is_none-clause-request c =
    let octets = c.args.octets.now in
    let whole : 12 ≤ length octets = search rules in
    let ignored : (nat_lt (length octets) 12 || (header_of octets).qr) ≡ false = ap (λ b. b || (header_of octets).qr) (le-ltb (length octets) 12 whole) ∙ sym c.is_response.ensures ∙ c.if-is_response.false in
    let other : ((header_of octets).opcode == 0 || (header_of octets).opcode == 5) ≡ false = ap (λ (n : ℕ). n == 0 || n == 5) (sym c.opcode.ensures) ∙ kind_not_served c.from_number.result c.opcode.result c.from_number.ensures.none (c.is_none.ensures ∙ ap not c.if-is_none.true) in
    sym (not_served (nat_lt (length octets) 12 || (header_of octets).qr) _ (too_long c.args.transport octets) (message_of octets) ignored other)

pub returns-in-Ok-clause-request : goal.returns-in-Ok-clause-request
returns-in-Ok-clause-request c =
    let octets = c.args.octets.now in
    let whole : 12 ≤ length octets = search rules in
    let ignored : (nat_lt (length octets) 12 || (header_of octets).qr) ≡ false = ap (λ b. b || (header_of octets).qr) (le-ltb (length octets) 12 whole) ∙ sym c.is_response.ensures ∙ c.if-is_response.false in
    let served : ((header_of octets).opcode == 0 || (header_of octets).opcode == 5) ≡ true = ap (λ (n : ℕ). n == 0 || n == 5) (sym c.opcode.ensures) ∙ kind_served c.from_number.result c.opcode.result c.from_number.ensures.found (c.is_none.ensures ∙ ap not c.if-is_none.false) in
    let short : too_long c.args.transport octets ≡ false = sym c.is_too_long.ensures ∙ c.if-is_too_long.false in
    let fit : AreOctets octets = λ i. omega (arith, c.type_inv.octets i) in
    let m = c.in-Ok.message in
    let read : message_of octets ≡ Some m.message = (c.at_most_one.ensures.computed octets m.message fit).0 c.in-Ok.ensures.found.1 in
    c.by_message.ensures.request
    ∙ sym (is_read (nat_lt (length octets) 12 || (header_of octets).qr) _ (too_long c.args.transport octets) (message_of octets) ignored served short ∙ ap read_as read)

pub returns-in-Err-clause-request : goal.returns-in-Err-clause-request
returns-in-Err-clause-request c =
    let octets = c.args.octets.now in
    let whole : 12 ≤ length octets = search rules in
    let ignored : (nat_lt (length octets) 12 || (header_of octets).qr) ≡ false = ap (λ b. b || (header_of octets).qr) (le-ltb (length octets) 12 whole) ∙ sym c.is_response.ensures ∙ c.if-is_response.false in
    let served : ((header_of octets).opcode == 0 || (header_of octets).opcode == 5) ≡ true = ap (λ (n : ℕ). n == 0 || n == 5) (sym c.opcode.ensures) ∙ kind_served c.from_number.result c.opcode.result c.from_number.ensures.found (c.is_none.ensures ∙ ap not c.if-is_none.false) in
    let short : too_long c.args.transport octets ≡ false = sym c.is_too_long.ensures ∙ c.if-is_too_long.false in
    let fit : AreOctets octets = λ i. omega (arith, c.type_inv.octets i) in
    let none : message_of octets ≡ None = none_read (message_of octets) (λ m e. (let ok = c.read.ensures.only m ((c.at_most_one.ensures.computed octets m fit).1 e) in let bad = subst (λ r. IsOk r) c.in-Err.is ok in cc)) in
    sym (is_read (nat_lt (length octets) 12 || (header_of octets).qr) _ (too_long c.args.transport octets) (message_of octets) ignored served short ∙ ap read_as none)

pub returns-then-not-counts_as_request-clause-request : goal.returns-then-not-counts_as_request-clause-request
returns-then-not-counts_as_request-clause-request c =
    let octets = c.args.octets.now in
    let whole : 12 ≤ length octets = search rules in
    let ignored : (nat_lt (length octets) 12 || (header_of octets).qr) ≡ false = ap (λ b. b || (header_of octets).qr) (le-ltb (length octets) 12 whole) ∙ sym c.is_response.ensures ∙ c.if-is_response.false in
    let served : ((header_of octets).opcode == 0 || (header_of octets).opcode == 5) ≡ true = ap (λ (n : ℕ). n == 0 || n == 5) (sym c.opcode.ensures) ∙ kind_served c.from_number.result c.opcode.result c.from_number.ensures.found (c.is_none.ensures ∙ ap not c.if-is_none.false) in
    let short : too_long c.args.transport octets ≡ false = sym c.is_too_long.ensures ∙ c.if-is_too_long.false in
    let fit : AreOctets octets = λ i. omega (arith, c.type_inv.octets i) in
    let less : c.counts_as_request.result ≡ false = search rules in
    sym (is_read (nat_lt (length octets) 12 || (header_of octets).qr) _ (too_long c.args.transport octets) (message_of octets) ignored served short
    ∙ read_refused (message_of octets) (λ m e. sym (c.counts_as_request.ensures m ((c.at_most_one.ensures.computed octets m fit).1 e)) ∙ less))

pub by_message-requires-clause-counts : goal.by_message-requires-clause-counts
by_message-requires-clause-counts c =
    let enough : c.counts_as_request.result ≡ true = search rules in
    sym (c.counts_as_request.ensures c.in-Ok.message.message c.in-Ok.ensures.found.1) ∙ enough
