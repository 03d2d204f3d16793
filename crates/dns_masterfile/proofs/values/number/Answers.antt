use Rattle.std.proofs.Common.{◌≡◌, true, sym, ◌∙◌}
use Rattle.dns_masterfile.specs.Text.{is_decimal}
use Rattle.dns_masterfile.proofs.Numbers.{decimal_utf8, parsed_of}
use Rattle.dns_masterfile.proofs.values.number.Goals as goal

pub returns-in-Ok : goal.returns-in-Ok
returns-in-Ok c =
    let digits : is_decimal c.args.text.now ≡ true = sym c.is_decimal.ensures ∙ c.if-not-is_decimal.false in
    c.ok.ensures.value ∙ parsed_of c.args.text.now c.in-Ok.digits.now c.parse.result c.in-Ok.ensures.cases.0 digits c.parse.ensures.value.0

pub returns-in-Err : goal.returns-in-Err
returns-in-Err c =
    let digits : is_decimal c.args.text.now ≡ true = sym c.is_decimal.ensures ∙ c.if-not-is_decimal.false in
    absurd (c.in-Err.ensures.cases.0 (decimal_utf8 c.args.text.now digits))
