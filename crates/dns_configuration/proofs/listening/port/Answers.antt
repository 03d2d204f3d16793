use Rattle.std.proofs.Common.{◌≢◌, ℕ, get_or, Option, sym, subst, rules}
use Rattle.dns_configuration.specs.Settings.{FindsIfAny, IsPort}
use Rattle.dns_configuration.proofs.Hosts.{found_none}
use Rattle.dns_configuration.proofs.Ports.{no_empty_port, no_port_behind, port_is}
use Rattle.dns_configuration.proofs.listening.port.Goals as goal

pub returns-in_err-first : goal.returns-in_err-first
returns-in_err-first c = found_none (IsPort c.args.text.now) _ c.from_residual.ensures (λ n h. no_empty_port c.args.text.now n (search rules) h)

pub returns-then-first-eq48 : goal.returns-then-first-eq48
returns-then-first-eq48 c = λ n h. no_port_behind c.args.text.now n (search rules) h

pub returns : goal.returns
returns c =
    let no_zero : get_or c.args.text.now 0 0 ≢ 48 = search rules in
    let no_plus : get_or c.args.text.now 0 0 ≢ 43 = search rules in
    let port = port_is c.args.text.now c.parse.result c.parse.ensures.value.0 no_zero no_plus in
    subst (λ (o : Option ℕ). FindsIfAny (IsPort c.args.text.now) o) (sym c.ok.ensures.value) port
