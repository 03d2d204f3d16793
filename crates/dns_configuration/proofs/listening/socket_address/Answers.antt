use Rattle.std.proofs.Common.{ℕ, List, sym, subst}
use Rattle.std.specs.Net.Socket.{socket_ip, socket_port}
use Rattle.dns_configuration.specs.Settings.{IsHost, IsSocketAddress}
use Rattle.dns_configuration.proofs.Hosts.{found_none}
use Rattle.dns_configuration.proofs.Ports.{no_parts, parts_of}
use Rattle.dns_configuration.proofs.listening.socket_address.Goals as goal

pub returns-in_err-front : goal.returns-in_err-front
returns-in_err-front c = found_none (IsSocketAddress c.args.text.now) _ c.from_residual.ensures (no_parts c.args.text.now c.in_err-front.ensures)

pub returns-in_err-ip : goal.returns-in_err-ip
returns-in_err-ip c = found_none (IsSocketAddress c.args.text.now) _ c.from_residual-in_err-ip.ensures (λ a h. c.in_err-ip.ensures (socket_ip a) (subst (λ (t : List ℕ). IsHost t (socket_ip a)) (sym c.as_bytes.ensures.value) (parts_of c.args.text.now _ _ c.in_ok-front.ensures a h).0))

pub returns-in_err-port : goal.returns-in_err-port
returns-in_err-port c = found_none (IsSocketAddress c.args.text.now) _ c.from_residual-in_err-port.ensures (λ a h. c.in_err-port.ensures (socket_port a) (parts_of c.args.text.now _ _ c.in_ok-front.ensures a h).1)
