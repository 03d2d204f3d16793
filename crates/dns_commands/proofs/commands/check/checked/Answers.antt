use Rattle.std.specs.Option.{option_copied}
use Rattle.dns_commands.proofs.ReplayEnded.{bad, good}
use Rattle.dns_commands.proofs.Soas.{soa_among}
use Rattle.dns_commands.proofs.commands.check.checked.Goals as goal

pub returns-in_ok-print_good-in-Ok-loaded : goal.returns-in_ok-print_good-in-Ok-loaded
returns-in_ok-print_good-in-Ok-loaded g c =
    let found = c.in-Ok-loaded.ensures.found in
    let soa = c.soa.result.now in
    let octets = option_copied c.args.file.now.octets in
    good octets c.args.file.now.path.now c.args.origin.now _ _ (g.E.Write.contents c.args.err.now) c.in-Ok.apex found.0 soa c.in-Ok-loaded.count c.serial.result
    c.in-Ok.ensures found.1 (soa_among found.0 _ soa found.4 c.soa.ensures.one) c.soa.ensures.soa found.2 c.serial.ensures c.in_ok-print_good-in-Ok-loaded.ensures

pub returns-in-Err-loaded : goal.returns-in-Err-loaded
returns-in-Err-loaded g c =
    bad (option_copied c.args.file.now.octets) c.args.file.now.path.now c.args.origin.now (g.W.Write.contents c.args.out.now) (g.E.Write.contents c.args.err.now) _ c.in-Ok.apex c.in-Err-loaded.fault c.tell-in-Err-loaded.result
    c.in-Ok.ensures c.in-Err-loaded.ensures.refused c.tell-in-Err-loaded.ensures
