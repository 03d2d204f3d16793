use Rattle.std.proofs.Common.{inr, sym}
use Rattle.dns_commands.proofs.Framed.{no_name, no_zone}
use Rattle.dns_commands.proofs.frame.zone_named.Goals as goal

pub returns-in-Err-apex : goal.returns-in-Err-apex
returns-in-Err-apex c = no_name c.args.config.now c.args.origin.now c.in-Ok.configuration c.in-Err-apex.fault c.in-Ok.ensures.held c.in-Err-apex.ensures

pub returns-in-Some : goal.returns-in-Some
returns-in-Some c = record {
  configuration = c.in-Ok.configuration;
  name = c.in-Ok-apex.name;
  holds = c.in-Ok.ensures.held;
  named = c.in-Ok-apex.ensures;
  found = sym c.in-Some.ensures;
}

pub returns : goal.returns
returns c = inr (no_zone c.args.config.now c.args.origin.now c.in-Ok.configuration c.in-Ok-apex.name c.in-Ok.ensures.held c.in-Ok-apex.ensures (sym c.in-None.ensures))
