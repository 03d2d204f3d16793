use Rattle.dns_replay.proofs.Loaded.{in_range}
use Rattle.dns_replay.proofs.setup.make_one.Goals as goal

pub returns : goal.returns
returns g c = record {
  range = in_range c.args.settings.now.snapshot c.args.settings.now.journal (g.D.Sectors.count c.in_ok-device.device) (λ no. absurd (let e = c.in_ok-format.ensures.geometry.1 no in cc e));
  honest = c.in_ok-format.ensures.honest.1 c.in_ok-device.ensures;
  leaves = c.in_ok-format.ensures.made c.in_ok-device.ensures;
}
