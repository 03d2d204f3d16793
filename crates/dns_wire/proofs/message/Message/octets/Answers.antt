use Rattle.dns_wire.proofs.Shown.{octets_of, reads_of}
use Rattle.dns_wire.proofs.message.Message.octets.Goals as goal

pub returns-clause-octets : goal.returns-clause-octets
returns-clause-octets c = octets_of c.self.inside.octets.now c.args.self.now c.self.view_is

pub returns-clause-message : goal.returns-clause-message
returns-clause-message c = reads_of c.self.inside.octets.now c.args.self.now c.self.view_is c.self.invariant.stands
