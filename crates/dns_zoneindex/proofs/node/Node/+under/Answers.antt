use Rattle.std.proofs.Common.{[], refl}
use Rattle.std.specs.Option.{option_copied}
use Rattle.dns_zoneindex.specs.Entries.{own_at}
use Rattle.dns_zoneindex.proofs.Down.{down}
use Rattle.dns_zoneindex.proofs.node.Node.+under.Goals as goal

pub returns-in-Some-under : goal.returns-in-Some-under
returns-in-Some-under t c =
    down c.args.name.now c.in-Some.above c.in-Some.label.now c.args.self.now.own c.in-Some-under.node.now.own (own_at (option_copied c.child.result)) c.in-Some.ensures.found c.in-Some-under.ensures c.child.ensures.found

pub returns-in-None-under : goal.returns-in-None-under
returns-in-None-under t c = down c.args.name.now c.in-Some.above c.in-Some.label.now c.args.self.now.own [] [] c.in-Some.ensures.found c.in-None-under.ensures refl
