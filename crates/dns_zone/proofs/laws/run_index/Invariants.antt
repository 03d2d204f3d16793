use Rattle.std.proofs.Common.{◌≡◌, ◌++◌, drop}
use Rattle.dns_zone.specs.Run.{replies_of, set_left}
use Rattle.dns_zone.proofs.laws.run_index.Given as goal

abbrev pub invariant-calls : goal.invariant-calls
invariant-calls g l =
    let rest = drop l.command-index l.commands in
    let set = g.I.ZoneIndex.records l.index in
    let first = g.I.ZoneIndex.records l.fn.index in
    record {
      said : l.replies.items ++ replies_of set rest ≡ replies_of first l.commands;
      leaves : set_left set rest ≡ set_left first l.commands;
    }
