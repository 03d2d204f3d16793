use Rattle.std.proofs.Common.{◌++◌, ◌-◌, ◌*◌, ◌∙◌, ap, arith, List, ℕ, length, replicate}
use Rattle.std.proofs.lemmas.List.{take_rest}
use Rattle.dns_layout.specs.Sector.{payload_room}
use Rattle.dns_journal.proofs.Laying.{part_is}
use Rattle.dns_journal.proofs.turn.snapshot_sector.Goals as goal

pub returns-clause-holds : goal.returns-clause-holds
returns-clause-holds c =
    c.encode.ensures.payload
    ∙ ap (λ (l : List ℕ). l ++ replicate (payload_room - length l) 0) (part_is c.args.index (c.args.index * payload_room) c.min-size.result c.args.octets.now _ (omega arith) (take_rest c.args.octets.now (c.args.index * payload_room)) c.min-size.ensures)
