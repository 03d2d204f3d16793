use Rattle.std.proofs.Common.{◌≡◌, length, List}
use Rattle.dns_records.specs.Record.{Record}
use Rattle.dns_transfer.specs.Left.{left_at, left_of}
use Rattle.dns_transfer.proofs.Filled.{Filling}
use Rattle.dns_transfer.proofs.filling.fill.Given as goal

abbrev pub invariant-records : goal.invariant-records
invariant-records g l = record {
  sent : List Record;
  filling : Filling l.fn.message.reply (left_at l.fn.soa (g.I.ZoneIndex.records l.fn.index) l.fn.history l.fn.position) sent (left_of l.rest) l.message.reply;
  limit : l.message.limit ≡ l.fn.message.limit;
  at : l.rest ≡ record { soa = l.fn.soa; records = g.I.ZoneIndex.records l.fn.index; changes = l.fn.history; position = l.behind };
}

abbrev pub decreases-records : goal.decreases-records
decreases-records g l = length (left_of l.rest)
