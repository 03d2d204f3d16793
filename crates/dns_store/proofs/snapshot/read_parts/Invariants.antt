use Rattle.std.proofs.Common.{◌≡◌, ◌++◌, ◌+◌, ◌*◌, length, ℕ, List}
use Rattle.std.specs.List.{flat_map}
use Rattle.dns_layout.specs.Own.{IsAltered}
use Rattle.dns_layout.specs.Sector.{payload_in, payload_room_in}
use Rattle.dns_layout.specs.Forms.{SaysRootIn}
use Rattle.dns_layout.specs.Store.{ArePartsIn}
use Rattle.dns_journal.specs.Reads.{OnlyReads, sectors_from, AreIntact}
use Rattle.dns_store.proofs.snapshot.read_parts.Given as goal

abbrev pub invariant-loop-i : goal.invariant-loop-i
invariant-loop-i g l = record {
  reads : OnlyReads g.D.Sectors l.fn.device l.device;
  quiet : g.D.Sectors.failed l.device ≡ g.D.Sectors.failed l.fn.device;
  parts : g.D.Sectors.is_honest l.fn.device → (k : List (List ℕ)) → IsAltered l.format k (g.D.Sectors.seen l.fn.device) → (x : List ℕ) → SaysRootIn l.format x l.root → ArePartsIn l.format x 0 (sectors_from k l.at l.i);
  passed : g.D.Sectors.is_honest l.fn.device → AreIntact l.format (g.D.Sectors.seen l.fn.device) l.at l.i;
  size : length l.octets.items ≡ length l.fn.octets.items + payload_room_in l.format * l.i;
  octets : g.D.Sectors.is_honest l.fn.device → (k : List (List ℕ)) → IsAltered l.format k (g.D.Sectors.seen l.fn.device) → l.octets.items ≡ l.fn.octets.items ++ flat_map (payload_in l.format) (sectors_from k l.at l.i);
}
