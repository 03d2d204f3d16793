-- Records of a message that are copied.
use Rattle.std.specs.Prelude.{ℕ, ◌≤◌, List, length}
use Rattle.dns_wire.specs.Message.{ResourceRecord}
use Rattle.dns_wire.specs.Pointers.{AreEnds}
use Rattle.dns_wire.specs.Viewed.{AreResourceRecordsLeft}
use Rattle.dns_wire.specs.declared.copied.CopiedRecord.{CopiedRecord}

-- The record that a copy is.
abbrev pub record_copied : CopiedRecord → ResourceRecord
record_copied r =
    record { owner = r.owner; rtype = r.rtype; class = r.class; ttl = r.ttl; rdata = r.rdata.items }

-- So many records from an offset on, and ends of chains of pointers.
pub record AreCopiesLeft (message : List ℕ) (at n : ℕ) (ends : List ℕ) : Type 0 where
  pub records : AreResourceRecordsLeft message at n
  pub few : length ends ≤ 16384
  pub known : AreEnds message ends
