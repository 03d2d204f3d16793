use Rattle.std.proofs.Common.{◌≡◌, ◌++◌, List, ℕ}
use Rattle.std.specs.Prelude.{filter, flat_map}
use Rattle.std.specs.Io.KnownBytes.{Appends}
use Rattle.dns_masterfile.specs.Printed.{is_wanted, printed_record}
use Rattle.dns_masterfile.proofs.zone.print_wanted.Given as goal

abbrev pub invariant-loop-record : goal.invariant-loop-record
invariant-loop-record g l =
    let all = flat_map printed_record (filter (is_wanted l.soa) (g.I.ZoneIndex.records l.index)) in
    let rest = flat_map printed_record (filter (is_wanted l.soa) l.record-iterator) in
    record {
      can : (goal.iterator-loop-record g).can_next l.record-iterator;
      ends : (goal.iterator-loop-record g).is_finite l.record-iterator;
      printed : (text : List ℕ) × (all ≡ text ++ rest) × Appends (g.W.Write.contents l.initial.out) (g.W.Write.contents l.out) text;
    }
