use Rattle.std.proofs.Common.{◌≤◌, drop, length}
use Rattle.dns_records.specs.Fields.{StringsLast, stated_fields}
use Rattle.dns_wire.specs.Fields.{SomeFields}
use Rattle.dns_wire.specs.Pointers.{AreEnds}
use Rattle.dns_wire.proofs.Appended.{Joins}
use Rattle.dns_wire.proofs.owned.append_fields.Given as goal

abbrev pub invariant-loop-field : goal.invariant-loop-field
invariant-loop-field l = record {
  up : l.next ≤ l.stop;
  last : StringsLast (stated_fields (drop l.field-index l.fields));
  left : SomeFields l.message l.next (stated_fields (drop l.field-index l.fields)) l.stop;
  few : length l.ends ≤ 16384;
  known : AreEnds l.message l.ends;
  joins : Joins l.message l.at (stated_fields l.fields) l.stop l.next (stated_fields (drop l.field-index l.fields)) l.fn.out.items l.out.items;
}
