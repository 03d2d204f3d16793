use Rattle.std.proofs.Common.{◌≡◌, map, take}
use Rattle.std.specs.Prelude.{IsTrue, ◌↔◌}
use Rattle.std.specs.Char.{to_ascii_lowercase}
use Rattle.dns_names.proofs.lent.is_lower.Given as goal

abbrev pub invariant-loop-octet : goal.invariant-loop-octet
invariant-loop-octet l = IsTrue l.is_lower ↔ (map to_ascii_lowercase (take l.octet-index l.octets) ≡ take l.octet-index l.octets)
