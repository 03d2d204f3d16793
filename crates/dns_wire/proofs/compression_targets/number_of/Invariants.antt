use Rattle.std.proofs.Common.{◌≡◌, ◌/◌, length, take}
use Rattle.std.specs.List.{fold}
use Rattle.dns_wire.specs.Indexed.{mixed, suffix_number, words_mixed}
use Rattle.dns_wire.proofs.compression_targets.number_of.Given as goal

abbrev pub invariant-words : goal.invariant-words
invariant-words l = words_mixed (length l.rest / 8) l.sum l.rest ≡ suffix_number l.suffix

abbrev pub decreases-words : goal.decreases-words
decreases-words l = length l.rest

abbrev pub invariant-octets : goal.invariant-octets
invariant-octets l = l.sum ≡ fold mixed l.initial.sum (take l.octet-index l.octet-items)
