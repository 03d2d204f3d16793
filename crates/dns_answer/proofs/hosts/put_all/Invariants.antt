use Rattle.std.proofs.Common.{◌≡◌, ◌||◌, take}
use Rattle.std.specs.List.{list_any}
use Rattle.dns_names.specs.Name.{Labels, names_eq}
use Rattle.dns_answer.proofs.hosts.put_all.Given as goal

abbrev pub invariant-loop-name : goal.invariant-loop-name
invariant-loop-name l =
    (other : Labels)
    → list_any (names_eq other) l.names
    ≡ (list_any (names_eq other) (take l.name-index l.more) || list_any (names_eq other) l.initial.names)
