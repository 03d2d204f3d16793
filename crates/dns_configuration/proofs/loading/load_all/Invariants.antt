use Rattle.std.proofs.Common.{take}
use Rattle.std.specs.List.{AllZip}
use Rattle.dns_configuration.specs.Files.{IsLoadedFrom}
use Rattle.dns_configuration.proofs.loading.load_all.Given as goal

abbrev pub invariant-loop-own : goal.invariant-loop-own
invariant-loop-own g l = AllZip (IsLoadedFrom l.files) (take l.own-index l.settings) l.zones.items
