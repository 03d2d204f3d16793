use Rattle.std.proofs.Common.{take}
use Rattle.std.specs.List.{AllZip}
use Rattle.dns_commands.specs.Inputs.{IsInput, inputs_of}
use Rattle.dnsprim.proofs.tasks.files_in.Given as goal

abbrev pub invariant-loop-path : goal.invariant-loop-path
invariant-loop-path l = AllZip IsInput l.files.items (inputs_of (take l.path-index l.fn.texts))
