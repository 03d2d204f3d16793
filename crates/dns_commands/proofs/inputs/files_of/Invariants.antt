use Rattle.std.proofs.Common.{◌≡◌, map, take}
use Rattle.std.specs.String.{string_bytes}
use Rattle.dns_configuration.specs.Calls.{HasCalled}
use Rattle.dns_commands.specs.Inputs.{file_paths, inputs_of}
use Rattle.dns_commands.proofs.inputs.files_of.Given as goal

abbrev pub invariant-loop-zone : goal.invariant-loop-zone
invariant-loop-zone g l = record {
  called : HasCalled (g.N.Inputs.reads l.initial.inputs) (g.N.Inputs.reads l.inputs) (inputs_of l.files.items);
  paths : map (λ file. string_bytes file.0) l.files.items ≡ file_paths (take l.zone-index l.zones);
}
