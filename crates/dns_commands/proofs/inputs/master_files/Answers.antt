use Rattle.std.proofs.Common.{map}
use Rattle.std.specs.Option.{option_copied}
use Rattle.std.specs.String.{string_bytes}
use Rattle.dns_configuration.proofs.Called.{no_calls}
use Rattle.dns_commands.specs.Inputs.{inputs_of}
use Rattle.dns_commands.proofs.Files.{of_configuration}
use Rattle.dns_commands.proofs.inputs.master_files.Goals as goal

pub returns-in-Ok : goal.returns-in-Ok
returns-in-Ok g c =
    let made = c.files_of.ensures in (
      made.0,
      made.1,
      of_configuration (option_copied c.args.config.now.octets) c.in-Ok.configuration (λ files. map (λ file. string_bytes file.0) files.items) (λ files. inputs_of files.items) c.files_of.result c.deref.result.now made.0
          c.in-Ok.ensures.held c.deref.ensures.value made.2,
    )
