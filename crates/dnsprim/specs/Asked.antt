-- What is asked for.
use Rattle.std.specs.Prelude.{Bool}
use Rattle.dnsprim.specs.declared.command.Asked.{Asked}
use Rattle.dnsprim.specs.declared.command.Task.{Task}

-- This task, with its errors explained or not.
abbrev pub command_of : Task → Bool → Asked
command_of task explain = record { task = task; explain = explain }
