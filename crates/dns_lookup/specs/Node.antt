-- The name of a node as the code keeps it: a name, or the label `*` before one.
use Rattle.std.specs.Prelude.{Bool, if◌then◌else◌}
use Rattle.dns_names.specs.Name.{Labels, wildcard}

abbrev pub name_of_node : Labels → Bool → Labels
name_of_node base is_wildcard = if is_wildcard then wildcard base else base
