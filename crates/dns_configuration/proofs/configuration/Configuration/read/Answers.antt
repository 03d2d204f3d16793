use Rattle.std.proofs.Common.{◌≡◌, Result, Ok, Err, Some, subst, rules}
use Rattle.std.specs.Prelude.{IfOk}
use Rattle.std.specs.Str.{IsUtf8}
use Rattle.toml.specs.Data.{Data, Members}
use Rattle.toml.specs.Parse.{parse_document}
use Rattle.toml.specs.View.{members_view}
use Rattle.toml.proofs.Views.{view-Table}
use Rattle.dns_configuration.specs.declared.configuration.Configuration.{Configuration}
use Rattle.dns_configuration.specs.declared.configuration.ConfigurationError.{ConfigurationError}
use Rattle.dns_configuration.specs.Settings.{Describes, IsConfiguration, ReadsOrFails}
use Rattle.dns_configuration.proofs.Unread.{described}
use Rattle.dns_configuration.proofs.Zipped.{described_valid}
use Rattle.dns_configuration.proofs.configuration.Configuration.read.Goals as goal

valid : (d : Data) (r : Result Configuration ConfigurationError) → ReadsOrFails (Describes d) r → IfOk r IsConfiguration
valid d (Ok c) h = described_valid d c h
valid d (Err e) h = tt

pub returns-in-Ok-table_from_str-clause-described : goal.returns-in-Ok-table_from_str-clause-described
returns-in-Ok-table_from_str-clause-described c =
    let octets = c.args.octets.now in
    let members : Members = members_view c.in-Ok-table_from_str.table.entries in
    let utf8 : IsUtf8 octets = search rules in
    let parsed : parse_document octets ≡ Some members = search rules in
    let read = subst (λ (d : Data). ReadsOrFails (Describes d) c.configuration_of.result) (view-Table c.in-Ok-table_from_str.table) c.configuration_of.ensures in
    described octets members c.configuration_of.result utf8 parsed read

pub returns-in-Ok-table_from_str-clause-valid : goal.returns-in-Ok-table_from_str-clause-valid
returns-in-Ok-table_from_str-clause-valid c = valid _ c.configuration_of.result c.configuration_of.ensures
