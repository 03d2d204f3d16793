use Rattle.std.proofs.Common.{codes}
use Rattle.toml.specs.View.{view}
use Rattle.dns_configuration.specs.Settings.{HasName, HasPrefixes, IsSettings}
use Rattle.dns_configuration.proofs.Unread.{passed_on}
use Rattle.dns_configuration.proofs.configuration.settings.Goals as goal

pub returns-in_err-name_at : goal.returns-in_err-name_at
returns-in_err-name_at c = (let d = view c.args.zone.now in passed_on (HasName (codes "origin") d) (IsSettings d) _ c.from_residual.result c.from_residual.ensures.1 c.in_err-name_at.ensures (λ none z h. none z.origin h.origin))

pub returns-in_err-prefixes_at : goal.returns-in_err-prefixes_at
returns-in_err-prefixes_at c = (let d = view c.args.zone.now in passed_on (HasPrefixes (codes "update") d) (IsSettings d) _ c.from_residual-in_err-prefixes_at.result c.from_residual-in_err-prefixes_at.ensures.1 c.in_err-prefixes_at.ensures (λ none z h. none z.update h.update))

pub returns-in_err-prefixes_at-2 : goal.returns-in_err-prefixes_at-2
returns-in_err-prefixes_at-2 c = (let d = view c.args.zone.now in passed_on (HasPrefixes (codes "transfer") d) (IsSettings d) _ c.from_residual-in_err-prefixes_at-2.result c.from_residual-in_err-prefixes_at-2.ensures.1 c.in_err-prefixes_at-2.ensures (λ none z h. none z.transfer h.transfer))
