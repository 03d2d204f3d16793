use Rattle.std.proofs.Common.{not, rules}
use Rattle.std.specs.Prelude.{◌==◌}
use Rattle.std.proofs.lemmas.Fn.{filter_same}
use Rattle.dns_primary.proofs.transfers.forget.Goals as goal

pub returns : goal.returns
returns g c = filter_same _ (λ t. not (t.number == c.args.number)) _ (λ x b f' k. search rules) _ _ c.retain.ensures.filtered
