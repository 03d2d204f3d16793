use Rattle.std.proofs.Common.{◌≡◌, length, ap, sym, ◌∙◌, arith}
use Rattle.std.proofs.lemmas.List.{length-map}
use Rattle.dns_primary.specs.Open.{device_of_pending}
use Rattle.dns_primary.proofs.open.Primary+I+KeptStore+D+I.into_devices.Goals as goal

pub take_back-requires : goal.take_back-requires
take_back-requires g c =
    let stores = c.into_stores.result.items in
    let own = c.args.self.pending.items in
    let same : length stores ≡ length own =
    sym (length-map stores (λ b. device_of_pending b)) ∙ ap (λ l. length l) c.into_stores.ensures.handed_out ∙ length-map own (λ b. device_of_pending b) in
    omega (arith, same, c.requires)

pub returns-clause-at_rest : goal.returns-clause-at_rest
returns-clause-at_rest g c = c.into_stores.ensures.at_rest

pub returns-clause-within : goal.returns-clause-within
returns-clause-within g c = c.into_stores.ensures.within
