use Rattle.std.proofs.Common.{◌++◌, ℕ, List, sym, ap, ◌∙◌}
use Rattle.dns_wire.proofs.ResourceRecordsShown.{data_read}
use Rattle.dns_wire.proofs.owned.copy_data.Goals as goal

pub returns-clause-data : goal.returns-clause-data
returns-clause-data c =
    let found = c.in_ok-append_data.ensures.data in
    found.2 ∙ ap (λ (xs : List ℕ). xs ++ found.0) c.new-octets.ensures.items ∙ sym (data_read c.args.message.now c.args.behind_owner c.number-rtype.result c.number-size.result found.0 c.number-rtype.ensures.read c.number-size.ensures.read found.1)
