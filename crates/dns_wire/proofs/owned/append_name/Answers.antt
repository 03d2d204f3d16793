use Rattle.std.proofs.Common.{◌++◌, List, ℕ, ap, ◌∙◌}
use Rattle.dns_names.specs.Name.{wire}
use Rattle.dns_wire.proofs.NameRead.{viewed}
use Rattle.dns_wire.proofs.owned.append_name.Goals as goal

pub behind_name-requires : goal.behind_name-requires
behind_name-requires c =
    let h = c.requires.there in
    record { name = h.0; end = h.1; stands = h.2 }

pub returns-clause-name : goal.returns-clause-name
returns-clause-name c =
    let m = c.args.message.now in
    let found = c.behind_name.ensures in
    (found.0, found.1, c.in_ok-extend_from_slice.ensures.items ∙ ap (λ (xs : List ℕ). c.args.out.now.items ++ xs) (c.copy_plain-size.ensures.plain ∙ ap wire (viewed m c.args.at found.0 c.behind_name.result found.1)))
