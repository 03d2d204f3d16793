use Rattle.std.proofs.Common.{◌||◌, ◌&&◌, sym, ◌∙◌}
use Rattle.std.specs.Prelude.{not, ◌==◌}
use Rattle.std.proofs.lemmas.List.Folds.{list_any-append}
use Rattle.dns_names.specs.Name.{names_eq}
use Rattle.dns_records.specs.Types.{type_cname}
use Rattle.dns_update.proofs.Halved.{front_owned, back_owned}
use Rattle.dns_update.proofs.held.HalvesHeld.has_other.Goals as goal

pub has_other-requires : goal.has_other-requires
has_other-requires g c =
    let xs = g.H.Held.records c.args.self.now.front in
    let ys = g.H.Held.records c.args.self.now.back in
    front_owned c.args.name.now xs ys c.requires

pub has_other-requires-2 : goal.has_other-requires-2
has_other-requires-2 g c =
    let xs = g.H.Held.records c.args.self.now.front in
    let ys = g.H.Held.records c.args.self.now.back in
    back_owned c.args.name.now xs ys c.requires

pub returns : goal.returns
returns g c =
    let xs = g.H.Held.records c.args.self.now.front in
    let ys = g.H.Held.records c.args.self.now.back in
    (λ i. c.has_other.ensures i || c.has_other-2.ensures i) ∙ sym (list_any-append (λ s. names_eq s.owner c.args.name.now && not (s.rtype == type_cname)) xs ys)
