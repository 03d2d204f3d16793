use Rattle.std.proofs.Common.{◌≡◌, [], ◌++◌, List, sym, ap, ◌∙◌}
use Rattle.std.proofs.lemmas.List.{append-nil}
use Rattle.dns_names.specs.Name.{labels_of}
use Rattle.dns_wire.specs.Compress.{Place, new_places}
use Rattle.dns_wire.proofs.First.{none_behind}
use Rattle.dns_wire.proofs.compression_targets.Places.begin.Goals as goal

pub returns : goal.returns
returns c =
    let first = new_places [] 12 (labels_of c.self.inside.first.now) in
    let name = new_places [] 12 (labels_of c.args.name.now) in
    let few = c.self.inside.few.items in
    let listed = c.self.inside.listed in
    let all : (first ++ few) ++ listed ≡ [] = c.self.view_is ∙ c.requires.first in
    let none : listed ≡ [] = none_behind (first ++ few) listed all in
    let front : first ++ few ≡ [] = sym (append-nil (first ++ few)) ∙ ap (λ (ps : List Place). (first ++ few) ++ ps) (sym none) ∙ all in
    ap (λ (ps : List Place). (name ++ few) ++ ps) none ∙ append-nil (name ++ few) ∙ ap (λ (ps : List Place). name ++ ps) (none_behind first few front) ∙ append-nil name
