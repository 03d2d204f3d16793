use Rattle.std.proofs.Common.{◌≡◌, ℕ, Option, Some, None, List, [], ◌++◌, sym, ap, ◌∙◌}
use Rattle.std.specs.Option.{IfSome}
use Rattle.dns_names.specs.Name.{Labels, labels_of}
use Rattle.dns_wire.specs.Compress.{Place, new_places}
use Rattle.dns_wire.specs.Indexed.{offset_at}
use Rattle.dns_wire.proofs.First.{among_first, behind_first}
use Rattle.dns_wire.proofs.compression_targets.Places.find.Goals as goal

among : (found : Option ℕ) (front back all : List Place) (name : Labels) → found ≡ offset_at front name → front ++ back ≡ all → IfSome found (λ (offset : ℕ). Some offset ≡ offset_at all name)
among None front back all name e is = tt
among (Some offset) front back all name e is = among_first front back name offset e ∙ ap (λ (ps : List Place). offset_at ps name) is

pub returns-in-Some-clause-position : goal.returns-in-Some-clause-position
returns-in-Some-clause-position c =
    let n = labels_of c.args.suffix.now in
    let first = new_places [] 12 (labels_of c.self.inside.first.now) in
    let few = c.self.inside.few.items in
    among_first (first ++ few) c.self.inside.listed n c.in-Some.found (among_first first few n c.in-Some.found (sym c.in-Some.is ∙ c.place_within.ensures.position))
    ∙ ap (λ (ps : List Place). offset_at ps n) c.self.view_is

pub returns-clause-position : goal.returns-clause-position
returns-clause-position c =
    let n = labels_of c.args.suffix.now in
    let first = new_places [] 12 (labels_of c.self.inside.first.now) in
    let few = c.self.inside.few.items in
    let here : c.place_of.result ≡ offset_at (first ++ few) n =
    c.place_of.ensures.position ∙ ap (λ (ps : List Place). offset_at ps n) c.as_slice.ensures.value
    ∙ behind_first first few n (sym c.in_default.is ∙ c.place_within.ensures.position) in
    among c.place_of.result (first ++ few) c.self.inside.listed c.args.self.now n here c.self.view_is
