use Rattle.std.proofs.Common.{◌≡◌, ◌++◌, None, List, [], sym, ap, ◌∙◌, arith}
use Rattle.std.proofs.lemmas.Result.{IfOk-weaker}
use Rattle.std.proofs.lemmas.List.{append-nil}
use Rattle.dns_names.specs.Name.{labels_of}
use Rattle.dns_wire.specs.Compress.{Place, new_places}
use Rattle.dns_wire.specs.Indexed.{offset_at}
use Rattle.dns_wire.proofs.First.{among_first, behind_first}
use Rattle.dns_wire.proofs.compression_targets.Places.find_or_keep.Goals as goal
use Rattle.dns_wire.proofs.compression_targets.Places.find_or_keep.Goals.{After-place_of}

pub returns-in-Some-clause-position : goal.returns-in-Some-clause-position
returns-in-Some-clause-position c =
    let n = labels_of c.args.suffix.now in
    let first = new_places [] 12 (labels_of c.self.inside.first.now) in
    let few = c.self.inside.few.items in
    among_first (first ++ few) c.self.inside.listed n c.in-Some.found (among_first first few n c.in-Some.found (sym c.in-Some.is ∙ c.place_within.ensures.position))
    ∙ ap (λ (ps : List Place). offset_at ps n) c.self.view_is

-- what is found among the few
looked_through : (c : After-place_of) → c.place_of.result ≡ offset_at (new_places [] 12 (labels_of c.self.inside.first.now) ++ c.self.inside.few.items) (labels_of c.args.suffix.now)
looked_through c =
    let n = labels_of c.args.suffix.now in
    c.place_of.ensures.position
    ∙ ap (λ (ps : List Place). offset_at ps n) c.as_slice.ensures.value
    ∙ behind_first (new_places [] 12 (labels_of c.self.inside.first.now)) c.self.inside.few.items n (sym c.in_default.is ∙ c.place_within.ensures.position)

pub returns-in-Some-place_of-clause-position : goal.returns-in-Some-place_of-clause-position
returns-in-Some-place_of-clause-position c =
    let n = labels_of c.args.suffix.now in
    let front = new_places [] 12 (labels_of c.self.inside.first.now) ++ c.self.inside.few.items in
    among_first front c.self.inside.listed n c.in-Some-place_of.found (sym c.in-Some-place_of.is ∙ looked_through (goal.at.returns-in-Some-place_of-clause-position c).After-place_of)
    ∙ ap (λ (ps : List Place). offset_at ps n) c.self.view_is

pub returns-then-len-self-clause-position : goal.returns-then-len-self-clause-position
returns-then-len-self-clause-position c =
    let n = labels_of c.args.suffix.now in
    let front = new_places [] 12 (labels_of c.self.inside.first.now) ++ c.self.inside.few.items in
    let none : None ≡ offset_at front n = sym c.in_default-place_of.is ∙ looked_through (goal.at.returns-then-len-self-clause-position c).After-place_of in
    IfOk-weaker c.find_or_keep.result (λ found. found ≡ offset_at c.self.inside.listed n) (λ found. found ≡ offset_at c.args.self.now n)
    (λ found e. e ∙ behind_first front c.self.inside.listed n none ∙ ap (λ (ps : List Place). offset_at ps n) c.self.view_is)
    c.find_or_keep.ensures.position

-- where there is room among the few, there are no others
nowhere : (c : After-place_of) → None ≡ c.place_of.result → c.self.inside.listed ≡ [] → None ≡ offset_at c.args.self.now (labels_of c.args.suffix.now)
nowhere c none empty =
    let n = labels_of c.args.suffix.now in
    let front = new_places [] 12 (labels_of c.self.inside.first.now) ++ c.self.inside.few.items in
    none ∙ looked_through c
    ∙ ap (λ (ps : List Place). offset_at ps n) (sym (ap (λ (ps : List Place). front ++ ps) empty ∙ append-nil front) ∙ c.self.view_is)

pub returns-then-offset-lt-REACH-clause-position : goal.returns-then-offset-lt-REACH-clause-position
returns-then-offset-lt-REACH-clause-position c = nowhere (goal.at.returns-then-offset-lt-REACH-clause-position c).After-place_of (sym c.in_default-place_of.is) (c.self.invariant.2 (omega (arith, c.len.ensures.value)))

pub returns-else-offset-lt-REACH-clause-position : goal.returns-else-offset-lt-REACH-clause-position
returns-else-offset-lt-REACH-clause-position c = nowhere (goal.at.returns-else-offset-lt-REACH-clause-position c).After-place_of (sym c.in_default-place_of.is) (c.self.invariant.2 (omega (arith, c.len.ensures.value)))
