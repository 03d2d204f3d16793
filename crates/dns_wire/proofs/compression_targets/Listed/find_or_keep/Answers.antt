use Rattle.std.proofs.Common.{◌≡◌, ◌++◌, None, List, [], sym, ap, ◌∙◌, arith}
use Rattle.std.proofs.lemmas.Result.{IfOk-weaker}
use Rattle.std.proofs.lemmas.List.{append-nil}
use Rattle.dns_names.specs.Name.{labels_of}
use Rattle.dns_wire.specs.Compress.{Place}
use Rattle.dns_wire.specs.Indexed.{offset_at}
use Rattle.dns_wire.proofs.First.{among_first, behind_first}
use Rattle.dns_wire.proofs.compression_targets.Listed.find_or_keep.Goals as goal
use Rattle.dns_wire.proofs.compression_targets.Listed.find_or_keep.Goals.{After-place_of}

-- what is found among those that are searched one by one
looked_through : (c : After-place_of) → c.place_of.result ≡ offset_at c.self.inside.all.items (labels_of c.args.suffix.now)
looked_through c = c.place_of.ensures.position ∙ ap (λ (ps : List Place). offset_at ps (labels_of c.args.suffix.now)) c.deref.ensures.value

pub returns-in-Some-clause-position : goal.returns-in-Some-clause-position
returns-in-Some-clause-position c =
    let n = labels_of c.args.suffix.now in
    among_first c.self.inside.all.items c.self.inside.later n c.in-Some.found (sym c.in-Some.is ∙ looked_through (goal.at.returns-in-Some-clause-position c).After-place_of)
    ∙ ap (λ (ps : List Place). offset_at ps n) c.self.view_is

pub returns-then-len-self-clause-position : goal.returns-then-len-self-clause-position
returns-then-len-self-clause-position c =
    let n = labels_of c.args.suffix.now in
    let none : None ≡ offset_at c.self.inside.all.items n = sym c.in_default.is ∙ looked_through (goal.at.returns-then-len-self-clause-position c).After-place_of in
    IfOk-weaker c.find_or_keep.result (λ found. found ≡ offset_at c.self.inside.later n) (λ found. found ≡ offset_at c.args.self.now n)
    (λ found e. e ∙ behind_first c.self.inside.all.items c.self.inside.later n none ∙ ap (λ (ps : List Place). offset_at ps n) c.self.view_is)
    c.find_or_keep.ensures.position

-- where there is room among them, there are no others
nowhere : (c : After-place_of) → None ≡ c.place_of.result → c.self.inside.later ≡ [] → None ≡ offset_at c.args.self.now (labels_of c.args.suffix.now)
nowhere c none empty =
    let n = labels_of c.args.suffix.now in
    let all = c.self.inside.all.items in
    none ∙ looked_through c
    ∙ ap (λ (ps : List Place). offset_at ps n) (sym (ap (λ (ps : List Place). all ++ ps) empty ∙ append-nil all) ∙ c.self.view_is)

pub returns-in_ok-push-clause-position : goal.returns-in_ok-push-clause-position
returns-in_ok-push-clause-position c = nowhere (goal.at.returns-in_ok-push-clause-position c).After-place_of (sym c.in_default.is) (c.self.invariant (omega (arith, c.len.ensures)))

pub returns-else-offset-lt-REACH-clause-position : goal.returns-else-offset-lt-REACH-clause-position
returns-else-offset-lt-REACH-clause-position c = nowhere (goal.at.returns-else-offset-lt-REACH-clause-position c).After-place_of (sym c.in_default.is) (c.self.invariant (omega (arith, c.len.ensures)))
