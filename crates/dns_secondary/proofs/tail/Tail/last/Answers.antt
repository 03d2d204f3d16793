use Rattle.std.proofs.Common.{◌≡◌, ◌++◌, length, vec_len, sym, ◌∙◌, arith}
use Rattle.dns_secondary.proofs.Behind.{all_of, last_newest, last_shared, no_items}
use Rattle.dns_secondary.proofs.tail.Tail.last.Goals as goal

pub returns-then-is_empty : goal.returns-then-is_empty
returns-then-is_empty c =
    let t = c.self.inside in
    let rest = c.in_ok-run.field-0-1.now in
    let f = c.in_ok-shared.ensures in
    let runs = sym c.as_slice.ensures.value ∙ c.in_ok-run.ensures.cases.0 in
    let run = sym c.records.ensures ∙ f.1 in
    let long : vec_len t.newest ≡ length t.newest.items = omega (arith, t.newest.ok.0) in
    let none = no_items (vec_len t.newest) t.newest.items long (sym c.is_empty.ensures ∙ c.if-is_empty.true) in
    (all_of rest ++ f.0, sym c.self.view_is ∙ last_shared t.runs.items rest c.in_ok-run.run'.now t.newest.items f.0 c.in_ok-shared.shared.now runs run none)

pub returns : goal.returns
returns c =
    let t = c.self.inside in
    let f = c.in_ok-last.ensures in
    (all_of t.runs.items ++ f.0, sym c.self.view_is ∙ last_newest (all_of t.runs.items) t.newest.items f.0 c.in_ok-last.last.now (sym c.deref.ensures.value ∙ f.1))
