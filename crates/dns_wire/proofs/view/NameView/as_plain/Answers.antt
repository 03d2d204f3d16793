use Rattle.std.proofs.Common.{◌≡◌, ◌-◌, ◌++◌, length, take, drop, length-drop, sym, ap, ◌∙◌}
use Rattle.std.proofs.lemmas.List.{take-append-drop, length-take-le}
use Rattle.std.proofs.Math.Seq.{take-length}
use Rattle.dns_wire.proofs.NameRead.{viewed}
use Rattle.dns_names.specs.Name.{wire}
use Rattle.dns_wire.proofs.NamesBack.{full_back}
use Rattle.dns_wire.proofs.TextCompressed.{Rest}
use Rattle.dns_wire.proofs.Shown.{name_viewed}
use Rattle.dns_wire.proofs.view.NameView.as_plain.Goals as goal

pub slice_bounds-first-count : goal.slice_bounds-first-count
slice_bounds-first-count c = (name_viewed c.self.inside.message.now c.self.inside.at c.self.invariant).inside

pub slice_bounds-first-start : goal.slice_bounds-first-start
slice_bounds-first-start c = (name_viewed c.self.inside.message.now c.self.inside.at c.self.invariant).inside

pub returns : goal.returns
returns c =
    let m = c.self.inside.message.now in
    let at = c.self.inside.at in
    let name = c.in_ok-name.name in
    let inside = (name_viewed m at c.self.invariant).inside in
    let found = c.in_ok-name.ensures.found in
    let behind = c.in_ok-name.field-0-1.now in
    let whole : take (length m - at) (drop at m) ≡ drop at m = ap (λ n. take n (drop at m)) (sym (length-drop at m)) ∙ take-length (drop at m) in
    let stands : Rest m at (wire name ++ behind) = record { front = take at m; is = sym (take-append-drop at m) ∙ ap (λ xs. take at m ++ xs) (sym whole ∙ found.1); size = length-take-le at m inside } in
    sym (viewed m at name _ (full_back m at name behind found.0 stands)) ∙ c.self.view_is
