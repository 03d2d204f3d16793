use Rattle.std.proofs.Common.{◌≡◌, ◌++◌, ◌∷◌, List, ℕ, OnOk, subst, codes}
use Rattle.std.specs.Io.KnownBytes.{Appends}
use Rattle.dns_commands.specs.Compare.{change_lines, signed_lines}
use Rattle.dns_commands.proofs.Compared.{appends_on}
use Rattle.dns_commands.proofs.commands.compare.print_change.Goals as goal

pub returns : goal.returns
returns g c =
    let change = c.args.change.now in
    let goes = signed_lines (codes "-") (c.old_soa.result.now ∷ c.removed.result.now) in
    let comes = signed_lines (codes "+") (c.new_soa.result.now ∷ c.added.result.now) in
    let text : goes ++ comes ≡ change_lines change =
    λ i. signed_lines (codes "-") (c.old_soa.ensures i ∷ c.removed.ensures.records i) ++ signed_lines (codes "+") (c.new_soa.ensures i ∷ c.added.ensures.records i) in
    subst (λ (t : List ℕ). OnOk c.print_side-2.result (Appends (g.W.Write.contents c.args.out.now) (g.W.Write.contents c.print_side-2.new.out) t)) text
    (appends_on (g.W.Write.contents c.args.out.now) (g.W.Write.contents c.print_side.new.out) (g.W.Write.contents c.print_side-2.new.out) goes comes c.print_side-2.result c.in_ok-print_side.ensures c.print_side-2.ensures)
