use Rattle.std.proofs.Common.{List, ℕ, ◌∷◌, sym, ap, ◌∙◌}
use Rattle.std.specs.Option.{option_copied}
use Rattle.dns_replay.specs.Lines.{lines_left}
use Rattle.dns_replay.proofs.Words.{lines_of_pieces}
use Rattle.dns_replay.proofs.lines.split_line.Goals as goal

pub returns-clause-line : goal.returns-clause-line
returns-clause-line c =
    let pending = option_copied c.cut_at.result.1 in
    lines_of_pieces c.args.script.now c.cut_at.result.0.now pending c.cut_at.ensures.pieces ∙ ap (λ (line : List ℕ). line ∷ lines_left pending) (sym c.without_return.ensures)
