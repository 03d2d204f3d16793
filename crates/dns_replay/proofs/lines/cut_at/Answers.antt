use Rattle.std.proofs.Common.{ℕ, ◌==◌}
use Rattle.std.specs.Option.{option_copied}
use Rattle.dns_replay.proofs.Words.{cut_pieces, less_room}
use Rattle.dns_replay.proofs.lines.cut_at.Goals as goal

pub returns-clause-pieces : goal.returns-clause-pieces
returns-clause-pieces c = cut_pieces (λ (x : ℕ). x == c.args.octet) c.args.text.now c.parted_at.result.0.now (option_copied c.parted_at.result.1) c.parted_at.ensures

pub returns-clause-less : goal.returns-clause-less
returns-clause-less c = less_room (λ (x : ℕ). x == c.args.octet) c.args.text.now c.parted_at.result.0.now (option_copied c.parted_at.result.1) c.parted_at.ensures
