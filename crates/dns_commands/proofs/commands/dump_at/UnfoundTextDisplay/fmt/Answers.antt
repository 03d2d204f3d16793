use Rattle.std.proofs.Common.{Bool, sym, subst}
use Rattle.std.specs.Fmt.{HasWritten}
use Rattle.dns_commands.specs.DumpAt.{unfound_text}
use Rattle.dns_commands.proofs.commands.dump_at.UnfoundTextDisplay.fmt.Goals as goal

pub returns-then-self-clause-writes : goal.returns-then-self-clause-writes
returns-then-self-clause-writes g c plain ok =
    subst (λ (b : Bool). HasWritten g.W.Write.write_str_gives c.args.f.now (unfound_text c.args.self.now.serial b) c.write.new.self) (sym c.if-self.true) (c.write.ensures.writes plain ok)

pub returns-else-self-clause-writes : goal.returns-else-self-clause-writes
returns-else-self-clause-writes g c plain ok =
    subst (λ (b : Bool). HasWritten g.W.Write.write_str_gives c.args.f.now (unfound_text c.args.self.now.serial b) c.write-else-self.new.self) (sym c.if-self.false) (c.write-else-self.ensures.writes plain ok)
