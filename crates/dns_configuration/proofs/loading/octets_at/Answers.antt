use Rattle.std.proofs.Common.{List, refl, sym, ap, ◌∙◌, arith}
use Rattle.std.proofs.lemmas.List.{drop_all}
use Rattle.dns_configuration.specs.declared.files.File.{File}
use Rattle.dns_configuration.specs.Files.{octets_at}
use Rattle.dns_configuration.proofs.Loaded.{file_behind, file_here}
use Rattle.dns_configuration.proofs.loading.octets_at.Goals as goal

pub loop-file-init : goal.loop-file-init
loop-file-init c = refl

pub returns-then-eq : goal.returns-then-eq
returns-then-eq c = sym (file_here c.args.files.now c.args.path.now c.loop-file.file-index _ c.loop-file-test.true (sym c.if-eq.ensures)) ∙ c.loop-file.invariant

pub loop-file-preserved : goal.loop-file-preserved
loop-file-preserved c = sym (file_behind c.args.files.now c.args.path.now c.loop-file.file-index _ c.loop-file-test.true (sym c.if-eq.ensures)) ∙ c.loop-file.invariant

pub returns : goal.returns
returns c = ap (λ (fs : List File). octets_at fs c.args.path.now) (sym (drop_all c.loop-file.file-index c.args.files.now (omega arith))) ∙ c.loop-file.invariant
