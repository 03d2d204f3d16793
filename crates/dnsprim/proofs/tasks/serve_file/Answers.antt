use Rattle.std.proofs.Common.{refl}
use Rattle.std.proofs.lemmas.Result.{MatchResult-from_err}
use Rattle.dnsprim.proofs.ReadFiles.{read_alone}
use Rattle.dnsprim.proofs.tasks.serve_file.Goals as goal

pub returns-in_err-text : goal.returns-in_err-text
returns-in_err-text g c = (_, c.octets.ensures, MatchResult-from_err c.from_residual.result _ _ c.from_residual.ensures.0 (λ _. refl))

pub returns : goal.returns
returns g c = (_, c.in_ok-text.ensures, (c.file-config.result, read_alone _ _ _ c.file-config.ensures, rw c.is_some.ensures at c.serve.ensures))
