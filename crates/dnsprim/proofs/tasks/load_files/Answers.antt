use Rattle.std.proofs.Common.{refl}
use Rattle.std.proofs.lemmas.Result.{MatchResult-from_err}
use Rattle.dns_configuration.proofs.Called.{called_on}
use Rattle.dnsprim.proofs.ReadFiles.{all_but_kept, all_read, none_read, some_read}
use Rattle.dnsprim.proofs.tasks.load_files.Goals as goal

pub returns-in_err-text : goal.returns-in_err-text
returns-in_err-text g c = (_, c.octets.ensures, MatchResult-from_err c.from_residual.result _ _ c.from_residual.ensures.0 (λ _. none_read _ _))

pub returns-in_err-texts : goal.returns-in_err-texts
returns-in_err-texts g c =
    let read = c.in_err-texts.ensures in
    (_, called_on _ _ _ _ _ c.in_ok-text.ensures read.1, MatchResult-from_err c.from_residual-in_err-texts.result _ _ c.from_residual-in_err-texts.ensures.0 (λ _. some_read _ _ c.file-config.result read.0 c.file-config.ensures read.2))

pub returns-in_err-files : goal.returns-in_err-files
returns-in_err-files g c =
    let read = c.in_ok-texts.ensures in (
      _,
      called_on _ _ _ _ _ c.in_ok-text.ensures read.1,
      MatchResult-from_err c.from_residual-in_err-files.result _ _ c.from_residual-in_err-files.ensures.0
          (λ _. all_but_kept _ _ c.file-config.result read.0 c.in_ok-texts.texts.items c.file-config.ensures read.2),
    )

pub returns : goal.returns
returns g c =
    let read = c.in_ok-texts.ensures in (
      _,
      called_on _ _ _ _ _ c.in_ok-text.ensures read.1,
      (
        c.file-config.result,
        c.deref-2.result.now,
        all_read _ _ c.file-config.result _ _ read.0 c.in_ok-texts.texts.items _ c.file-config.ensures c.in_ok-files.ensures c.deref-2.ensures.value c.deref.ensures.value read.2,
        c.load_by.ensures,
      ),
    )
