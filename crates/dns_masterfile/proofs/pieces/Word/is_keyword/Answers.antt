use Rattle.dns_masterfile.proofs.Numbers.{same_letters}
use Rattle.dns_masterfile.specs.Data.{is_keyword}
use Rattle.dns_masterfile.specs.Scan.{stated_word}
use Rattle.std.proofs.Common.{◌∙◌, sym, ap}
use Rattle.dns_masterfile.proofs.pieces.Word.is_keyword.Goals as goal

pub returns-in-Bare : goal.returns-in-Bare
returns-in-Bare c =
    same_letters c.in-Bare.text.now c.args.keyword.now c.eq_ignore_ascii_case.result c.requires c.eq_ignore_ascii_case.ensures.test
    ∙ ap (λ w. is_keyword c.args.keyword.now (stated_word w)) (sym c.in-Bare.is)
