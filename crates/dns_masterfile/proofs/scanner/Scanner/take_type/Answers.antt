use Rattle.dns_masterfile.specs.Scan.{stated_word}
use Rattle.dns_masterfile.proofs.TypeWords.{type_taken}
use Rattle.dns_masterfile.proofs.scanner.Scanner.take_type.Goals as goal

pub returns-clause-rtype : goal.returns-clause-rtype
returns-clause-rtype c = type_taken (stated_word c.in_ok-word.word) c.rtype.result _ c.ok_or.result c.ok_or.ensures.value c.rtype.ensures
