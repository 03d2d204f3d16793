use Rattle.dns_names.proofs.ReadsBack.{printed_read}
use Rattle.dns_names.proofs.name.Name.from_text.Goals as goal

pub returns-clause-printed : goal.returns-clause-printed
returns-clause-printed c = λ name valid e. printed_read c.args.origin.now name c.args.text.now c.of_text.result c.of_text.ensures valid e
