use Rattle.std.proofs.Common.{sym, ◌∙◌}
use Rattle.dns_answer.specs.Known.{stood}
use Rattle.dns_answer.proofs.UpTo.{no_address}
use Rattle.dns_answer.proofs.sections.Sections.push_for_one.Goals as goal

pub push_new_addresses_of-requires : goal.push_new_addresses_of-requires
push_new_addresses_of-requires g c = λ r address owner. no_address (stood c.args.self.now) r (sym c.have_address.ensures ∙ c.if-have_address.false) address
