use Rattle.std.proofs.Common.{◌≡◌, false, List, sym, subst, ◌∙◌}
use Rattle.dns_records.specs.Record.{Record}
use Rattle.dns_answer.specs.Added.{AddsUpTo}
use Rattle.dns_answer.proofs.UpTo.{no_hosts, up_to_none}
use Rattle.dns_answer.proofs.sections.Sections.push_addresses.Goals as goal

pub returns-then-not-have_host : goal.returns-then-not-have_host
returns-then-not-have_host g c =
    let none : c.have_host.result ≡ false = cc in
    subst (λ (rs : List Record). AddsUpTo c.args.most c.args.self.now c.args.self.now rs) (sym (no_hosts c.args.zone.now c.args.records.now (sym c.have_host.ensures ∙ none))) (up_to_none c.args.most c.args.self.now)
