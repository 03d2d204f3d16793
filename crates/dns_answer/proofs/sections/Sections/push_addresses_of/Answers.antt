use Rattle.std.proofs.Common.{◌++◌, List, ap, subst, ◌∙◌}
use Rattle.dns_records.specs.Record.{Record}
use Rattle.dns_zone.specs.Records.{records_at}
use Rattle.dns_answer.specs.Added.{AddsUpTo}
use Rattle.dns_answer.proofs.UpTo.{up_to_then}
use Rattle.std.proofs.lemmas.Result.{IfOk-weaker}
use Rattle.dns_answer.proofs.sections.Sections.push_addresses_of.Goals as goal

pub returns : goal.returns
returns g c = IfOk-weaker c.push_records-2.result _ _ (λ done two.
    let records = c.args.zone.now.records in
    let host = c.args.host.now in
    let ordered = c.apex-ordered.ensures.valid.ordered in
    let owned = c.records_at-owned.ensures ∙ ap (λ rs. records_at rs host) c.index.ensures in
    let first = c.of_type.ensures records host ordered owned in
    let second = c.of_type-2.ensures records host ordered owned in
    let both = up_to_then c.args.most c.args.self.now c.push_records.new.self c.push_records-2.new.self c.of_type.result.now c.of_type-2.result.now c.in_ok-push_records.ensures two in
    subst (λ (rs : List Record). AddsUpTo c.args.most c.args.self.now c.push_records-2.new.self rs) (λ i. first i ++ second i) both) c.push_records-2.ensures
