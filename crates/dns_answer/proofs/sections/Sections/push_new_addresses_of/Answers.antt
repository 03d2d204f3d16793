use Rattle.std.proofs.Common.{◌++◌, List, ap, subst, ◌∙◌}
use Rattle.std.proofs.lemmas.Result.{IfOk-weaker}
use Rattle.dns_records.specs.Record.{Record}
use Rattle.dns_zone.specs.Records.{records_at}
use Rattle.dns_answer.specs.Added.{AddsUpTo}
use Rattle.dns_answer.specs.Known.{none_stands, stood}
use Rattle.dns_answer.proofs.UpTo.{first_new, second_new, up_to_then}
use Rattle.dns_answer.proofs.sections.Sections.push_new_addresses_of.Goals as goal

pub push_new-requires : goal.push_new-requires
push_new-requires g c =
    let records = c.args.zone.now.records in
    let host = c.args.host.now in
    let ordered = c.apex-ordered.ensures.valid.ordered in
    let owned = c.records_at-owned.ensures ∙ ap (λ rs. records_at rs host) c.index.ensures in
    ap (none_stands (stood c.args.self.now)) (c.of_type.ensures records host ordered owned) ∙ first_new c.args.self.now records host ordered c.requires

pub push_new-requires-2 : goal.push_new-requires-2
push_new-requires-2 g c =
    let records = c.args.zone.now.records in
    let host = c.args.host.now in
    let ordered = c.apex-ordered.ensures.valid.ordered in
    let owned = c.records_at-owned.ensures ∙ ap (λ rs. records_at rs host) c.index.ensures in
    let first = c.of_type.ensures records host ordered owned in
    let added = subst (λ (rs : List Record). AddsUpTo c.args.most c.args.self.now c.push_new.new.self rs) first c.in_ok-push_new.ensures in
    ap (none_stands (stood c.push_new.new.self)) (c.of_type-2.ensures records host ordered owned)
    ∙ second_new c.args.most c.args.self.now c.push_new.new.self records host ordered c.requires added

pub returns : goal.returns
returns g c = IfOk-weaker c.push_new-2.result _ _ (λ done two.
    let records = c.args.zone.now.records in
    let host = c.args.host.now in
    let ordered = c.apex-ordered.ensures.valid.ordered in
    let owned = c.records_at-owned.ensures ∙ ap (λ rs. records_at rs host) c.index.ensures in
    let first = c.of_type.ensures records host ordered owned in
    let second = c.of_type-2.ensures records host ordered owned in
    let both = up_to_then c.args.most c.args.self.now c.push_new.new.self c.push_new-2.new.self c.of_type.result.now c.of_type-2.result.now c.in_ok-push_new.ensures two in
    subst (λ (rs : List Record). AddsUpTo c.args.most c.args.self.now c.push_new-2.new.self rs) (λ i. first i ++ second i) both) c.push_new-2.ensures
