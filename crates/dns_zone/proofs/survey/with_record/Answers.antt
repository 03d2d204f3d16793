use Rattle.std.proofs.Common.{◌+◌, length, sym, ap, ◌∙◌}
use Rattle.std.specs.Prelude.{nat_lt, ◌&&◌, ◌||◌, ◌==◌}
use Rattle.std.specs.List.{list_all, list_any}
use Rattle.dns_names.specs.Name.{under}
use Rattle.dns_zone.specs.Zone.{soas}
use Rattle.dns_zone.specs.Survey.{is_shared_alias, is_wildcard_ns}
use Rattle.dns_zone.specs.Ancestry.{tied_under}
use Rattle.dns_zone.proofs.Surveying.{capped, soas_step, and_assoc, or_assoc}
use Rattle.dns_zone.proofs.survey.with_record.Goals as goal

pub returns : goal.returns
returns c = λ records rest shared h.
    let r = c.args.r.now in
    let s = c.args.survey in
    let apex = c.args.apex.now in
    let stands = tied_under c.is_under-stands_under.result c.lend.result apex c.is_under-stands_under.ensures.0 c.is_under-stands_under.ensures.1 ∙ ap (λ a. under a apex) (c.lend.ensures ∙ c.owner.ensures) in
    let all = list_all (λ q. under q.owner apex) rest in
    record {
      soas_of = ap (λ n. nat_lt 1 (n + length (soas rest))) c.soas_with.ensures ∙ soas_step (r.rtype == 6) s.soas r (soas rest) ∙ h.soas_of;
      inside_of = ap (λ b. (s.inside && b) && all) stands ∙ and_assoc s.inside (under r.owner apex) all ∙ h.inside_of;
      shared_of = ap (λ b. (s.shared_alias || b) || list_any (is_shared_alias records) rest) shared ∙ or_assoc s.shared_alias (is_shared_alias records r) (list_any (is_shared_alias records) rest) ∙ h.shared_of;
      wildcard_of = ap (λ b. (s.wildcard_ns || b) || list_any is_wildcard_ns rest) c.is_wildcard_ns.ensures ∙ or_assoc s.wildcard_ns (is_wildcard_ns r) (list_any is_wildcard_ns rest) ∙ h.wildcard_of;
      count_of = ap (λ n. nat_lt 65536 (n + 1 + length rest)) c.min.ensures ∙ sym (capped 65536 s.count (length rest)) ∙ h.count_of;
    }
