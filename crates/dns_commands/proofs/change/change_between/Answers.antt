use Rattle.std.proofs.Common.{◌<◌, ◌^◌, ◌∷◌, [], List, length, sym, subst, ap, ◌∙◌}
use Rattle.dns_records.specs.Record.{Record}
use Rattle.dns_changes.proofs.Formed.{formed}
use Rattle.dns_commands.proofs.Changed.{few_lone, zone_few}
use Rattle.dns_commands.proofs.change.change_between.Goals as goal

pub new-requires-clause-few : goal.new-requires-clause-few
new-requires-clause-few g c =
    let before = c.args.before.now in
    let after = c.args.after.now in
    record {
      going = subst (λ (rs : List Record). length rs < 2 ^ 32) (sym c.in_ok-removed.ensures) (few_lone before.records after.records (zone_few before.apex before.records c.apex-valid.ensures.valid.valid));
      coming = subst (λ (rs : List Record). length rs < 2 ^ 32) (sym c.in_ok-added.ensures) (few_lone after.records before.records (zone_few after.apex after.records c.apex-also.ensures.valid.valid));
    }

pub new-requires-clause-formed : goal.new-requires-clause-formed
new-requires-clause-formed g c =
    formed c.args.before.now.records c.args.after.now.records c.in_ok-old_soa.old_soa c.in_ok-new_soa.new_soa c.in_ok-removed.removed.items c.in_ok-added.added.items
    c.apex-valid.ensures.valid.ordered c.apex-also.ensures.valid.ordered
    (c.soa.ensures.one ∙ ap (λ (s : Record). s ∷ []) (sym c.in_ok-old_soa.ensures.cases))
    (c.soa-2.ensures.one ∙ ap (λ (s : Record). s ∷ []) (sym c.in_ok-new_soa.ensures.cases))
    c.in_ok-removed.ensures c.in_ok-added.ensures
