use Rattle.std.proofs.Common.{◌≡◌, true, List, sym, ap, subst, ◌∙◌}
use Rattle.dns_records.specs.Record.{Record}
use Rattle.dns_zone.specs.Records.{are_of, is_ordered, others, united}
use Rattle.dns_zone.proofs.Replaced.{at_ordered, at_pass}
use Rattle.dns_update.specs.Effect.{effects}
use Rattle.dns_update.proofs.AtOwner.{run_is}
use Rattle.dns_update.proofs.Found.{done_at}
use Rattle.dns_update.proofs.effect.take_run.Goals as goal

pub take_owned-requires-clause-order : goal.take_owned-requires-clause-order
take_owned-requires-clause-order g c =
    let set = c.args.set.now in
    subst (λ (xs : List Record). is_ordered xs ≡ true) (sym c.in_ok-owned.ensures) (at_ordered (g.I.ZoneIndex.records set) c.args.name.now (g.met.I.ZoneIndex.ordered set))

pub take_owned-requires-clause-owned : goal.take_owned-requires-clause-owned
take_owned-requires-clause-owned g c =
    let name = c.args.name.now in
    subst (λ (xs : List Record). are_of name xs ≡ true) (sym c.in_ok-owned.ensures) (at_pass name (g.I.ZoneIndex.records c.args.set.now))

pub returns : goal.returns
returns g c =
    let set = c.args.set.now in
    let xs = g.I.ZoneIndex.records set in
    let name = c.args.name.now in
    let apex = c.args.apex.now in
    let items = c.args.items.now in
    let is = c.in_ok-left.ensures.done ∙ ap (λ (rs : List Record). effects apex rs items) c.in_ok-owned.ensures in
    done_at c.put_back.result (g.I.ZoneIndex.records c.put_back.new.set) (united (others xs name) c.in_ok-left.left.items) (effects apex xs items) c.put_back.ensures
    (ap (λ (rs : List Record). united (others xs name) rs) is ∙ run_is apex name items xs (g.met.I.ZoneIndex.ordered set) c.requires.named)
