use Rattle.std.proofs.Common.{sym, ap, ◌∙◌}
use Rattle.std.specs.Option.{option_copied}
use Rattle.dns_zone.specs.Records.{put}
use Rattle.dns_zone.specs.Sets.{sorted_from}
use Rattle.dns_update.proofs.Listing.{nothing_listed, step_some, step_none}
use Rattle.dns_update.proofs.prerequisites.listed_set.Goals as goal
use Rattle.dns_update.proofs.prerequisites.listed_set.Goals.{in-Some+in_ok-clone+in_ok-insert, in_default}

pub loop-item-init : goal.loop-item-init
loop-item-init g c = c.in_ok-set.ensures ∙ sym (nothing_listed (g.I.ZoneIndex.records c.args.index.now))

pub loop-item-preserved : goal.loop-item-preserved
loop-item-preserved g c =
    let xs = g.I.ZoneIndex.records c.args.index.now in
    let set = g.L.ZoneIndex.records c.loop-item.set in
    let next = g.L.ZoneIndex.records c.match-listed_record.set in
    let items = c.args.items.now in
    let i = c.loop-item.item-index in
    let item = c.item-item.result in
    elim c.match-listed_record.branch [
      | in-Some+in_ok-clone+in_ok-insert w ↦
          let found = sym (ap option_copied w.in-Some.is) ∙ c.listed_record.ensures in
          let put_in = ap g.L.ZoneIndex.records w.set-is ∙ w.in_ok-insert.ensures.ok ∙ ap (λ r. put r set) w.in_ok-clone.ensures.cases in
          step_some xs set next items i item w.in-Some.record.now (sorted_from xs (g.met.I.ZoneIndex.ordered c.args.index.now)) c.loop-item-test.true c.item-item.is found c.loop-item.invariant put_in
      | in_default w ↦
          let none = sym (ap option_copied w.in_default.is) ∙ c.listed_record.ensures in
          ap g.L.ZoneIndex.records w.set-is ∙ step_none xs set items i item c.loop-item-test.true c.item-item.is none c.loop-item.invariant
    ]
