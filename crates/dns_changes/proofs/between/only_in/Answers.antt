use Rattle.std.proofs.Common.{◌≡◌, ◌++◌, true, List, sym, ap, subst, ◌∙◌}
use Rattle.std.specs.List.{flat_map}
use Rattle.dns_records.specs.Record.{Record}
use Rattle.dns_zone.specs.Records.{is_ordered, records_at}
use Rattle.dns_zone.specs.Sets.{sorted_from}
use Rattle.dns_changes.specs.Change.{only_in}
use Rattle.dns_zone.proofs.Replaced.{at_ordered}
use Rattle.dns_changes.proofs.Touched.{lone_of, only_by_name, pieces_next, pieces_end}
use Rattle.dns_changes.proofs.between.only_in.Goals as goal

pub loop-name-init : goal.loop-name-init
loop-name-init g c =
    let set = g.I.ZoneIndex.records c.args.set.now in
    let other = g.I.ZoneIndex.records c.args.other.now in
    ap (λ (rs : List Record). rs ++ flat_map (lone_of set other) c.args.names.now) c.new-lone.ensures.items
    ∙ sym (only_by_name c.args.names.now set other c.requires (sorted_from set (g.met.I.ZoneIndex.ordered c.args.set.now)))

pub push_lone-requires : goal.push_lone-requires
push_lone-requires g c =
    let other = g.I.ZoneIndex.records c.args.other.now in
    subst (λ (rs : List Record). is_ordered rs ≡ true) (sym c.records_at-in-loop-name.ensures) (at_ordered other c.lend-name.result (g.met.I.ZoneIndex.ordered c.args.other.now))

pub loop-name-preserved : goal.loop-name-preserved
loop-name-preserved g c =
    let set = g.I.ZoneIndex.records c.args.set.now in
    let other = g.I.ZoneIndex.records c.args.other.now in
    let mine = c.records_at.ensures ∙ ap (records_at set) c.lend-name.ensures in
    let others = c.records_at-in-loop-name.ensures ∙ ap (records_at other) c.lend-name.ensures in
    let pushed = c.in_ok-push_lone.ensures ∙ (λ i. c.loop-name.lone.items ++ only_in (mine i) (others i)) in
    pieces_next (lone_of set other) c.args.names.now c.loop-name.name-index c.name-item.result c.loop-name.lone.items c.push_lone.new.lone.items (only_in set other) c.loop-name-test.true c.name-item.is pushed c.loop-name.invariant

pub returns : goal.returns
returns g c =
    let set = g.I.ZoneIndex.records c.args.set.now in
    let other = g.I.ZoneIndex.records c.args.other.now in
    pieces_end (lone_of set other) c.args.names.now c.loop-name.name-index c.loop-name.lone.items (only_in set other) c.loop-name-test.false c.loop-name.invariant
