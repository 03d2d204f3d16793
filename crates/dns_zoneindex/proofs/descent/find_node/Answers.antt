use Rattle.std.proofs.Common.{◌≡◌, true, false, ◌-◌, [], drop, refl, sym, subst, ◌∙◌, arith}
use Rattle.dns_zone.specs.Node.{cuts_at}
use Rattle.dns_zoneindex.specs.Owned.{path_records}
use Rattle.dns_zoneindex.specs.Reach.{zone_of_entries, LeadsIn}
use Rattle.dns_zoneindex.proofs.Down.{down}
use Rattle.dns_zoneindex.proofs.Owned.{owned_from}
use Rattle.dns_zoneindex.proofs.Reaching.{owned, to_cut, to_there, to_above, cut_below, above_below, end_name}
use Rattle.dns_zoneindex.proofs.Starts.{above_is, from_start, label_left}
use Rattle.dns_zoneindex.proofs.descent.find_node.Goals as goal

pub bounds-starts-left : goal.bounds-starts-left
bounds-starts-left c = omega (arith, c.labels.invariant.0, c.starts_of-left.ensures.count, c.starts_of-left.ensures.few)

pub name_from-here-requires : goal.name_from-here-requires
name_from-here-requires c =
    let starts = c.starts_of-left in
    (from_start c.args.name.now starts.new.starts starts.result c.labels.left starts.ensures.starts starts.ensures.count c.labels.invariant.0 c.labels-test.true).1

pub returns-in_default : goal.returns-in_default
returns-in_default c =
    let name = c.args.name.now in
    let k = c.labels.left - 1 in
    let starts = c.starts_of-left in
    let is = c.name_from-here.ensures ∙ (from_start name starts.new.starts starts.result c.labels.left starts.ensures.starts starts.ensures.count c.labels.invariant.0 c.labels-test.true).0 in
    absurd (label_left k name (omega (arith, c.labels.invariant.0, c.labels-test.true)) (sym is ∙ c.in_default.ensures.none))

pub returns-in_default-child : goal.returns-in_default-child
returns-in_default-child c =
    let apex = c.args.apex.now in
    let es = c.args.root.now.own in
    let name = c.args.name.now in
    let k = c.labels.left - 1 in
    let starts = c.starts_of-left in
    let here = c.name_from-here.result in
    let is : here ≡ drop k name = c.name_from-here.ensures ∙ (from_start name starts.new.starts starts.result c.labels.left starts.ensures.starts starts.ensures.count c.labels.invariant.0 c.labels-test.true).0 in
    let l = c.in-Some.label.now in
    let above = c.in-Some.above in
    let own = c.labels.node.now.own in
    let led : LeadsIn apex es above own = subst (λ n. LeadsIn apex es n own) (above_is name here above l c.labels.left c.labels-test.true is c.in-Some.ensures.found) c.labels.invariant.1 in
    c.under_wildcard.ensures apex es name c.requires.owned
    (above_below apex es k name here above own is
    (to_above apex es here above l own [] (owned_from es c.requires.owned) c.in-Some.ensures.found led c.in_default-child.ensures.kept c.in_default-child.ensures.found refl))

pub returns-then-is_cut : goal.returns-then-is_cut
returns-then-is_cut c =
    let apex = c.args.apex.now in
    let es = c.args.root.now.own in
    let name = c.args.name.now in
    let k = c.labels.left - 1 in
    let starts = c.starts_of-left in
    let here = c.name_from-here.result in
    let is : here ≡ drop k name = c.name_from-here.ensures ∙ (from_start name starts.new.starts starts.result c.labels.left starts.ensures.starts starts.ensures.count c.labels.invariant.0 c.labels-test.true).0 in
    let l = c.in-Some.label.now in
    let above = c.in-Some.above in
    let own = c.labels.node.now.own in
    let led : LeadsIn apex es above own = subst (λ n. LeadsIn apex es n own) (above_is name here above l c.labels.left c.labels-test.true is c.in-Some.ensures.found) c.labels.invariant.1 in
    let child = c.in-Some-child.child.now.own in
    let rs = c.records-owned.result.now in
    let child_is = down here above l es own child c.in-Some.ensures.found led.own_is c.in-Some-child.ensures.found in
    let held = owned here es child rs (owned_from es c.requires.owned) child_is c.records-owned.ensures.own in
    let cuts : cuts_at (zone_of_entries apex es) here ≡ true = sym (c.is_cut.ensures (path_records es) c.requires.order held) ∙ c.if-is_cut.true in
    cut_below apex es k name here here rs is (to_cut apex es here above l own rs c.in-Some.ensures.found led held cuts)

pub labels-preserved : goal.labels-preserved
labels-preserved c =
    let apex = c.args.apex.now in
    let es = c.args.root.now.own in
    let name = c.args.name.now in
    let k = c.labels.left - 1 in
    let starts = c.starts_of-left in
    let here = c.name_from-here.result in
    let is : here ≡ drop k name = c.name_from-here.ensures ∙ (from_start name starts.new.starts starts.result c.labels.left starts.ensures.starts starts.ensures.count c.labels.invariant.0 c.labels-test.true).0 in
    let l = c.in-Some.label.now in
    let above = c.in-Some.above in
    let own = c.labels.node.now.own in
    let led : LeadsIn apex es above own = subst (λ n. LeadsIn apex es n own) (above_is name here above l c.labels.left c.labels-test.true is c.in-Some.ensures.found) c.labels.invariant.1 in
    let child = c.in-Some-child.child.now.own in
    let rs = c.records-owned.result.now in
    let child_is = down here above l es own child c.in-Some.ensures.found led.own_is c.in-Some-child.ensures.found in
    let held = owned here es child rs (owned_from es c.requires.owned) child_is c.records-owned.ensures.own in
    let cuts : cuts_at (zone_of_entries apex es) here ≡ false = sym (c.is_cut.ensures (path_records es) c.requires.order held) ∙ c.if-is_cut.false in
    (omega (arith, c.labels.invariant.0), subst (λ n. LeadsIn apex es n child) is (to_there apex es here above l own child c.in-Some.ensures.found led child_is cuts))

pub returns : goal.returns
returns c =
    let es = c.args.root.now.own in
    let name = c.args.name.now in
    let own = c.labels.node.now.own in
    let none : c.labels.left ≡ 0 = omega (arith, c.labels-test.false) in
    let led : LeadsIn c.args.apex.now es name own = subst (λ n. LeadsIn c.args.apex.now es (drop n name) own) none c.labels.invariant.1 in
    end_name c.args.apex.now es name own c.records.result.now (owned_from es c.requires.owned) led c.records.ensures.kept c.records.ensures.own
