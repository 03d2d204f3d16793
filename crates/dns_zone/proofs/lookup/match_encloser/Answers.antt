use Rattle.std.proofs.Common.{◌≤◌, length, sym, ap, subst, ◌∙◌}
use Rattle.dns_names.specs.Name.{Labels, wire, wildcard}
use Rattle.dns_zone.specs.Records.{exists, records_at}
use Rattle.dns_zone.specs.Zone.{Zone}
use Rattle.dns_zone.specs.Node.{cut}
use Rattle.dns_zone.proofs.Enclosers.{encloser_leaves}
use Rattle.dns_zone.proofs.Uncut.{cut_of_encloser}
use Rattle.dns_zone.proofs.lookup.match_encloser.Goals as goal

pub returns-in-Some : goal.returns-in-Some
returns-in-Some c =
    let z : Zone = record { apex = c.args.apex.now; records = c.args.records.now } in
    let found = c.in-Some.ensures.found in
    record {
      cut = cut_of_encloser z c.args.name.now ∙ ap (cut z) (sym c.closest_encloser-above.ensures) ∙ found.cut;
      owned = found.owned;
    }

pub wildcard_near-requires-clause-room : goal.wildcard_near-requires-clause-room
wildcard_near-requires-clause-room c =
    subst (λ (n : Labels). length (wire n) ≤ 253) (sym c.closest_encloser-above.ensures) (encloser_leaves c.args.records.now c.args.name.now c.as_wire-valid.ensures.valid c.requires.absent)

pub returns-in-Some-wildcard_near : goal.returns-in-Some-wildcard_near
returns-in-Some-wildcard_near c =
    let z : Zone = record { apex = c.args.apex.now; records = c.args.records.now } in
    let found = c.in-Some-wildcard_near.ensures.found in
    let above = c.closest_encloser-above.ensures in
    record {
      uncut = cut_of_encloser z c.args.name.now ∙ ap (cut z) (sym above) ∙ c.in_default.ensures.none;
      absent = c.requires.absent;
      above = above;
      there = ap (λ (n : Labels). exists c.args.records.now (wildcard n)) (sym above) ∙ found.0;
      owned = found.1 ∙ ap (λ (n : Labels). records_at c.args.records.now (wildcard n)) above;
    }

pub returns-in-None : goal.returns-in-None
returns-in-None c =
    let z : Zone = record { apex = c.args.apex.now; records = c.args.records.now } in
    let above = c.closest_encloser-above.ensures in
    record {
      uncut = cut_of_encloser z c.args.name.now ∙ ap (cut z) (sym above) ∙ c.in_default.ensures.none;
      absent = c.requires.absent;
      unmatched = ap (λ (n : Labels). exists c.args.records.now (wildcard n)) (sym above) ∙ c.in-None.ensures.none;
    }
