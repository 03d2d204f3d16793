use Rattle.std.specs.Prelude.{◌≡◌, Some, None, IfSome, IfNone}
use Rattle.dns_zone.specs.Zone.{Zone}
use Rattle.dns_zone.specs.Node.{cut, EndsAtCut}
use Rattle.dns_zone.specs.Uncut.{EndsAtMost}
use Rattle.dns_zone.proofs.Uncut.{up_found, up_none, at_most}
use Rattle.dns_zone.proofs.lookup.cut_above.Goals as goal

pub returns-in-Some : goal.returns-in-Some
returns-in-Some c =
    let z : Zone = record { apex = c.args.apex.now; records = c.args.records.now } in
    let name = c.args.name.now in
    let above = c.in-Some.above in
    record {
      found = elim (c.shortest_cut.result) as (λ o. IfSome o (λ f. EndsAtCut z above f.0 f.1.now) → IfSome o (λ f. EndsAtCut z name f.0 f.1.now)) [
        | Some p ↦ λ h. record { cut = up_found z name above p.0 c.in-Some.ensures h.cut; owned = h.owned }
        | None ↦ λ h. tt
      ] c.shortest_cut.ensures.found;
      none = elim (c.shortest_cut.result) as (λ o. IfNone o (cut z above ≡ None) → IfNone o (EndsAtMost z name)) [
        | Some p ↦ λ h. tt
        | None ↦ λ h. up_none z name above c.in-Some.ensures h
      ] c.shortest_cut.ensures.none;
    }

pub returns-in-None : goal.returns-in-None
returns-in-None c =
    let z : Zone = record { apex = c.args.apex.now; records = c.args.records.now } in
    record { found = tt; none = at_most z c.args.name.now c.in-None.ensures }
