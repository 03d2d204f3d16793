use Rattle.std.proofs.Common.{◌≡◌, true, false, sym, ap, subst, ◌∙◌}
use Rattle.std.specs.Prelude.{Option, Some, None, IfSome, IfNone}
use Rattle.dns_names.specs.Name.{Labels}
use Rattle.dns_zone.specs.Records.{records_at}
use Rattle.dns_zone.specs.Zone.{Zone}
use Rattle.dns_zone.specs.Node.{cut, cuts_at, EndsAtCut}
use Rattle.dns_zone.proofs.Cuts.{or_else, name_kept, up_kept}
use Rattle.dns_zone.proofs.Uncut.{cuts_below, uncut_outside}
use Rattle.dns_zone.proofs.lookup.shortest_cut.Goals as goal
use Rattle.dns_zone.proofs.lookup.shortest_cut.Goals.{then-has_servers, else-has_servers}

pub ancestors-preserved : goal.ancestors-preserved
ancestors-preserved c =
    let z : Zone = record { apex = c.args.apex.now; records = c.args.records.now } in
    let here = c.ancestors.here in
    let cuts = cuts_below z here c.has_servers.result (sym c.is_below.ensures ∙ c.ancestors-test.true) (c.has_servers.ensures c.args.records.now here c.requires c.records_near-owned.ensures) in
    elim c.if-has_servers.branch [
      | then-has_servers w ↦ record {
        chosen = c.ancestors.invariant.chosen ∙ up_kept (cuts_at z) here c.in-Some.next true (name_kept c.ancestors.shortest) (name_kept c.if-has_servers.shortest) c.in-Some.ensures (sym w.if-has_servers.true ∙ cuts) (ap name_kept w.shortest-is);
        owned = subst (λ o. IfSome o (λ p. p.1.now ≡ records_at c.args.records.now p.0)) (sym w.shortest-is) c.records_near-owned.ensures;
      }
      | else-has_servers w ↦ record {
        chosen = c.ancestors.invariant.chosen ∙ up_kept (cuts_at z) here c.in-Some.next false (name_kept c.ancestors.shortest) (name_kept c.if-has_servers.shortest) c.in-Some.ensures (sym w.if-has_servers.false ∙ cuts) (ap name_kept w.shortest-is);
        owned = subst (λ o. IfSome o (λ p. p.1.now ≡ records_at c.args.records.now p.0)) (sym w.shortest-is) c.ancestors.invariant.owned;
      }
    ]

pub returns-clause-found : goal.returns-clause-found
returns-clause-found c =
    let z : Zone = record { apex = c.args.apex.now; records = c.args.records.now } in
    let here = c.ancestors.here in
    let none = uncut_outside z here (sym c.is_below.ensures ∙ c.ancestors-test.false) in
    elim (c.ancestors.shortest) as (λ o. cut z c.args.name.now ≡ or_else (cut z here) (name_kept o) → IfSome o (λ p. p.1.now ≡ records_at c.args.records.now p.0) → IfSome o (λ found. EndsAtCut z c.args.name.now found.0 found.1.now)) [
      | Some p ↦ λ e f. record { cut = e ∙ ap (λ (x : Option Labels). or_else x (Some p.0)) none; owned = f }
      | None ↦ λ e f. tt
    ] c.ancestors.invariant.chosen c.ancestors.invariant.owned

pub returns-clause-none : goal.returns-clause-none
returns-clause-none c =
    let z : Zone = record { apex = c.args.apex.now; records = c.args.records.now } in
    let here = c.ancestors.here in
    let none = uncut_outside z here (sym c.is_below.ensures ∙ c.ancestors-test.false) in
    elim (c.ancestors.shortest) as (λ o. cut z c.args.name.now ≡ or_else (cut z here) (name_kept o) → IfNone o (cut z c.args.name.now ≡ None)) [
      | Some p ↦ λ e. tt
      | None ↦ λ e. e ∙ ap (λ (x : Option Labels). or_else x None) none
    ] c.ancestors.invariant.chosen
