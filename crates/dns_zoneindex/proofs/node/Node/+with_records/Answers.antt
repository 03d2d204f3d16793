use Rattle.std.proofs.Common.{◌≡◌, ◌++◌, map, ap, sym, ◌∙◌, subst}
use Rattle.std.specs.Prelude.{IfSome}
use Rattle.std.specs.Option.{option_copied}
use Rattle.dns_zoneindex.specs.Entries.{here, here_of, flat, own_at, labels_in}
use Rattle.dns_zoneindex.specs.Setting.{set_at}
use Rattle.dns_zoneindex.specs.Children.{items}
use Rattle.dns_zoneindex.specs.Held.{held}
use Rattle.dns_zoneindex.specs.Assoc.{child_of}
use Rattle.dns_zoneindex.proofs.Results.{if_ok}
use Rattle.dns_zoneindex.proofs.Under.{found-label}
use Rattle.dns_zoneindex.proofs.Set.{set-here, set-below}
use Rattle.dns_zoneindex.proofs.node.Node.+with_records.Goals as goal
use Rattle.dns_zoneindex.proofs.node.Node.+with_records.Goals.{in-Some-find+in_ok-child-in-Some-find, in-None-find+in_ok-child-in-None-find}

pub returns-in-None-clause-set : goal.returns-in-None-clause-set
returns-in-None-clause-set t c =
    let own = here_of c.args.self.now.own in
    let rs = held c.args.records in
    let e = set-here c.args.path.now own rs (items c.in_ok-children.children) c.in-None.ensures.cases in
    if_ok c.kept.result (λ o m. m ∙ e ∙ ap (set_at (labels_in c.args.path.now) rs) (sym c.in_ok-children.ensures.own)) c.kept.ensures.set

pub replaced-requires-clause-label : goal.replaced-requires-clause-label
replaced-requires-clause-label t c =
    let l = c.in-Some.label.now.now in
    elim c.match-find.branch [
      | in-Some-find+in_ok-child-in-Some-find w ↦
          (let found = sym c.find.ensures ∙ ap option_copied w.in-Some-find.is in
          let same = found-label l (items c.in_ok-children.children) w.in-Some-find.child.now found in
          subst (λ o. IfSome o (λ x. x.label ≡ l)) (sym w.child-is) (subst (λ m. IfSome w.in_ok-child-in-Some-find.child (λ x. x.label ≡ m)) same w.in_ok-child-in-Some-find.ensures.label))
      | in-None-find+in_ok-child-in-None-find w ↦ subst (λ o. IfSome o (λ x. x.label ≡ l)) (sym w.child-is) w.in_ok-child-in-None-find.ensures.label
    ]

pub returns-in_ok-share_records-in-Some-clause-set : goal.returns-in_ok-share_records-in-Some-clause-set
returns-in_ok-share_records-in-Some-clause-set t c =
    let owned = here_of c.args.self.now.own in
    let l = c.in-Some.label.now.now in
    let rest = c.in-Some.rest.now in
    let rs = held c.args.records in
    let cs = items c.in_ok-children.children in
    let new = c.in_ok-changed-in-Some.changed in
    let own : own_at c.match-find.child ≡ set_at (labels_in rest) rs (own_at (child_of l cs)) = elim c.match-find.branch [
      | in-Some-find+in_ok-child-in-Some-find w ↦ ap own_at w.child-is ∙ w.in_ok-child-in-Some-find.ensures.set ∙ ap (λ x. set_at (labels_in rest) rs (own_at x)) (sym (ap option_copied w.in-Some-find.is) ∙ c.find.ensures)
      | in-None-find+in_ok-child-in-None-find w ↦ ap own_at w.child-is ∙ w.in_ok-child-in-None-find.ensures.set ∙ ap (λ x. set_at (labels_in rest) rs (own_at x)) (sym (ap option_copied w.in-None-find.is) ∙ c.find.ensures)
    ] in
    let e = set-below c.args.path.now c.in-Some.label.now rest owned rs cs (items new) c.match-find.child c.in-Some.ensures.cases.0 c.in_ok-children.ensures.order c.in_ok-changed-in-Some.ensures.set own in
    if_ok c.kept-in-Some.result (λ o m. m ∙ ap (λ z. map here z ++ flat (items new)) c.in_ok-share_records-in-Some.ensures ∙ e ∙ ap (set_at (labels_in c.args.path.now) rs) (sym c.in_ok-children.ensures.own)) c.kept-in-Some.ensures.set
