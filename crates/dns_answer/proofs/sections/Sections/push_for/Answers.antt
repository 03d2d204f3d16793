use Rattle.std.proofs.Common.{◌≡◌, ◌<◌, Bool, true, false, List, refl, sym, ap, subst, ◌∙◌}
use Rattle.std.specs.Prelude.{Some, not}
use Rattle.std.specs.List.{list_any}
use Rattle.std.proofs.lemmas.Result.{IfOk-weaker}
use Rattle.dns_names.specs.Name.{Labels, names_eq}
use Rattle.dns_records.specs.Record.{Record, host_of}
use Rattle.dns_answer.specs.Added.{AddsUpTo, record_count}
use Rattle.dns_answer.proofs.Adding.{at_host}
use Rattle.dns_answer.proofs.UpTo.{adds_known, hosts_more, hosts_same, up_to_all, IsPutIn}
use Rattle.dns_answer.proofs.sections.Sections.push_for.Goals as goal

held_before : (held new : Bool) → new ≡ not held → new ≡ false → held ≡ true
held_before true new e f = refl
held_before false new e f = absurd (let g : new ≡ true = e in cc)

pub returns-then-not-branch-clause-added : goal.returns-then-not-branch-clause-added
returns-then-not-branch-clause-added g c =
    let z = c.args.zone.now in
    let s = c.args.self.now in
    let host = c.reborrow.result in
    let is : Some host ≡ host_of c.args.stored.now = ap Some c.reborrow.ensures ∙ sym c.in-Some.is ∙ c.host.ensures in
    let room : c.args.most < record_count s → ⊥ = λ over. (let yes' = c.has_more.ensures.1 over in let no' = c.if-has_more.false in cc) in
    let among = held_before (list_any (names_eq host) c.args.known.now) c.in_ok-insert.field-0 c.in_ok-insert.ensures.new c.if-not-branch.true in
    subst (λ (xs : List Record). AddsUpTo c.args.most s s xs) (sym (at_host z c.args.stored.now host is)) (up_to_all c.args.most s s _ room (adds_known z c.args.known.now host s (c.requires.all room) among))

pub returns-then-not-branch-clause-hosts : goal.returns-then-not-branch-clause-hosts
returns-then-not-branch-clause-hosts g c =
    let host = c.reborrow.result in
    let among = held_before (list_any (names_eq host) c.args.known.now) c.in_ok-insert.field-0 c.in_ok-insert.ensures.new c.if-not-branch.true in
    hosts_same c.args.most c.args.zone.now c.args.owners.now c.args.known.now c.insert.new.self host c.args.self.now among c.in_ok-insert.ensures.names c.requires

pub returns-then-has-clause-hosts : goal.returns-then-has-clause-hosts
returns-then-has-clause-hosts g c = IfOk-weaker c.push_addresses_of.result _ _ (λ done added.
    let room : c.args.most < record_count c.args.self.now → ⊥ = λ over. (let yes' = c.has_more.ensures.1 over in let no' = c.if-has_more.false in cc) in
    let put = subst (λ (n : Labels). IsPutIn c.args.known.now n c.insert.new.self) c.reborrow.ensures c.in_ok-insert.ensures.names in
    hosts_more c.args.most c.args.zone.now c.args.owners.now c.args.known.now c.insert.new.self c.in-Some.host c.args.self.now c.push_addresses_of.new.self room put added c.requires) c.push_addresses_of.ensures

pub returns-clause-hosts : goal.returns-clause-hosts
returns-clause-hosts g c = IfOk-weaker c.push_new_addresses_of.result _ _ (λ done added.
    let room : c.args.most < record_count c.args.self.now → ⊥ = λ over. (let yes' = c.has_more.ensures.1 over in let no' = c.if-has_more.false in cc) in
    let put = subst (λ (n : Labels). IsPutIn c.args.known.now n c.insert.new.self) c.reborrow.ensures c.in_ok-insert.ensures.names in
    hosts_more c.args.most c.args.zone.now c.args.owners.now c.args.known.now c.insert.new.self c.in-Some.host c.args.self.now c.push_new_addresses_of.new.self room put added c.requires) c.push_new_addresses_of.ensures
