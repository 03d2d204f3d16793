use Rattle.std.proofs.Common.{◌≡◌, ◌<◌, ◌++◌, List, length, take, drop, sym, ap, subst, ◌∙◌, arith}
use Rattle.std.proofs.lemmas.Grind.{flat_map-append}
use Rattle.std.proofs.lemmas.List.{map-append, take-append-drop}
use Rattle.std.specs.List.{flat_map}
use Rattle.dns_records.specs.Record.{Record}
use Rattle.dns_answer.specs.Sections.{Shown, from_zone, addresses_for}
use Rattle.dns_answer.specs.Added.{AddsUpTo}
use Rattle.dns_answer.proofs.Adding.{next_addresses, shown_in}
use Rattle.dns_names.specs.Name.{Labels}
use Rattle.dns_answer.specs.Known.{AreHosts}
use Rattle.dns_answer.proofs.UpTo.{hosts_none, up_to_more, up_to_none, up_to_then}
use Rattle.dns_answer.proofs.sections.Sections.push_for_each.Goals as goal

pub loop-stored-preserved : goal.loop-stored-preserved
loop-stored-preserved g c =
    let z = c.args.zone.now in
    let records = c.args.records.now in
    let i = c.loop-stored.stored-index in
    let r = c.stored-item.result in
    let inside : i < length records = omega arith in
    let both = up_to_then c.args.most c.args.self.now c.loop-stored.self c.push_for.new.self (flat_map addresses_for (from_zone z (take i records))) (addresses_for (shown_in z r)) c.loop-stored.invariant.added c.in_ok-push_for.ensures.added in
    record {
      added = subst (λ (rs : List Record). AddsUpTo c.args.most c.args.self.now c.push_for.new.self rs) (sym (next_addresses z records i r inside c.stored-item.is)) both;
      hosts = c.in_ok-push_for.ensures.hosts;
    }

pub loop-stored-init : goal.loop-stored-init
loop-stored-init g c =
    let z = c.args.zone.now in
    let s = c.args.self.now in
    record {
      added = up_to_none c.args.most s;
      hosts = subst (λ (names : List Labels). AreHosts c.args.most z c.args.owners.now names s) (sym c.new-known.ensures) (hosts_none c.args.most z c.args.owners.now s c.requires);
    }

pub returns-then-has_more : goal.returns-then-has_more
returns-then-has_more g c =
    let z = c.args.zone.now in
    let records = c.args.records.now in
    let i = c.loop-stored.stored-index in
    let front = flat_map addresses_for (from_zone z (take i records)) in
    let rest = flat_map addresses_for (from_zone z (drop i records)) in
    let parts : flat_map addresses_for (from_zone z records) ≡ front ++ rest =
    ap (λ (rs : List Record). flat_map addresses_for (from_zone z rs)) (sym (take-append-drop i records))
    ∙ ap (λ (shown : List Shown). flat_map addresses_for shown) (map-append (shown_in z) (take i records) (drop i records))
    ∙ flat_map-append addresses_for (from_zone z (take i records)) (from_zone z (drop i records)) in
    let over = c.has_more.ensures.0 c.if-has_more.true in
    subst (λ (rs : List Record). AddsUpTo c.args.most c.args.self.now c.loop-stored.self rs) (sym parts) (up_to_more c.args.most c.args.self.now c.loop-stored.self front rest over c.loop-stored.invariant.added)
