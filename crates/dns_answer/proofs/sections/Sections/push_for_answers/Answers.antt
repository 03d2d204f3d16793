use Rattle.std.proofs.Common.{◌<◌, ◌≤◌, List, length, take, sym, subst, arith}
use Rattle.std.specs.List.{flat_map}
use Rattle.std.proofs.lemmas.List.{take_all}
use Rattle.std.proofs.lemmas.Option.{slice_get_within}
use Rattle.dns_records.specs.Record.{Record}
use Rattle.dns_zone.specs.Zone.{Zone}
use Rattle.dns_lookup.specs.Lookup.{Found as Stated}
use Rattle.dns_lookup.specs.RepresentedLaws.{represented_at, represented_length}
use Rattle.dns_answer.specs.Sections.{addresses_for, answer_of, from_zone}
use Rattle.dns_answer.specs.Added.{AddsUpTo}
use Rattle.dns_answer.proofs.UpTo.{up_to_then}
use Rattle.dns_answer.proofs.Shown.{lent_one, next_hosts}
use Rattle.dns_answer.proofs.sections.Sections.push_for_answers.Goals as goal

pub searched-requires : goal.searched-requires
searched-requires g c =
    let zones = c.args.zones.now in
    let one = c.one-item.result in
    let inside : c.loop-one.one-index < length c.args.found.now = omega arith in
    let at = represented_at zones c.requires.0 c.args.found.now c.loop-one.one-index one c.requires.1 inside c.one-item.is in
    slice_get_within zones one.zone at.found.zone at.is.zone

pub loop-one-preserved : goal.loop-one-preserved
loop-one-preserved g c t fs are holds =
    let zones = c.args.zones.now in
    let i = c.loop-one.one-index in
    let one = c.one-item.result in
    let inside : i < length c.args.found.now = omega arith in
    let at = represented_at zones fs c.args.found.now i one are inside c.one-item.is in
    let zone = c.searched.ensures at.found at.is in
    let rs = c.answers.result.now in
    let added = subst (λ (z : Zone). AddsUpTo c.args.most c.loop-one.self c.push_addresses.new.self (flat_map addresses_for (from_zone z rs))) zone c.in_ok-push_addresses.ensures in
    let both = up_to_then c.args.most c.args.self.now c.loop-one.self c.push_addresses.new.self (flat_map addresses_for (answer_of t (take i fs))) (flat_map addresses_for (from_zone at.found.zone rs)) (c.loop-one.invariant t fs are holds) added in
    subst (λ (hosts : List Record). AddsUpTo c.args.most c.args.self.now c.push_addresses.new.self hosts) (sym (next_hosts t fs i at.found rs at.next (c.answers.ensures zones t at.found at.is (lent_one zones t c.args.found.now i one holds inside c.one-item.is)))) both

pub returns : goal.returns
returns g c t fs are holds =
    let all : length fs ≤ c.loop-one.one-index = omega (arith, represented_length c.args.zones.now fs c.args.found.now are, c.loop-one-test.false) in
    subst (λ (xs : List Stated). AddsUpTo c.args.most c.args.self.now c.loop-one.self (flat_map addresses_for (answer_of t xs))) (take_all c.loop-one.one-index fs all) (c.loop-one.invariant t fs are holds)
