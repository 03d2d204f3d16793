use Rattle.std.proofs.Common.{◌≡◌, ◌++◌, not, ◌∙◌, refl, sym}
use Rattle.std.proofs.lemmas.List.Elements.{filter-append}
use Rattle.std.specs.Ordering.{is_eq}
use Rattle.dns_records.specs.Record.{record_cmp}
use Rattle.dns_zone.specs.Records.{without}
use Rattle.dns_zone.proofs.Listed.{ordered_parts}
use Rattle.dns_update.specs.ResourceRecord.{as_record}
use Rattle.dns_update.proofs.Found.{ok_by}
use Rattle.dns_update.proofs.held.HalvesHeld.take_named.Goals as goal

pub take_named-requires : goal.take_named-requires
take_named-requires g c =
    let xs = g.H.Held.records c.args.self.now.front in
    let ys = g.H.Held.records c.args.self.now.back in
    (ordered_parts (xs ++ ys) xs ys refl c.requires).0

pub take_named-requires-2 : goal.take_named-requires-2
take_named-requires-2 g c =
    let xs = g.H.Held.records c.args.self.now.front in
    let ys = g.H.Held.records c.args.self.now.back in
    (ordered_parts (xs ++ ys) xs ys refl c.requires).1

pub returns : goal.returns
returns g c =
    let xs = g.H.Held.records c.args.self.now.front in
    let ys = g.H.Held.records c.args.self.now.back in
    let r = as_record c.args.item.now in
    let front = g.H.Held.records c.take_named.new.self in
    let back = g.H.Held.records c.take_named-2.new.self in
    ok_by c.take_named-2.result (back ≡ without r ys) (front ++ back ≡ without r (xs ++ ys)) (λ e. (λ i. c.in_ok-take_named.ensures i ++ e i) ∙ sym (filter-append (λ s. not (is_eq (record_cmp r s))) xs ys)) c.take_named-2.ensures
