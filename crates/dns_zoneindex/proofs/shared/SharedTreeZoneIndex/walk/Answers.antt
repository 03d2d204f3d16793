use Rattle.std.proofs.Common.{◌≡◌, sym, ap, ◌∙◌}
use Rattle.std.specs.Prelude.{slice_get}
use Rattle.std.specs.Option.{option_copied}
use Rattle.dns_zone.specs.Records.{next_after}
use Rattle.dns_zoneindex.specs.Owned.{path_records}
use Rattle.dns_zoneindex.proofs.Lent.{lent_first, first_record}
use Rattle.dns_zoneindex.proofs.shared.SharedTreeZoneIndex.walk.Goals as goal
use Rattle.dns_zoneindex.proofs.shared.SharedTreeZoneIndex.walk.Goals.{in-None, in-Some}

pub returns : goal.returns
returns c =
    let xs = path_records c.args.self.now.tree in
    let position = c.match-after.position in
    let next : slice_get xs position ≡ next_after (option_copied c.args.after) xs = elim c.match-after.branch [
      | in-None w ↦ ap (slice_get xs) w.position-is ∙ first_record xs ∙ ap (λ o. next_after (option_copied o) xs) (sym w.in-None.is)
      | in-Some w ↦ ap (slice_get xs) w.position-is ∙ w.count_to-position.ensures ∙ ap (λ o. next_after (option_copied o) xs) (sym w.in-Some.is)
    ] in
    c.first.ensures.value ∙ lent_first xs position c.run_from.result.now c.run_from.ensures ∙ next
