use Rattle.std.proofs.Common.{◌≡◌, true, List, ◌++◌, sym, ap, subst, ◌∙◌}
use Rattle.dns_records.specs.Record.{Record}
use Rattle.dns_zone.specs.Records.{is_ordered}
use Rattle.dns_secondary.proofs.reached.joined.Goals as goal

pub from_sorted-requires : goal.from_sorted-requires
from_sorted-requires g c =
    let whole = c.in_ok-copy_to.ensures ∙ ap (λ (xs : List Record). xs ++ c.args.tail.now) c.in_ok-whole.ensures in
    subst (λ (xs : List Record). is_ordered xs ≡ true) (sym whole) c.requires
