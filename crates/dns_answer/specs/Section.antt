-- A section of a reply as the code keeps it.
use Rattle.std.specs.Prelude.{List, [], ◌∷◌}
use Rattle.dns_records.specs.Record.{Record}
use Rattle.dns_answer.specs.declared.section.Kept.{Kept}
use Rattle.dns_answer.specs.declared.section.Kept.TheVariants.{Nothing, One, Many}

-- Its records, in order.
pub record Section : Type 0 where
  pub items : List Record

abbrev pub kept_items : Kept → List Record
kept_items Nothing = []
kept_items (One r) = r ∷ []
kept_items (Many rs) = rs.items
