-- Of some things that have an owner each, the first: those of one owner.
use Rattle.std.specs.Prelude.{◌≡◌, ◌<◌, true, List, ◌++◌, length}
use Rattle.std.specs.List.{list_all}
use Rattle.dns_names.specs.Name.{Labels, names_eq}

-- They are those at the front that have the first's owner, and the others after them.
pub record IsOwnerGroup {X : Type 0} (owner : X → Labels) (all : List X) (first : X)
    (group rest : List X) : Type 0 where
  pub whole : all ≡ group ++ rest
  pub owned : list_all (λ x. names_eq (owner x) (owner first)) group ≡ true
  pub fewer : length rest < length all
