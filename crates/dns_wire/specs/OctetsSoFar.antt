-- The octets of a message so far, as the code keeps them.
use Rattle.std.specs.Prelude.{ℕ, List}

pub record OctetsSoFar : Type 0 where
  pub items : List ℕ
