-- What the code finds for a question, and what is stated of it.
use Rattle.std.specs.Prelude.{ℕ, List}
use Rattle.dns_zone.specs.Zone.{Zone}
use Rattle.dns_lookup.specs.Lookup as stated
use Rattle.dns_lookup.specs.Represented.{RepresentAll}
use Rattle.dns_lookup.specs.Lent.{AllLend}
use Rattle.dns_lookup.specs.declared.chain.Found.{Found}

-- A fact of the type that is asked for and of what is stated to be found, where these stand for it in the
-- code and lend its records.
abbrev pub IfFound : List Zone → List Found → (ℕ → List stated.Found → Type 0) → Type 0
IfFound zones found Fact =
    (t : ℕ) (fs : List stated.Found) → RepresentAll zones fs found → AllLend zones t found → Fact t fs
