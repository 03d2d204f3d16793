-- Where the labels of a name start in its plain form.
use Rattle.std.specs.Prelude.{◌≡◌, ℕ, ◌<◌, List, drop, get_or}
use Rattle.dns_names.specs.Name.{Labels, IsName, wire}

-- From each of so many indices on, the plain form is that of the name without the labels before it.
abbrev pub AreStarts : Labels → List ℕ → ℕ → Type 0
AreStarts name starts count =
    (k : ℕ) → k < count → IsName (drop k name) × (drop (get_or starts k 0) (wire name) ≡ wire (drop k name))
