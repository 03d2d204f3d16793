-- Chains of pointers.
use Rattle.std.proofs.Common.{◌≡◌, ℕ, ◌+◌, ◌-◌, ◌*◌, ◌%◌, ◌<◌, ◌≤◌, List, [], length, get_or, refl, subst, ◌∙◌, arith}
use Rattle.std.proofs.lemmas.Option.{slice_get-get_or}
use Rattle.dns_names.specs.Name.{Labels}
use Rattle.dns_names.specs.Lower.{AreOctets}
use Rattle.dns_wire.specs.NameAt.{IsPointer, NameAt, points}
use Rattle.dns_wire.specs.NameLaws.{pointer_unique}
use Rattle.dns_wire.specs.Pointers.{PointsTo}
use Rattle.dns_wire.specs.Reads.{NumberAt}
use Rattle.dns_wire.proofs.Copying.{pointed}
use Rattle.dns_wire.proofs.Numbers.{two_octets_of}
use Rattle.dns_wire.proofs.Steps.{pointer_made}

-- a pointer at the run, and the name at its target
pub record Onward (m : List ℕ) (run n : ℕ) (name : Labels) : Type 0 where
  pub less : n % 16384 < run
  pub far : 12 ≤ n % 16384
  pub pointer : IsPointer m run (n % 16384)
  pub after : ℕ
  pub stands : NameAt m (n % 16384) name after

pub onward : (m : List ℕ) (run n : ℕ) (name : Labels) (stop : ℕ) → AreOctets m → NumberAt m run 2 n → n < 65536 → (n < 49152 → ⊥) → NameAt m run name stop → Onward m run n name
onward m run n name stop fits k small high h =
    let inside : run + 2 ≤ length m = k.inside in
    let octets : n ≡ get_or m run 0 * 256 + get_or m (run + 1) 0 = k.read ∙ two_octets_of m run inside in
    let marked : 192 ≤ get_or m run 0 = omega (arith, octets, fits (run + 1), high) in
    let p = pointed m run (get_or m run 0) name stop (slice_get-get_or m run 0 (omega (arith, inside))) marked h in
    let same : n - 49152 ≡ n % 16384 = omega (arith, high, small) in
    let made : IsPointer m run (n % 16384) = subst (λ (x : ℕ). IsPointer m run x) same (pointer_made m run n marked k) in
    let is : p.target ≡ n % 16384 = pointer_unique m run p.target (n % 16384) p.pointer made in
    record {
      less = subst (λ (x : ℕ). x < run) is p.back;
      far = subst (λ (x : ℕ). 12 ≤ x) is p.far;
      pointer = made;
      after = p.after;
      stands = subst (λ (x : ℕ). NameAt m x name p.after) is p.stands;
    }

pub leads_here : (m : List ℕ) (at : ℕ) → PointsTo m at at
leads_here m at name stop h = (stop, h)

-- over one more pointer
pub leads_onward : (m : List ℕ) (at run n : ℕ) → AreOctets m → NumberAt m run 2 n → n < 65536 → (n < 49152 → ⊥) → PointsTo m at run → PointsTo m at (n % 16384)
leads_onward m at run n fits k small high so_far name stop h =
    let here = so_far name stop h in
    let o = onward m run n name here.0 fits k small high here.1 in
    (o.after, o.stands)

pub leads_join : (m : List ℕ) (at run end : ℕ) → PointsTo m at run → PointsTo m run end → PointsTo m at end
leads_join m at run end first second name stop h =
    let here = first name stop h in
    second name here.0 here.1

-- what a pointer leads to, its target leads to
pub leads_behind : (m : List ℕ) (run end n : ℕ) (name : Labels) → Onward m run n name → PointsTo m run end → PointsTo m (n % 16384) end
leads_behind m run end n name o whole other stop h =
    whole other (run + 2) (points [] other run (n % 16384) stop refl o.pointer o.far o.less h refl refl)
