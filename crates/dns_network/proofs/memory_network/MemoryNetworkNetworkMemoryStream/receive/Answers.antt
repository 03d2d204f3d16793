use Rattle.std.proofs.Common.{◌<◌, ◌≤◌, ℕ, List, ◌∷◌, map, drop, length, refl, sym, ap, ◌∙◌, arith}
use Rattle.std.proofs.lemmas.Bool.Decides.{nat_tests}
use Rattle.dns_network.proofs.Taken.{cut_off, first_taken}
use Rattle.dns_network.proofs.memory_network.MemoryNetworkNetworkMemoryStream.receive.Goals as goal

pub returns-clause-came : goal.returns-clause-came
returns-clause-came c =
    let count = c.min-count.result in
    let into = c.args.into.now in
    let datagrams = c.args.self.now.datagrams in
    let first = c.remove-octets.result in
    let some : 0 < length datagrams.items = grind (arith, nat_tests, c.if-is_empty.false, c.is_empty.ensures, datagrams.ok) in
    let inside : count ≤ length into = omega (arith, c.min-count.ensures) in (
      drop count first.0.items,
      ap (map (λ d. (d.0.items, d.1))) (first_taken datagrams.items first c.remove-octets.new.self.items some c.remove-octets.ensures.value c.remove-octets.ensures.items)
          ∙ ap (λ (octets : List ℕ). (octets, first.1) ∷ map (λ d. (d.0.items, d.1)) c.remove-octets.new.self.items)
          (sym (cut_off count into first.0.items c.copy_from_slice.new.self c.deref.result.now inside c.copy_from_slice.ensures.len c.copy_from_slice.ensures.after c.deref.ensures.value)),
      refl,
    )
