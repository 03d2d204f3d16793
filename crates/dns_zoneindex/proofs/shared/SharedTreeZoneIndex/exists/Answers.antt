use Rattle.std.proofs.Common.{◌≡◌, ℕ, ◌<◌, true, [], refl, sym, ◌∙◌, arith, length}
use Rattle.std.specs.Prelude.{nat_lt}
use Rattle.std.proofs.lemmas.Bool.Decides.{nat_tests}
use Rattle.dns_zoneindex.proofs.Owned.{owned_from}
use Rattle.dns_zoneindex.proofs.Reaching.{there, absent}
use Rattle.dns_zoneindex.proofs.shared.SharedTreeZoneIndex.exists.Goals as goal

positive : (n : ℕ) → 0 < n → nat_lt 0 n ≡ true
positive n h = grind (arith, nat_tests)

pub returns-in-Some : goal.returns-in-Some
returns-in-Some c =
    let es = c.args.self.now.tree in
    let own = c.in-Some.node.now.own in
    let some : 0 < length own = omega (arith, c.count.ensures.own, c.count.ensures.kept) in
    positive c.count.result c.count.ensures.kept ∙ sym (there c.args.name.now es own (owned_from es c.args.self.now.each_at_owner) c.in-Some.ensures some)

pub returns-in-None : goal.returns-in-None
returns-in-None c =
    let es = c.args.self.now.tree in
    sym (absent c.args.name.now es [] (owned_from es c.args.self.now.each_at_owner) c.in-None.ensures refl)
