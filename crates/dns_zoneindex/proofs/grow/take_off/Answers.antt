use Rattle.std.proofs.Common.{◌≡◌, List, length, map, take, drop, refl, ap, subst, sym, ◌∙◌}
use Rattle.dns_records.specs.Record.{Record}
use Rattle.dns_zoneindex.specs.Entries.{here}
use Rattle.dns_zoneindex.specs.Growth.{from_depth, HasLabel, IsFront, Rising}
use Rattle.dns_zoneindex.proofs.Growth.{all_own, taken_off}
use Rattle.dns_zoneindex.proofs.grow.take_off.Goals as goal

pub returns-in_default-label_at : goal.returns-in_default-label_at
returns-in_default-label_at c =
    let n = c.args.depth in
    let others = c.in-Some.others.now in
    let last = c.in-Some.last.now in
    let is = sym c.deref.ensures.value ∙ c.in-Some.ensures.cases.0 in
    let own = all_own n others last (subst (λ (z : List Record). Rising (from_depth n z)) is c.requires) c.in_default-label_at.ensures.none in
    record { unchanged = refl; own = subst (λ (z : List Record). from_depth n z ≡ map here z) (sym is) own }

pub returns : goal.returns
returns c =
    let n = c.args.depth in
    let l = c.in_ok-label.label.items in
    let others = c.in-Some.others.now in
    let last = c.in-Some.last.now in
    let front = c.front_of-start.result.now in
    let is = sym c.deref.ensures.value ∙ c.in-Some.ensures.cases.0 in
    let has = subst (λ m. HasLabel n m last) (sym c.in_ok-label.ensures.ok) c.in-Some-label_at.ensures.found in
    let before = subst (λ m. IsFront n m others front) c.as_slice.ensures c.front_of-start.ensures in
    taken_off n l c.args.records.now.items others front c.split_off.new.self.items c.in_ok-group.group.items last c.requires is has before c.in_ok-group.ensures.items c.in_ok-group.ensures.tail

pub returns-then-start-eq0 : goal.returns-then-start-eq0
returns-then-start-eq0 c =
    let n = c.args.depth in
    let rs = c.args.records.now.items in
    let l = c.in_ok-label.label.items in
    let others = c.in-Some.others.now in
    let last = c.in-Some.last.now in
    let front = c.front_of-start.result.now in
    let is = sym c.deref.ensures.value ∙ c.in-Some.ensures.cases.0 in
    let has = subst (λ m. HasLabel n m last) (sym c.in_ok-label.ensures.ok) c.in-Some-label_at.ensures.found in
    let before = subst (λ m. IsFront n m others front) c.as_slice.ensures c.front_of-start.ensures in
    let none : 0 ≡ length front = sym c.if-start-eq0.true in
    let left = ap (λ v. v.items) c.replace.ensures.after ∙ c.new.ensures.items ∙ ap (λ k. take k rs) none in
    let taken = ap (λ v. v.items) c.replace.ensures.value ∙ ap (λ k. drop k rs) none in
    taken_off n l rs others front c.replace.new.dest.items c.replace.result.items last c.requires is has before left taken
