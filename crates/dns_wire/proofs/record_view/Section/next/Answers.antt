use Rattle.std.proofs.Common.{◌≡◌, ◌≤◌, ◌+◌, ◌-◌, ◌∷◌, ℕ, List, length, sym, ap, subst, ◌∙◌, arith}
use Rattle.dns_wire.specs.Message.{ResourceRecord}
use Rattle.dns_wire.specs.Viewed.{AreResourceRecordsLeft, item_shown, items_left}
use Rattle.dns_wire.proofs.ResourceRecordsShown.{left_is, none_left, next_item, owner_place, next_end, item_is_shown}
use Rattle.dns_wire.proofs.record_view.Section.next.Goals as goal

pub returns-then-self-eq0-clause-none : goal.returns-then-self-eq0-clause-none
returns-then-self-eq0-clause-none c =
    let s = c.self.inside in
    sym c.self.view_is ∙ left_is s.message.now s.next s.left c.self.invariant ∙ none_left c.self.invariant.items (c.self.invariant.count ∙ c.if-self-eq0.true)

pub behind_name-behind_owner-requires : goal.behind_name-behind_owner-requires
behind_name-behind_owner-requires c =
    let s = c.self.inside in
    let n = next_item s.message.now s.next s.left c.self.invariant c.if-self-eq0.false in
    record { name = n.item.owner; end = n.stands.mid; stands = n.stands.owner }

pub number-size-requires : goal.number-size-requires
number-size-requires c =
    let s = c.self.inside in
    let n = next_item s.message.now s.next s.left c.self.invariant c.if-self-eq0.false in
    let f = c.behind_name-behind_owner.ensures in
    let position = owner_place s.message.now s.next n.item n.mid n.stands f.0 c.behind_name-behind_owner.result f.1 in
    let inside : n.stands.mid + 8 + 2 ≤ length s.message.now = n.stands.counted.inside in
    omega (arith, position, inside)

pub invariant_of-result : goal.invariant_of-result
invariant_of-result c =
    let s = c.self.inside in
    let n = next_item s.message.now s.next s.left c.self.invariant c.if-self-eq0.false in
    let f = c.behind_name-behind_owner.ensures in
    record { item = n.item; stop = n.mid; stands = n.stands; position = owner_place s.message.now s.next n.item n.mid n.stands f.0 c.behind_name-behind_owner.result f.1 }

pub invariant_of-self : goal.invariant_of-self
invariant_of-self c =
    let s = c.self.inside in
    let n = next_item s.message.now s.next s.left c.self.invariant c.if-self-eq0.false in
    let f = c.behind_name-behind_owner.ensures in
    let e = next_end s.message.now s.next n.item n.mid n.stands f.0 c.behind_name-behind_owner.result c.number-size.result f.1 c.number-size.ensures in
    subst (λ (k : ℕ). AreResourceRecordsLeft s.message.now k (s.left - 1)) e.end n.behind

pub returns-clause-some : goal.returns-clause-some
returns-clause-some c =
    let s = c.self.inside in
    let m = s.message.now in
    let n = next_item m s.next s.left c.self.invariant c.if-self-eq0.false in
    let f = c.behind_name-behind_owner.ensures in
    let e = next_end m s.next n.item n.mid n.stands f.0 c.behind_name-behind_owner.result c.number-size.result f.1 c.number-size.ensures in
    let shown : n.item ≡ item_shown m s.next c.behind_name-behind_owner.result = sym (item_is_shown m s.next n.item n.mid n.stands) ∙ ap (item_shown m s.next) e.position in
    let rest : n.rest ≡ items_left m (c.behind_name-behind_owner.result + 10 + c.number-size.result) (s.left - 1) = sym (left_is m n.mid (s.left - 1) n.behind ∙ n.left) ∙ ap (λ (k : ℕ). items_left m k (s.left - 1)) e.end in
    sym c.self.view_is ∙ left_is m s.next s.left c.self.invariant ∙ n.is ∙ ap (λ (r : ResourceRecord). r ∷ n.rest) shown ∙ ap (λ (xs : List ResourceRecord). item_shown m s.next c.behind_name-behind_owner.result ∷ xs) rest
