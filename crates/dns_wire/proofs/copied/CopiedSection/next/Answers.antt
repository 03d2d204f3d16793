use Rattle.std.proofs.Common.{◌≡◌, ◌≤◌, ◌+◌, ◌-◌, ◌∷◌, ℕ, List, length, sym, ap, subst, ◌∙◌, arith}
use Rattle.std.proofs.lemmas.List.{take_at}
use Rattle.dns_wire.specs.Copied.{AreCopiesLeft}
use Rattle.dns_wire.specs.Message.{ResourceRecord}
use Rattle.dns_wire.specs.Viewed.{AreResourceRecordsLeft, item_shown, items_left}
use Rattle.dns_wire.proofs.ResourceRecordsShown.{left_is, none_left, next_item, owner_place, next_end, item_is_shown, shown_parts}
use Rattle.dns_wire.proofs.copied.CopiedSection.next.Goals as goal

pub returns-then-self-eq0-clause-none : goal.returns-then-self-eq0-clause-none
returns-then-self-eq0-clause-none c =
    let s = c.self.inside in
    let left = c.self.invariant.records in
    sym c.self.view_is ∙ left_is s.message.now s.next s.left left ∙ none_left left.items (left.count ∙ c.if-self-eq0.true)

pub behind_name-behind_owner-requires : goal.behind_name-behind_owner-requires
behind_name-behind_owner-requires c =
    let s = c.self.inside in
    let n = next_item s.message.now s.next s.left c.self.invariant.records c.if-self-eq0.false in
    record { name = n.item.owner; end = n.stands.mid; stands = n.stands.owner }

pub number-size-requires : goal.number-size-requires
number-size-requires c =
    let s = c.self.inside in
    let n = next_item s.message.now s.next s.left c.self.invariant.records c.if-self-eq0.false in
    let f = c.behind_name-behind_owner.ensures in
    let position = owner_place s.message.now s.next n.item n.mid n.stands f.0 c.behind_name-behind_owner.result f.1 in
    let inside : n.stands.mid + 8 + 2 ≤ length s.message.now = n.stands.counted.inside in
    omega (arith, position, inside)

pub copy_data-requires-clause-there : goal.copy_data-requires-clause-there
copy_data-requires-clause-there c =
    let s = c.self.inside in
    let n = next_item s.message.now s.next s.left c.self.invariant.records c.if-self-eq0.false in
    let f = c.behind_name-behind_owner.ensures in
    record { item = n.item; stop = n.mid; stands = n.stands; position = owner_place s.message.now s.next n.item n.mid n.stands f.0 c.behind_name-behind_owner.result f.1 }

pub invariant_of-self-2 : goal.invariant_of-self-2
invariant_of-self-2 c =
    let s = c.self.inside in
    let m = s.message.now in
    let n = next_item m s.next s.left c.self.invariant.records c.if-self-eq0.false in
    let f = c.behind_name-behind_owner.ensures in
    let e = next_end m s.next n.item n.mid n.stands f.0 c.behind_name-behind_owner.result c.number-size.result f.1 c.number-size.ensures in
    let records = subst (λ (k : ℕ). AreResourceRecordsLeft m k (s.left - 1)) e.end n.behind in
    let ends = c.copy_data.new.ends in
    let size : length ends ≡ s.ends.len = omega (arith, c.copy_data.ensures.size, c.deref_mut-2.ensures.len) in
    let few : length ends ≤ 16384 = omega (arith, size, c.self.invariant.few, s.ends.ok) in
    subst (λ (xs : List ℕ). AreCopiesLeft m (c.behind_name-behind_owner.result + 10 + c.number-size.result) (s.left - 1) xs) (sym (take_at ends _ s.ends.len size)) (record { records = records; few = few; known = c.copy_data.ensures.known })

pub returns-clause-some : goal.returns-clause-some
returns-clause-some c =
    let s = c.self.inside in
    let m = s.message.now in
    let n = next_item m s.next s.left c.self.invariant.records c.if-self-eq0.false in
    let f = c.behind_name-behind_owner.ensures in
    let at = c.behind_name-behind_owner.result in
    let e = next_end m s.next n.item n.mid n.stands f.0 at c.number-size.result f.1 c.number-size.ensures in
    let shown : n.item ≡ item_shown m s.next at = sym (item_is_shown m s.next n.item n.mid n.stands) ∙ ap (item_shown m s.next) e.position in
    let rest : n.rest ≡ items_left m (at + 10 + c.number-size.result) (s.left - 1) = sym (left_is m n.mid (s.left - 1) n.behind ∙ n.left) ∙ ap (λ (k : ℕ). items_left m k (s.left - 1)) e.end in
    let copy : ResourceRecord = record { owner = c.in_ok-owner.owner; rtype = c.number.result; class = c.number-2.result; ttl = c.long_number.result; rdata = c.in_ok-rdata.rdata.items } in
    let whole : item_shown m s.next at ≡ copy = shown_parts m s.next at c.in_ok-owner.owner c.number.result c.number-2.result c.long_number.result c.in_ok-rdata.rdata.items c.in_ok-owner.ensures.name c.number.ensures.read c.number-2.ensures.read c.long_number.ensures.read c.in_ok-rdata.ensures.data in
    sym c.self.view_is ∙ left_is m s.next s.left c.self.invariant.records ∙ n.is ∙ ap (λ (r : ResourceRecord). r ∷ n.rest) (shown ∙ whole) ∙ ap (λ (xs : List ResourceRecord). copy ∷ xs) rest
