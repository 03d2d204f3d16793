use Rattle.std.proofs.Common.{◌≡◌, ◌+◌, suc, length, Some, refl, subst, arith}
use Rattle.std.specs.List.{slice_get}
use Rattle.std.proofs.lemmas.Option.{slice_get_read}
use Rattle.dns_zoneindex.proofs.Beside.{before_later}
use Rattle.dns_zoneindex.proofs.group.place_by_keys.Goals as goal

pub returns-then-key-behind-clause-position : goal.returns-then-key-behind-clause-position
returns-then-key-behind-clause-position c = λ begin.
    let slots = c.args.slots.now in
    let q = c.args.label.now in
    let position = c.last_up_to-position.result in
    let keys = c.args.keys.now in
    let k = c.in-Some.behind.now in
    let lookup = c.in-Some.ensures.lookup in
    let beside : slice_get keys (position + 1) ≡ Some k = slice_get_read keys (length keys) (position + 1) k refl lookup.3.0 lookup.1 in
    let next : position + 1 ≡ suc position = omega arith in
    let behind : slice_get keys (suc position) ≡ Some k = subst (λ n. slice_get keys n ≡ Some k) next beside in
    record {
      there = c.if-position-slots.true;
      ahead = c.is_past.ensures c.if-is_past.true begin;
      behind = before_later c.args.skip q c.args.key k keys slots position c.requires.key c.requires.keys begin c.requires.kept behind c.if-key-behind.true;
    }
