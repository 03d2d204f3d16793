use Rattle.std.proofs.Common.{◌≡◌, length, Bool, true, false, not, Some, refl, sym, ◌∙◌, subst}
use Rattle.std.specs.List.{slice_get}
use Rattle.std.proofs.lemmas.Bool.{ltb-true}
use Rattle.std.proofs.lemmas.Option.{slice_get_read}
use Rattle.dns_zoneindex.specs.Children.{IsFirstKey}
use Rattle.dns_zoneindex.proofs.Beside.{key_there, begin_later, ahead_by_key}
use Rattle.dns_zoneindex.proofs.Slots.{ahead_to}
use Rattle.dns_zoneindex.proofs.group.is_past.Goals as goal

not_true : (b : Bool) → not b ≡ true → b ≡ false
not_true true h = absurd cc
not_true false h = refl

pub returns-then-own-key : goal.returns-then-own-key
returns-then-own-key c = λ less begin.
    let keys = c.args.keys.now in
    let position = c.args.position in
    let own = c.in-Some.own.now in
    let lookup = c.in-Some.ensures.lookup in
    let at : slice_get keys position ≡ Some own = slice_get_read keys (length keys) position own refl lookup.3.0 lookup.1 in
    ahead_by_key c.args.skip c.args.label.now c.args.key own keys c.args.slots.now position c.requires.key c.requires.keys c.requires.kept c.requires.full begin
    c.requires.there c.if-position-eq0.false at (ltb-true own c.args.key less)

pub is_behind_alike-requires : goal.is_behind_alike-requires
is_behind_alike-requires c =
    let keys = c.args.keys.now in
    let slots = c.args.slots.now in
    let position = c.args.position in
    let own = c.in-Some.own.now in
    let s = c.index-slots-position.result in
    let lookup = c.in-Some.ensures.lookup in
    let at : slice_get keys position ≡ Some own = slice_get_read keys (length keys) position own refl lookup.3.0 lookup.1 in
    let slot : slice_get slots position ≡ Some s = slice_get_read slots (length slots) position s refl c.requires.there c.index-slots-position.is in (
      c.args.key,
      c.requires.key,
      subst (λ k. IsFirstKey c.args.skip k s) c.if-own-key.false (key_there c.args.skip keys slots position own s c.requires.keys at slot),
    )

pub returns : goal.returns
returns c = λ past begin.
    let slots = c.args.slots.now in
    let q = c.args.label.now in
    let position = c.args.position in
    let s = c.index-slots-position.result in
    let slot : slice_get slots position ≡ Some s = slice_get_read slots (length slots) position s refl c.requires.there c.index-slots-position.is in
    let alike = begin_later c.args.skip q slots position s begin c.if-position-eq0.false slot in
    ahead_to q slots position s slot c.requires.kept c.requires.full (sym (c.is_behind_alike.ensures alike) ∙ not_true c.is_behind_alike.result past)
