use Rattle.std.proofs.Common.{◌≡◌, ◌+◌, ◌≤◌, ◌<◌, ◌∷◌, length, drop, take, get_or, sym, ap, ◌∙◌, arith}
use Rattle.dns_names.specs.Name.{labels_of}
use Rattle.dns_wire.specs.NameLaws.{some_octet}
use Rattle.dns_wire.proofs.First.{plain_short}
use Rattle.dns_wire.proofs.Places.{bytes_same}
use Rattle.dns_wire.proofs.Suffixes.{first_label}
use Rattle.dns_wire.proofs.one_soa.label_before.Goals as goal

pub returns-then-same_octets : goal.returns-then-same_octets
returns-then-same_octets c =
    let name = c.args.name.now in
    let rest = c.args.rest.now in
    let some : 1 ≤ length rest = (let e = ap length c.requires.rest.whole in omega (arith, e, some_octet (labels_of rest))) in
    let longer : length rest < length name = c.if-name-rest.false in
    let f = first_label name c.requires.name (omega (arith, some, longer)) in
    let width : 1 + get_or name 0 0 ≡ 1 + length f.label = ap (λ k. 1 + k) f.count in
    let same = bytes_same c.split_at.result.1.now rest (sym c.same_octets.ensures ∙ c.if-same_octets.true) in
    let back = c.split_at.ensures.back ∙ ap (λ k. drop k name) width in (
      (let short = plain_short name c.requires.name in omega (arith, short, c.split_at.ensures.back_len, c.split_at.ensures.front_len)),
      f.label,
      f.is ∙ ap (λ r. f.label ∷ r) (sym f.back ∙ ap labels_of (sym back ∙ same)),
      c.split_at.ensures.front ∙ ap (λ k. take k name) width ∙ f.front,
    )
