use Rattle.std.proofs.Common.{◌≡◌, ◌+◌, ◌<◌, ◌≤◌, None, length, drop, get_or, nat_lt, sym, ap, subst, ◌∙◌, arith, [], true}
use Rattle.dns_names.specs.Name.{labels_of}
use Rattle.dns_names.specs.Plain.{IsPlain}
use Rattle.dns_wire.specs.Compress.{new_places}
use Rattle.dns_wire.specs.Indexed.{offset_at}
use Rattle.dns_wire.specs.NameLaws.{some_octet}
use Rattle.dns_wire.proofs.Binds.{lt_true}
use Rattle.dns_wire.proofs.Suffixes.{first_label}
use Rattle.dns_wire.proofs.First.{looked_on, found_here, found_nowhere, found_none, plain_short}
use Rattle.dns_wire.proofs.compression_targets.place_within.Goals as goal
use Rattle.dns_wire.proofs.compression_targets.place_within.Goals.{else-rest-gt1-via-then-rest-gt1+else-same_octets, else-rest-gt1-via-else-rest-gt1}

pub labels-preserved : goal.labels-preserved
labels-preserved c =
    let rest = c.labels.rest.now in
    let suffix = c.args.suffix.now in
    let short : length suffix < length rest = c.labels-test.true in
    let some : 1 ≤ length suffix = (let e = ap length c.requires.suffix.whole in omega (arith, e, some_octet (labels_of suffix))) in
    let f = first_label rest c.labels.invariant.plain (omega (arith, short, some)) in
    let width : 1 + get_or rest 0 0 ≡ 1 + length f.label = ap (λ k. 1 + k) f.count in
    let back : c.split_at.result.1.now ≡ drop (1 + length f.label) rest = c.split_at.ensures.back ∙ ap (λ k. drop k rest) width in
    let position : c.labels.at + (1 + get_or rest 0 0) ≡ c.labels.at + 1 + length f.label = omega (arith, width) in
    record {
      plain = subst IsPlain (sym back) f.plain;
      size = (let whole : c.labels.at + length rest ≡ 12 + length c.args.name.now = c.labels.invariant.size in omega (arith, whole, c.split_at.ensures.back_len));
      position = c.labels.invariant.position ∙ looked_on c.labels.at rest suffix c.split_at.result.1.now (c.labels.at + (1 + get_or rest 0 0)) f c.labels.invariant.plain c.requires.suffix short position (ap labels_of back ∙ f.back);
    }

pub returns-then-same_octets-clause-position : goal.returns-then-same_octets-clause-position
returns-then-same_octets-clause-position c =
    let whole : c.labels.at + length c.labels.rest.now ≡ 12 + length c.args.name.now = c.labels.invariant.size in
    let low : nat_lt c.labels.at 16384 ≡ true = (let short = plain_short c.args.name.now c.requires.name in lt_true c.labels.at 16384 (omega (arith, whole, short))) in
    found_here c.labels.at c.labels.rest.now c.args.suffix.now c.labels.invariant.plain c.requires.suffix c.if-rest-gt1.true low (sym c.same_octets.ensures ∙ c.if-same_octets.true)
    ∙ sym c.labels.invariant.position

pub returns-clause-position : goal.returns-clause-position
returns-clause-position c =
    let rest = c.labels.rest.now in
    let none : None ≡ offset_at (new_places [] c.labels.at (labels_of rest)) (labels_of c.args.suffix.now) = elim c.else-rest-gt1.branch [
      | else-rest-gt1-via-then-rest-gt1+else-same_octets w ↦
          found_nowhere c.labels.at rest c.args.suffix.now c.labels.invariant.plain c.requires.suffix c.labels-test.false (sym w.same_octets.ensures ∙ w.if-same_octets.false)
      | else-rest-gt1-via-else-rest-gt1 w ↦ found_none c.labels.at rest (labels_of c.args.suffix.now) c.labels.invariant.plain w.if-rest-gt1.false
    ] in
    none ∙ sym c.labels.invariant.position
