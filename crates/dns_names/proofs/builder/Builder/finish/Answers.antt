use Rattle.std.proofs.Common.{◌≡◌, ℕ, ◌-◌, ◌≤◌, false, inr, List, length, Ok, refl, sym, ap, ◌∙◌, arith}
use Rattle.std.specs.Prelude.{◌==◌, nat_lt}
use Rattle.std.specs.List.{list_any}
use Rattle.dns_names.specs.Name.{Labels, IsName, wire}
use Rattle.dns_names.specs.PlainLaws.{plain_of}
use Rattle.dns_names.specs.Text.{with_origin}
use Rattle.dns_names.specs.Built.{IsBuilt}
use Rattle.dns_names.proofs.Texts.{Made, made_absolute, made_relative, built_size, both_small, one_long, none_empty, longs_are, refused_long, refused_size, limited_is}
use Rattle.dns_names.proofs.builder.Builder.finish.Goals as goal
use Rattle.dns_names.proofs.builder.Builder.finish.Goals.{After-len-2, then-len-gt0+in_ok-extend_from_slice, else-len-gt0}

size : (c : After-len-2) (done : Labels) (tail : List ℕ) → IsBuilt c.args.self done tail → c.len.result - c.args.self.start - 1 ≡ length tail
size c done tail h = omega (arith, built_size c.args.self done tail h, c.len.ensures.value)

made : (c : After-len-2) (done : Labels) (tail : List ℕ) → IsBuilt c.args.self done tail → Made (with_origin c.args.origin.now (done, tail)) c.if-len-gt0.octets.items
made c done tail h =
    let b = c.args.self in
    let origin = c.args.origin.now in
    let n = c.len.result - c.args.self.start - 1 in
    let is = size c done tail h in
    let small = both_small b.long n c.if-long.false c.if-len-gt63.false in
    let valid : IsName origin = c.as_wire-behind.ensures.valid in
    elim c.if-len-gt0.branch [
      | then-len-gt0+in_ok-extend_from_slice w ↦
          rw w.octets-is (made_relative b done tail origin n n w.set_octet.new.octets.items w.extend_from_slice.new.self.items h valid.labels is refl w.if-len-gt0.true c.if-empty.false small w.set_octet.ensures (rw (w.in_ok-extend_from_slice.ensures.ok, c.as_wire-behind.ensures.octets) refl))
      | else-len-gt0 w ↦ rw w.octets-is (made_absolute b done tail origin h (omega (arith, is, w.if-len-gt0.false)) c.if-empty.false c.if-long.false)
    ]

pub returns-then-long : goal.returns-then-long
returns-then-long c = λ done tail h.
    let b = c.args.self in
    let origin = c.args.origin.now in
    let n = c.len.result - c.args.self.start - 1 in
    let is : n ≡ length tail = omega (arith, built_size b done tail h, c.len.ensures.value) in
    let valid : IsName origin = c.as_wire-behind.ensures.valid in
    inr (refused_long (with_origin origin (done, tail)) (none_empty b done tail origin h valid.labels c.if-empty.false) (longs_are b done tail origin n h valid.labels is ∙ one_long b.long n c.then-long.either))

no_empty : (c : After-len-2) (done : Labels) (tail : List ℕ) → IsBuilt c.args.self done tail → list_any (λ (label : List ℕ). length label == 0) (with_origin c.args.origin.now (done, tail)) ≡ false
no_empty c done tail h = (let valid : IsName c.args.origin.now = c.as_wire-behind.ensures.valid in none_empty c.args.self done tail c.args.origin.now h valid.labels c.if-empty.false)

no_long : (c : After-len-2) (done : Labels) (tail : List ℕ) → IsBuilt c.args.self done tail → list_any (λ (label : List ℕ). nat_lt 63 (length label)) (with_origin c.args.origin.now (done, tail)) ≡ false
no_long c done tail h =
    let n = c.len.result - c.args.self.start - 1 in
    let valid : IsName c.args.origin.now = c.as_wire-behind.ensures.valid in
    longs_are c.args.self done tail c.args.origin.now n h valid.labels (size c done tail h) ∙ both_small c.args.self.long n c.if-long.false c.if-len-gt63.false

pub returns-then-len-gt255 : goal.returns-then-len-gt255
returns-then-len-gt255 c = λ done tail h.
    let b = (goal.at.returns-then-len-gt255 c).After-len-2 in
    let m = made b done tail h in
    inr (refused_size (with_origin c.args.origin.now (done, tail)) (no_empty b done tail h) (no_long b done tail h) (omega (arith, c.if-len-gt255.true, c.len-2.ensures.value, ap length m.whole)))

pub of_plain-requires : goal.of_plain-requires
of_plain-requires c =
    let done = c.requires.0 in
    let tail = c.requires.1 in
    let m = made (goal.at.of_plain-requires c).After-len-2 done tail c.requires.2 in
    (plain_of c.if-len-gt0.octets.items (with_origin c.args.origin.now (done, tail)) (record { labels = m.labels; short = omega (arith, c.if-len-gt255.false, c.len-2.ensures.value, ap length m.whole) }) m.whole).1

pub returns : goal.returns
returns c = λ done tail h.
    let b = (goal.at.returns c).After-len-2 in
    let m = made b done tail h in
    let name = with_origin c.args.origin.now (done, tail) in
    let short : length (wire name) ≤ 255 = omega (arith, c.if-len-gt255.false, c.len-2.ensures.value, ap length m.whole) in
    let valid : IsName name = record { labels = m.labels; short = short } in
    limited_is name (no_empty b done tail h) (no_long b done tail h) short ∙ ap (λ (x : Labels). Ok x) (sym (c.of_plain.ensures ∙ (plain_of c.if-len-gt0.octets.items name valid m.whole).0))
