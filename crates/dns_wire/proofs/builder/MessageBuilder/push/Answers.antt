use Rattle.std.proofs.Common.{◌≡◌, ◌<◌, ◌≤◌, length, sym, ap, subst, ◌∙◌, arith, List}
use Rattle.dns_records.specs.Record.{Record}
use Rattle.dns_wire.specs.Building.{Building, StandsBuilt, with_record}
use Rattle.dns_wire.specs.Pushed.{IsPushed}
use Rattle.dns_wire.specs.Contents.{said}
use Rattle.dns_wire.specs.declared.builder.Contents.{Contents}
use Rattle.dns_wire.specs.declared.builder.Pushed.TheVariants.{Full}
use Rattle.dns_wire.specs.Text.{text}
use Rattle.dns_wire.proofs.Built.{built_next, built_size, longer_text}
use Rattle.dns_wire.proofs.builder.MessageBuilder.push.Goals as goal

-- what is lent of the box is what is in it
abbrev Stands : Contents → Type 0
Stands v = StandsBuilt (record { reply = said v; limit = v.limit }) v.compressor.octets.items v.compressor.places

pub returns-then-len-so_far : goal.returns-then-len-so_far
returns-then-len-so_far c =
    let k = c.deref_mut-so_far.result.now in
    let r = said k in
    let stands : Stands k = subst Stands (sym c.deref_mut-so_far.ensures.value) c.self.invariant.0 in
    let after = c.put_any.new.compressor.octets.items in
    let size = longer_text r k.compressor.octets.items after k.compressor.places c.args.one stands.built stands.table c.in_ok-put_any.ensures.octets in
    let low : length k.compressor.octets.items ≤ k.limit = stands.fits in
    let done : c.octets_of.result.items ≡ text r = c.octets_of.ensures ∙ ap (λ (v : Contents). text (said v)) c.into_inner.ensures in
    let fits : length c.octets_of.result.items ≤ k.limit = omega (arith, ap length done, built_size r k.compressor.octets.items stands.built, low) in
    let over : k.limit < length (text (with_record r c.args.one)) = omega (arith, size, c.len.ensures, c.if-len-so_far.true) in
    subst (λ (b : Building). IsPushed b c.args.one (Full c.octets_of.result))
    (ap (λ (v : Contents). record { reply = said v; limit = v.limit }) c.deref_mut-so_far.ensures.value ∙ c.self.view_is) (done, fits, over)

pub invariant_of-result : goal.invariant_of-result
invariant_of-result c =
    let v = c.deref_mut-so_far.result.now in
    let k = v.compressor in
    let b : Building = record { reply = said v; limit = v.limit } in
    let stands : Stands v = subst Stands (sym c.deref_mut-so_far.ensures.value) c.self.invariant.0 in
    let room : k.limit ≡ 65535 = ap (λ (x : Contents). x.compressor.limit) c.deref_mut-so_far.ensures.value ∙ c.self.invariant.1 in
    let w = c.in_ok-put_any.ensures in
    let now = c.put_any.new.compressor in
    let fits : length now.octets.items ≤ v.limit = omega (arith, c.len.ensures, c.if-len-so_far.false) in
    let next = built_next b k.octets.items now.octets.items k.places now.places c.args.one stands w.octets w.places fits in (
      subst (λ (xs : List Record). StandsBuilt (record b { reply = record b.reply { answer = xs } }) now.octets.items now.places) (sym c.in_ok-put_last.ensures.kept) next,
      w.same ∙ room,
    )
