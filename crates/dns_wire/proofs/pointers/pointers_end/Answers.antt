use Rattle.std.proofs.Common.{◌≡◌, ◌≤◌, ◌<◌, ◌%◌, get_or, arith}
use Rattle.dns_wire.specs.Pointers.{LeadsBack}
use Rattle.dns_wire.proofs.Chains.{onward, leads_onward, leads_join}
use Rattle.dns_wire.proofs.pointers.pointers_end.Goals as goal

pub pointers-smaller : goal.pointers-smaller
pointers-smaller c =
    let m = c.args.message.now in
    let here = c.pointers.invariant.leads c.requires.name.0 c.requires.name.1 c.requires.name.2 in
    (onward m c.pointers.run c.number-pointer.result c.requires.name.0 here.0 (λ i. omega (arith, c.type_inv.message i)) c.number-pointer.ensures (omega (arith, c.number-pointer.type_inv)) (λ low. omega (arith, low, c.if-pointer-lt-POINTER_BITS.false)) here.1).less

pub pointers-preserved : goal.pointers-preserved
pointers-preserved c =
    let m = c.args.message.now in
    let less : c.number-pointer.result % 16384 < c.pointers.run = pointers-smaller c in
    record {
      back = omega (arith, less, c.pointers.invariant.back);
      leads = leads_onward m c.args.at c.pointers.run c.number-pointer.result (λ i. omega (arith, c.type_inv.message i)) c.number-pointer.ensures (omega (arith, c.number-pointer.type_inv)) (λ low. omega (arith, low, c.if-pointer-lt-POINTER_BITS.false)) c.pointers.invariant.leads;
    }

pub returns-then-known-gt0 : goal.returns-then-known-gt0
returns-then-known-gt0 c =
    let m = c.args.message.now in
    let run = c.pointers.run in
    let known = c.end_at-known.result in
    let same : known ≡ get_or c.args.ends.now run 0 = c.end_at-known.ensures in
    let h : LeadsBack m run known = rw same (c.requires.known run (λ z. omega (arith, same, z, c.if-known-gt0.true))) in
    let up : known ≤ run = h.back in
    record { back = omega (arith, up, c.pointers.invariant.back); leads = leads_join m c.args.at run known c.pointers.invariant.leads h.leads }
