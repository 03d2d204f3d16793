use Rattle.std.proofs.lemmas.List.{length-set}
use Rattle.std.proofs.Common.{◌≤◌, ◌<◌, ◌%◌, ℕ, List, length, sym, subst, arith}
use Rattle.dns_wire.specs.Pointers.{LeadsBack, AreEnds}
use Rattle.dns_wire.proofs.Measures.{kept}
use Rattle.dns_wire.proofs.Chains.{onward, leads_behind}
use Rattle.dns_wire.proofs.pointers.keep_end.Goals as goal
use Rattle.dns_wire.proofs.pointers.keep_end.Goals.{then-run-ends, else-run-ends}

pub pointers-smaller : goal.pointers-smaller
pointers-smaller c =
    let m = c.args.message.now in
    let name = c.pointers.invariant.name in
    (onward m c.pointers.run c.number-pointer.result name.0 name.1 (λ i. omega (arith, c.type_inv.message i)) c.number-pointer.ensures (omega (arith, c.number-pointer.type_inv)) (λ low. omega (arith, low, c.if-pointer-lt-POINTER_BITS.false)) name.2).less

pub pointers-preserved : goal.pointers-preserved
pointers-preserved c =
    let m = c.args.message.now in
    let run = c.pointers.run in
    let end = c.args.end in
    let ends = c.pointers.ends in
    let name = c.pointers.invariant.name in
    let o = onward m run c.number-pointer.result name.0 name.1 (λ i. omega (arith, c.type_inv.message i)) c.number-pointer.ensures (omega (arith, c.number-pointer.type_inv)) (λ low. omega (arith, low, c.if-pointer-lt-POINTER_BITS.false)) name.2 in
    let less : c.number-pointer.result % 16384 < run = o.less in
    let few : length ends ≤ 16384 = c.pointers.invariant.few in
    record {
      back = omega (arith, less, c.pointers.invariant.back);
      name = (name.0, o.after, o.stands);
      leads = leads_behind m run end c.number-pointer.result name.0 o c.pointers.invariant.leads;
      few = elim c.if-run-ends.branch [
        | then-run-ends w ↦ rw w.ends-is (omega (arith, few, length-set ends run end))
        | else-run-ends w ↦ rw w.ends-is few
      ];
      known = elim c.if-run-ends.branch [
        | then-run-ends w ↦
            (let back : end ≤ run = omega (arith, c.pointers-test.true) in
            subst (λ (xs : List ℕ). AreEnds m xs) (sym w.ends-is) (kept (LeadsBack m) ends run end c.pointers.invariant.known w.if-run-ends.true (record { back = back; leads = c.pointers.invariant.leads })))
        | else-run-ends w ↦ subst (λ (xs : List ℕ). AreEnds m xs) (sym w.ends-is) c.pointers.invariant.known
      ];
    }
