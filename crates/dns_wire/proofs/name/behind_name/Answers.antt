use Rattle.std.proofs.Common.{refl, arith}
use Rattle.dns_names.specs.Runs.{run_up}
use Rattle.dns_wire.specs.NameAt.{ends}
use Rattle.dns_wire.proofs.Ends.{name_inside}
use Rattle.dns_wire.proofs.Measures.{full_root, full_kept}
use Rattle.dns_wire.proofs.PartsRead.{name_up}
use Rattle.dns_wire.proofs.name.behind_name.Goals as goal

pub step-requires-clause-inside : goal.step-requires-clause-inside
step-requires-clause-inside c = let h = c.requires.stands.stands in omega (arith, name_up h, name_inside h)

pub overflow_add-result : goal.overflow_add-result
overflow_add-result c =
    let h = c.requires.stands.stands in
    let f = rw c.in-Ok-Root.field-0-is at c.in-Ok-Root.ensures.found in
    omega (arith, name_up h, name_inside h, f.3)

pub overflow_add-result-in-Ok-Pointer : goal.overflow_add-result-in-Ok-Pointer
overflow_add-result-in-Ok-Pointer c =
    let h = c.requires.stands.stands in
    let f = rw c.in-Ok-Pointer.field-0-is at c.in-Ok-Pointer.ensures.found in
    omega (arith, name_up h, name_inside h, f.5)

pub returns-in-Ok-Root : goal.returns-in-Ok-Root
returns-in-Ok-Root c =
    let m = c.args.message.now in
    let f = rw c.in-Ok-Root.field-0-is at c.in-Ok-Root.ensures.found in
    (f.0, full_root m c.args.at f.0 c.in-Ok-Root.stop (λ i. omega (arith, c.type_inv.message i)) f.1 (ends c.in-Ok-Root.stop f.1 f.2 refl) (run_up m c.args.at f.0 c.in-Ok-Root.stop f.1) f.3)

pub returns-in-Ok-Pointer : goal.returns-in-Ok-Pointer
returns-in-Ok-Pointer c =
    let m = c.args.message.now in
    let f = rw c.in-Ok-Pointer.field-0-is at c.in-Ok-Pointer.ensures.found in
    full_kept m c.args.at f.0 c.in-Ok-Pointer.stop c.in-Ok-Pointer.field-0-1 c.requires.name c.requires.end (λ i. omega (arith, c.type_inv.message i)) f.1 f.2 f.3 f.4 f.5 c.requires.stands
