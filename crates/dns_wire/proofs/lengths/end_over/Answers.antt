use Rattle.std.proofs.Common.{◌-◌, ◌++◌, ℕ, refl, arith}
use Rattle.std.proofs.lemmas.Result.{err_from_is_err_and}
use Rattle.dns_names.specs.Name.{Labels}
use Rattle.dns_names.specs.Runs.{run_up}
use Rattle.dns_wire.specs.NameAt.{ends, FullNameAt}
use Rattle.dns_wire.specs.Refusals.{NoName, NameRefused, here, behind}
use Rattle.dns_wire.proofs.PartsRead.{name_up}
use Rattle.dns_wire.proofs.Ends.{name_inside}
use Rattle.dns_wire.proofs.Exits.{fault_exit}
use Rattle.dns_wire.proofs.Measures.{full_root, full_behind, none_before}
use Rattle.dns_wire.proofs.lengths.end_over.Goals as goal

pub returns-in_err-stop-clause-cause : goal.returns-in_err-stop-clause-cause
returns-in_err-stop-clause-cause c =
    let p = err_from_is_err_and c.from_residual.result c.from_residual.ensures.1 in
    rw (p.1, p.2) (here c.in_err-stop.ensures.cause)

pub overflow_sub-stop : goal.overflow_sub-stop
overflow_sub-stop c =
    let f = rw c.in-Pointer.is at c.in_ok-stop.ensures.found in
    run_up c.args.message.now c.args.at f.0 c.in-Pointer.stop f.1

pub returns-in_err-target_end-in-Pointer-clause-refused : goal.returns-in_err-target_end-in-Pointer-clause-refused
returns-in_err-target_end-in-Pointer-clause-refused c =
    let m = c.args.message.now in
    let f = rw c.in-Pointer.is at c.in_ok-stop.ensures.found in
    let p = err_from_is_err_and c.from_residual-in_err-target_end-in-Pointer.result c.from_residual-in_err-target_end-in-Pointer.ensures.1 in
    rw (p.1, p.2) (fault_exit c.in_err-target_end-in-Pointer.field-0.0 _ (λ _. (name : Labels) (end : ℕ) → FullNameAt m c.args.at name end → ⊥) c.in_err-target_end-in-Pointer.ensures.refused (λ _ none. none_before m c.args.at f.0 c.in-Pointer.stop c.in-Pointer.target f.1 f.2 none))

pub returns-in_err-target_end-in-Pointer-clause-cause : goal.returns-in_err-target_end-in-Pointer-clause-cause
returns-in_err-target_end-in-Pointer-clause-cause c =
    let m = c.args.message.now in
    let f = rw c.in-Pointer.is at c.in_ok-stop.ensures.found in
    let p = err_from_is_err_and c.from_residual-in_err-target_end-in-Pointer.result c.from_residual-in_err-target_end-in-Pointer.ensures.1 in
    rw (p.1, p.2) (fault_exit c.in_err-target_end-in-Pointer.field-0.0 (λ e. NameRefused m e c.in-Pointer.target (254 - (c.in-Pointer.stop - c.args.at))) (NoName m c.args.at) c.in_err-target_end-in-Pointer.ensures.cause (λ e h. behind f.0 c.in-Pointer.stop c.in-Pointer.target f.1 f.2 f.3 f.4 h))

pub returns-in-Root-clause-found : goal.returns-in-Root-clause-found
returns-in-Root-clause-found c =
    let m = c.args.message.now in
    let f = rw c.in-Root.is at c.in_ok-stop.ensures.found in
    (f.0, full_root m c.args.at f.0 c.in-Root.stop (λ i. omega (arith, c.type_inv.message i)) f.1 (ends c.in-Root.stop f.1 f.2 refl) (run_up m c.args.at f.0 c.in-Root.stop f.1) f.3)

pub returns-in-Root-clause-inside : goal.returns-in-Root-clause-inside
returns-in-Root-clause-inside c =
    let whole = returns-in-Root-clause-found c in
    (name_up whole.1.stands, name_inside whole.1.stands)

pub returns-in_ok-target_end-in-Pointer-clause-found : goal.returns-in_ok-target_end-in-Pointer-clause-found
returns-in_ok-target_end-in-Pointer-clause-found c =
    let m = c.args.message.now in
    let f = rw c.in-Pointer.is at c.in_ok-stop.ensures.found in
    let t = c.in_ok-target_end-in-Pointer.ensures.found in
    (f.0 ++ t.0, full_behind m c.args.at f.0 t.0 c.in-Pointer.stop c.in-Pointer.target t.1 (λ i. omega (arith, c.type_inv.message i)) f.1 f.2 f.3 f.4 f.5 t.2 t.3)

pub returns-in_ok-target_end-in-Pointer-clause-inside : goal.returns-in_ok-target_end-in-Pointer-clause-inside
returns-in_ok-target_end-in-Pointer-clause-inside c =
    let whole = returns-in_ok-target_end-in-Pointer-clause-found c in
    (name_up whole.1.stands, name_inside whole.1.stands)
