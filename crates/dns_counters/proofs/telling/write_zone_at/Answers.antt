use Rattle.std.proofs.Common.{Result, Ok, Err, OnOk}
use Rattle.std.specs.Prelude.{slice_get}
use Rattle.dns_counters.proofs.Folds.{one_zone}
use Rattle.dns_counters.proofs.telling.write_zone_at.Goals as goal

on_ok : {T E P Q : Type 0} (r : Result T E) → (P → Q) → OnOk r P → OnOk r Q
on_ok (Ok v) so h = so h
on_ok (Err e) so h = tt

pub returns : goal.returns
returns g c =
    let text = g.W.Write.contents in
    on_ok c.write_zone.result
    (λ said m kept.
    one_zone c.args.origin.now (slice_get m.zones c.args.index) c.in-Some.version c.in-Some.zone.now c.in-Some-fullness.fullness (text c.args.out.now) (text c.write_zone.new.out)
    (c.in-Some.ensures m kept) (c.in-Some-fullness.ensures m kept) said)
    c.write_zone.ensures
