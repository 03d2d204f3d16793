use Rattle.std.proofs.Common.{Bor, ◌≡◌, Bool, ◌++◌, ◌∷◌, [], List, ℕ, sym, ap, subst, ◌∙◌, append_assoc}
use Rattle.std.specs.Prelude.{Option, if◌then◌else◌}
use Rattle.std.specs.Iterator.{YieldsFirstRef}
use Rattle.std.specs.Io.KnownBytes.{Appends}
use Rattle.dns_records.specs.Record.{Record}
use Rattle.dns_masterfile.specs.Printed.{is_wanted, printed_record}
use Rattle.dns_masterfile.proofs.PrintedZone.{printed_wanted, wanted_step, appends_two}
use Rattle.dns_masterfile.proofs.zone.print_wanted.Goals as goal

pub loop-record-preserved : goal.loop-record-preserved
loop-record-preserved g c =
    let soa = c.args.soa in
    let r = c.in-Some.record.now in
    let left : List Record = c.next.new.self in
    let at : c.loop-record.record-iterator ≡ r ∷ left =
    subst (λ (o : Option (Bor Record)). YieldsFirstRef {S = List Record} {A = Record} (λ x. x) c.loop-record.record-iterator o left) c.in-Some.is c.next.ensures.steps in
    let so_far = c.loop-record.invariant.printed in
    let line : List ℕ = if is_wanted soa r then printed_record r else [] in
    let whole = so_far.1 ∙ ap (λ (rest : List Record). so_far.0 ++ printed_wanted soa rest) at ∙ ap (λ (t : List ℕ). so_far.0 ++ t) (wanted_step soa r left) ∙ sym (append_assoc so_far.0 line (printed_wanted soa left)) in
    let written : Appends (g.W.Write.contents c.loop-record.out) (g.W.Write.contents c.print_if.new.out) line = subst (λ (b : Bool). Appends (g.W.Write.contents c.loop-record.out) (g.W.Write.contents c.print_if.new.out) (if b then printed_record r else [])) c.is_wanted.ensures c.in_ok-print_if.ensures in
    record {
      can = tt;
      ends = tt;
      printed = (so_far.0 ++ line, whole, appends_two (g.W.Write.contents c.args.out.now) (g.W.Write.contents c.loop-record.out) (g.W.Write.contents c.print_if.new.out) so_far.0 line so_far.2 written);
    }
