use Rattle.std.proofs.Common.{◌≡◌, Bool, true, false, List, [], ◌∷◌, refl, sym, ap, ◌∙◌}
use Rattle.std.specs.Prelude.{IsTrue, ◌↔◌}
use Rattle.dns_records.specs.Record.{Record}
use Rattle.dns_transfer.specs.Left.{left_at}
use Rattle.dns_transfer.specs.Session.{Sending}
use Rattle.dns_transfer.proofs.Filled.{some_left}
use Rattle.dns_transfer.proofs.session.Session.is_done.Goals as goal

done_is : (b : Bool) (left : List Record) → (IsTrue b → left ≡ []) → ((IsTrue b → ⊥) → (r : Record) × (rest : List Record) × (left ≡ r ∷ rest)) → IsTrue b ↔ (left ≡ [])
done_is true left end more = (end, λ _. refl)
done_is false left end more =
    let some = more (λ (t : IsTrue false). absurd cc) in
    (end, λ none. absurd (let clash = sym some.2 ∙ none in cc))

pub returns : goal.returns
returns g c =
    let s = c.self.inside in
    let at = left_at s.soa (g.I.ZoneIndex.records s.index) s.history in
    let left = ap (λ (x : Sending). x.left) c.self.view_is in
    done_is c.is_end.result c.args.self.now.left (λ t. sym left ∙ ap at (c.is_end.ensures.0 t))
    (λ not. (let more = some_left s.soa (g.I.ZoneIndex.records s.index) s.history s.position (λ e. not (c.is_end.ensures.1 e)) in (more.0, more.1, sym left ∙ more.2)))
