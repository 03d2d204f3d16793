use Rattle.std.proofs.Common.{◌≡◌, sym, ap, ◌∙◌}
use Rattle.std.specs.Prelude.{Some, None, is_none, ◌==◌}
use Rattle.std.specs.List.{position}
use Rattle.dns_primary.specs.declared.event.To.{To}
use Rattle.dns_primary.specs.Transfer.{is_free}
use Rattle.dns_primary.proofs.Transferred.{found, not_found}
use Rattle.dns_primary.proofs.primary.Primary.is_free.Goals as goal

pub returns-in-Some : goal.returns-in-Some
returns-in-Some g c m kept =
    let number = c.in-Connection.number in
    let items = c.args.self.now.transfers.items in
    let at : position (λ t. t.number == number) items ≡ Some c.in-Some.field-0 = ap (position (λ t. t.number == number)) (sym c.deref.ensures.value) ∙ sym c.place_on.ensures.index ∙ c.in-Some.is in
    let one = found number c.in-Some.field-0 items at in
    sym (ap is_none (sym (kept.transfers_are number) ∙ one.has)) ∙ ap (λ (t : To). is_free t m.connections) (sym c.in-Connection.is)

pub returns-in-None : goal.returns-in-None
returns-in-None g c m kept =
    let number = c.in-Connection.number in
    let items = c.args.self.now.transfers.items in
    let at : position (λ t. t.number == number) items ≡ None = ap (position (λ t. t.number == number)) (sym c.deref.ensures.value) ∙ sym c.place_on.ensures.index ∙ c.in-None.is in
    sym (ap is_none (sym (kept.transfers_are number) ∙ not_found number items at)) ∙ ap (λ (t : To). is_free t m.connections) (sym c.in-Connection.is)
