-- Each of some items of one name has it.
use Rattle.std.proofs.Common.{◌≡◌, ℕ, zero, suc, ◌<◌, get_or, true, List, [], ◌∷◌, length, ap, ◌∙◌, arith}
use Rattle.std.specs.List.{list_all}
use Rattle.dns_names.specs.Name.{Labels, names_eq}
use Rattle.dns_zone.specs.Order.{both_true}
use Rattle.dns_wire.specs.Message.{ResourceRecord}

pub named_at : (name : Labels) (items : List ResourceRecord) (k : ℕ) (r : ResourceRecord) → list_all (λ i. names_eq i.owner name) items ≡ true → k < length items → r ≡ get_or items k r → names_eq r.owner name ≡ true
named_at name [] k r h lt is = absurd (omega arith)
named_at name (x ∷ xs) zero r h lt is = ap (λ (i : ResourceRecord). names_eq i.owner name) is ∙ (both_true (names_eq x.owner name) (list_all (λ i. names_eq i.owner name) xs) h).0
named_at name (x ∷ xs) (suc k) r h lt is = named_at name xs k r (both_true (names_eq x.owner name) (list_all (λ i. names_eq i.owner name) xs) h).1 (omega arith) is
