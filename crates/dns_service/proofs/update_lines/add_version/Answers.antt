use Rattle.std.proofs.Common.{◌≡◌, ◌∙◌, ℕ, List, [], ◌∷◌, ◌++◌, Result, Ok, Err, OnOk, sym, ap, append_assoc}
use Rattle.std.specs.Prelude.{codes, decimal}
use Rattle.dns_service.proofs.update_lines.add_version.Goals as goal

on_ok : {T E P Q : Type 0} (r : Result T E) → (P → Q) → OnOk r P → OnOk r Q
on_ok (Ok v) so h = so h
on_ok (Err e) so h = tt

regroup : (a b c d e : List ℕ) → a ++ (b ++ (c ++ (d ++ e))) ≡ a ++ b ++ c ++ d ++ e
regroup a b c d e = sym (append_assoc (a ++ b ++ c) d e ∙ append_assoc (a ++ b) c (d ++ e) ∙ append_assoc a b (c ++ (d ++ e)))

pub returns : goal.returns
returns c =
    on_ok c.writeln.result (λ (is : c.writeln.new.self.items ≡ c.args.lines.now.items ++ (codes " NOERROR version " ++ (decimal c.args.version ++ (codes " serial " ++ (decimal c.args.serial ++ 10 ∷ []))))).
    is ∙ ap (λ t. c.args.lines.now.items ++ t) (regroup (codes " NOERROR version ") (decimal c.args.version) (codes " serial ") (decimal c.args.serial) (10 ∷ [])))
    c.writeln.ensures.bytes
