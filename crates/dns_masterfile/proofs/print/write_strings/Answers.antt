use Rattle.std.proofs.Common.{◌≡◌, ℕ, ◌++◌, ◌∷◌, List, sym, ap, ◌∙◌, append_assoc, rules}
use Rattle.std.specs.Prelude.{map}
use Rattle.std.proofs.Output.{has_written_append}
use Rattle.dns_masterfile.specs.Text.{printed_string}
use Rattle.dns_masterfile.specs.Printed.{spaced}
use Rattle.dns_masterfile.proofs.print.write_strings.Goals as goal

pub strings-preserved : goal.strings-preserved
strings-preserved g c =
    let so_far = c.strings.invariant in
    let text = so_far.0 in
    let string = c.in-Some.string.now in
    let behind = c.next.new.self in
    let step : c.strings.rest ≡ string ∷ behind = search rules in
    let whole = so_far.1 ∙ ap (λ (x : List (List ℕ)). text ++ spaced (map printed_string x)) step ∙ sym (append_assoc text (32 ∷ printed_string string) (spaced (map printed_string behind))) in
    (text ++ (32 ∷ printed_string string), whole, λ p. has_written_append {W = g.row.W.Denot} g.W.Write.write_str_gives c.args.f.now text c.strings.f (32 ∷ printed_string string) c.write.new.self (so_far.2 p) (search rules))
