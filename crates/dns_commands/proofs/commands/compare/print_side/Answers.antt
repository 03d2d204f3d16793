use Rattle.std.proofs.Common.{◌≡◌, ◌++◌, ◌∷◌, [], List, ℕ, OnOk, sym, subst}
use Rattle.std.proofs.lemmas.List.Concat.{flat_map-append}
use Rattle.std.specs.Io.KnownBytes.{Appends}
use Rattle.dns_records.specs.Record.{Record}
use Rattle.dns_masterfile.specs.Printed.{printed_record}
use Rattle.dns_commands.specs.Compare.{signed_lines}
use Rattle.dns_commands.proofs.Compared.{appends_on}
use Rattle.dns_commands.proofs.commands.compare.print_side.Goals as goal

pub returns : goal.returns
returns g c =
    let sign = c.args.sign.now in
    let soa = c.args.soa.now in
    let others = c.args.others.now in
    let text : signed_lines sign (soa ∷ others) ≡ signed_lines sign (soa ∷ []) ++ signed_lines sign others = flat_map-append (λ (r : Record). sign ++ 32 ∷ printed_record r) (soa ∷ []) others in
    subst (λ (t : List ℕ). OnOk c.print_records.result (Appends (g.W.Write.contents c.args.out.now) (g.W.Write.contents c.print_records.new.out) t)) (sym text)
    (appends_on (g.W.Write.contents c.args.out.now) (g.W.Write.contents c.print_record.new.out) (g.W.Write.contents c.print_records.new.out) (signed_lines sign (soa ∷ [])) (signed_lines sign others) c.print_records.result c.in_ok-print_record.ensures c.print_records.ensures)
