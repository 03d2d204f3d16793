use Rattle.std.proofs.Common.{◌≡◌, ◌++◌, ◌∷◌, ◌+◌, [], List, ℕ, take, sym, ap, subst, ◌∙◌, arith}
use Rattle.std.proofs.lemmas.List.{take_more}
use Rattle.std.proofs.lemmas.List.Concat.{flat_map-append}
use Rattle.std.specs.Io.KnownBytes.{Appends}
use Rattle.dns_records.specs.Record.{Record}
use Rattle.dns_masterfile.specs.Printed.{printed_record}
use Rattle.dns_masterfile.proofs.PrintedZone.{appends_two}
use Rattle.dns_commands.specs.Compare.{signed_lines}
use Rattle.dns_commands.proofs.commands.compare.print_records.Goals as goal

pub loop-entry-preserved : goal.loop-entry-preserved
loop-entry-preserved g c =
    let xs = c.args.records.now in
    let i = c.loop-entry.entry-index in
    let x = c.entry-item.result in
    let sign = c.args.sign.now in
    let more : take (i + 1) xs ≡ take i xs ++ x ∷ [] = take_more xs i x (omega (arith, c.loop-entry-test.true)) ∙ ap (λ (r : Record). take i xs ++ r ∷ []) (sym c.entry-item.is) in
    let text : signed_lines sign (take (i + 1) xs) ≡ signed_lines sign (take i xs) ++ signed_lines sign (x ∷ []) =
    ap (λ (rs : List Record). signed_lines sign rs) more ∙ flat_map-append (λ (r : Record). sign ++ 32 ∷ printed_record r) (take i xs) (x ∷ []) in
    subst (λ (t : List ℕ). Appends (g.W.Write.contents c.args.out.now) (g.W.Write.contents c.print_record.new.out) t) (sym text)
    (appends_two (g.W.Write.contents c.args.out.now) (g.W.Write.contents c.loop-entry.out) (g.W.Write.contents c.print_record.new.out) (signed_lines sign (take i xs)) (signed_lines sign (x ∷ [])) c.loop-entry.invariant (c.in_ok-print_record.ensures))
