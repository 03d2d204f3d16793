use Rattle.std.proofs.Common.{◌≡◌, ℕ, ◌∷◌, List, length, sym, ap, subst, ◌∙◌, append-nil, rules}
use Rattle.std.specs.Fmt.{HasWritten}
use Rattle.dns_masterfile.specs.Printed.{printed_data}
use Rattle.dns_masterfile.proofs.PrintedData.{FitNumbers, aaaa_words, soa_words}
use Rattle.dns_masterfile.proofs.print.DataWordsDisplay.fmt.Goals as goal

pub returns-in-Some-as_aaaa-clause-writes : goal.returns-in-Some-as_aaaa-clause-writes
returns-in-Some-as_aaaa-clause-writes g c = λ plain ok.
    let address = c.in-Some-as_aaaa.address in
    let long : length address ≡ 16 = search rules in
    let words = ap printed_data c.in-Some-as_aaaa.ensures ∙ aaaa_words address long ∙ ap (λ (x : List ℕ). 32 ∷ x) (append-nil _) in
    subst (λ (bs : List ℕ). HasWritten {W = g.row.W.Denot} g.W.Write.write_str_gives c.args.f.now bs c.write-in-Some-as_aaaa.new.self) (sym words) (search rules)

pub returns-in-Some-as_soa-clause-writes : goal.returns-in-Some-as_soa-clause-writes
returns-in-Some-as_soa-clause-writes g c = λ plain ok.
    let soa = c.in-Some-as_soa.soa in
    let fits = c.in-Some-as_soa.ensures.1 in
    let numbers : FitNumbers soa = record { serial = fits.serial; refresh = fits.refresh; retry = fits.retry; expire = fits.expire; minimum = fits.minimum } in
    let words = ap printed_data c.in-Some-as_soa.ensures.0 ∙ soa_words soa fits.mname fits.rname numbers in
    subst (λ (bs : List ℕ). HasWritten {W = g.row.W.Denot} g.W.Write.write_str_gives c.args.f.now bs c.write-in-Some-as_soa.new.self) (sym words) (search rules)
