use Rattle.std.proofs.Common.{◌≡◌, false, ◌∷◌, [], List, sym, ap, ◌∙◌, arith}
use Rattle.std.specs.Prelude.{is_some}
use Rattle.dns_records.specs.Record.{Record, host_of}
use Rattle.dns_lookup.specs.Represented.{RepresentAll}
use Rattle.dns_lookup.specs.Lookup.{Found as Stated}
use Rattle.dns_lookup.specs.Lent.{AllLend}
use Rattle.dns_answer.specs.Short.{AreSectionsOf}
use Rattle.dns_zone.proofs.Kept.{single}
use Rattle.dns_answer.specs.Sections.{answers_of, as_owner, from_zone}
use Rattle.dns_answer.proofs.Only.{only_all}
use Rattle.dns_answer.proofs.Shown.{answering, answers_represented}
use Rattle.dns_answer.proofs.short.lone_answer.Goals as goal

pub returns-clause-alone : goal.returns-clause-alone
returns-clause-alone c zones t fs are holds = go fs are holds
  where
    stored : Record
    stored = c.record-item.result

    go : (fs : List Stated) → RepresentAll zones fs (c.args.first.now ∷ []) → AllLend zones t (c.args.first.now ∷ []) → AreSectionsOf t fs (record stored { owner = c.args.first.now.name } ∷ []) [] []
    go [] h l = absurd h
    go (f ∷ []) (is, rest) (l, more) =
        let records = single c.args.first.now.records.now stored stored (omega (arith, c.in-len1.len_at_least, c.in-len1.len_below)) c.record-item.is in
        let none : is_some (host_of stored) ≡ false = ap is_some (sym c.host.ensures) ∙ sym c.is_some.ensures ∙ c.if-is_some.false in
        let first = c.args.first.now in
        let answers : answers_of t f ≡ from_zone f.zone (as_owner f.name (stored ∷ [])) = answers_represented zones t f first is l ∙ ap (λ k. from_zone f.zone (as_owner f.name (answering k first.records.now))) c.in-Answers.is ∙ ap (λ rs. from_zone f.zone (as_owner f.name rs)) records in
        only_all t f stored (record stored { owner = c.args.first.now.name }) answers none (λ i. record stored { owner = is.name i })
    go (f ∷ g ∷ fs) (is, rest) l = absurd rest
