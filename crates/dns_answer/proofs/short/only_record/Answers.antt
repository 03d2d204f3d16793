use Rattle.std.proofs.Common.{◌≡◌, false, ◌∷◌, [], List, sym, ap, subst, ◌∙◌, arith}
use Rattle.std.specs.Prelude.{is_some}
use Rattle.dns_records.specs.Record.{Record, host_of}
use Rattle.dns_lookup.specs.Represented.{RepresentAll}
use Rattle.dns_lookup.specs.Lookup.{Found as Stated}
use Rattle.dns_lookup.specs.Lent.{AllLend}
use Rattle.dns_answer.specs.Sections.{from_zone, as_owner}
use Rattle.dns_answer.specs.Short.{AreSectionsOf}
use Rattle.dns_zone.proofs.Kept.{single}
use Rattle.dns_answer.proofs.Only.{only_all}
use Rattle.dns_answer.proofs.short.only_record.Goals as goal

pub returns : goal.returns
returns c zones t fs are holds =
    let one = c.one-item.result in
    let found : c.args.found.now ≡ one ∷ [] = single c.args.found.now one one (omega (arith, c.in-len1.len_at_least, c.in-len1.len_below)) c.one-item.is in
    go fs (subst (RepresentAll zones fs) found are) (subst (AllLend zones t) found holds)
  where
    stored : Record
    stored = c.record-item.result

    records : c.answers.result.now ≡ stored ∷ []
    records = single c.answers.result.now stored stored (omega (arith, c.in-len1-answers.len_at_least, c.in-len1-answers.len_below)) c.record-item.is

    go : (fs : List Stated) → RepresentAll zones fs (c.one-item.result ∷ []) → AllLend zones t (c.one-item.result ∷ []) → AreSectionsOf t fs (c.new.result ∷ []) [] []
    go [] h l = absurd h
    go (f ∷ []) (is, rest) (l, more) =
        let answers = c.answers.ensures zones t f is l ∙ ap (λ rs. from_zone f.zone (as_owner f.name rs)) records in
        let none : is_some (host_of stored) ≡ false = ap is_some (sym c.host.ensures) ∙ sym c.is_some.ensures ∙ c.if-is_some.false in
        let made = c.new.ensures in
        let owner = made.owner ∙ c.reborrow.ensures ∙ is.name in
        let ttl = made.ttl ∙ c.ttl.ensures in
        only_all t f stored c.new.result answers none (λ i. record { owner = owner i; rtype = made.rtype i; ttl = ttl i; rdata = made.rdata i })
    go (f ∷ g ∷ fs) (is, rest) l = absurd rest
