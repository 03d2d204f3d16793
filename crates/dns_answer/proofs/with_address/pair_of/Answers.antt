use Rattle.std.proofs.Common.{◌≡◌, ◌∷◌, ◌++◌, [], List, sym, ap, subst, ◌∙◌, arith}
use Rattle.dns_records.specs.Types.{type_a, type_aaaa, type_ns}
use Rattle.dns_zone.specs.Records.{rrset}
use Rattle.dns_zone.specs.Zone.{Zone}
use Rattle.dns_zone.proofs.Kept.{single}
use Rattle.dns_lookup.specs.Represented.{RepresentAll}
use Rattle.dns_lookup.specs.RepresentedLaws.{represented_is, outcome_of}
use Rattle.dns_lookup.specs.Lookup.{Found as Stated}
use Rattle.dns_lookup.specs.Lent.{AllLend, records_found}
use Rattle.dns_lookup.specs.declared.outcome.Kind.TheVariants as kinds
use Rattle.dns_answer.specs.Sections.{answers_of, from_zone, as_owner}
use Rattle.dns_answer.specs.Short.{AreSectionsOf}
use Rattle.dns_answer.proofs.Shown.{answers_represented, answering, authority_by}
use Rattle.dns_answer.proofs.Pairs.{zone_within, answer_pair, server_pair}
use Rattle.dns_answer.proofs.with_address.pair_of.Goals as goal

pub searched-requires : goal.searched-requires
searched-requires g c =
    let zones = c.args.zones.now in
    let one = c.one-item.result in
    let found : c.args.found.now ≡ one ∷ [] = single c.args.found.now one one (omega (arith, c.in-len1.len_at_least, c.in-len1.len_below)) c.one-item.is in
    zone_within zones c.requires.0 one (subst (RepresentAll zones c.requires.0) found c.requires.1)

pub searched-requires-in-Referral : goal.searched-requires-in-Referral
searched-requires-in-Referral g c =
    let zones = c.args.zones.now in
    let one = c.one-item.result in
    let found : c.args.found.now ≡ one ∷ [] = single c.args.found.now one one (omega (arith, c.in-len1.len_at_least, c.in-len1.len_below)) c.one-item.is in
    zone_within zones c.requires.0 one (subst (RepresentAll zones c.requires.0) found c.requires.1)

pub returns-in_ok-address-in-Answers : goal.returns-in_ok-address-in-Answers
returns-in_ok-address-in-Answers g c t fs are holds =
    let zones = c.args.zones.now in
    let one = c.one-item.result in
    let found : c.args.found.now ≡ one ∷ [] = single c.args.found.now one one (omega (arith, c.in-len1.len_at_least, c.in-len1.len_below)) c.one-item.is in
    go fs (subst (RepresentAll zones fs) found are) (subst (AllLend zones t) found holds)
  where
    go : (fs : List Stated) → RepresentAll c.args.zones.now fs (c.one-item.result ∷ []) → AllLend c.args.zones.now t (c.one-item.result ∷ []) → AreSectionsOf t fs (c.new-shown.result ∷ []) [] (c.in_ok-address-in-Answers.address ∷ [])
    go [] h l = absurd h
    go (f ∷ []) (is, rest) (l, more) =
        let one = c.one-item.result in
        let stored = c.stored-item.result in
        let host = c.in_ok-host.host in
        let a = c.in_ok-address-in-Answers.address in
        let records : one.records.now ≡ stored ∷ [] = single one.records.now stored stored (omega (arith, c.in-len1-records.len_at_least, c.in-len1-records.len_below)) c.stored-item.is in
        let outcome : f.outcome ≡ outcome_of kinds.Answers one.node = represented_is f.outcome f.name one.kind one.node is.kind ∙ ap (λ k. outcome_of k one.node) c.in-Answers.is in
        let answers : answers_of t f ≡ from_zone f.zone (as_owner f.name (stored ∷ [])) = answers_represented c.args.zones.now t f one is l ∙ (λ i. from_zone f.zone (as_owner f.name (answering (c.in-Answers.is i) (records i)))) in
        let made = c.new-shown.ensures in
        let owner = made.owner ∙ c.reborrow.ensures ∙ is.name in
        let ttl = made.ttl ∙ c.ttl.ensures in
        let all : rrset f.zone.records host type_a ++ rrset f.zone.records host type_aaaa ≡ a ∷ [] = subst (λ (z : Zone). rrset z.records host type_a ++ rrset z.records host type_aaaa ≡ a ∷ []) (c.searched.ensures f is) c.in_ok-address-in-Answers.ensures.all in
        answer_pair t f one.node stored c.new-shown.result a host outcome answers (λ i. record { owner = owner i; rtype = made.rtype i; ttl = ttl i; rdata = made.rdata i }) c.in_ok-host.ensures c.in_ok-address-in-Answers.ensures.kind all
    go (f ∷ g ∷ fs) (is, rest) l = absurd rest

pub returns-in_ok-address-in-Referral : goal.returns-in_ok-address-in-Referral
returns-in_ok-address-in-Referral g c t fs are holds =
    let zones = c.args.zones.now in
    let one = c.one-item.result in
    let found : c.args.found.now ≡ one ∷ [] = single c.args.found.now one one (omega (arith, c.in-len1.len_at_least, c.in-len1.len_below)) c.one-item.is in
    go fs (subst (RepresentAll zones fs) found are) (subst (AllLend zones t) found holds)
  where
    go : (fs : List Stated) → RepresentAll c.args.zones.now fs (c.one-item.result ∷ []) → AllLend c.args.zones.now t (c.one-item.result ∷ []) → AreSectionsOf t fs [] (c.new-shown-in-Referral.result ∷ []) (c.in_ok-address-in-Referral.address ∷ [])
    go [] h l = absurd h
    go (f ∷ []) (is, rest) (l, more) =
        let one = c.one-item.result in
        let stored = c.stored-item.result in
        let host = c.in_ok-host.host in
        let a = c.in_ok-address-in-Referral.address in
        let records : one.records.now ≡ stored ∷ [] = single one.records.now stored stored (omega (arith, c.in-len1-records.len_at_least, c.in-len1-records.len_below)) c.stored-item.is in
        let outcome : f.outcome ≡ outcome_of kinds.Referral one.node = represented_is f.outcome f.name one.kind one.node is.kind ∙ ap (λ k. outcome_of k one.node) c.in-Referral.is in
        let lent : one.records.now ≡ rrset f.zone.records one.node type_ns = l f.zone is.zone ∙ ap (λ k. records_found f.zone.records k one.node t) c.in-Referral.is in
        let servers : authority_by f.zone (outcome_of kinds.Referral one.node) ≡ from_zone f.zone (stored ∷ []) = ap (from_zone f.zone) (sym lent ∙ records) in
        let made = c.new-shown-in-Referral.ensures in
        let owner = made.owner ∙ c.lend.ensures ∙ c.owner.ensures in
        let ttl = made.ttl ∙ c.ttl-in-Referral.ensures in
        let all : rrset f.zone.records host type_a ++ rrset f.zone.records host type_aaaa ≡ a ∷ [] = subst (λ (z : Zone). rrset z.records host type_a ++ rrset z.records host type_aaaa ≡ a ∷ []) (c.searched-in-Referral.ensures f is) c.in_ok-address-in-Referral.ensures.all in
        server_pair t f one.node stored c.new-shown-in-Referral.result a host outcome servers (λ i. record { owner = owner i; rtype = made.rtype i; ttl = ttl i; rdata = made.rdata i }) c.in_ok-host.ensures c.in_ok-address-in-Referral.ensures.kind all
    go (f ∷ g ∷ fs) (is, rest) l = absurd rest
