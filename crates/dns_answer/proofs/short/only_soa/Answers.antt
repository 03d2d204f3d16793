use Rattle.std.proofs.Common.{◌≡◌, ◌<◌, ◌∷◌, [], List, length, sym, ap, subst, ◌∙◌, arith}
use Rattle.std.proofs.lemmas.Option.{slice_get_within}
use Rattle.dns_zone.specs.Zone.{Zone}
use Rattle.dns_zone.proofs.Kept.{single}
use Rattle.dns_lookup.specs.Represented.{RepresentAll}
use Rattle.dns_lookup.specs.RepresentedLaws.{represented_is}
use Rattle.dns_lookup.specs.Lookup.{Found as Stated}
use Rattle.dns_lookup.specs.declared.chain.Found.{Found}
use Rattle.dns_answer.specs.Sections.{negative_soa}
use Rattle.dns_answer.specs.Short.{AreSectionsOf}
use Rattle.dns_answer.proofs.Only.{only_negative}
use Rattle.dns_answer.proofs.short.only_soa.Goals as goal

zone_within : (zones : List Zone) (fs : List Stated) (one : Found) → RepresentAll zones fs (one ∷ []) → one.zone < length zones
zone_within zones [] one h = absurd h
zone_within zones (f ∷ fs) one (is, rest) = slice_get_within zones one.zone f.zone is.zone

pub searched-requires : goal.searched-requires
searched-requires g c =
    let zones = c.args.zones.now in
    let one = c.one-item.result in
    let found : c.args.found.now ≡ one ∷ [] = single c.args.found.now one one (omega (arith, c.in-len1.len_at_least, c.in-len1.len_below)) c.one-item.is in
    zone_within zones c.requires.0 one (subst (RepresentAll zones c.requires.0) found c.requires.1)

pub returns-in_default-kind : goal.returns-in_default-kind
returns-in_default-kind g c t fs are =
    let one = c.one-item.result in
    let found : c.args.found.now ≡ one ∷ [] = single c.args.found.now one one (omega (arith, c.in-len1.len_at_least, c.in-len1.len_below)) c.one-item.is in
    go fs (subst (RepresentAll c.args.zones.now fs) found are)
  where
    go : (fs : List Stated) → RepresentAll c.args.zones.now fs (c.one-item.result ∷ []) → AreSectionsOf t fs [] (c.start_of_authority.result ∷ []) []
    go [] h = absurd h
    go (f ∷ []) (is, rest) =
        let one = c.one-item.result in
        only_negative t f one.kind one.node c.start_of_authority.result (represented_is f.outcome f.name one.kind one.node is.kind) c.in_default-kind.not-Referral c.in_default-kind.not-Alias c.in_default-kind.not-Answers (ap negative_soa (sym (c.searched.ensures f is)) ∙ c.start_of_authority.ensures)
    go (f ∷ g ∷ fs) (is, rest) = absurd rest
