use Rattle.std.proofs.Common.{◌≡◌, true, false, true≢false, ◌||◌, [], ◌∷◌, ◌++◌, sym, ap, ◌∙◌, cond}
use Rattle.std.specs.Prelude.{Some, None}
use Rattle.std.specs.List.{list_any}
use Rattle.dns_names.specs.Name.{names_eq}
use Rattle.dns_zone.specs.Ancestry.{tied_same}
use Rattle.dns_lookup.specs.Lookup.{alias_at}
use Rattle.dns_lookup.specs.Represented.{names_searched}
use Rattle.dns_lookup.specs.Lent.{records_found}
use Rattle.dns_lookup.specs.RepresentedLaws.{represented_is, outcome_of}
use Rattle.dns_lookup.proofs.Aliases.{alias_next, any_last}
use Rattle.dns_lookup.proofs.AtNode.{alias_owned}
use Rattle.dns_lookup.proofs.chain.next_name.Goals as goal

pub returns-then-is-is_among : goal.returns-then-is-is_among
returns-then-is-is_among c zones f t is holds own =
    let last = c.args.last.now in
    let next = c.in_ok-next.next in
    let seen = names_searched c.args.before.now ++ last.name ∷ [] in
    let target : next ≡ alias_at f.zone last.node = c.in_ok-next.ensures.found f.zone last.node (holds f.zone is.zone ∙ ap (λ k. records_found f.zone.records k last.node t) c.in-Alias.is) in
    let searched : list_any (names_eq next) seen ≡ true =
    any_last (names_eq next) (names_searched c.args.before.now) last.name ∙ (λ i. sym (tied_same c.is.result next last.name c.is.ensures.0 c.is.ensures.1) i || sym c.is_among.ensures i) ∙ c.if-is-is_among.true in
    sym (alias_next f seen last.node next (represented_is f.outcome f.name last.kind last.node is.kind ∙ ap (λ k. outcome_of k last.node) c.in-Alias.is) target ∙ ap (λ b. cond b None (Some next)) searched)

pub returns : goal.returns
returns c zones f t is holds own =
    let last = c.args.last.now in
    let next = c.in_ok-next.next in
    let seen = names_searched c.args.before.now ++ last.name ∷ [] in
    let target : next ≡ alias_at f.zone last.node = c.in_ok-next.ensures.found f.zone last.node (holds f.zone is.zone ∙ ap (λ k. records_found f.zone.records k last.node t) c.in-Alias.is) in
    let unseen : list_any (names_eq next) seen ≡ false =
    any_last (names_eq next) (names_searched c.args.before.now) last.name ∙ (λ i. sym (tied_same c.is.result next last.name c.is.ensures.0 c.is.ensures.1) i || sym c.is_among.ensures i) ∙ c.if-is-is_among.false in
    sym (alias_next f seen last.node next (represented_is f.outcome f.name last.kind last.node is.kind ∙ ap (λ k. outcome_of k last.node) c.in-Alias.is) target ∙ ap (λ b. cond b None (Some next)) unseen)

pub returns-in_err-next : goal.returns-in_err-next
returns-in_err-next c = λ zones f t is holds own.
    let last = c.args.last.now in
    let aliased = represented_is f.outcome f.name last.kind last.node is.kind ∙ ap (λ k. outcome_of k last.node) c.in-Alias.is in
    let some = alias_owned f.zone f.name t last.node (sym own ∙ aliased) in
    let none = c.in_err-next.ensures.none f.zone last.node (holds f.zone is.zone ∙ ap (λ k. records_found f.zone.records k last.node t) c.in-Alias.is) in
    absurd (true≢false (sym some ∙ none))
