use Rattle.std.proofs.Common.{◌≡◌, Bool, true, false, ◌||◌, refl, sym, ap, ◌∙◌}
use Rattle.std.specs.List.{list_any}
use Rattle.std.specs.Option.{option_to_list}
use Rattle.dns_names.specs.Name.{names_eq}
use Rattle.dns_zone.specs.Ancestry.{tied_same}
use Rattle.dns_answer.proofs.names.is_one.Goals as goal

alone : (b : Bool) → b ≡ (b || false)
alone true = refl
alone false = refl

pub returns-in-Some : goal.returns-in-Some
returns-in-Some c =
    let name = c.args.name.now in
    tied_same c.is.result name c.in-Some.one c.is.ensures.0 c.is.ensures.1
    ∙ alone (names_eq name c.in-Some.one)
    ∙ sym (ap (λ o. list_any (names_eq name) (option_to_list o)) c.in-Some.is)
