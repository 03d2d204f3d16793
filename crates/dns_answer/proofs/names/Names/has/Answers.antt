use Rattle.std.proofs.Common.{◌||◌, Bool, sym, ap, ◌∙◌}
use Rattle.std.specs.List.{list_any}
use Rattle.std.specs.Option.{option_to_list}
use Rattle.std.proofs.lemmas.List.Folds.{list_any-append}
use Rattle.dns_names.specs.Name.{names_eq}
use Rattle.dns_answer.proofs.Named.{held, names_in}
use Rattle.dns_answer.proofs.names.Names.has.Goals as goal

pub returns-then-is_one : goal.returns-then-is_one
returns-then-is_one c =
    let p = names_eq c.args.name.now in
    let first = option_to_list c.self.inside.first in
    let more = names_in c.self.inside.octets.keys in
    c.if-is_one.true
    ∙ sym (sym (ap (list_any p) c.self.view_is) ∙ list_any-append p first more ∙ ap (λ (b : Bool). b || list_any p more) (sym c.is_one.ensures ∙ c.if-is_one.true))

pub returns-else-is_one : goal.returns-else-is_one
returns-else-is_one c =
    let p = names_eq c.args.name.now in
    let first = option_to_list c.self.inside.first in
    let more = names_in c.self.inside.octets.keys in
    c.contains.ensures
    ∙ held c.args.name.now c.as_wire.result c.self.inside.octets.keys c.as_wire.ensures.octets c.as_wire.ensures.valid c.self.invariant
    ∙ sym (ap (λ (b : Bool). b || list_any p more) (sym c.is_one.ensures ∙ c.if-is_one.false))
    ∙ sym (list_any-append p first more)
    ∙ ap (list_any p) c.self.view_is
