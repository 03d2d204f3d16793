use Rattle.std.proofs.Common.{Bool, ◌||◌, ◌++◌, List, sym, ap, subst, ◌∙◌}
use Rattle.std.specs.Prelude.{not}
use Rattle.std.specs.List.{list_any}
use Rattle.std.specs.Option.{option_to_list}
use Rattle.std.proofs.lemmas.List.Folds.{list_any-append}
use Rattle.dns_names.specs.Name.{Labels, names_eq}
use Rattle.dns_names.specs.PlainLaws.{plain_of}
use Rattle.dns_answer.proofs.Named.{absorbed, held, named_put, plain_put, turned, names_in, ArePlain}
use Rattle.dns_answer.proofs.names.Names.insert.Goals as goal

pub invariant_of-self-2 : goal.invariant_of-self-2
invariant_of-self-2 c =
    let plain = plain_of c.as_wire.result.now c.args.name c.as_wire.ensures.valid c.as_wire.ensures.octets in
    subst ArePlain (sym c.in_ok-insert.ensures.keys) (plain_put c.as_wire.result c.self.inside.octets.keys plain.1 c.self.invariant)

pub returns-then-is_one-clause-names : goal.returns-then-is_one-clause-names
returns-then-is_one-clause-names c other =
    let p = names_eq c.args.name in
    let first = option_to_list c.self.inside.first in
    let more = names_in c.self.inside.octets.keys in
    absorbed c.args.self.now c.args.name other (sym (ap (list_any p) c.self.view_is) ∙ list_any-append p first more ∙ ap (λ (b : Bool). b || list_any p more) (sym c.is_one.ensures ∙ c.if-is_one.true))

pub returns-then-is_one-clause-new : goal.returns-then-is_one-clause-new
returns-then-is_one-clause-new c =
    let p = names_eq c.args.name in
    let first = option_to_list c.self.inside.first in
    let more = names_in c.self.inside.octets.keys in
    sym (ap not (sym (ap (list_any p) c.self.view_is) ∙ list_any-append p first more ∙ ap (λ (b : Bool). b || list_any p more) (sym c.is_one.ensures ∙ c.if-is_one.true)))

pub returns-clause-new : goal.returns-clause-new
returns-clause-new c =
    let p = names_eq c.args.name in
    let first = option_to_list c.self.inside.first in
    let more = names_in c.self.inside.octets.keys in
    c.in_ok-insert.ensures.added
    ∙ ap not (held c.args.name c.as_wire.result c.self.inside.octets.keys c.as_wire.ensures.octets c.as_wire.ensures.valid c.self.invariant
    ∙ sym (ap (λ (b : Bool). b || list_any p more) (sym c.is_one.ensures ∙ c.if-is_one.false))
    ∙ sym (list_any-append p first more)
    ∙ ap (list_any p) c.self.view_is)

pub returns-clause-names : goal.returns-clause-names
returns-clause-names c other =
    let q = names_eq other in
    let first = option_to_list c.self.inside.first in
    let keys = c.self.inside.octets.keys in
    let plain = plain_of c.as_wire.result.now c.args.name c.as_wire.ensures.valid c.as_wire.ensures.octets in
    ap (λ ks. list_any q (first ++ names_in ks)) c.in_ok-insert.ensures.keys
    ∙ list_any-append q first _
    ∙ ap (λ (b : Bool). list_any q first || b) (named_put other c.as_wire.result keys)
    ∙ turned (names_eq other _) (list_any q first) (list_any q (names_in keys))
    ∙ (λ i. names_eq other (plain.0 i) || sym (list_any-append q first (names_in keys)) i)
    ∙ ap (λ (names : List Labels). names_eq other c.args.name || list_any q names) c.self.view_is
