use Rattle.std.proofs.Common.{◌≡◌, ◌||◌, Bool, List, ◌++◌, sym, ap, ◌∙◌}
use Rattle.std.specs.Prelude.{not}
use Rattle.std.specs.List.{list_any}
use Rattle.std.proofs.lemmas.List.Folds.{list_any-append}
use Rattle.std.proofs.lemmas.Result.{IfOk-weaker}
use Rattle.dns_names.specs.Name.{Labels, names_eq}
use Rattle.dns_answer.proofs.hosts.Hosts.insert.Goals as goal

moved : (c : goal.After-insert) (other : Labels) → list_any (names_eq other) c.put_all.new.names ≡ list_any (names_eq other) c.args.self.now
moved c other =
    let p = names_eq other in
    c.in_ok-put_all.ensures other
    ∙ ap (λ (names : List Labels). list_any p names || list_any p c.self.inside.others) c.deref-2.ensures.value
    ∙ sym (list_any-append p c.self.inside.rising.items c.self.inside.others)
    ∙ ap (list_any p) c.self.view_is

pub returns-clause-new : goal.returns-clause-new
returns-clause-new c = IfOk-weaker c.insert.result _ _ (λ new is. is ∙ ap not (moved c c.args.host)) c.insert.ensures.new

pub returns-clause-names : goal.returns-clause-names
returns-clause-names c = IfOk-weaker c.insert.result _ _ (λ new put other.
    ap (λ (names : List Labels). list_any (names_eq other) (names ++ c.insert.new.self)) c.clear.ensures.items
    ∙ put other
    ∙ ap (λ (b : Bool). names_eq other c.args.host || b) (moved c other)) c.insert.ensures.names
