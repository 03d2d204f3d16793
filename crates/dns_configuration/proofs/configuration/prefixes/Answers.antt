use Rattle.std.proofs.Common.{◌≡◌, Some, add-one, get_or, sym, ap, subst, ◌∙◌, arith, rules}
use Rattle.toml.specs.Data.{as_str}
use Rattle.toml.specs.View.{view}
use Rattle.toml.specs.declared.value.Value.{Value}
use Rattle.dns_policy.specs.Prefix.{IsPrefix}
use Rattle.dns_configuration.specs.Settings.{HasPrefix}
use Rattle.dns_configuration.proofs.Unread.{misfit, no_prefix_there, no_text}
use Rattle.dns_configuration.proofs.Zipped.{zipped_more}
use Rattle.dns_configuration.proofs.configuration.prefixes.Goals as goal

pub texts-preserved : goal.texts-preserved
texts-preserved c =
    let value = c.value-item.result in
    let here : HasPrefix (view (get_or c.args.texts.now c.texts.value-index value)) c.in-Ok.prefix =
    (let text : as_str (view value) ≡ Some c.in-Some.text.now = search rules in
    let prefix : IsPrefix c.in-Some.text.now c.in-Ok.prefix = search rules in
    (c.in-Some.text.now, ap (λ v. as_str (view v)) (sym c.value-item.is) ∙ text, prefix)) in
    let more = zipped_more view HasPrefix c.args.texts.now c.texts.value-index value c.texts.prefixes.items c.in-Ok.prefix (omega arith) c.texts.invariant here in
    rw (add-one, c.in_ok-push-in-Ok.ensures.items) more

pub returns-in_default : goal.returns-in_default
returns-in_default c = λ ps h. misfit view HasPrefix c.args.texts.now c.texts.value-index c.value-item.result ps.items (omega arith) (λ p q. no_text (view c.value-item.result) p c.in_default.ensures (subst (λ (v : Value). HasPrefix (view v) p) (sym c.value-item.is) q)) h

pub returns-in-Err : goal.returns-in-Err
returns-in-Err c = λ ps h. misfit view HasPrefix c.args.texts.now c.texts.value-index c.value-item.result ps.items (omega arith) (λ p q. no_prefix_there (view c.value-item.result) c.in-Some.text.now _ _ p c.in-Some.ensures c.as_bytes.ensures.value c.in-Err.ensures (subst (λ (v : Value). HasPrefix (view v) p) (sym c.value-item.is) q)) h
