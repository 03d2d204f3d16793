use Rattle.std.proofs.Common.{◌≡◌, Some, add-one, get_or, sym, ap, subst, ◌∙◌, arith, rules}
use Rattle.toml.specs.Data.{as_str}
use Rattle.toml.specs.View.{view}
use Rattle.toml.specs.declared.value.Value.{Value}
use Rattle.dns_configuration.specs.Settings.{HasAddress, IsSocketAddress}
use Rattle.dns_configuration.proofs.Listened.{no_address_there, no_text_there}
use Rattle.dns_configuration.proofs.Unread.{misfit}
use Rattle.dns_configuration.proofs.Zipped.{zipped_more}
use Rattle.dns_configuration.proofs.listening.addresses.Goals as goal

pub texts-preserved : goal.texts-preserved
texts-preserved c =
    let value = c.value-item.result in
    let address = c.in-Some-socket_address.address in
    let text : as_str (view value) ≡ Some c.in-Some.text.now = search rules in
    let is : IsSocketAddress c.in-Some.text.now address = search rules in
    let here : HasAddress (view (get_or c.args.texts.now c.texts.value-index value)) address = (c.in-Some.text.now, ap (λ v. as_str (view v)) (sym c.value-item.is) ∙ text, is) in
    let more = zipped_more view HasAddress c.args.texts.now c.texts.value-index value c.texts.addresses.items address (omega arith) c.texts.invariant here in
    rw (add-one, c.in_ok-push-in-Some-socket_address.ensures.items) more

pub returns-in_default : goal.returns-in_default
returns-in_default c = λ found h. misfit view HasAddress c.args.texts.now c.texts.value-index c.value-item.result found.items (omega arith) (λ a q. no_text_there (view c.value-item.result) a c.in_default.ensures (subst (λ (v : Value). HasAddress (view v) a) (sym c.value-item.is) q)) h

pub returns-in-None : goal.returns-in-None
returns-in-None c = λ found h. misfit view HasAddress c.args.texts.now c.texts.value-index c.value-item.result found.items (omega arith) (λ a q. no_address_there (view c.value-item.result) c.in-Some.text.now a c.in-Some.ensures c.in-None.ensures (subst (λ (v : Value). HasAddress (view v) a) (sym c.value-item.is) q)) h
