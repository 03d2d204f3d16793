use Rattle.std.proofs.Common.{Vec, arith, codes, map}
use Rattle.std.proofs.lemmas.Bool.Decides.{nat_tests}
use Rattle.std.specs.Global.{Global}
use Rattle.toml.specs.View.{view}
use Rattle.dns_configuration.specs.declared.configuration.ZoneSettings.{ZoneSettings}
use Rattle.dns_configuration.specs.Settings.{AreSettings, Describes, HasAddresses}
use Rattle.dns_configuration.proofs.Unread.{as_many, passed_on, zones_there}
use Rattle.dns_configuration.proofs.configuration.configuration_of.Goals as goal

pub returns-in_err-listen : goal.returns-in_err-listen
returns-in_err-listen c = (let d = view c.args.document.now in passed_on (HasAddresses (codes "listen") d) (Describes d) _ c.from_residual.result c.from_residual.ensures.1 c.in_err-listen.ensures (λ none x h. none x.listen h.listen))

pub returns-in_err-zones : goal.returns-in_err-zones
returns-in_err-zones c =
    let d = view c.args.document.now in
    passed_on (λ (zs : Vec ZoneSettings Global). AreSettings (map view c.as_slice.result.now) zs.items) (Describes d) _ c.from_residual-in_err-zones.result c.from_residual-in_err-zones.ensures.1 c.in_err-zones.ensures
    (λ none x h. none x.zones (zones_there d c.in-Some.tables.now.items c.as_slice.result.now x c.in-Some.ensures c.as_slice.ensures.value h))

pub returns-then-is_empty : goal.returns-then-is_empty
returns-then-is_empty c = λ x h.
    let there = zones_there (view c.args.document.now) c.in-Some.tables.now.items c.as_slice.result.now x c.in-Some.ensures c.as_slice.ensures.value h in
    let long = as_many c.as_slice.result.now c.in_ok-zones.zones.items x.zones.items c.in_ok-zones.ensures there in
    let some = h.some in
    absurd (grind (arith, nat_tests, c.if-is_empty.ensures, long, some))
