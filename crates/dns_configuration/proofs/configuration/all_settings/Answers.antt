use Rattle.std.proofs.Common.{◌≡◌, Vec, false, true, length, map, get_or, add-one, arith, rules}
use Rattle.std.specs.Prelude.{◌≢◌}
use Rattle.std.specs.Global.{Global}
use Rattle.dns_configuration.specs.declared.configuration.ZoneSettings.{ZoneSettings}
use Rattle.std.specs.List.{list_any}
use Rattle.toml.specs.View.{view}
use Rattle.dns_configuration.specs.Settings.{AreSettings, IsSettings, are_alike}
use Rattle.dns_configuration.proofs.Unread.{never_apart, none_of_them, passed_on, too_many}
use Rattle.dns_configuration.proofs.Zipped.{settings_more}
use Rattle.dns_configuration.proofs.configuration.all_settings.Goals as goal

pub zones-preserved : goal.zones-preserved
zones-preserved c =
    let zones = c.zones.zones.items in
    let zone = c.in_ok-zone.zone in
    let table = c.table-item.result in
    let room : length zones ≢ 16 = search rules in
    let apart : list_any (λ z. are_alike z zone) zones ≡ false = search rules in
    let here : IsSettings (view (get_or c.args.tables.now c.zones.table-index table)) zone = search rules in
    rw (add-one, c.in_ok-push.ensures.items) (settings_more c.args.tables.now c.zones.table-index table zones zone (omega arith) c.zones.invariant here room apart)

pub returns-in_err-zone : goal.returns-in_err-zone
returns-in_err-zone c =
    passed_on (IsSettings (view c.table-item.result)) (λ (zs : Vec ZoneSettings Global). AreSettings (map view c.args.tables.now) zs.items) _ c.from_residual.result c.from_residual.ensures.1 c.in_err-zone.ensures
    (λ none zs h. none_of_them c.args.tables.now c.zones.table-index c.table-item.result zs (omega arith) c.table-item.is none h)

pub returns-then-len-eq-MOST_ZONES : goal.returns-then-len-eq-MOST_ZONES
returns-then-len-eq-MOST_ZONES c = λ zs h.
    let full : length c.zones.zones.items ≡ 16 = search rules in
    too_many c.args.tables.now c.zones.table-index c.zones.zones.items zs.items (omega arith) c.zones.invariant.each full h

pub returns-then-is_second : goal.returns-then-is_second
returns-then-is_second c = λ zs h.
    let zone = c.in_ok-zone.zone in
    let table = c.table-item.result in
    let double : list_any (λ z. are_alike z zone) c.zones.zones.items ≡ true = search rules in
    let here : IsSettings (view (get_or c.args.tables.now c.zones.table-index table)) zone = search rules in
    never_apart c.args.tables.now c.zones.table-index table c.zones.zones.items zs.items zone (omega arith) c.zones.invariant.each here double h
