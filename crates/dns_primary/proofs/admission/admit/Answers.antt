use Rattle.std.proofs.Common.{◌≡◌, sym, subst, ap, ◌∙◌, arith}
use Rattle.std.specs.Prelude.{Some, None, slice_get}
use Rattle.dns_versions.specs.Held.{HasVersions}
use Rattle.dns_records.specs.Types.{type_soa, class_in}
use Rattle.dns_primary.specs.Machine.{kept_of}
use Rattle.dns_primary.specs.Update.{admission_in, zone_position}
use Rattle.dns_primary.specs.Keeps.{admits_at, IsSet}
use Rattle.dns_primary.proofs.Admitted.{same_place, asked_at, at_place}
use Rattle.dns_primary.proofs.admission.admit.Goals as goal

pub returns-in-None-clause-admission : goal.returns-in-None-clause-admission
returns-in-None-clause-admission g c states a held set zone_is address_is =
    let t : a.zone.qtype ≡ type_soa = ap (λ q. q.qtype) zone_is ∙ sym c.qtype.ensures ∙ c.if-qtype-ne-SOA.false in
    let k : a.zone.qclass ≡ class_in = ap (λ q. q.qclass) zone_is ∙ sym c.qclass.ensures ∙ c.if-qclass-ne-CLASS_IN.false in
    let name_is : c.lend.result ≡ a.zone.name = c.lend.ensures ∙ c.requires.name ∙ ap (λ q. q.name) (sym zone_is) in
    let at : zone_position a.zone.name states ≡ None = ap (λ n. zone_position n states) (sym name_is) ∙ sym (same_place g.S.ZoneStore.keeps c.lend.result c.args.zones.now c.args.pending.now states held) ∙ sym c.place_of.ensures.index ∙ c.in-None.is in
    sym (asked_at states a None t k at)

pub returns-in-Ok-clause-admission : goal.returns-in-Ok-clause-admission
returns-in-Ok-clause-admission g c states a held set zone_is address_is =
    let index = c.in-Some.index in
    let t : a.zone.qtype ≡ type_soa = ap (λ q. q.qtype) zone_is ∙ sym c.qtype.ensures ∙ c.if-qtype-ne-SOA.false in
    let k : a.zone.qclass ≡ class_in = ap (λ q. q.qclass) zone_is ∙ sym c.qclass.ensures ∙ c.if-qclass-ne-CLASS_IN.false in
    let name_is : c.lend.result ≡ a.zone.name = c.lend.ensures ∙ c.requires.name ∙ ap (λ q. q.name) (sym zone_is) in
    let at : zone_position a.zone.name states ≡ Some index = ap (λ n. zone_position n states) (sym name_is) ∙ sym (same_place g.S.ZoneStore.keeps c.lend.result c.args.zones.now c.args.pending.now states held) ∙ sym c.place_of.ensures.index ∙ c.in-Some.is in
    let one = at_place g.S.ZoneStore.keeps c.args.zones.now c.args.pending.now c.args.settings.now states index c.index-pending-index.result c.index-settings-index.result held set (omega (arith, c.requires.as_many, c.in-Some.ensures.inside)) in
    let by_test = c.in-Ok.ensures index one.zone one.state (subst (λ b. HasVersions g.S.ZoneStore.keeps one.zone b (kept_of one.state)) (sym c.index-pending-index.is) one.held) (subst (λ s. IsSet s one.state) (sym c.index-settings-index.is) one.set) in
    ap (admits_at index) one.there ∙ by_test ∙ sym (ap (admission_in c.args.address index) one.there) ∙ ap (λ x. admission_in x index (slice_get states index)) (sym address_is) ∙ sym (asked_at states a (Some index) t k at)

pub returns-in-Err-clause-admission : goal.returns-in-Err-clause-admission
returns-in-Err-clause-admission g c states a held set zone_is address_is =
    let index = c.in-Some.index in
    let t : a.zone.qtype ≡ type_soa = ap (λ q. q.qtype) zone_is ∙ sym c.qtype.ensures ∙ c.if-qtype-ne-SOA.false in
    let k : a.zone.qclass ≡ class_in = ap (λ q. q.qclass) zone_is ∙ sym c.qclass.ensures ∙ c.if-qclass-ne-CLASS_IN.false in
    let name_is : c.lend.result ≡ a.zone.name = c.lend.ensures ∙ c.requires.name ∙ ap (λ q. q.name) (sym zone_is) in
    let at : zone_position a.zone.name states ≡ Some index = ap (λ n. zone_position n states) (sym name_is) ∙ sym (same_place g.S.ZoneStore.keeps c.lend.result c.args.zones.now c.args.pending.now states held) ∙ sym c.place_of.ensures.index ∙ c.in-Some.is in
    let one = at_place g.S.ZoneStore.keeps c.args.zones.now c.args.pending.now c.args.settings.now states index c.index-pending-index.result c.index-settings-index.result held set (omega (arith, c.requires.as_many, c.in-Some.ensures.inside)) in
    let by_test = c.in-Err.ensures index one.zone one.state (subst (λ b. HasVersions g.S.ZoneStore.keeps one.zone b (kept_of one.state)) (sym c.index-pending-index.is) one.held) (subst (λ s. IsSet s one.state) (sym c.index-settings-index.is) one.set) in
    by_test ∙ sym (ap (admission_in c.args.address index) one.there) ∙ ap (λ x. admission_in x index (slice_get states index)) (sym address_is) ∙ sym (asked_at states a (Some index) t k at)
