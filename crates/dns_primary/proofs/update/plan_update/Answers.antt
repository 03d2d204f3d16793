use Rattle.std.proofs.Common.{◌≡◌, ℕ, Bool, true, false, List, Option, Some, None, Ok, refl, sym, subst, ◌∙◌, ap}
use Rattle.std.specs.Prelude.{IfSome, ◌&&◌, nat_lt, if◌then◌else◌}
use Rattle.dns_records.specs.Record.{Record}
use Rattle.dns_zone.specs.Zone.{Zone}
use Rattle.dns_changes.specs.Change.{Change, IsChange}
use Rattle.dns_changes.specs.Version.{IsVersionAfter}
use Rattle.dns_update.specs.Verdict.{Verdict, Refuses, Keeps, Leaves, verdict, IsVerdict}
use Rattle.dns_update.specs.declared.Judged.{Judged}
use Rattle.dns_update.specs.declared.Judged.TheVariants as judged
use Rattle.dns_wire.specs.declared.codes.Rcode.TheVariants.{NoError, ServFail}
use Rattle.dns_store.specs.Versions.{newest_of}
use Rattle.dns_store.specs.Room.{entry_between, sectors_left}
use Rattle.dns_versions.specs.Held.{newer, newest_zone}
use Rattle.dns_versions.specs.Staging.{HasPlanRoom, IsPlan, IsRoomTold, Plan, has_room}
use Rattle.dns_versions.proofs.Room.{newer_is}
use Rattle.dns_primary.specs.Update.{lacked_by}
use Rattle.dns_primary.specs.Outcome.{ChangesNothing}
use Rattle.dns_primary.proofs.Judged.{refused_is, kept_is, leaving}
use Rattle.dns_primary.proofs.update.plan_update.Goals as goal

-- where there is no room, no sectors are lacked
none_lacked : (has less : Bool) (n : ℕ) → has ≡ false → ◌≡◌ {A = Option ℕ} (if has && less then Some n else None) None
none_lacked true less n e = absurd (cc e)
none_lacked false less n e = refl

pub returns-in-Ok-Refused-clause-planned : goal.returns-in-Ok-Refused-clause-planned
returns-in-Ok-Refused-clause-planned g c k held =
    let answers = c.args.message.now.message.answers in
    let items = c.args.message.now.message.authorities in
    let rcode = c.in-Ok-Refused.rcode in
    let before = c.newest.result.now in
    let here : IsVerdict g.I.ZoneIndex.records before.records (verdict before answers items) (judged.Refused rcode) =
    subst (λ (j : Judged g.row.I.Denot). IsVerdict g.I.ZoneIndex.records before.records (verdict before answers items) j) c.in-Ok-Refused.field-0-is c.in-Ok-Refused.ensures.verdict in
    let is : verdict (newest_zone k) answers items ≡ Refuses rcode = ap (λ (z : Zone). verdict z answers items) (sym (c.newest.ensures.held k held)) ∙ refused_is g.I.ZoneIndex.records before.records (verdict before answers items) rcode here in
    subst (λ (v : Verdict). ChangesNothing k v rcode) (sym is) refl

pub returns-in-Ok-Refused-clause-lacks : goal.returns-in-Ok-Refused-clause-lacks
returns-in-Ok-Refused-clause-lacks g c k held =
    let answers = c.args.message.now.message.answers in
    let items = c.args.message.now.message.authorities in
    let rcode = c.in-Ok-Refused.rcode in
    let before = c.newest.result.now in
    let here : IsVerdict g.I.ZoneIndex.records before.records (verdict before answers items) (judged.Refused rcode) =
    subst (λ (j : Judged g.row.I.Denot). IsVerdict g.I.ZoneIndex.records before.records (verdict before answers items) j) c.in-Ok-Refused.field-0-is c.in-Ok-Refused.ensures.verdict in
    let is : verdict (newest_zone k) answers items ≡ Refuses rcode = ap (λ (z : Zone). verdict z answers items) (sym (c.newest.ensures.held k held)) ∙ refused_is g.I.ZoneIndex.records before.records (verdict before answers items) rcode here in
    sym (ap (lacked_by k) is)

pub returns-in-Ok-NoChange-clause-planned : goal.returns-in-Ok-NoChange-clause-planned
returns-in-Ok-NoChange-clause-planned g c k held =
    let answers = c.args.message.now.message.answers in
    let items = c.args.message.now.message.authorities in
    let before = c.newest.result.now in
    let here : IsVerdict g.I.ZoneIndex.records before.records (verdict before answers items) judged.NoChange =
    subst (λ (j : Judged g.row.I.Denot). IsVerdict g.I.ZoneIndex.records before.records (verdict before answers items) j) c.in-Ok-NoChange.field-0-is c.in-Ok-NoChange.ensures.verdict in
    let is : verdict (newest_zone k) answers items ≡ Keeps = ap (λ (z : Zone). verdict z answers items) (sym (c.newest.ensures.held k held)) ∙ kept_is g.I.ZoneIndex.records before.records (verdict before answers items) here in
    subst (λ (v : Verdict). ChangesNothing k v NoError) (sym is) refl

pub returns-in-Ok-NoChange-clause-lacks : goal.returns-in-Ok-NoChange-clause-lacks
returns-in-Ok-NoChange-clause-lacks g c k held =
    let answers = c.args.message.now.message.answers in
    let items = c.args.message.now.message.authorities in
    let before = c.newest.result.now in
    let here : IsVerdict g.I.ZoneIndex.records before.records (verdict before answers items) judged.NoChange =
    subst (λ (j : Judged g.row.I.Denot). IsVerdict g.I.ZoneIndex.records before.records (verdict before answers items) j) c.in-Ok-NoChange.field-0-is c.in-Ok-NoChange.ensures.verdict in
    let is : verdict (newest_zone k) answers items ≡ Keeps = ap (λ (z : Zone). verdict z answers items) (sym (c.newest.ensures.held k held)) ∙ kept_is g.I.ZoneIndex.records before.records (verdict before answers items) here in
    sym (ap (lacked_by k) is)

pub plan-requires-clause-next : goal.plan-requires-clause-next
plan-requires-clause-next g c =
    let accepted = c.in-Ok-Accepted in
    let after = g.I.ZoneIndex.records accepted.records in
    subst (λ (d : Change). IsVersionAfter (newer c.args.zone.now c.args.versions.now.tip) d after) (sym c.in_ok-entry-in-Ok-Accepted.ensures)
    (subst (λ (z : Zone). IsVersionAfter z accepted.change after) c.newest.ensures.either (accepted.ensures.next accepted.change accepted.records accepted.field-0-is))

pub plan-requires-clause-change : goal.plan-requires-clause-change
plan-requires-clause-change g c =
    let answers = c.args.message.now.message.answers in
    let items = c.args.message.now.message.authorities in
    let before = c.newest.result.now in
    let accepted = c.in-Ok-Accepted in
    let after = g.I.ZoneIndex.records accepted.records in
    let here : IsVerdict g.I.ZoneIndex.records before.records (verdict before answers items) (judged.Accepted accepted.change accepted.records) =
    subst (λ (j : Judged g.row.I.Denot). IsVerdict g.I.ZoneIndex.records before.records (verdict before answers items) j) accepted.field-0-is accepted.ensures.verdict in
    let l = leaving g.I.ZoneIndex.records before.records (verdict before answers items) accepted.change accepted.records here in
    subst (λ (d : Change). IsChange (newer c.args.zone.now c.args.versions.now.tip).records after d) (sym c.in_ok-entry-in-Ok-Accepted.ensures)
    (subst (λ (z : Zone). IsChange z.records after accepted.change) c.newest.ensures.either l.change)

pub returns-in-Ok-Some-clause-planned : goal.returns-in-Ok-Some-clause-planned
returns-in-Ok-Some-clause-planned g c k held =
    let answers = c.args.message.now.message.answers in
    let items = c.args.message.now.message.authorities in
    let before = c.newest.result.now in
    let accepted = c.in-Ok-Accepted in
    let after = g.I.ZoneIndex.records accepted.records in
    let here : IsVerdict g.I.ZoneIndex.records before.records (verdict before answers items) (judged.Accepted accepted.change accepted.records) =
    subst (λ (j : Judged g.row.I.Denot). IsVerdict g.I.ZoneIndex.records before.records (verdict before answers items) j) accepted.field-0-is accepted.ensures.verdict in
    let l = leaving g.I.ZoneIndex.records before.records (verdict before answers items) accepted.change accepted.records here in
    let leaves : verdict (newest_zone k) answers items ≡ Leaves after = ap (λ (z : Zone). verdict z answers items) (sym (c.newest.ensures.held k held)) ∙ l.is in
    let plan = c.in-Ok-Some.plan in
    let newest = newer c.args.zone.now c.args.versions.now.tip in
    let planned : IsPlan newest after plan = subst (λ (o : Option Plan). IfSome o (IsPlan newest after)) c.in-Ok-Some.field-0-is c.in-Ok-Some.ensures.planned in
    let room : HasPlanRoom k plan = subst (λ (o : Option Plan). IsRoomTold {E = Unit {0}} k after (Ok o)) c.in-Ok-Some.field-0-is (c.in-Ok-Some.ensures.room k held) in
    let records : plan.version.records ≡ after = ap (λ (z : Zone). z.records) planned.version in
    let is : verdict (newest_zone k) answers items ≡ Leaves plan.version.records = leaves ∙ ap (λ (rs : List Record). Leaves rs) (sym records) in
    (is, room)

pub returns-in-Ok-Some-clause-lacks : goal.returns-in-Ok-Some-clause-lacks
returns-in-Ok-Some-clause-lacks g c k held =
    let answers = c.args.message.now.message.answers in
    let items = c.args.message.now.message.authorities in
    let before = c.newest.result.now in
    let accepted = c.in-Ok-Accepted in
    let after = g.I.ZoneIndex.records accepted.records in
    let here : IsVerdict g.I.ZoneIndex.records before.records (verdict before answers items) (judged.Accepted accepted.change accepted.records) =
    subst (λ (j : Judged g.row.I.Denot). IsVerdict g.I.ZoneIndex.records before.records (verdict before answers items) j) accepted.field-0-is accepted.ensures.verdict in
    let l = leaving g.I.ZoneIndex.records before.records (verdict before answers items) accepted.change accepted.records here in
    let leaves : verdict (newest_zone k) answers items ≡ Leaves after = ap (λ (z : Zone). verdict z answers items) (sym (c.newest.ensures.held k held)) ∙ l.is in
    let plan = c.in-Ok-Some.plan in
    let newest = newer c.args.zone.now c.args.versions.now.tip in
    let planned : IsPlan newest after plan = subst (λ (o : Option Plan). IfSome o (IsPlan newest after)) c.in-Ok-Some.field-0-is c.in-Ok-Some.ensures.planned in
    let room : HasPlanRoom k plan = subst (λ (o : Option Plan). IsRoomTold {E = Unit {0}} k after (Ok o)) c.in-Ok-Some.field-0-is (c.in-Ok-Some.ensures.room k held) in
    let records : plan.version.records ≡ after = ap (λ (z : Zone). z.records) planned.version in
    let is : verdict (newest_zone k) answers items ≡ Leaves plan.version.records = leaves ∙ ap (λ (rs : List Record). Leaves rs) (sym records) in
    let of_newest = subst (λ (z : Zone). IsPlan z after plan) (newer_is g.S.ZoneStore.keeps c.args.zone.now c.args.versions.now k held) planned in
    let own = subst (λ (rs : List Record). IsPlan (newest_zone k) rs plan) (sym records) of_newest in
    c.lacked-lacked.ensures k held.kept own room ∙ sym (ap (lacked_by k) is)

pub returns-in-Ok-None-clause-planned : goal.returns-in-Ok-None-clause-planned
returns-in-Ok-None-clause-planned g c k held =
    let answers = c.args.message.now.message.answers in
    let items = c.args.message.now.message.authorities in
    let before = c.newest.result.now in
    let accepted = c.in-Ok-Accepted in
    let after = g.I.ZoneIndex.records accepted.records in
    let here : IsVerdict g.I.ZoneIndex.records before.records (verdict before answers items) (judged.Accepted accepted.change accepted.records) =
    subst (λ (j : Judged g.row.I.Denot). IsVerdict g.I.ZoneIndex.records before.records (verdict before answers items) j) accepted.field-0-is accepted.ensures.verdict in
    let l = leaving g.I.ZoneIndex.records before.records (verdict before answers items) accepted.change accepted.records here in
    let leaves : verdict (newest_zone k) answers items ≡ Leaves after = ap (λ (z : Zone). verdict z answers items) (sym (c.newest.ensures.held k held)) ∙ l.is in
    let room : has_room k after ≡ false = subst (λ (o : Option Plan). IsRoomTold {E = Unit {0}} k after (Ok o)) c.in-Ok-None.field-0-is (c.in-Ok-None.ensures.room k held) in
    subst (λ (v : Verdict). ChangesNothing k v ServFail) (sym leaves) (room, refl)

pub returns-in-Ok-None-clause-lacks : goal.returns-in-Ok-None-clause-lacks
returns-in-Ok-None-clause-lacks g c k held =
    let answers = c.args.message.now.message.answers in
    let items = c.args.message.now.message.authorities in
    let before = c.newest.result.now in
    let accepted = c.in-Ok-Accepted in
    let after = g.I.ZoneIndex.records accepted.records in
    let here : IsVerdict g.I.ZoneIndex.records before.records (verdict before answers items) (judged.Accepted accepted.change accepted.records) =
    subst (λ (j : Judged g.row.I.Denot). IsVerdict g.I.ZoneIndex.records before.records (verdict before answers items) j) accepted.field-0-is accepted.ensures.verdict in
    let l = leaving g.I.ZoneIndex.records before.records (verdict before answers items) accepted.change accepted.records here in
    let leaves : verdict (newest_zone k) answers items ≡ Leaves after = ap (λ (z : Zone). verdict z answers items) (sym (c.newest.ensures.held k held)) ∙ l.is in
    let room : has_room k after ≡ false = subst (λ (o : Option Plan). IsRoomTold {E = Unit {0}} k after (Ok o)) c.in-Ok-None.field-0-is (c.in-Ok-None.ensures.room k held) in
    sym (ap (lacked_by k) leaves ∙ none_lacked (has_room k after) (nat_lt (sectors_left k) (entry_between (newest_of k) after)) (entry_between (newest_of k) after) room)
