-- The log of turns.
use Rattle.std.proofs.Common.{◌≡◌, ◌⊎◌, inl, inr, ℕ, ◌+◌, ◌<◌, Bool, false, List, [], ◌∷◌, ◌++◌, length, Option, Some, None, Result, Ok, Err, IfOk, refl, arith, sym, ap, subst, ◌∙◌, append_assoc, append-nil}
use Rattle.std.specs.Prelude.{get_or, slice_get, take}
use Rattle.std.specs.Io.KnownBytes.{Appends, append_known}
use Rattle.std.specs.declared.net.socket_addr.SocketAddr.{SocketAddr}
use Rattle.std.proofs.KnownBytes.{Appends-nil, Appends-trans}
use Rattle.std.proofs.lemmas.List.{length-take-le, take_more}
use Rattle.dns_names.specs.Name.{Labels}
use Rattle.dns_zone.specs.Zone.{Zone}
use Rattle.dns_versions.specs.Held.{shown_zone}
use Rattle.dns_primary.specs.Fresh.{IsShown}
use Rattle.dns_primary.specs.Machine.{Machine, ZoneState, kept_of}
use Rattle.dns_primary.specs.Step.{Event}
use Rattle.dns_primary.specs.declared.event.Effects.{Effects}
use Rattle.dns_network.specs.declared.network.Observer as notes
use Rattle.dns_network.specs.declared.network.Note.{Note}
use Rattle.dns_network.specs.Notes.{AreReported, IsReported, OfEvent, OfNote, Report}
use Rattle.dns_service.specs.Log.{IsLogged, IsLogOf, IsSaid, Known, Logged, listening_line, listening_lines, log_of, nothing_known, report_said, says, zone_line, zone_lines}
use Rattle.dns_recording.specs.Script.{zone_comments}
use Rattle.dns_service.specs.Counting.{AreCountsOf}
use Rattle.dns_service.specs.ServedTurns.{HasTurned, OfRun}
use Rattle.dns_service.specs.Telling.{AreScripted, AreTurnsTold, Telling, Texts}
use Rattle.dns_service.proofs.Turned.{turned_so}

-- What is written out comes after what was said.
pub says_written : (before written after : Option (List ℕ)) (lines text : List ℕ) → Appends before (append_known written lines) text → Appends written after lines → Appends before after text
says_written None written after lines text said out = tt
says_written (Some xs) None after lines text said out = absurd said
says_written (Some xs) (Some ys) None lines text said out = absurd out
says_written (Some xs) (Some ys) (Some zs) lines text said out = out ∙ said

-- A log says what was written where no line is left.
pub says_all : (written after : Option (List ℕ)) (text : List ℕ) → Appends (append_known written []) after text → Appends written after text
says_all None after text said = tt
says_all (Some xs) None text said = said
says_all (Some xs) (Some ys) text said = said ∙ ap (λ (x : List ℕ). x ++ text) (append-nil xs)

-- A log that took a report stays the same one, and says what is to be said of it.
abbrev pub LogsOn : {L M : Type 0} → (L → M) → (L → List Labels) → (L → Bool) → (L → Bool) → (L → Logged) → Report → L → L → Type 0
LogsOn mark names hushed failed state one old new =
    (mark new ≡ mark old) × (names new ≡ names old) × (hushed new ≡ hushed old) × IsLogged (hushed old) (names old) one (failed old) (failed new) (state old) (state new)

-- It does for each report if it does for each note and each event.
reported_so : {L M : Type 0} (l : notes.Ghosts L) (mark : L → M) (names : L → List Labels) (hushed : L → Bool) (failed : L → Bool) (state : L → Logged)
    → ((old : L) (one : Note) (new : L) → l.takes old one new → LogsOn mark names hushed failed state (OfNote one) old new)
    → ((old : L) (event : Event) (effects : Effects) (new : L) → l.observes old event effects new → LogsOn mark names hushed failed state (OfEvent event effects) old new)
    → (old : L) (one : Report) (new : L) → IsReported l old one new → LogsOn mark names hushed failed state one old new
reported_so l mark names hushed failed state taken observed old (OfNote one) new h = taken old one new h
reported_so l mark names hushed failed state taken observed old (OfEvent event effects) new h = observed old event effects new h

-- A log before the first report.
pub record BeginsLog (log : Logged) : Type 0 where
  pub none : log.lines ≡ []
  pub fresh : log.known ≡ nothing_known

-- What is said of reports, in a log that stays the same one, and of which no line failed.
module _ {L M : Type 0} (l : notes.Ghosts L) (mark : L → M) (names : L → List Labels) (hushed : L → Bool) (failed : L → Bool) (state : L → Logged)
    (taken_so : (old : L) (one : Report) (new : L) → IsReported l old one new → LogsOn mark names hushed failed state one old new) where
  reports_logged : (origins : List Labels) (quiet : Bool) (taken : List Report) (old new : L) → names old ≡ origins → hushed old ≡ quiet → AreReported l taken old new → failed new ≡ false
      → (failed old ≡ false) × Appends (says (state old)) (says (state new)) (log_of quiet origins (state old).known taken)
  reports_logged origins quiet [] old new known is same whole = (
    subst (λ (x : L). failed x ≡ false) same whole,
    subst (λ (x : L). Appends (says (state old)) (says (state x)) []) (sym same) (Appends-nil (says (state old))),
  )
  reports_logged origins quiet (one ∷ rest) old new known is (between, here, pending) whole =
      let step = taken_so old one between here in
      let later = reports_logged origins quiet rest between new (step.1 ∙ known) (step.2 ∙ is) pending whole in
      let now = step.3.said later.0 in
      let named : IsSaid (report_said (hushed old) origins (state old).known one) (state old) (state between) =
      subst (λ (x : List Labels). IsSaid (report_said (hushed old) x (state old).known one) (state old) (state between)) known now.1 in
      let said : IsSaid (report_said quiet origins (state old).known one) (state old) (state between) =
      subst (λ (x : Bool). IsSaid (report_said x origins (state old).known one) (state old) (state between)) is named in
      let first = report_said quiet origins (state old).known one in (
        now.0,
        Appends-trans (says (state old)) (says (state between)) (says (state new)) first.text (log_of quiet origins first.known rest) said.text
            (subst (λ (x : Known). Appends (says (state between)) (says (state new)) (log_of quiet origins x rest)) said.known later.1),
      )

  stays : (taken : List Report) (old new : L) → AreReported l taken old new → mark old ≡ mark new
  stays [] old new same = ap mark (sym same)
  stays (one ∷ rest) old new (between, here, pending) = sym (taken_so old one between here).0 ∙ stays rest between new pending

  -- The log of reports, after the lines of the addresses, once all of it is written out.
  told_logged : (addresses : List SocketAddr) (err out err_after : Option (List ℕ)) (old new : L) (told : List Report) → Appends err (state old).written (listening_lines addresses)
      → BeginsLog (state old) → failed new ≡ false → Appends (state new).written out (state new).lines
      → (mark old ≡ mark new → err_after ≡ out) → AreReported l told old new → IsLogOf [] (hushed old) (names old) addresses err err_after told
  told_logged addresses err out err_after old new told said begins whole written at handed =
      let noted = reports_logged (names old) (hushed old) told old new refl refl handed whole in
      let more = log_of (hushed old) (names old) nothing_known told in
      let begun : Appends (append_known (state old).written []) (says (state new)) more =
      subst (λ (x : List ℕ). Appends (append_known (state old).written x) (says (state new)) more) begins.none
      (subst (λ (x : Known). Appends (says (state old)) (says (state new)) (log_of (hushed old) (names old) x told)) begins.fresh noted.1) in
      let all : Appends (state old).written out more = says_written (state old).written (state new).written out (state new).lines more (says_all (state old).written (says (state new)) more begun) written in
      subst (λ (x : Option (List ℕ)). Appends err x (listening_lines addresses ++ more)) (sym (at (stays told old new handed)))
      (Appends-trans err (state old).written out (listening_lines addresses) more said all)

-- A server listened and made its turns, which were recorded, no line failed, and all lines are written out.
pub has_listened : {L M : Type 0} {l : notes.Ghosts L} {count : ℕ} {after : OfRun} {keeps : Machine → Type 0} {first last : L} {script script_after err_after out_before out_after out_end : Option (List ℕ)} (t : Telling)
    → HasTurned count (λ turns m. AreScripted l t.is_recorded (zone_comments t.origins m.zones) script script_after turns first last × AreCountsOf t.count_every t.origins m turns out_before out_after) keeps after
    → (mark : L → M) (names : L → List Labels) (hushed : L → Bool) (failed : L → Bool) (state : L → Logged)
    → ((old : L) (one : Note) (new : L) → l.takes old one new → LogsOn mark names hushed failed state (OfNote one) old new)
    → ((old : L) (event : Event) (effects : Effects) (new : L) → l.observes old event effects new → LogsOn mark names hushed failed state (OfEvent event effects) old new)
    → names first ≡ t.origins → hushed first ≡ t.is_quiet
    → (err out : Option (List ℕ)) → Appends err (state first).written (listening_lines t.addresses) → BeginsLog (state first)
    → failed last ≡ false → Appends (state last).written out (state last).lines → (mark first ≡ mark last → err_after ≡ out) → out_end ≡ out_after
    → HasTurned count (λ turns m. AreTurnsTold t [] m turns (record { output = out_before; log = err; script = script }) (record { output = out_end; log = err_after; script = script_after })) keeps after
has_listened {l = l} {keeps = keeps} {first = first} {last = last} {script = script} {script_after = script_after} {err_after = err_after} {out_before = out_before} {out_after = out_after} {out_end = out_end} t is mark names hushed failed state taken_so observed_so named quiet err out said begins whole written at ended =
    turned_so (λ turns m. AreScripted l t.is_recorded (zone_comments t.origins m.zones) script script_after turns first last × AreCountsOf t.count_every t.origins m turns out_before out_after)
    (λ turns m. AreTurnsTold t [] m turns (record { output = out_before; log = err; script = script }) (record { output = out_end; log = err_after; script = script_after })) keeps is
    (λ turns m kept both.
    let are = both.0 in
    let so = told_logged l mark names hushed failed state (reported_so l mark names hushed failed state taken_so observed_so) t.addresses err out err_after first last are.told said begins whole written at are.handed in
    record {
      reports = are.reports;
      of_turns = are.of_turns;
      told = are.told;
      script = are.written;
      log = subst (λ (x : Bool). IsLogOf [] x t.origins t.addresses err err_after are.told) quiet (subst (λ (x : List Labels). IsLogOf [] (hushed first) x t.addresses err err_after are.told) named so);
      counts = subst (λ (x : Option (List ℕ)). AreCountsOf t.count_every t.origins m turns out_before x) (sym ended) both.1;
    })

-- The line of one address more was written.
listening_push : (addresses : List SocketAddr) (address : SocketAddr) → listening_lines (addresses ++ address ∷ []) ≡ listening_lines addresses ++ listening_line address
listening_push [] address = append-nil (listening_line address)
listening_push (a ∷ addresses) address = ap (λ (x : List ℕ). listening_line a ++ x) (listening_push addresses address) ∙ sym (append_assoc (listening_line a) (listening_lines addresses) (listening_line address))

pub listening_more : (addresses : List SocketAddr) (other : SocketAddr) (index : ℕ) (err between err_after : Option (List ℕ)) → index < length addresses
    → Appends err between (listening_lines (take index addresses)) → Appends between err_after (listening_line (get_or addresses index other))
    → Appends err err_after (listening_lines (take (index + 1) addresses))
listening_more addresses other index err between err_after lt first more =
    let here = get_or addresses index other in
    subst (λ (x : List ℕ). Appends err err_after x) (sym (ap listening_lines (take_more addresses index other lt) ∙ listening_push (take index addresses) here))
    (Appends-trans err between err_after (listening_lines (take index addresses)) (listening_line here) first more)

-- The line of one zone more.
abbrev pub line_at : Labels → Option ZoneState → List ℕ
line_at origin None = []
line_at origin (Some z) = zone_line origin (length z.shown) (shown_zone (kept_of z))

lines_push : (origins : List Labels) (origin : Labels) (zones : List ZoneState) → zone_lines (origins ++ origin ∷ []) zones ≡ zone_lines origins zones ++ line_at origin (slice_get zones (length origins))
lines_push [] origin [] = refl
lines_push [] origin (z ∷ zones) = append-nil (zone_line origin (length z.shown) (shown_zone (kept_of z)))
lines_push (o ∷ origins) origin [] = refl
lines_push (o ∷ origins) origin (z ∷ zones) =
    let here = zone_line o (length z.shown) (shown_zone (kept_of z)) in
    ap (λ (x : List ℕ). here ++ x) (lines_push origins origin zones) ∙ sym (append_assoc here (zone_lines origins zones) (line_at origin (slice_get zones (length origins))))

pub lines_more : (origins : List Labels) (other : Labels) (zones : List ZoneState) (index : ℕ) → index < length origins
    → zone_lines (take (index + 1) origins) zones ≡ zone_lines (take index origins) zones ++ line_at (get_or origins index other) (slice_get zones index)
lines_more origins other zones index lt =
    let here = get_or origins index other in
    ap (λ (x : List Labels). zone_lines x zones) (take_more origins index other lt) ∙ lines_push (take index origins) here zones
    ∙ ap (λ (x : ℕ). zone_lines (take index origins) zones ++ line_at here (slice_get zones x)) (length-take-le index origins (omega (arith, lt)))

-- What is told of turns, after the lines of the zones.
pub after_zones : {E : Type 0} (r : Result ℕ E) (t : Telling) (count : ℕ) (err between output script : Option (List ℕ)) (texts : Texts) (keeps : Machine → Type 0) (after : OfRun)
    → ((m : Machine) → keeps m → Appends err between (zone_lines t.origins m.zones))
    → IfOk r (λ status. (status ≡ 3) ⊎ ((status ≡ 0) × HasTurned count (λ turns m. AreTurnsTold t [] m turns (record { output = output; log = between; script = script }) texts) keeps after))
    → IfOk r (λ status. (status ≡ 3) ⊎ ((status ≡ 0) × HasTurned count (λ turns m. AreTurnsTold t (zone_lines t.origins m.zones) m turns (record { output = output; log = err; script = script }) texts) keeps after))
after_zones (Err e) t count err between output script texts keeps after said h = tt
after_zones (Ok status) t count err between output script texts keeps after said (inl failed) = inl failed
after_zones (Ok status) t count err between output script texts keeps after said (inr (done, turned)) = inr (
  done,
  turned_so (λ turns m. AreTurnsTold t [] m turns (record { output = output; log = between; script = script }) texts) (λ turns m. AreTurnsTold t (zone_lines t.origins m.zones) m turns (record { output = output; log = err; script = script }) texts) keeps turned
      (λ turns m kept are. record {
        reports = are.reports;
        of_turns = are.of_turns;
        told = are.told;
        script = are.script;
        counts = are.counts;
        log = Appends-trans err between texts.log (zone_lines t.origins m.zones) (listening_lines t.addresses ++ log_of t.is_quiet t.origins nothing_known are.told) (said m kept) are.log;
      }),
)

-- The line of one zone more was written, or there is no such zone.
pub told_more : (origins : List Labels) (other : Labels) (zones : List ZoneState) (index : ℕ) (err between err_after : Option (List ℕ)) → index < length origins
    → Appends err between (zone_lines (take index origins) zones) → Appends between err_after (line_at (get_or origins index other) (slice_get zones index))
    → Appends err err_after (zone_lines (take (index + 1) origins) zones)
told_more origins other zones index err between err_after lt first more =
    let here = line_at (get_or origins index other) (slice_get zones index) in
    subst (λ (x : List ℕ). Appends err err_after x) (sym (lines_more origins other zones index lt)) (Appends-trans err between err_after (zone_lines (take index origins) zones) here first more)

pub no_line : (origin : Labels) (z : Option ZoneState) (err err_after : Option (List ℕ)) → z ≡ None → err_after ≡ err → Appends err err_after (line_at origin z)
no_line origin z err err_after none same =
    subst (λ (x : Option ZoneState). Appends err err_after (line_at origin x)) (sym none) (subst (λ (x : Option (List ℕ)). Appends err x []) (sym same) (Appends-nil err))

pub one_line : (origin : Labels) (z : Option ZoneState) (number : ℕ) (zone : Zone) (err err_after : Option (List ℕ)) → IsShown number zone z → Appends err err_after (zone_line origin number zone) → Appends err err_after (line_at origin z)
one_line origin None number zone err err_after shown said = absurd shown
one_line origin (Some z) number zone err err_after shown said =
    subst (λ (x : Zone). Appends err err_after (zone_line origin (length z.shown) x)) shown.1 (subst (λ (x : ℕ). Appends err err_after (zone_line origin x zone)) shown.0 said)
