-- What a log says of an event.
use Rattle.std.proofs.Common.{◌≡◌, ℕ, Bool, true, false, List, [], ◌++◌, Option, Some, None, refl, sym, subst, ◌∙◌, append-nil}
use Rattle.std.specs.Io.KnownBytes.{Appends, append_known}
use Rattle.std.specs.declared.net.ip_addr.IpAddr.{IpAddr}
use Rattle.dns_names.specs.Name.{Labels}
use Rattle.dns_primary.specs.Step.{Event}
use Rattle.dns_primary.specs.declared.event.Effects.{Effects}
use Rattle.dns_network.specs.Notes.{OfEvent, Report}
use Rattle.dns_counters.specs.Counters.{counted_if}
use Rattle.dns_counters.specs.declared.counting.Counting.{Counting}
use Rattle.dns_service.specs.Counting.{counting_after}
use Rattle.dns_service.specs.declared.log.Counts.{Counts}
use Rattle.dns_service.specs.declared.transfer_lines.Transfer.{Transfer}
use Rattle.dns_service.specs.Log.{IsSaid, Logged, Saying, logged, observation_said, report_said, says}
use Rattle.dns_service.proofs.Logged.{says_written}
use Rattle.dns_service.proofs.Said.{said_more, said_none}

-- Nothing is said.
pub nothing_said : (log : Logged) → IsSaid (record { text = []; known = log.known }) log log
nothing_said log = record { text = said_none log.written log.lines; known = refl }

pub quiet_said : (quiet : Bool) (origins : List Labels) (log : Logged) (event : Event) (effects : Effects) → quiet ≡ true
    → IsSaid (report_said quiet origins log.known (OfEvent event effects)) log log
quiet_said true origins log event effects is = nothing_said log
quiet_said false origins log event effects is = absurd (cc is)

-- An event is said of in a log that is not quiet.
pub event_reported : (quiet : Bool) (origins : List Labels) (log after : Logged) (event : Event) (effects : Effects) → quiet ≡ false
    → IsSaid (observation_said origins log.known event effects) log after → IsSaid (report_said quiet origins log.known (OfEvent event effects)) log after
event_reported false origins log after event effects is said = said
event_reported true origins log after event effects is said = absurd (cc is)

pub silent_said : (quiet : Bool) (origins : List Labels) (log : Logged) (event : Event) (effects : Effects) → quiet ≡ false
    → observation_said origins log.known event effects ≡ record { text = []; known = log.known }
    → IsSaid (report_said quiet origins log.known (OfEvent event effects)) log log
silent_said quiet origins log event effects is none =
    event_reported quiet origins log log event effects is (subst (λ (s : Saying). IsSaid s log log) (sym none) (nothing_said log))

-- What was appended to lines is said after all that was said.
pub appended_said : (said : Saying) (written written_after : Option (List ℕ)) (lines lines_after : List ℕ) (counts counts_after : Counts)
    (addresses addresses_after : List (Option IpAddr)) (transfers transfers_after : List (Option Transfer))
    → written_after ≡ written → lines_after ≡ lines ++ said.text → counts_after ≡ said.known.counts → addresses_after ≡ said.known.addresses → transfers_after ≡ said.known.transfers
    → IsSaid said (logged written lines counts addresses transfers) (logged written_after lines_after counts_after addresses_after transfers_after)
appended_said said written written_after lines lines_after counts counts_after addresses addresses_after transfers transfers_after same more counted addressed opened = record {
  text = subst (λ (x : Option (List ℕ)). Appends (append_known written lines) (append_known x lines_after) said.text) (sym same) (said_more written lines said.text lines_after more);
  known = λ i. record { counts = counted i; addresses = addressed i; transfers = opened i };
}

-- Where no line is left, what was written is all that is said.
all_written : (before after : Option (List ℕ)) (text : List ℕ) → Appends before after text → Appends before (append_known after []) text
all_written None after text said = tt
all_written (Some xs) None text said = said
all_written (Some xs) (Some ys) text said = append-nil ys ∙ said

-- What is said stays so when all lines are written out.
pub written_said : (said : Saying) (log : Logged) (written written_after : Option (List ℕ)) (lines lines_after : List ℕ) (counts counts_after : Counts)
    (addresses addresses_after : List (Option IpAddr)) (transfers transfers_after : List (Option Transfer))
    → IsSaid said log (logged written lines counts addresses transfers) → Appends written written_after lines → lines_after ≡ []
    → counts_after ≡ counts → addresses_after ≡ addresses → transfers_after ≡ transfers
    → IsSaid said log (logged written_after lines_after counts_after addresses_after transfers_after)
written_said said log written written_after lines lines_after counts counts_after addresses addresses_after transfers transfers_after is out none counted addressed opened = record {
  text = subst (λ (x : List ℕ). Appends (says log) (append_known written_after x) said.text) (sym none)
      (all_written (says log) written_after said.text (says_written (says log) written written_after lines said.text is.text out));
  known = (λ i. record { counts = counted i; addresses = addressed i; transfers = opened i }) ∙ is.known;
}

-- What counts a report, by its parts.
pub counted_once : (old new : Counting) (one : Report) → new.is_on ≡ old.is_on → new.counters ≡ counted_if old.is_on old.counters one → new ≡ counting_after old one
counted_once old new one on counts = λ i. record { counters = counts i; is_on = on i }
