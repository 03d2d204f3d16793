-- What a log takes of a turn that begins, or ends.
use Rattle.std.proofs.Common.{◌≡◌, ℕ, Bool, true, false, List, [], refl, sym, subst}
use Rattle.dns_names.specs.Name.{Labels}
use Rattle.dns_network.specs.declared.network.Note.TheVariants.{Begins, Ends}
use Rattle.dns_network.specs.Notes.{OfNote}
use Rattle.dns_counters.specs.Counters.{counted_if}
use Rattle.dns_counters.specs.declared.counters.Counters.{Counters}
use Rattle.dns_counters.specs.declared.counting.Counting.{Counting}
use Rattle.dns_service.specs.Counting.{counting_after}
use Rattle.dns_service.specs.declared.log.Counts.{Counts}
use Rattle.dns_service.specs.Log.{IsSaid, Logged, report_said, said_of}
use Rattle.dns_service.proofs.Observed.{counted_once, nothing_said}

-- That a turn begins or ends is not counted.
begin_uncounted : (on : Bool) (k : Counters) (now : ℕ) → k ≡ counted_if on k (OfNote (Begins now))
begin_uncounted true k now = refl
begin_uncounted false k now = refl

end_uncounted : (on : Bool) (k : Counters) → k ≡ counted_if on k (OfNote Ends)
end_uncounted true k = refl
end_uncounted false k = refl

pub begins_uncounted : (c : Counting) (now : ℕ) → c ≡ counting_after c (OfNote (Begins now))
begins_uncounted c now = counted_once c c (OfNote (Begins now)) refl (begin_uncounted c.is_on c.counters now)

pub ends_uncounted : (c : Counting) → c ≡ counting_after c (OfNote Ends)
ends_uncounted c = counted_once c c (OfNote Ends) refl (end_uncounted c.is_on c.counters)

-- Nothing is said where a turn begins in the second of the turn before.
pub begins_unsaid : (quiet : Bool) (origins : List Labels) (log : Logged) (now : ℕ) → said_of quiet origins log.known.counts (Begins now) ≡ ([], log.known.counts)
    → IsSaid (report_said quiet origins log.known (OfNote (Begins now))) log log
begins_unsaid quiet origins log now none =
    subst (λ (said : List ℕ × Counts). IsSaid (record { text = said.0; known = record { counts = said.1; addresses = log.known.addresses; transfers = log.known.transfers } }) log log) (sym none) (nothing_said log)

-- Nor is it where one ends.
pub ends_unsaid : (quiet : Bool) (origins : List Labels) (log : Logged) → IsSaid (report_said quiet origins log.known (OfNote Ends)) log log
ends_unsaid quiet origins log = nothing_said log
