-- Requests that are served, as events of the machine.
use Rattle.std.proofs.Common.{◌≡◌, inl, inr, ⊎_elim, ℕ, Bool, List, [], ◌++◌, Option, Some, None, refl, sym, ap, subst, ◌∙◌}
use Rattle.std.specs.Prelude.{is_some, ◌&&◌, ◌||◌}
use Rattle.dns_request.specs.declared.request.Transport.TheVariants.{Udp, Tcp}
use Rattle.dns_answer.specs.Answer.{handled}
use Rattle.dns_primary.specs.declared.event.Peer.{Peer}
use Rattle.dns_primary.specs.declared.event.To.TheVariants.{Address, Connection}
use Rattle.dns_primary.specs.Machine.{Machine, peer_at, shown_zones}
use Rattle.dns_primary.specs.Flush.{Sent, flush_sends}
use Rattle.dns_primary.specs.Update.{is_full}
use Rattle.dns_primary.specs.Step.{Effects, Datagram, Arrives, IsArrived, Step, arrived_lacks, arrived_update, checkpoint_first, failures, failure, failure_on, is_update, request_lacks}
use Rattle.dns_primary.specs.Steps.{IsServedOrLacks, LacksRequest, nothing}
use Rattle.dns_primary.proofs.Served.{gives_none}

pub came : (old next : Machine) (peer : Peer) (octets : List ℕ) (fails : List Bool) (stated : Effects) → IsServedOrLacks old peer (Address peer) octets Udp fails stated next → Step fails old (Datagram peer octets) stated next
came old next peer octets fails stated h = ⊎_elim (λ s. inl s) (λ l. inr (record { takes = refl; noted = l.noted; accepted = l.accepted; stays = l.stays })) h

pub arrived : (old next : Machine) (number : ℕ) (peer : Peer) (octets : List ℕ) (fails : List Bool) (stated : Effects) → peer_at number old.connections ≡ Some peer
    → IsServedOrLacks old peer (Connection number) octets Tcp fails stated next → Step fails old (Arrives number octets) stated next
arrived old next number peer octets fails stated e h =
    let goes : failures old (Arrives number octets) ≡ failure (Connection number) octets = ap (λ (o : Option Peer). failure_on number o octets) e in
    let lacks : checkpoint_first old (Arrives number octets) ≡ request_lacks old (Connection number) peer (handled (shown_zones old) octets Tcp) = ap (λ (o : Option Peer). arrived_lacks old number o octets) e in
    ⊎_elim (λ s. inl (subst (λ (o : Option Peer). IsArrived fails old number o octets stated next) (sym e) s))
    (λ (l : LacksRequest fails old (Connection number) (is_update (handled (shown_zones old) octets Tcp)) (request_lacks old (Connection number) peer (handled (shown_zones old) octets Tcp)) octets stated next). inr (record {
      takes = refl;
      noted = l.noted;
      accepted = l.accepted;
      stays = elim (l.stays) [
        | inl s ↦ inl (s.0, s.1, s.2 ∙ sym goes)
        | inr r ↦ elim r [
          | inl s ↦ inr (inl (ap (λ (o : Option Peer). arrived_update old o octets && is_full old || is_some (arrived_lacks old number o octets)) e ∙ s.0, s.1, s.2, s.3 ∙ ap (λ (x : List Sent). flush_sends fails old ++ x) (sym goes)))
          | inr s ↦ inr (inr (s.0, s.1, lacks ∙ s.2, s.3, s.4 ∙ ap (λ (x : List Sent). (s.1).sent ++ x) (sym goes)))
        ]
      ];
    })) h

pub arrived_nowhere : (old : Machine) (number : ℕ) (octets : List ℕ) → peer_at number old.connections ≡ None → Step [] old (Arrives number octets) nothing old
arrived_nowhere old number octets e = inl (subst (λ (o : Option Peer). IsArrived [] old number o octets nothing old) (sym e) (refl, gives_none old))
