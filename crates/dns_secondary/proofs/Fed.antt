-- What was heard, where the answer was taken before.
use Rattle.std.proofs.Common.{◌≡◌, ℕ, List, Some, subst}
use Rattle.std.specs.Prelude.{Result, Ok, Err, IfOk}
use Rattle.dns_secondary.specs.State.{State}
use Rattle.dns_secondary.specs.Receiving.{Receiving}
use Rattle.dns_secondary.specs.Told.{over, Feeds, Hears}
use Rattle.dns_secondary.specs.declared.fault.Fault.{Fault}
use Rattle.dns_secondary.specs.declared.fault.Progress.{Progress}
use Rattle.dns_secondary.specs.declared.fault.Progress.TheVariants.{More, Done, UpToDate, RetryTcp}

over_hears : (s : Receiving) (at : State) (octets : List ℕ) (p : Progress) (new : Receiving) → Hears (over s) at octets p new → Hears s at octets p new
over_hears s at octets More new h = record { message = h.message; stands = h.stands; accepted = h.accepted; tells = h.tells }
over_hears s at octets Done new h = record { message = h.message; stands = h.stands; accepted = h.accepted; tells = h.tells }
over_hears s at octets UpToDate new h = record { message = h.message; stands = h.stands; accepted = h.accepted; tells = h.tells }
over_hears s at octets RetryTcp new h = record { message = h.message; stands = h.stands; accepted = h.accepted; tells = h.tells }

pub feeds_ok : (s t : Receiving) (at : State) (octets : List ℕ) (r : Result Progress Fault) (new : Receiving)
    → t ≡ over s
    → s.state ≡ Some at
    → IfOk r (λ p. Hears t at octets p new)
    → IfOk r (λ p. Feeds s octets p new)
feeds_ok s t at octets (Ok p) new e is h = (at, is, over_hears s at octets p new (subst (λ u. Hears u at octets p new) e h))
feeds_ok s t at octets (Err fault) new e is h = h
