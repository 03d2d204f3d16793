-- Transfers touch neither zones nor what waits, and what goes out by them is no reply that waited.
use Rattle.std.proofs.Common.{◌≡◌, ℕ, List, [], ◌∷◌, Option, Some, None, Result, Ok, Err, refl, sym, ap, subst, ◌∙◌}
use Rattle.std.specs.List.{AllByRecursion}
use Rattle.dns_records.specs.Record.{Record}
use Rattle.dns_wire.specs.Message.{Question, Message}
use Rattle.dns_wire.specs.declared.codes.Rcode.{Rcode}
use Rattle.dns_transfer.specs.Session.{Sending}
use Rattle.dns_primary.specs.declared.event.Peer.{Peer}
use Rattle.dns_primary.specs.declared.event.To.{To}
use Rattle.dns_primary.specs.declared.event.To.TheVariants.{Address, Connection, Nowhere}
use Rattle.dns_primary.specs.Machine.{Machine}
use Rattle.dns_primary.specs.Flush.{Sent, Answered, Replied}
use Rattle.dns_primary.specs.Transfer.{TransferBegins, IsStarted, IsTransferred, IsSentOn, IsPumped}

abbrev pub IsReply : Sent → Type 0
IsReply (Answered w rcode) = ⊥
IsReply (Replied to octets) = Unit {0}

pub record IsQuiet (old : Machine) (out : List Sent) (new : Machine) : Type 0 where
  pub zones : new.zones ≡ old.zones
  pub waiting : new.waiting ≡ old.waiting
  pub replies : AllByRecursion IsReply out

-- nothing, or one reply, and a machine of the same zones and waiting replies
quiet_none : (old next new : Machine) (out : List Sent) → next.zones ≡ old.zones → next.waiting ≡ old.waiting → out ≡ [] → new ≡ next → IsQuiet old out new
quiet_none old next new out zones waiting none is = record {
  zones = ap (λ (m : Machine). m.zones) is ∙ zones;
  waiting = ap (λ (m : Machine). m.waiting) is ∙ waiting;
  replies = subst (λ (l : List Sent). AllByRecursion IsReply l) (sym none) tt;
}

quiet_one : (old next new : Machine) (out : List Sent) (to : To) (octets : List ℕ) → next.zones ≡ old.zones → next.waiting ≡ old.waiting → out ≡ Replied to octets ∷ [] → new ≡ next → IsQuiet old out new
quiet_one old next new out to octets zones waiting one is = record {
  zones = ap (λ (m : Machine). m.zones) is ∙ zones;
  waiting = ap (λ (m : Machine). m.waiting) is ∙ waiting;
  replies = subst (λ (l : List Sent). AllByRecursion IsReply l) (sym one) (tt, tt);
}

begun_quiet : (m : Machine) (to : To) (s : Sending) (out : List Sent) (next : Machine) → TransferBegins m to s out next → IsQuiet m out next
begun_quiet m (Connection number) s out next h = quiet_none m _ next out refl refl h.0 h.1
begun_quiet m (Address peer) s out next h = quiet_one m m next out (Address peer) h.0 refl refl h.3 h.4
begun_quiet m Nowhere s out next h = quiet_none m m next out refl refl h.0 h.1

started_quiet : (m : Machine) (to : To) (octets : List ℕ) (message : Message) (question : Question) (r : Result Sending Rcode) (out : List Sent) (next : Machine) → IsStarted m to octets message question r out next → IsQuiet m out next
started_quiet m to octets message question (Ok s) out next h = begun_quiet m to s out next h
started_quiet m to octets message question (Err rcode) out next h = quiet_one m m next out to _ refl refl h.0 h.1

pub transferred_quiet : (m : Machine) (to : To) (peer : Peer) (octets : List ℕ) (message : Message) (question : Question) (out : List Sent) (next : Machine) → IsTransferred m to peer octets message question out next → IsQuiet m out next
transferred_quiet m to peer octets message question out next h = started_quiet m to octets message question h.0 out next h.2

sent_quiet : (m : Machine) (number : ℕ) (s : Sending) (left : List Record) (out : List Sent) (next : Machine) → IsSentOn m number s left out next → IsQuiet m out next
sent_quiet m number s [] out next h = quiet_none m _ next out refl refl h.0 h.1
sent_quiet m number s (r ∷ left) out next h = quiet_one m _ next out (Connection number) h.0 refl refl h.3 h.4

pub pumped_quiet : (m : Machine) (number : ℕ) (s : Option Sending) (out : List Sent) (next : Machine) → IsPumped m number s out next → IsQuiet m out next
pumped_quiet m number None out next h = quiet_none m m next out refl refl h.0 h.1
pumped_quiet m number (Some s) out next h = sent_quiet m number s s.left out next h

-- what holds of each reply
pub replies_all : (P : Sent → Type 0) → ((to : To) (octets : List ℕ) → P (Replied to octets)) → (out : List Sent) → AllByRecursion IsReply out → AllByRecursion P out
replies_all P each [] h = tt
replies_all P each (Answered w rcode ∷ out) h = absurd h.0
replies_all P each (Replied to octets ∷ out) h = (each to octets, replies_all P each out h.1)
