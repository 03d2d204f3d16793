-- Datagrams that pass a socket, in one call after the other.
use Rattle.std.proofs.Common.{◌≡◌, ℕ, Bool, List, [], ◌∷◌, ◌++◌, Some, None, refl, ap, sym, subst, ◌∙◌}
use Rattle.std.specs.List.{AllZip}
use Rattle.dns_configuration.proofs.Called.{called_on, nothing_called}
use Rattle.dns_network.specs.Datagrams.{Datagram}
use Rattle.dns_sockets.specs.SystemCalls.{Addressed, DatagramCall, RecvFrom, SendTo, received_in, datagrams_sent}
use Rattle.dns_sockets.specs.Udp.{HavePassed, IsFrom, IsTo, by_ipv6, local_of}
use Rattle.dns_sockets.specs.declared.system.DatagramCalls.{Ghosts}
use Rattle.dns_sockets.specs.declared.udp.Udp.{Udp}

received_on : (a b : List DatagramCall) → received_in (a ++ b) ≡ received_in a ++ received_in b
received_on [] b = refl
received_on (RecvFrom (Some one) ∷ a) b = ap (λ (l : List Addressed). one ∷ l) (received_on a b)
received_on (RecvFrom None ∷ a) b = received_on a b
received_on (SendTo one ∷ a) b = received_on a b

sent_on : (a b : List DatagramCall) → datagrams_sent (a ++ b) ≡ datagrams_sent a ++ datagrams_sent b
sent_on [] b = refl
sent_on (RecvFrom got ∷ a) b = sent_on a b
sent_on (SendTo one ∷ a) b = ap (λ (l : List Addressed). one ∷ l) (sent_on a b)

pub zip_on : {A B : Type 0} (R : A → B → Type 0) (xs : List A) (ys : List B) (us : List A) (vs : List B) → AllZip R xs ys → AllZip R us vs → AllZip R (xs ++ us) (ys ++ vs)
zip_on R [] [] us vs is more = more
zip_on R [] (y ∷ ys) us vs is more = absurd is
zip_on R (x ∷ xs) [] us vs is more = absurd is
zip_on R (x ∷ xs) (y ∷ ys) us vs is more = (is.0, zip_on R xs ys us vs is.1 more)

module _ {C : Type 0} (c : Ghosts C) where
  pub none_passed : (udp : Udp C) → HavePassed c [] [] udp udp
  none_passed udp = record {
    made = [];
    called = nothing_called (c.calls udp.socket);
    from = tt;
    to = tt;
    local = refl;
    family = refl;
  }

  pub passed_on : (came went came_then went_then : List Datagram) (a b d : Udp C) → HavePassed c came went a b → HavePassed c came_then went_then b d
      → HavePassed c (came ++ came_then) (went ++ went_then) a d
  passed_on came went came_then went_then a b d first then = record {
    made = first.made ++ then.made;
    called = called_on (c.calls a.socket) (c.calls b.socket) (c.calls d.socket) first.made then.made first.called then.called;
    from = subst (λ (l : List Addressed). AllZip (IsFrom (local_of a)) l (came ++ came_then)) (sym (received_on first.made then.made))
        (zip_on (IsFrom (local_of a)) (received_in first.made) came (received_in then.made) came_then first.from
        (subst (λ (n : ℕ). AllZip (IsFrom n) (received_in then.made) came_then) first.local then.from));
    to = subst (λ (l : List Addressed). AllZip (IsTo (by_ipv6 a)) (went ++ went_then) l) (sym (sent_on first.made then.made))
        (zip_on (IsTo (by_ipv6 a)) went (datagrams_sent first.made) went_then (datagrams_sent then.made) first.to
        (subst (λ (n : Bool). AllZip (IsTo n) went_then (datagrams_sent then.made)) first.family then.to));
    local = then.local ∙ first.local;
    family = then.family ∙ first.family;
  }
