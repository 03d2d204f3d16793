-- What a socket carried whose datagrams are read ahead and held back.
use Rattle.std.proofs.Common.{◌≡◌, inl, inr, List, [], ◌∷◌, ◌++◌, Option, Some, None, ap, sym, subst, ◌∙◌, append-nil, append_assoc}
use Rattle.dns_network.specs.declared.datagram_socket.DatagramSocket as socket
use Rattle.dns_network.specs.declared.datagrams.Datagrams.{Datagrams}
use Rattle.dns_network.specs.Datagrams.{AllHaveGone, AreRead, Datagram, HaveCome, HaveGone, IsHandedOver, IsLeaving, NoneHasCome, arrived_of, leaving_of, socket_of}
use Rattle.dns_sockets.specs.Udp.{HasCarried, HasReceived, HasSent, HavePassed}
use Rattle.dns_sockets.specs.declared.system.DatagramCalls.{Ghosts}
use Rattle.dns_sockets.specs.declared.udp.Udp.{Udp}
use Rattle.dns_sockets.proofs.Passed.{none_passed, passed_on}

-- one list after another: what was there and was added is what was taken and is left
taken_on : (a g w b g_ w_ d : List Datagram) → a ++ g ≡ w ++ b → b ++ g_ ≡ w_ ++ d → a ++ (g ++ g_) ≡ (w ++ w_) ++ d
taken_on a g w b g_ w_ d first then =
    sym (append_assoc a g g_) ∙ ap (λ (l : List Datagram). l ++ g_) first ∙ append_assoc w b g_
    ∙ ap (λ (l : List Datagram). w ++ l) then ∙ sym (append_assoc w w_ d)

module _ {C : Type 0} (c : Ghosts C) where
  pub none_carried : (d : Datagrams (Udp C)) → HasCarried c [] [] d d
  none_carried d = record {
    came = [];
    went = [];
    passed = none_passed c (socket_of d);
    leaving = append-nil (leaving_of d);
    arrived = append-nil (arrived_of d);
  }

  pub carried_on : (given handed given_then handed_then : List Datagram) (a b d : Datagrams (Udp C)) → HasCarried c given handed a b
      → HasCarried c given_then handed_then b d → HasCarried c (given ++ given_then) (handed ++ handed_then) a d
  carried_on given handed given_then handed_then a b d first then = record {
    came = first.came ++ then.came;
    went = first.went ++ then.went;
    passed = passed_on c first.came first.went then.came then.went (socket_of a) (socket_of b) (socket_of d) first.passed then.passed;
    leaving = taken_on (leaving_of a) given first.went (leaving_of b) given_then then.went (leaving_of d) first.leaving then.leaving;
    arrived = taken_on (arrived_of a) first.came handed (arrived_of b) then.came handed_then (arrived_of d) first.arrived then.arrived;
  }

  module _ (s : socket.Ghosts (Udp C))
      (sends : (a : Udp C) (one : Datagram) (b : Udp C) → s.sends a one b → HasSent c a one b)
      (receives : (a : Udp C) (got : Option Datagram) (b : Udp C) → s.receives a got b → HasReceived c a got b) where
    went_by : (went : List Datagram) (a b : Udp C) → HaveGone s went a b → HavePassed c [] went a b
    went_by [] a b is = subst (λ (x : Udp C). HavePassed c [] [] a x) (sym is) (none_passed c a)
    went_by (one ∷ rest) a b (between, here, later) = passed_on c [] (one ∷ []) [] rest a between b (sends a one between here) (went_by rest between b later)

    came_by : (came : List Datagram) (a b : Udp C) → HaveCome s came a b → HavePassed c came [] a b
    came_by [] a b is = subst (λ (x : Udp C). HavePassed c [] [] a x) (sym is) (none_passed c a)
    came_by (one ∷ rest) a b (between, here, later) = passed_on c (one ∷ []) [] rest [] a between b (receives a (Some one) between here) (came_by rest between b later)

    -- none more came, whether it was asked or not
    read_by : (came : List Datagram) (a b : Udp C) → AreRead s came a b → HavePassed c came [] a b
    read_by came a b (asked, are, inl same) = subst (λ (x : Udp C). HavePassed c came [] a x) (sym same) (came_by came a asked are)
    read_by came a b (asked, are, inr more) = subst (λ (l : List Datagram). HavePassed c l [] a b) (append-nil came) (passed_on c came [] [] [] a asked b (came_by came a asked are) (receives asked None b more))

    pub all_carried : (old new : Datagrams (Udp C)) → AllHaveGone s old new → HasCarried c [] [] old new
    all_carried old new is = record {
      came = [];
      went = leaving_of old;
      passed = went_by (leaving_of old) (socket_of old) (socket_of new) is.sent;
      leaving = ap (λ (l : List Datagram). leaving_of old ++ l) (sym is.leaving);
      arrived = append-nil (arrived_of old) ∙ sym is.arrived;
    }

    pub one_carried : (one : Datagram) (old new : Datagrams (Udp C)) → IsLeaving s one old new → HasCarried c (one ∷ []) [] old new
    one_carried one old new is = record {
      came = [];
      went = is.gone;
      passed = went_by is.gone (socket_of old) (socket_of new) is.sent;
      leaving = is.leaving;
      arrived = append-nil (arrived_of old) ∙ sym is.arrived;
    }

    pub one_brought : (one : Datagram) (old new : Datagrams (Udp C)) → IsHandedOver s one old new → HasCarried c [] (one ∷ []) old new
    one_brought one old new is = record {
      came = is.came;
      went = is.gone;
      passed = subst (λ (l : List Datagram). HavePassed c is.came l (socket_of old) (socket_of new)) (append-nil is.gone)
          (passed_on c [] is.gone is.came [] (socket_of old) is.between (socket_of new) (went_by is.gone (socket_of old) is.between is.sent) (read_by is.came is.between (socket_of new) is.read));
      leaving = append-nil (leaving_of old) ∙ is.leaving;
      arrived = is.arrived;
    }

    pub none_brought : (old new : Datagrams (Udp C)) → NoneHasCome s old new → HasCarried c [] [] old new
    none_brought old new is = record {
      came = [];
      went = leaving_of old;
      passed = subst (λ (l : List Datagram). HavePassed c [] l (socket_of old) (socket_of new)) (append-nil (leaving_of old))
          (passed_on c [] (leaving_of old) [] [] (socket_of old) is.between (socket_of new) (went_by (leaving_of old) (socket_of old) is.between is.sent) (receives is.between None (socket_of new) is.asked));
      leaving = ap (λ (l : List Datagram). leaving_of old ++ l) (sym is.leaving);
      arrived = append-nil (arrived_of old) ∙ is.none ∙ sym is.arrived;
    }
