-- Datagrams that are read ahead, and that are held back before they are sent.
use Rattle.std.proofs.Common.{◌≡◌, ◌⊎◌, inl, inr, ℕ, ◌<◌, ◌≤◌, ◌+◌, ◌-◌, List, [], ◌∷◌, ◌++◌, length, map, take, drop, min, refl, ap, sym, subst, ◌∙◌, arith}
use Rattle.std.proofs.lemmas.List.{append-nil, drop-drop, drop-map, drop-take, take_all, take_at, length-take-le, length-drop, length-append, length_push}
use Rattle.dns_network.specs.declared.datagram_socket.DatagramSocket.{Ghosts}
use Rattle.dns_network.specs.declared.datagrams.Datagram.{Datagram as Place}
use Rattle.dns_network.specs.declared.datagrams.Datagrams.{Datagrams}
use Rattle.dns_network.specs.Datagrams.{Datagram, AllHaveGone, AreRead, IsHandedOver, IsLeaving, arrived_of, leaving_of, socket_of, stands_in}
use Rattle.dns_network.proofs.Steps.{step_more}

-- one is done with
pub one_less : (places : List Place) (done : ℕ) → map stands_in (drop (done + 1) places) ≡ drop 1 (map stands_in (drop done places))
one_less places done = ap (map stands_in) (sym (drop-drop 1 done places)) ∙ sym (drop-map stands_in 1 (drop done places))

-- the positions from one to another
pub between_places : (places : List Place) (done end : ℕ) → done ≤ end
    → map stands_in (take (end - done) (drop done places)) ≡ map stands_in (drop done (take end places))
between_places places done end le =
    let sum : done + (end - done) ≡ end = omega (arith, le) in
    ap (map stands_in) (sym (drop-take done (end - done) places) ∙ ap (λ (n : ℕ). drop done (take n places)) sum)

-- octets are copied to the front of a buffer, as many as there are and as there is room for
copied : (octets into : List ℕ) (n : ℕ) → n ≤ length octets → n ≤ length into → (n ≡ length octets) ⊎ (n ≡ length into)
    → take n (take n octets ++ drop n into) ≡ take (length (take n octets ++ drop n into)) octets
copied octets into n some room which =
    let long : length (take n octets) ≡ n = length-take-le n octets some in
    let whole : length (take n octets ++ drop n into) ≡ length into =
    omega (arith, length-append (take n octets) (drop n into), long, length-drop n into, room) in
    take_at (take n octets) (drop n into) n long ∙ cut which ∙ ap (λ (k : ℕ). take k octets) (sym whole)
  where
    cut : (n ≡ length octets) ⊎ (n ≡ length into) → take n octets ≡ take (length into) octets
    cut (inl all) = take_all n octets (omega (arith, all)) ∙ sym (take_all (length into) octets (omega (arith, all, room)))
    cut (inr full) = ap (λ (k : ℕ). take k octets) full

-- so many that there is no more of either
pub copied_least : (octets into made : List ℕ) (n : ℕ) → n ≡ min (length octets) (length into) → made ≡ take n octets
    → take n (made ++ drop n into) ≡ take (length (made ++ drop n into)) octets
copied_least octets into made n least is =
    let some : n ≤ length octets = omega (arith, least) in
    let room : n ≤ length into = omega (arith, least) in
    let which : (n ≡ length octets) ⊎ (n ≡ length into) = grind (arith, least) in
    ap (λ (m : List ℕ). take n (m ++ drop n into)) is ∙ copied octets into n some room which
    ∙ ap (λ (m : List ℕ). take (length (m ++ drop n into)) octets) (sym is)

-- the first of some, and what is left when it is gone
pub first_of : (list left : List Datagram) (one : Datagram) → (rest : List Datagram) × (list ≡ one ∷ rest) → left ≡ drop 1 list → list ≡ one ∷ left
first_of list left one (rest, is) gone = is ∙ ap (λ (l : List Datagram). one ∷ l) (sym (gone ∙ ap (drop 1) is))

-- where one comes after others there is one
pub more_than_none : (old new : List Datagram) (one : Datagram) → new ≡ old ++ one ∷ [] → 0 < length new
more_than_none old new one is = omega (arith, ap length is, length_push old one)

module _ {S : Type 0} (s : Ghosts S) where
  -- a datagram is sent after all that were to be sent
  pub leaves_last : (one : Datagram) (old between new : Datagrams S) → AllHaveGone s old between → s.sends (socket_of between) one (socket_of new)
      → leaving_of new ≡ leaving_of between → arrived_of new ≡ arrived_of between
      → IsLeaving s one old new
  leaves_last one old between new gone sent leaving arrived =
      let none : leaving_of new ≡ [] = leaving ∙ gone.leaving in
      record {
        gone = leaving_of old ++ one ∷ [];
        sent = step_more (λ a d b. s.sends a d b) (leaving_of old) one (socket_of old) (socket_of between) (socket_of new) gone.sent sent;
        leaving = sym (append-nil (leaving_of old ++ one ∷ [])) ∙ ap (λ (l : List Datagram). (leaving_of old ++ one ∷ []) ++ l) (sym none);
        arrived = arrived ∙ gone.arrived;
      }

  -- what was read ahead before is handed over, and nothing is read
  pub still_there : (one : Datagram) (old new : Datagrams S) → socket_of new ≡ socket_of old → leaving_of new ≡ leaving_of old
      → arrived_of old ≡ one ∷ arrived_of new
      → IsHandedOver s one old new
  still_there one old new socket leaving arrived = record {
    gone = [];
    came = [];
    between = socket_of old;
    sent = refl;
    read = (socket_of old, refl, inl socket);
    leaving = sym leaving;
    arrived = append-nil (arrived_of old) ∙ arrived;
  }

  -- all that was to be sent is sent, and some are read, where nothing was left of those before
  pub read_first : (one : Datagram) (old between ahead new : Datagrams S) → AllHaveGone s old between
      → arrived_of old ≡ []
      → AreRead s (arrived_of ahead) (socket_of between) (socket_of ahead) → leaving_of ahead ≡ leaving_of between
      → socket_of new ≡ socket_of ahead → leaving_of new ≡ leaving_of ahead → arrived_of ahead ≡ one ∷ arrived_of new
      → IsHandedOver s one old new
  read_first one old between ahead new gone none read left socket leaving arrived =
      let left_none : leaving_of new ≡ [] = leaving ∙ left ∙ gone.leaving in
      record {
        gone = leaving_of old;
        came = arrived_of ahead;
        between = socket_of between;
        sent = gone.sent;
        read = subst (λ (x : S). AreRead s (arrived_of ahead) (socket_of between) x) (sym socket) read;
        leaving = sym (append-nil (leaving_of old)) ∙ ap (λ (l : List Datagram). leaving_of old ++ l) (sym left_none);
        arrived = ap (λ (l : List Datagram). l ++ arrived_of ahead) none ∙ arrived;
      }
