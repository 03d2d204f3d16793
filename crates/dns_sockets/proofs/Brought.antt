-- What the sockets of datagrams carried, each on its address.
use Rattle.std.proofs.Common.{◌≡◌, ◌⊎◌, inl, inr, ℕ, zero, suc, ◌<◌, ◌≤◌, Bool, cond, List, [], ◌∷◌, ◌++◌, length, Option, Some, None, refl, ap, sym, subst, ◌∙◌, slice_set, get_or, take, drop, arith, append-nil}
use Rattle.std.specs.Prelude.{All, IfNone, IfSome, slice_get}
use Rattle.std.specs.Option.{option_map}
use Rattle.std.proofs.lemmas.List.{take-append-drop}
use Rattle.std.proofs.lemmas.Bool.{eq-eqb, ne_eqb}
use Rattle.std.proofs.lemmas.List.Elements.{All-append, All-nil}
use Rattle.std.specs.List.{AllZip}
use Rattle.std.proofs.lemmas.Option.{slice_get_read, slice_get_within}
use Rattle.dns_primary.specs.declared.event.Peer.{Peer}
use Rattle.dns_network.specs.declared.datagrams.Datagrams.{Datagrams}
use Rattle.dns_network.specs.declared.datagram_socket.DatagramSocket as socket
use Rattle.dns_network.specs.Datagrams.{Datagram, IsHandedOver, NoneHasCome, arrived_of, socket_of}
use Rattle.dns_sockets.specs.DatagramSockets.{AreInOrder, HaveBrought, HaveCarried, IsOn, of_address}
use Rattle.dns_sockets.specs.SystemCalls.{Addressed, received_in}
use Rattle.dns_sockets.specs.Udp.{HasCarried, HasReceived, HasSent, IsFrom, local_of}
use Rattle.dns_sockets.specs.declared.system.DatagramCalls.{Ghosts}
use Rattle.dns_sockets.specs.declared.udp.Udp.{Udp}
use Rattle.dns_sockets.proofs.Each.{as_long, last_or_before, one_each, same_each, was_there}
use Rattle.dns_sockets.proofs.Carried.{carried_on, none_brought, none_carried, one_brought}

-- one that is of an address, and of no other
pub own_address : (local : ℕ) (one : Datagram) → one.1.local ≡ local → of_address local (one ∷ []) ≡ one ∷ []
own_address local one is = ap (λ (b : Bool). cond b (one ∷ []) []) (eq-eqb one.1.local local is)

pub other_address : (local : ℕ) (one : Datagram) → (one.1.local ≡ local → ⊥) → of_address local (one ∷ []) ≡ []
other_address local one other = ap (λ (b : Bool). cond b (one ∷ []) []) (ne_eqb one.1.local local other)

-- What came from an address was sent to the server's address with this index.
all_from : (n : ℕ) (xs : List Addressed) (came : List Datagram) → AllZip (IsFrom n) xs came → All (λ one. one.1.local ≡ n) came
all_from n [] [] is k d small = absurd (omega (arith, small))
all_from n [] (y ∷ ys) is k d small = absurd is
all_from n (x ∷ xs) [] is k d small = absurd is
all_from n (x ∷ xs) (y ∷ ys) is zero d small = is.0.1.local_is
all_from n (x ∷ xs) (y ∷ ys) is (suc k) d small = all_from n xs ys is.1 k d (omega (arith, small))

all_one : {A : Type 0} (P : A → Type 0) (x : A) → P x → All P (x ∷ [])
all_one P x is zero d small = is
all_one P x is (suc k) d small = absurd (omega (arith, small))

-- so many sockets there are as before
pub still_there : {C : Type 0} (handed : List Datagram) (old new : List (Datagrams (Udp C))) → length new ≡ length old → All (λ one. one.1.local < length new) handed
    → All (λ one. one.1.local < length old) handed
still_there handed old new count all = subst (λ (n : ℕ). All (λ one. one.1.local < n) handed) count all

pub order_same : {C : Type 0} (old new : List (Datagrams (Udp C))) → new ≡ old → AreInOrder old → AreInOrder new
order_same {C} old new same order = subst (λ (l : List (Datagrams (Udp C))). AreInOrder l) (sym same) order

pub order_none : {C : Type 0} (sockets : List (Datagrams (Udp C))) → sockets ≡ [] → AreInOrder sockets
order_none {C} sockets none = subst (λ (l : List (Datagrams (Udp C))). AreInOrder l) (sym none) (λ local socket there. absurd (cc there))

-- The next socket is on the next address.
pub one_more : {C : Type 0} (old new : List (Datagrams (Udp C))) (one : Datagrams (Udp C)) → new ≡ old ++ one ∷ [] → local_of (socket_of one) ≡ length old → arrived_of one ≡ []
    → AreInOrder old → AreInOrder new
one_more {C} old new one is own none order local socket there =
    go (last_or_before old one socket local (subst (λ (l : List (Datagrams (Udp C))). slice_get l local ≡ Some socket) is there))
  where
    go : (slice_get old local ≡ Some socket) ⊎ ((local ≡ length old) × (one ≡ socket)) → IsOn local socket
    go (inl before) = order local socket before
    go (inr (last, same)) = subst (λ (d : Datagrams (Udp C)). IsOn local d) same (record {
      itself = own ∙ sym last;
      arrived = subst (λ (l : List Datagram). All (λ one. one.1.local ≡ local) l) (sym none) (λ k d small. absurd (omega (arith, small)));
    })

module _ {C : Type 0} (c : Ghosts C) where
  pub none_have : (old : List (Datagrams (Udp C))) → HaveCarried c [] [] old old
  none_have old = record { count = refl; there = All-nil (λ one. one.1.local < length old); each = same_each (λ _. HasCarried c [] []) old (λ _. none_carried c) }

  -- one of them carried these, and the others nothing
  one_has : (given handed : List Datagram) (old : List (Datagrams (Udp C))) (index : ℕ) (one new : Datagrams (Udp C)) → slice_get old index ≡ Some one
      → HasCarried c (of_address index given) (of_address index handed) one new
      → ((local : ℕ) → (index ≡ local → ⊥) → (of_address local given ≡ []) × (of_address local handed ≡ []))
      → All (λ one. one.1.local < length old) handed
      → HaveCarried c given handed old (slice_set old index new)
  one_has given handed old index one new there is others within = record {
    count = as_long old index new;
    there = within;
    each = one_each (λ local before after. HasCarried c (of_address local given) (of_address local handed) before after) old index one new there is none;
  }
    where
      none : (local : ℕ) (d : Datagrams (Udp C)) → (index ≡ local → ⊥) → HasCarried c (of_address local given) (of_address local handed) d d
      none local d other =
          let empty = others local other in
          subst (λ (l : List Datagram). HasCarried c l (of_address local handed) d d) (sym empty.0)
          (subst (λ (l : List Datagram). HasCarried c [] l d d) (sym empty.1) (none_carried c d))

  -- nothing was carried first, and then these
  pub have_on : (given handed : List Datagram) (a b d : List (Datagrams (Udp C))) → HaveCarried c [] [] a b → HaveCarried c given handed b d → HaveCarried c given handed a d
  have_on given handed a b d first then = record {
    count = then.count ∙ first.count;
    there = still_there handed a b first.count then.there;
    each = λ local before after there here. (let mid = was_there b d then.count local after here in
        carried_on c [] [] (of_address local given) (of_address local handed) before mid.0 after (first.each local before mid.0 there mid.1) (then.each local mid.0 after mid.1 here));
  }

  -- these, and then nothing more
  pub have_more : (given handed : List Datagram) (a b d : List (Datagrams (Udp C))) → HaveCarried c given handed a b → HaveCarried c [] [] b d → HaveCarried c given handed a d
  have_more given handed a b d first then = record {
    count = then.count ∙ first.count;
    there = first.there;
    each = λ local before after there here. (let mid = was_there b d then.count local after here in
        subst (λ (l : List Datagram). HasCarried c l (of_address local handed) before after) (append-nil (of_address local given))
        (subst (λ (l : List Datagram). HasCarried c (of_address local given ++ []) l before after) (append-nil (of_address local handed))
        (carried_on c (of_address local given) (of_address local handed) [] [] before mid.0 after (first.each local before mid.0 there mid.1) (then.each local mid.0 after mid.1 here))));
  }

  -- What has arrived by a socket, and what comes by it, was sent to its address.
  pub of_own : (local : ℕ) (given handed : List Datagram) (before after : Datagrams (Udp C)) (is : HasCarried c given handed before after) → IsOn local before
      → All (λ one. one.1.local ≡ local) (handed ++ arrived_of after)
  of_own local given handed before after is on =
      subst (λ (l : List Datagram). All (λ one. one.1.local ≡ local) l) is.arrived
      (All-append (λ one. one.1.local ≡ local) (arrived_of before) is.came on.arrived
      (all_from local (received_in is.passed.made) is.came
      (subst (λ (n : ℕ). AllZip (IsFrom n) (received_in is.passed.made) is.came) on.itself is.passed.from)))

  -- Each is still on its address where nothing was handed over.
  pub order_kept : (old new : List (Datagrams (Udp C))) → HaveCarried c [] [] old new → AreInOrder old → AreInOrder new
  order_kept old new is order local after now =
      let mid = was_there old new is.count local after now in
      let moved = is.each local mid.0 after mid.1 now in
      let on = order local mid.0 mid.1 in
      record {
        itself = moved.passed.local ∙ on.itself;
        arrived = of_own local [] [] mid.0 after moved on;
      }

  -- One was handed over by a socket.
  pub brought_by : (old : List (Datagrams (Udp C))) (index : ℕ) (before after : Datagrams (Udp C)) (octets rest : List ℕ) (peer : Peer) → slice_get old index ≡ Some before
      → HasCarried c [] ((octets ++ rest, peer) ∷ []) before after
      → HaveBrought c old (Some (octets, peer)) (slice_set old index after)
  brought_by old index before after octets rest peer there is order =
      let one : Datagram = (octets ++ rest, peer) in
      let local : peer.local ≡ index = of_own index [] (one ∷ []) before after is (order index before there) 0 one (omega arith) in (
        rest,
        one_has [] (one ∷ []) old index before after there
            (subst (λ (l : List Datagram). HasCarried c [] l before after) (sym (own_address index one local)) is)
            (λ other differs. (refl, other_address other one (λ same. differs (sym local ∙ same))))
            (all_one (λ one. one.1.local < length old) one (let small = slice_get_within old index before there in omega (arith, small, local))),
      )

  -- None came by the sockets that were asked before.
  pub brought_on : (got : Option Datagram) (a b d : List (Datagrams (Udp C))) → HaveCarried c [] [] a b → HaveBrought c b got d → HaveBrought c a got d
  brought_on None a b d first then = have_on [] [] a b d first then
  brought_on (Some one) a b d first then = λ order.
      (let brought = then (order_kept a b first order) in
      (brought.0, have_on [] ((one.0 ++ brought.0, one.1) ∷ []) a b d first brought.1))

  -- One was given to the socket of its address.
  pub given_to : (old : List (Datagrams (Udp C))) (index : ℕ) (one : Datagram) (before after : Datagrams (Udp C)) → index < length old → before ≡ get_or old index before
      → index ≡ one.1.local → HasCarried c (one ∷ []) [] before after → HaveCarried c (one ∷ []) [] old (slice_set old index after)
  given_to old index one before after small read own is =
      one_has (one ∷ []) [] old index before after (slice_get_read old (length old) index before refl small read)
      (subst (λ (l : List Datagram). HasCarried c l [] before after) (sym (own_address index one (sym own))) is)
      (λ other differs. (other_address other one (λ same. differs (own ∙ same)), refl)) (All-nil (λ one. one.1.local < length old))

  -- One was given to none: there is no such address.
  pub given_to_none : (old : List (Datagrams (Udp C))) (index : ℕ) (one : Datagram) → length old ≤ index → index ≡ one.1.local → HaveCarried c (one ∷ []) [] old old
  given_to_none old index one past own = record {
    count = refl;
    there = All-nil (λ one. one.1.local < length old);
    each = λ local before after there here. (let same : before ≡ after = cc (there, here) in
        let small : local < length old = slice_get_within old local before there in
        let other : one.1.local ≡ local → ⊥ = λ e. absurd (omega (arith, past, own, e, small)) in
        subst (λ (l : List Datagram). HasCarried c l [] before after) (sym (other_address local one other))
        (subst (λ (d : Datagrams (Udp C)). HasCarried c [] [] before d) same (none_carried c before)));
  }

  -- All that one holds back was sent.
  pub nothing_given : (first old : List (Datagrams (Udp C))) (index : ℕ) (before after : Datagrams (Udp C)) → HaveCarried c [] [] first old → index < length old
      → before ≡ get_or old index before → HasCarried c [] [] before after → HaveCarried c [] [] first (slice_set old index after)
  nothing_given first old index before after others small read is =
      have_on [] [] first old (slice_set old index after) others
      (one_has [] [] old index before after (slice_get_read old (length old) index before refl small read) is (λ _ _. (refl, refl)) (All-nil (λ one. one.1.local < length old)))

  -- What a socket brought.
  pub brought_there : (old : List (Datagrams (Udp C))) (index : ℕ) (before after : Datagrams (Udp C)) (s : socket.Ghosts (Udp C))
      (sends : (a : Udp C) (one : Datagram) (b : Udp C) → s.sends a one b → HasSent c a one b)
      (receives : (a : Udp C) (got : Option Datagram) (b : Udp C) → s.receives a got b → HasReceived c a got b)
      (r : Option (ℕ × Peer)) (into : List ℕ) → index < length old → before ≡ get_or old index before
      → IfSome r (λ x. (octets : List ℕ) × (take x.0 into ≡ take (length into) octets) × IsHandedOver s (octets, x.1) before after)
      → IfNone r (NoneHasCome s before after)
      → HaveBrought c old (option_map (λ x. (take x.0 into, x.1)) r) (slice_set old index after)
  brought_there old index before after s sends receives (Some (count, peer)) into small read (octets, cut, over) none =
      let whole : octets ≡ take count into ++ drop (length into) octets =
      sym (take-append-drop (length into) octets) ∙ ap (λ (l : List ℕ). l ++ drop (length into) octets) (sym cut) in
      brought_by old index before after (take count into) (drop (length into) octets) peer (slice_get_read old (length old) index before refl small read)
      (subst (λ (o : List ℕ). HasCarried c [] ((o, peer) ∷ []) before after) whole (one_brought c s sends receives (octets, peer) before after over))
  brought_there old index before after s sends receives None into small read some none =
      nothing_given old old index before after (none_have old) small read (none_brought c s sends receives before after none)
