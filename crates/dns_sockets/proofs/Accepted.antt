-- The connections that came to listeners, each on its address.
use Rattle.std.proofs.Common.{◌≡◌, ℕ, ◌<◌, Bool, cond, List, [], ◌∷◌, ◌++◌, length, Option, Some, None, Result, Ok, Err, refl, ap, sym, subst, ◌∙◌, slice_set, get_or}
use Rattle.std.specs.Prelude.{MatchOption, OkIff}
use Rattle.std.specs.Result.{result_ok}
use Rattle.std.specs.List.{AllZip}
use Rattle.std.specs.declared.net.socket_addr.SocketAddr.{SocketAddr}
use Rattle.std.proofs.lemmas.Bool.{eq-eqb, ne_eqb}
use Rattle.std.proofs.lemmas.Option.{slice_get_read}
use Rattle.dns_primary.specs.declared.event.Peer.{Peer}
use Rattle.dns_configuration.specs.Calls.{HasCalled}
use Rattle.dns_sockets.specs.Peers.{IsPeerOf}
use Rattle.dns_configuration.proofs.Called.{called_on, nothing_called}
use Rattle.dns_sockets.specs.Listeners.{HaveAccepted, HaveConnected, IsConnectionOf, taken_at}
use Rattle.dns_sockets.specs.SystemCalls.{Accept, ListenerCall, connections_accepted}
use Rattle.dns_sockets.specs.declared.system.ListenerCalls.{Ghosts}
use Rattle.dns_sockets.specs.declared.listeners.Listener.{Listener}
use Rattle.dns_sockets.proofs.Each.{as_long, one_each, same_each, was_there}

-- what a number that is small enough is turned into
pub turned_into : {E : Type 0} (P : Type 0) (r : Result ℕ E) (n m : ℕ) → OkIff r P n → Some m ≡ result_ok r → m ≡ n
turned_into P (Ok k) n m is same = (let e : m ≡ k = cc same in e ∙ is.1)
turned_into P (Err e) n m is same = absurd (cc same)

module _ {L T : Type 0} (l : Ghosts L T) where
  accepted_on : (a b : List (ListenerCall T)) → connections_accepted (a ++ b) ≡ connections_accepted a ++ connections_accepted b
  accepted_on [] b = refl
  accepted_on (Accept (Some one) ∷ a) b = ap (λ (list : List (T × SocketAddr)). one ∷ list) (accepted_on a b)
  accepted_on (Accept None ∷ a) b = accepted_on a b

  none_came : (local : ℕ) (x : Listener L) → HaveConnected l local [] x x
  none_came local x = record { made = []; called = nothing_called (l.calls x.socket); from = tt }

  -- one call was made
  pub one_come : (local : ℕ) (a b : Listener L) (stream : T) (address : SocketAddr) (peer : Peer) → HasCalled (l.calls a.socket) (l.calls b.socket) (Accept (Some (stream, address)) ∷ [])
      → IsPeerOf address local peer → HaveConnected l local ((stream, peer) ∷ []) a b
  one_come local a b stream address peer called is = record { made = Accept (Some (stream, address)) ∷ []; called = called; from = ((refl, is), tt) }

  -- none came, and then these did
  come_on : (local : ℕ) (came : List (T × Peer)) (a b d : Listener L) → HaveConnected l local [] a b → HaveConnected l local came b d → HaveConnected l local came a d
  come_on local came a b d first then = record {
    made = first.made ++ then.made;
    called = called_on (l.calls a.socket) (l.calls b.socket) (l.calls d.socket) first.made then.made first.called then.called;
    from = subst (λ (list : List (T × SocketAddr)). AllZip (IsConnectionOf local) list came)
        (sym (accepted_on first.made then.made ∙ ap (λ (list : List (T × SocketAddr)). list ++ connections_accepted then.made) (none_in (connections_accepted first.made) first.from))) then.from;
  }
    where
      none_in : (list : List (T × SocketAddr)) → AllZip (IsConnectionOf local) list [] → list ≡ []
      none_in [] is = refl
      none_in (one ∷ list) is = absurd is

  pub none_accepted : (old : List (Listener L)) → HaveAccepted l None old old
  none_accepted old = record { count = refl; each = same_each (λ local. HaveConnected l local []) old none_came }

  -- none came by the listeners that were asked before
  pub accepted_after : (got : Option (T × Peer)) (a b d : List (Listener L)) → HaveAccepted l None a b → HaveAccepted l got b d → HaveAccepted l got a d
  accepted_after got a b d first then = record {
    count = then.count ∙ first.count;
    each = λ local before after there here. (let mid = was_there b d then.count local after here in
        come_on local (taken_at local got) before mid.0 after (first.each local before mid.0 there mid.1) (then.each local mid.0 after mid.1 here));
  }

  -- One listener was asked, and none came to it, or this one.
  none_there : (old : List (Listener L)) (index : ℕ) (before after : Listener L) → index < length old → before ≡ get_or old index before → HaveConnected l index [] before after
      → HaveAccepted l None old (slice_set old index after)
  none_there old index before after small read is = record {
    count = as_long old index after;
    each = one_each (λ local. HaveConnected l local []) old index before after (slice_get_read old (length old) index before refl small read) is (λ local x other. none_came local x);
  }

  one_there : (old : List (Listener L)) (index : ℕ) (one : T × Peer) (before after : Listener L) → index < length old → before ≡ get_or old index before
      → one.1.local ≡ index → HaveConnected l index (one ∷ []) before after
      → HaveAccepted l (Some one) old (slice_set old index after)
  one_there old index one before after small read own is = record {
    count = as_long old index after;
    each = one_each (λ local. HaveConnected l local (taken_at local (Some one))) old index before after (slice_get_read old (length old) index before refl small read) here elsewhere;
  }
    where
      here : HaveConnected l index (taken_at index (Some one)) before after
      here = subst (λ (list : List (T × Peer)). HaveConnected l index list before after) (sym (ap (λ (b : Bool). cond b (one ∷ []) []) (eq-eqb one.1.local index own))) is

      elsewhere : (local : ℕ) (x : Listener L) → (index ≡ local → ⊥) → HaveConnected l local (taken_at local (Some one)) x x
      elsewhere local x other =
          subst (λ (list : List (T × Peer)). HaveConnected l local list x x) (sym (ap (λ (b : Bool). cond b (one ∷ []) []) (ne_eqb one.1.local local (λ same. other (sym own ∙ same))))) (none_came local x)

  pub there : (old : List (Listener L)) (index : ℕ) (local : ℕ) (got : Option (T × Peer)) (before after : Listener L) → index < length old → before ≡ get_or old index before → local ≡ index
      → MatchOption got (HaveConnected l local [] before after) (λ one. (one.1.local ≡ local) × HaveConnected l local (one ∷ []) before after)
      → HaveAccepted l got old (slice_set old index after)
  there old index local None before after small read same is = none_there old index before after small read (subst (λ (n : ℕ). HaveConnected l n [] before after) same is)
  there old index local (Some one) before after small read same is =
      one_there old index one before after small read (is.0 ∙ same) (subst (λ (n : ℕ). HaveConnected l n (one ∷ []) before after) same is.1)
