use Rattle.std.proofs.Common.{◌≡◌, ℕ, Option, Some, None, ap}
use Rattle.dns_sockets.specs.Sockets.{IsWatched, datagrams_of}
use Rattle.dns_sockets.specs.declared.socket.Socket.{Socket}
use Rattle.dns_sockets.specs.declared.sockets.Sockets.{Sockets}
use Rattle.dns_sockets.specs.declared.system.StreamCalls.{Ghosts}
use Rattle.dns_service.proofs.InTurns.{carried_in}
use Rattle.dns_service.proofs.laws.carried_law.Goals as goal

watched_same : {C A T : Type 0} (s : Ghosts T) (a b : Sockets C A) (number : ℕ) (given : Socket T) (got : Option (Socket T)) → IsWatched s a number given got b
    → datagrams_of b ≡ datagrams_of a
watched_same s a b number given None is = ap datagrams_of is
watched_same s a b number given (Some watched) is = ap datagrams_of is.0

pub returns : goal.returns
returns g c = λ turns old new made order.
    carried_in _ _ g.L.Observer g.C.DatagramCalls datagrams_of turns old new made
    (record {
      accepts = λ a b got is. is.0;
      watches = λ a b number given got is. watched_same g.T.StreamCalls a b number given got is;
      receives = λ a b got is. is;
      sends = λ a b peer octets is. is;
      looks = λ a b is. is;
    })
    order
