use Rattle.std.proofs.Common.{[], ap, sym, ◌∙◌}
use Rattle.std.specs.Prelude.{is_some, unwrap_or}
use Rattle.dns_sockets.proofs.Moved.{added, as_few, known_on}
use Rattle.dns_sockets.proofs.socket.SocketStream.read.Goals as goal

pub returns : goal.returns
returns g c =
    let read = c.read-answer.ensures in
    let known = known_on _ _ _ read.came in
    let same = ap (λ octets. is_some octets) read.still in record {
      few = as_few _ _ _ c.what_moved.ensures.count read.few;
      some = c.what_moved.ensures.some;
      answered = tt;
      ended = λ ends. read.ended (c.what_moved.ensures.ended ends);
      came = λ faithful. added _ _ _ c.read-answer.result _ read.came c.what_moved.ensures.count faithful.0;
      still = λ faithful. ap (λ octets. unwrap_or octets []) read.still;
      faithful = ((λ is. (known.0 is.0, sym same ∙ is.1)), (λ is. (known.1 is.0, same ∙ is.1)));
    }
