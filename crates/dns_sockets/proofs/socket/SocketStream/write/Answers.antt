use Rattle.std.proofs.Common.{[], ap, sym, ◌∙◌}
use Rattle.std.specs.Prelude.{is_some, unwrap_or}
use Rattle.dns_sockets.proofs.Moved.{added, as_few, known_on}
use Rattle.dns_sockets.proofs.socket.SocketStream.write.Goals as goal

pub returns : goal.returns
returns g c =
    let wrote = c.write-answer.ensures in
    let known = known_on _ _ _ wrote.went in
    let same = ap (λ octets. is_some octets) wrote.still in record {
      few = as_few _ _ _ c.what_moved.ensures.count wrote.few;
      some = c.what_moved.ensures.some;
      answered = tt;
      ended = λ ends. wrote.ended (c.what_moved.ensures.ended ends);
      went = λ faithful. added _ _ _ c.write-answer.result _ wrote.went c.what_moved.ensures.count faithful.1;
      still = λ faithful. ap (λ octets. unwrap_or octets []) wrote.still;
      faithful = ((λ is. (sym same ∙ is.0, known.0 is.1)), (λ is. (same ∙ is.0, known.1 is.1)));
    }
