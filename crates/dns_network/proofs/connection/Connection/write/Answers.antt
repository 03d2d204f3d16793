use Rattle.std.proofs.Common.{[], append-nil, sym, ◌∙◌}
use Rattle.dns_network.specs.declared.connection.Connection.{Connection}
use Rattle.dns_network.specs.Connection.{stream_of, unhandled}
use Rattle.dns_network.proofs.Used.{taken}
use Rattle.dns_network.proofs.connection.Connection.write.Goals as goal

pub returns-clause-moved : goal.returns-clause-moved
returns-clause-moved g c =
    let old = c.args.self.now in
    let wrote = c.write-moved.ensures in
    let new : Connection g.row.S.Denot = record old { stream = c.write-moved.new.stream; outbox = c.write-moved.new.self; used = c.used_after-self.result } in
    record {
      faithful = wrote.faithful;
      went = wrote.went;
      came = λ f. ([], wrote.still f ∙ sym (append-nil (g.S.Stream.received (stream_of old))), sym (append-nil (unhandled old)));
      used = taken c.args.now c.write-moved.result old new wrote.few wrote.some wrote.rest c.used_after-self.ensures;
    }
