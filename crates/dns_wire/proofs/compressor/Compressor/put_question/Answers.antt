use Rattle.std.proofs.Common.{◌≡◌, [], sym, ap, subst, ◌∙◌}
use Rattle.dns_names.specs.Name.{labels_of}
use Rattle.dns_names.specs.PlainLaws.{plain_of}
use Rattle.dns_wire.specs.Compress.{new_places}
use Rattle.dns_wire.specs.Puts.{Wrote, asked}
use Rattle.dns_wire.specs.Reply.{echo}
use Rattle.dns_wire.proofs.compressor.Compressor.put_question.Goals as goal

pub begin-requires-clause-plain : goal.begin-requires-clause-plain
begin-requires-clause-plain c = (plain_of c.as_wire-name.result.now c.in-Some.echo.name c.as_wire-name.ensures.valid c.as_wire-name.ensures.octets).1

pub returns-in_ok-put-clause-written : goal.returns-in_ok-put-clause-written
returns-in_ok-put-clause-written c =
    let s = c.args.self.now in
    let put = c.put.new.self in
    let name : labels_of c.as_wire-name.result.now ≡ c.in-Some.echo.name = (plain_of c.as_wire-name.result.now c.in-Some.echo.name c.as_wire-name.ensures.valid c.as_wire-name.ensures.octets).0 in
    let w = c.in_ok-put.ensures.written in
    let places : c.begin.new.self ≡ new_places [] 12 c.in-Some.echo.name = c.begin.ensures ∙ ap (new_places [] 12) name in
    subst (λ q. Wrote s.limit s.octets.items put.octets.items put.limit c.begin.new.self (asked (echo q))) (sym c.in-Some.is)
    (record { octets = w.octets; places = places; fits = w.fits; same = w.same })
