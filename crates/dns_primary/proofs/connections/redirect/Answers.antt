use Rattle.std.proofs.Common.{◌≡◌, ◌++◌, List, [], map, take, drop, sym, ap, ◌∙◌, add-one, append-nil}
use Rattle.std.specs.Prelude.{slice_index_or, slice_set}
use Rattle.std.specs.declared.net.ip_addr.IpAddr.TheVariants.{V4}
use Rattle.std.proofs.lemmas.List.{take_all, drop_all}
use Rattle.dns_wire.specs.declared.codes.Rcode.TheVariants.{NoError}
use Rattle.dns_primary.specs.declared.event.To.TheVariants.{Address}
use Rattle.dns_primary.specs.declared.event.Waiting.{Waiting}
use Rattle.dns_primary.specs.Connections.{without_connection}
use Rattle.dns_primary.proofs.Connected.{read_on, write_on}
use Rattle.dns_primary.proofs.connections.redirect.Goals as goal

pub loop-one-preserved : goal.loop-one-preserved
loop-one-preserved c =
    let i = c.loop-one.one-index in
    let now = c.loop-one.waiting in
    let xs = c.args.waiting.now in
    let d : Waiting = record { to = Address (record { address = V4 (record { octets = [] }); port = 0; local = 0 }); address = V4 (record { octets = [] }); request = []; rcode = NoError; zone = 0; version = 0; serial = 0 } in
    let f = λ (w : Waiting). record w { to = without_connection c.args.number w.to } in
    let inv : now ≡ map f (take i xs) ++ drop i xs = c.loop-one.invariant in
    let there : slice_index_or now i d ≡ slice_index_or xs i d = ap (λ (l : List Waiting). slice_index_or l i d) inv ∙ read_on f xs i d c.loop-one-test.true in
    let one : record (slice_index_or now i d) { to = c.without_connection-one.result } ≡ f (slice_index_or xs i d) = (λ j. record (slice_index_or now i d) { to = c.without_connection-one.ensures j }) ∙ ap f there in
    (λ j. slice_set (inv j) i (one j)) ∙ write_on f xs i d c.loop-one-test.true ∙ ap (λ n. map f (take n xs) ++ drop n xs) (sym (add-one i))

pub returns : goal.returns
returns c =
    let i = c.loop-one.one-index in
    let xs = c.args.waiting.now in
    let f = λ (w : Waiting). record w { to = without_connection c.args.number w.to } in
    let inv : c.loop-one.waiting ≡ map f (take i xs) ++ drop i xs = c.loop-one.invariant in
    inv ∙ (λ j. map f (take_all i xs c.loop-one-test.false j) ++ drop_all i xs c.loop-one-test.false j) ∙ append-nil (map f xs)
