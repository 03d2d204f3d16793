use Rattle.std.proofs.Common.{◌+◌, length, refl}
use Rattle.std.proofs.lemmas.Result.{IfErr-weaker}
use Rattle.dns_names.specs.Name.{labels_of}
use Rattle.dns_wire.specs.Compress.{compressed_name}
use Rattle.dns_wire.specs.Puts.{Wrote, RefusesUpTo, name_end, plain_octets}
use Rattle.dns_wire.proofs.Exits.{on_ok}
use Rattle.dns_wire.proofs.Puts.{wrote_last, refuses_last, labels_leave}
use Rattle.dns_wire.proofs.compressor.Compressor.put_name.Goals as goal

pub returns-clause-written : goal.returns-clause-written
returns-clause-written c =
    let s = c.args.self.now in
    let now = c.put_labels.new.self in
    let new = c.put_end.new.self in
    let found = c.in_ok-found.found in
    let all = compressed_name s.places (length s.octets.items) (labels_of c.args.name.now) in
    let w = c.in_ok-found.ensures.written in
    let left = labels_leave s.limit s.octets.items now.octets.items now.limit now.places all found w in
    on_ok c.put_end.result (Wrote now.limit now.octets.items new.octets.items new.limit new.places (plain_octets now.places (name_end found))) (Wrote s.limit s.octets.items new.octets.items new.limit new.places all) c.put_end.ensures.written
    (λ v. wrote_last s.limit s.octets.items all now.octets.items (name_end found) now.places now.limit new.octets.items new.limit new.places (plain_octets now.places (name_end found)) refl refl w.same left v)

pub returns-clause-refused : goal.returns-clause-refused
returns-clause-refused c =
    let s = c.args.self.now in
    let now = c.put_labels.new.self in
    let found = c.in_ok-found.found in
    let all = compressed_name s.places (length s.octets.items) (labels_of c.args.name.now) in
    let w = c.in_ok-found.ensures.written in
    IfErr-weaker c.put_end.result (RefusesUpTo now.limit (length now.octets.items + length (name_end found))) (RefusesUpTo s.limit (length s.octets.items + length all.octets))
    (λ e h. refuses_last s.limit s.octets.items all now.octets.items (name_end found) now.places now.limit e w.same (labels_leave s.limit s.octets.items now.octets.items now.limit now.places all found w) h) c.put_end.ensures.refused
