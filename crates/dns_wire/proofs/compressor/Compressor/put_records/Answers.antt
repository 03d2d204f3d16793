use Rattle.std.proofs.Common.{◌∷◌, ◌+◌, ◌≡◌, List, length, drop, sym, ap, subst, ◌∙◌, arith}
use Rattle.dns_records.specs.Record.{Record}
use Rattle.dns_wire.specs.Puts.{RefusesUpTo, compressed_all}
use Rattle.dns_wire.proofs.Exits.{err_exit}
use Rattle.dns_wire.proofs.RecordsPut.{RecordsLeft, records_left, records_refused}
use Rattle.dns_wire.proofs.compressor.Compressor.put_records.Goals as goal

pub returns-in_err-put_record-clause-refused : goal.returns-in_err-put_record-clause-refused
returns-in_err-put_record-clause-refused c =
    let s = c.args.self.now in
    let now = c.loop-one.self in
    let rs = c.args.records.now in
    let i = c.loop-one.one-index in
    let r = c.one-item.result in
    let all = compressed_all s.places (length s.octets.items) rs in
    let front : drop i rs ≡ r ∷ drop (i + 1) rs = records_left rs i r (omega arith) ∙ ap (λ (x : Record). x ∷ drop (i + 1) rs) (sym c.one-item.is) in
    let left : RecordsLeft s.octets.items all now.octets.items now.places (r ∷ drop (i + 1) rs) = subst (λ (xs : List Record). RecordsLeft s.octets.items all now.octets.items now.places xs) front c.loop-one.invariant.left in
    let e = c.in_err-put_record.field-0.0 in
    err_exit c.from_residual.result _ (RefusesUpTo s.limit (length s.octets.items + length all.octets)) c.from_residual.ensures.1
    (λ y same. subst (RefusesUpTo s.limit (length s.octets.items + length all.octets)) (sym same)
    (records_refused s.limit s.octets.items all now.octets.items now.places now.limit r (drop (i + 1) rs) e c.loop-one.invariant.same left c.in_err-put_record.ensures.refused))
