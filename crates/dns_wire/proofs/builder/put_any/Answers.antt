use Rattle.std.proofs.Common.{◌<◌, ◌≤◌, ◌+◌, length, subst, arith}
use Rattle.dns_wire.specs.Compress.{compressed_record}
use Rattle.dns_wire.specs.Puts.{RefusesUpTo}
use Rattle.dns_wire.proofs.Short.{record_short}
use Rattle.dns_wire.proofs.builder.put_any.Goals as goal

pub unreachable-requires : goal.unreachable-requires
unreachable-requires c =
    let k = c.args.compressor.now in
    let low : length k.octets.items ≤ 16384 = c.requires.low in
    let short = record_short k.places (length k.octets.items) c.args.one.now c.rdata-data.ensures.valid in
    let over : k.limit < length k.octets.items + length (compressed_record k.places (length k.octets.items) c.args.one.now).octets = subst (RefusesUpTo k.limit (length k.octets.items + length (compressed_record k.places (length k.octets.items) c.args.one.now).octets)) c.in-Err-DoesNotFit.field-0-is c.in-Err-DoesNotFit.ensures.refused in
    absurd (omega (arith, low, short, over, c.requires.room))
