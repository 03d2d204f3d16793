use Rattle.std.proofs.Common.{ℕ, ◌+◌, ◌<◌, List, length, ap, arith}
use Rattle.dns_masterfile.proofs.Joins.{put_two, short_string, string_fits}
use Rattle.dns_masterfile.proofs.rdata.put_string.Goals as goal

pub overflow_cast-len : goal.overflow_cast-len
overflow_cast-len c =
    let short : length c.in_ok-string.string.items < 256 = short_string c.args.text.now c.in_ok-string.string.items c.in_ok-string.ensures in
    omega arith

pub returns : goal.returns
returns c =
    let s : List ℕ = c.in_ok-string.string.items in
    let short : length s < 256 = short_string c.args.text.now s c.in_ok-string.ensures in
    let put = put_two c.args.octets.now.items c.push.new.self.items c.extend_from_slice.new.self.items c.as_slice.result.now s c.len-2.result c.in_ok-push.ensures.ok c.in_ok-extend_from_slice.ensures.ok c.as_slice.ensures c.len-2.ensures.value in
    (s, string_fits c.args.size c.args.text.now s c.in_ok-string.ensures (omega arith), put, ap (λ (n : ℕ). c.args.size + 1 + n) c.len.ensures.value, omega arith, short)
