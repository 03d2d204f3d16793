use Rattle.std.proofs.Common.{◌∙◌, ap, ◌++◌}
use Rattle.dns_records.specs.Fields.{stated_fields}
use Rattle.dns_masterfile.proofs.Fits.{only_memory}
use Rattle.dns_masterfile.proofs.scanner.Scanner.take_formed.Goals as goal

pub unreachable-requires : goal.unreachable-requires
unreachable-requires c =
    let put = c.in_ok-take_fields.ensures in
    let same = c.as_slice.ensures ∙ put.2 ∙ ap (λ octets. octets ++ put.0) c.new-octets.ensures.items in
    let memory = only_memory c.args.rtype (stated_fields c.args.fields.now) put.0 c.as_slice.result.now c.in-Err-BadData.field-0 c.requires put.3 same c.in-Err-BadData.ensures.refused in
    absurd (cc (memory, c.in-Err-BadData.field-0-is))
