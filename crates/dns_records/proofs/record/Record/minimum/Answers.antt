use Rattle.std.proofs.Common.{List, ℕ, ap, ◌∙◌, length, drop, ◌-◌}
use Rattle.dns_records.specs.Record.{Data, number_of}
use Rattle.dns_records.proofs.Readings.{last_four}
use Rattle.dns_records.proofs.record.Record.minimum.Goals as goal

pub returns : goal.returns
returns c =
    let o = c.octets-octets.result.now in
    let same = c.octets-octets.ensures.octets ∙ ap (λ (d : Data). d.octets) c.data.ensures in
    c.u32_at.ensures ∙ ap number_of (last_four o) ∙ ap (λ (x : List ℕ). number_of (drop (length x - 4) x)) same
