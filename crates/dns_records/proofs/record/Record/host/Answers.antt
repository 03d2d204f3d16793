use Rattle.std.proofs.Common.{sym, ◌∙◌, ap}
use Rattle.std.proofs.lemmas.List.{take_rest}
use Rattle.dns_records.specs.Record.{Data}
use Rattle.dns_records.proofs.Readings.{ns_host, mx_host, srv_host}
use Rattle.dns_records.proofs.record.Record.host.Goals as goal

pub over-requires : goal.over-requires
over-requires c =
    rw c.octets-octets.ensures.octets (ns_host c.data.result.now c.octets-octets.ensures.valid (ap (λ (d : Data). d.rtype) c.data.ensures ∙ sym c.rtype.ensures ∙ c.in-2.is))

pub over-requires-in-15 : goal.over-requires-in-15
over-requires-in-15 c =
    rw (take_rest, c.octets-octets.ensures.octets) (mx_host c.data.result.now c.octets-octets.ensures.valid (ap (λ (d : Data). d.rtype) c.data.ensures ∙ sym c.rtype.ensures ∙ c.in-15.is))

pub over-requires-in-33 : goal.over-requires-in-33
over-requires-in-33 c =
    rw (take_rest, c.octets-octets.ensures.octets) (srv_host c.data.result.now c.octets-octets.ensures.valid (ap (λ (d : Data). d.rtype) c.data.ensures ∙ sym c.rtype.ensures ∙ c.in-33.is))
