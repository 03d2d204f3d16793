use Rattle.std.proofs.Common.{sym, ◌∙◌, ap}
use Rattle.dns_names.specs.Name.{wire, labels_of}
use Rattle.dns_names.specs.Plain.{IsPlain}
use Rattle.dns_records.specs.Record.{Data}
use Rattle.dns_records.specs.Laws.{name_data-plain}
use Rattle.dns_records.proofs.rdata.RData.as_name.Goals as goal
use Rattle.dns_records.proofs.rdata.RData.as_name.Goals.{After-as_slice}

plain : (c : After-as_slice) → IsPlain c.self.inside.octets.items
plain c = name_data-plain _ c.self.invariant (sym c.is_name_type.ensures ∙ c.if-is_name_type.true)

pub over-requires : goal.over-requires
over-requires c = rw c.as_slice.ensures (plain c)

pub returns-then-is_name_type-clause-octets : goal.returns-then-is_name_type-clause-octets
returns-then-is_name_type-clause-octets c =
    let whole = (plain (goal.at.returns-then-is_name_type-clause-octets c).After-as_slice).whole in
    sym (ap (λ (d : Data). d.octets) c.self.view_is) ∙ sym whole ∙ ap wire (sym (c.over.ensures ∙ ap labels_of c.as_slice.ensures))
