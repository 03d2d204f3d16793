use Rattle.std.proofs.Common.{◌≡◌, List, ◌∷◌, sym, ap, ◌∙◌}
use Rattle.dns_masterfile.specs.Entries.{FileEntry}
use Rattle.dns_masterfile.specs.Left.{Left, entry_at}
use Rattle.dns_masterfile.specs.Reading.{read_file}
use Rattle.dns_masterfile.specs.Contexts.{stated_context, stated_said}
use Rattle.dns_masterfile.proofs.Items.{one_more}
use Rattle.dns_masterfile.proofs.read.read_records.Goals as goal

pub entries-preserved : goal.entries-preserved
entries-preserved c =
    let left : Left = c.entries.scanner in
    let e : FileEntry = entry_at c.entries.start.line c.entries.start.blank left in
    let behind : Left = c.in-Entry.behind in
    let rest : List FileEntry = entry_at c.in-Entry.next.line c.in-Entry.next.blank behind ∷ behind.behind in
    let says = c.in-Ok-take_entry.ensures in
    let same : left.behind ≡ rest = ap (λ (l : Left). l.behind) (sym says.1 ∙ c.in-Entry.ensures) in
    one_more (read_file c.args.octets.now c.args.origin.now) c.entries.records.items c.take_said.new.records.items (stated_context c.entries.context) (stated_context c.take_said.new.context) e left.behind rest (stated_said c.in-Ok-take_entry.said) c.entries.invariant (says.0 c.entries.start.line) c.in-Ok-take_said.ensures.context c.in-Ok-take_said.ensures.records same
