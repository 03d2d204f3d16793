use Rattle.std.proofs.Common.{◌++◌, ◌∷◌, [], sym, ap, ◌∙◌, append_assoc, rules}
use Rattle.std.proofs.Output.{has_written_append}
use Rattle.dns_names.specs.Name.{Labels, labels_of}
use Rattle.dns_names.specs.PlainLaws.{plain_of}
use Rattle.dns_names.specs.Text.{printed_label, printed_labels}
use Rattle.dns_names.proofs.print.NameRefDisplay.fmt.Goals as goal

pub labels-init : goal.labels-init
labels-init g c =
    let both = plain_of c.as_wire-rest.result.now c.args.self.now c.as_wire-rest.ensures.valid c.as_wire-rest.ensures.octets in
    record { plain = both.1; printed = ([], ap printed_labels (sym both.0), search rules) }

pub labels-preserved : goal.labels-preserved
labels-preserved g c =
    let so_far = c.labels.invariant.printed in
    let label = c.split_first.result.0.now in
    let behind = labels_of c.split_first.result.1.now in
    let text = so_far.0 in
    let whole = so_far.1 ∙ ap (λ (x : Labels). text ++ printed_labels x) c.split_first.ensures.parts ∙ sym (append_assoc text (printed_label label ++ 46 ∷ []) (printed_labels behind)) in
    record {
      plain = c.split_first.ensures.plain;
      printed = (text ++ (printed_label label ++ 46 ∷ []), whole, λ p. has_written_append {W = g.row.W.Denot} g.W.Write.write_str_gives c.args.f.now text c.labels.f (printed_label label ++ 46 ∷ []) c.write-in-labels.new.self (so_far.2 p) (search rules));
    }
