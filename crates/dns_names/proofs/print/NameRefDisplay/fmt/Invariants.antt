use Rattle.std.proofs.Common.{◌≡◌, ◌++◌, List, ℕ, length}
use Rattle.std.specs.Fmt.{HasWritten, IsPlainFormatter}
use Rattle.dns_names.specs.Name.{labels_of}
use Rattle.dns_names.specs.Plain.{IsPlain}
use Rattle.dns_names.specs.Text.{printed_labels}
use Rattle.dns_names.proofs.print.NameRefDisplay.fmt.Given as goal

abbrev pub invariant-labels : goal.invariant-labels
invariant-labels g l = record {
  plain : IsPlain l.rest;
  printed : (text : List ℕ) × (printed_labels l.self ≡ text ++ printed_labels (labels_of l.rest)) × (IsPlainFormatter l.initial.f → HasWritten g.W.Write.write_str_gives l.initial.f text l.f);
}

abbrev pub decreases-labels : goal.decreases-labels
decreases-labels g l = length l.rest
