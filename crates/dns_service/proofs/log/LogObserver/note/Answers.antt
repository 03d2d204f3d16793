use Rattle.std.proofs.Common.{Option, List, ℕ, sym, subst, ◌∙◌}
use Rattle.dns_network.specs.Notes.{OfNote}
use Rattle.dns_service.proofs.Observed.{counted_once}
use Rattle.std.specs.Io.KnownBytes.{Appends, append_known}
use Rattle.dns_service.specs.Log.{said_of}
use Rattle.dns_service.proofs.Said.{said_more}
use Rattle.dns_service.proofs.log.LogObserver.note.Goals as goal

pub returns-in_default : goal.returns-in_default
returns-in_default g c =
    let text = g.E.Write.contents in
    let old = c.args.self.now in
    let new = c.take.new.self in
    let said = said_of old.is_quiet old.origins.now old.counts c.args.note in (
      c.take.ensures.counting ∙ counted_once old.counting _ (OfNote c.args.note) c.note.ensures.on c.note.ensures.counted,
      c.take.ensures.same_reference,
      c.take.ensures.origins,
      c.take.ensures.quiet,
      record {
        said = λ whole.
            let took = c.take.ensures.said whole in (
              took.0,
              record {
                text = subst (λ (x : Option (List ℕ)). Appends (append_known (text old.err.now) old.lines.now.items) (append_known x new.lines.now.items) said.0) (sym c.take.ensures.text)
                    (said_more (text old.err.now) old.lines.now.items said.0 new.lines.now.items took.1.lines_are);
                known = λ i. record { counts = took.1.counts_are i; addresses = c.take.ensures.addresses i; transfers = c.take.ensures.transfers i };
              },
            );
        written = λ e. absurd (c.in_default.not-Ends e);
      },
    )
