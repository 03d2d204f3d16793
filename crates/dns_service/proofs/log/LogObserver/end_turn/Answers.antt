use Rattle.std.proofs.Common.{refl, ◌∙◌}
use Rattle.dns_network.specs.declared.network.Note.TheVariants.{Ends}
use Rattle.dns_network.specs.Notes.{OfNote}
use Rattle.dns_service.specs.Log.{logged, report_said}
use Rattle.dns_service.proofs.Noted.{ends_uncounted, ends_unsaid}
use Rattle.dns_service.proofs.Observed.{written_said}
use Rattle.dns_service.proofs.log.LogObserver.end_turn.Goals as goal

pub returns-then-has_no_line : goal.returns-then-has_no_line
returns-then-has_no_line g c =
    let old = c.args.self.now in
    let log = logged (g.E.Write.contents old.err.now) old.lines.now.items old.counts old.addresses.now.items old.transfers.now.items in (
      ends_uncounted old.counting,
      refl,
      refl,
      refl,
      record {
        said = λ whole. (whole, ends_unsaid old.is_quiet old.origins.now log);
        written = λ _. c.has_no_line.ensures c.if-has_no_line.true;
      },
    )

pub returns : goal.returns
returns g c =
    let text = g.E.Write.contents in
    let old = c.args.self.now in
    let new = c.settle.new.self in
    let log = logged (text old.err.now) old.lines.now.items old.counts old.addresses.now.items old.transfers.now.items in
    let said = report_said old.is_quiet old.origins.now log.known (OfNote Ends) in (
      c.settle.ensures.counting ∙ ends_uncounted old.counting,
      c.settle.ensures.same_reference,
      c.settle.ensures.origins,
      c.settle.ensures.quiet,
      record {
        said = λ whole.
            let out = c.settle.ensures.written whole in (
              out.0,
              written_said said log (text old.err.now) (text new.err.now) old.lines.now.items new.lines.now.items old.counts new.counts old.addresses.now.items new.addresses.now.items old.transfers.now.items new.transfers.now.items
                  (ends_unsaid old.is_quiet old.origins.now log) out.1 c.settle.ensures.none c.settle.ensures.counts c.settle.ensures.addresses c.settle.ensures.transfers,
            );
        written = λ _. c.settle.ensures.none;
      },
    )
