use Rattle.std.proofs.Common.{◌≡◌, true, false, refl, sym, ◌∙◌}
use Rattle.dns_network.specs.Notes.{OfEvent}
use Rattle.dns_primary.specs.Steps.{event_shown}
use Rattle.dns_service.proofs.Observed.{counted_once}
use Rattle.dns_service.specs.Log.{logged}
use Rattle.dns_service.proofs.Observed.{event_reported, quiet_said, silent_said}
use Rattle.dns_service.proofs.log.LogObserver.observe.Goals as goal

pub returns-then-is_quiet : goal.returns-then-is_quiet
returns-then-is_quiet g c =
    let old = c.args.self.now in
    let log = logged (g.E.Write.contents old.err.now) old.lines.now.items old.counts old.addresses.now.items old.transfers.now.items in (
      counted_once old.counting _ (OfEvent (event_shown c.args.event) c.args.effects.now) c.observe.ensures.on c.observe.ensures.counted,
      refl,
      refl,
      refl,
      record {
        said = λ whole. (whole, quiet_said old.is_quiet old.origins.now log (event_shown c.args.event) c.args.effects.now c.if-is_quiet.true);
        written = λ loud. absurd (let clash : true ≡ false = sym c.if-is_quiet.true ∙ loud.0 in cc);
      },
    )

pub returns-then-is_silent : goal.returns-then-is_silent
returns-then-is_silent g c =
    let old = c.args.self.now in
    let log = logged (g.E.Write.contents old.err.now) old.lines.now.items old.counts old.addresses.now.items old.transfers.now.items in (
      counted_once old.counting _ (OfEvent (event_shown c.args.event) c.args.effects.now) c.observe.ensures.on c.observe.ensures.counted,
      refl,
      refl,
      refl,
      record {
        said = λ whole. (
          whole,
          silent_said old.is_quiet old.origins.now log (event_shown c.args.event) c.args.effects.now c.if-is_quiet.false
              (c.is_silent.ensures.said c.if-is_silent.true log.known refl old.origins.now),
        );
        written = λ answered. absurd (answered.1 (c.is_silent.ensures.unanswered c.if-is_silent.true));
      },
    )

pub returns : goal.returns
returns g c =
    let old = c.args.self.now in
    let new = c.report.new.self in
    let text = g.E.Write.contents in (
      c.report.ensures.counting ∙ counted_once old.counting _ (OfEvent (event_shown c.args.event) c.args.effects.now) c.observe.ensures.on c.observe.ensures.counted,
      c.report.ensures.same_reference,
      c.report.ensures.origins,
      c.report.ensures.quiet,
      record {
        said = λ whole.
            let told = c.report.ensures.said whole in (
              told.0,
              event_reported old.is_quiet old.origins.now (logged (text old.err.now) old.lines.now.items old.counts old.addresses.now.items old.transfers.now.items)
                  (logged (text new.err.now) new.lines.now.items new.counts new.addresses.now.items new.transfers.now.items) (event_shown c.args.event) c.args.effects.now c.if-is_quiet.false told.1,
            );
        written = λ answered. c.report.ensures.written answered.1;
      },
    )
