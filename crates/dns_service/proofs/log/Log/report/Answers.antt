use Rattle.dns_primary.specs.Steps.{event_shown}
use Rattle.dns_service.specs.Log.{observation_said}
use Rattle.dns_service.proofs.Observed.{appended_said, written_said}
use Rattle.dns_service.proofs.log.Log.report.Goals as goal

pub returns-then-is_empty-clause-said : goal.returns-then-is_empty-clause-said
returns-then-is_empty-clause-said g c = λ whole.
    let text = g.E.Write.contents in
    let old = c.args.self.now in
    let mid = c.take_event.new.self in
    let told = c.take_event.ensures.said whole in
    let said = observation_said old.origins.now (record { counts = old.counts; addresses = old.addresses.now.items; transfers = old.transfers.now.items }) (event_shown c.args.event) c.args.effects.now in (
      told.0,
      appended_said said (text old.err.now) (text mid.err.now) old.lines.now.items mid.lines.now.items old.counts mid.counts old.addresses.now.items mid.addresses.now.items old.transfers.now.items mid.transfers.now.items
          c.take_event.ensures.text told.1.0 told.1.1 c.take_event.ensures.addresses told.1.2,
    )

pub returns-clause-said : goal.returns-clause-said
returns-clause-said g c = λ whole.
    let text = g.E.Write.contents in
    let old = c.args.self.now in
    let mid = c.take_event.new.self in
    let new = c.settle.new.self in
    let out = c.settle.ensures.written whole in
    let told = c.take_event.ensures.said out.0 in
    let said = observation_said old.origins.now (record { counts = old.counts; addresses = old.addresses.now.items; transfers = old.transfers.now.items }) (event_shown c.args.event) c.args.effects.now in (
      told.0,
      written_said said _ (text mid.err.now) (text new.err.now) mid.lines.now.items new.lines.now.items mid.counts new.counts mid.addresses.now.items new.addresses.now.items mid.transfers.now.items new.transfers.now.items
          (appended_said said (text old.err.now) (text mid.err.now) old.lines.now.items mid.lines.now.items old.counts mid.counts old.addresses.now.items mid.addresses.now.items old.transfers.now.items mid.transfers.now.items
          c.take_event.ensures.text told.1.0 told.1.1 c.take_event.ensures.addresses told.1.2)
          out.1 c.settle.ensures.none c.settle.ensures.counts c.settle.ensures.addresses c.settle.ensures.transfers,
    )
