use Rattle.std.proofs.Common.{◌≡◌, Option, List, ℕ, refl, sym, subst, ◌∙◌}
use Rattle.std.specs.Io.KnownBytes.{Appends, append_known}
use Rattle.dns_network.specs.declared.network.Note.TheVariants.{Begins, Ends}
use Rattle.dns_service.specs.Log.{logged, said_of}
use Rattle.dns_service.proofs.Noted.{begins_uncounted, begins_unsaid}
use Rattle.dns_service.proofs.Said.{said_more}
use Rattle.dns_service.proofs.log.LogObserver.begin_turn.Goals as goal

pub returns-then-is_same_second : goal.returns-then-is_same_second
returns-then-is_same_second g c =
    let old = c.args.self.now in
    let log = logged (g.E.Write.contents old.err.now) old.lines.now.items old.counts old.addresses.now.items old.transfers.now.items in (
      begins_uncounted old.counting c.args.now,
      refl,
      refl,
      refl,
      record {
        said = λ whole. (whole, begins_unsaid old.is_quiet old.origins.now log c.args.now (c.is_same_second.ensures c.if-is_same_second.true old.is_quiet old.origins.now));
        written = λ e. absurd (let clash : Begins c.args.now ≡ Ends = e in cc);
      },
    )

pub returns : goal.returns
returns g c =
    let text = g.E.Write.contents in
    let old = c.args.self.now in
    let new = c.take.new.self in
    let said = said_of old.is_quiet old.origins.now old.counts (Begins c.args.now) in (
      c.take.ensures.counting ∙ begins_uncounted old.counting c.args.now,
      c.take.ensures.same_reference,
      c.take.ensures.origins,
      c.take.ensures.quiet,
      record {
        said = λ whole.
            let took = c.take.ensures.said whole in (
              took.0,
              record {
                text = subst (λ (x : Option (List ℕ)). Appends (append_known (text old.err.now) old.lines.now.items) (append_known x new.lines.now.items) said.0) (sym c.take.ensures.text)
                    (said_more (text old.err.now) old.lines.now.items said.0 new.lines.now.items took.1.lines_are);
                known = λ i. record { counts = took.1.counts_are i; addresses = c.take.ensures.addresses i; transfers = c.take.ensures.transfers i };
              },
            );
        written = λ e. absurd (let clash : Begins c.args.now ≡ Ends = e in cc);
      },
    )
