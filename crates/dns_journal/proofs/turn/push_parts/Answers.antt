use Rattle.std.proofs.Common.{rules, arith, ◌+◌, ◌<◌, List, sym, ◌∙◌, ap, subst, length}
use Rattle.std.proofs.lemmas.List.Elements.{All-append}
use Rattle.dns_sectors.specs.Phase.{pairs, AllWithin}
use Rattle.dns_sectors.specs.declared.phase.SectorWrite.{SectorWrite}
use Rattle.dns_sectors.proofs.Phases.{pairs-append}
use Rattle.dns_journal.proofs.Laying.{parts_none, parts_more, parts_before}
use Rattle.dns_journal.proofs.turn.push_parts.Goals as goal

pub loop-index-init : goal.loop-index-init
loop-index-init c = record {
  pushes = parts_none c.args.at c.args.bank_open c.args.base c.args.octets.now (pairs c.args.writes.now.items);
  within = λ n le all. all;
}

pub snapshot_sector-requires : goal.snapshot_sector-requires
snapshot_sector-requires c = parts_before (length c.args.octets.now) c.loop-index.index (omega (arith, c.loop-index-test.true, c.snapshot_sectors-index-end.ensures))

pub returns-in_err-push-clause-within : goal.returns-in_err-push-clause-within
returns-in_err-push-clause-within c n le all = subst (λ (l : List SectorWrite). AllWithin n l) (sym c.in_err-push.ensures.items) (c.loop-index.invariant.within n le all)

pub loop-index-preserved : goal.loop-index-preserved
loop-index-preserved c = record {
  pushes =
      parts_more c.args.at c.args.bank_open c.args.base c.args.octets.now c.loop-index.index (pairs c.args.writes.now.items) (pairs c.loop-index.writes.items) (pairs c.push.new.self.items) c.snapshot_sector.result c.loop-index.invariant.pushes
      (parts_before (length c.args.octets.now) c.loop-index.index (omega (arith, c.loop-index-test.true, c.snapshot_sectors-index-end.ensures))) c.snapshot_sector.ensures.says c.snapshot_sector.ensures.holds c.snapshot_sector.ensures.own
      (ap (λ (l : List SectorWrite). pairs l) c.in_ok-push.ensures.items ∙ pairs-append c.loop-index.writes.items _);
  within = λ n le all.
      let fact : c.args.at + c.loop-index.index < n = omega (arith, c.loop-index-test.true, c.snapshot_sectors-index-end.ensures, le) in
      let before = c.loop-index.invariant.within n le all in
      subst (λ (l : List SectorWrite). AllWithin n l) (sym c.in_ok-push.ensures.items) (All-append (λ (w : SectorWrite). w.at < n) c.loop-index.writes.items _ before (search (rules, fact)));
}
