use Rattle.std.proofs.Common.{refl, sym, append-nil}
use Rattle.dns_service.proofs.Headers.{headers_more}
use Rattle.dns_service.proofs.update_lines.add_headers.Goals as goal

pub loop-header-init : goal.loop-header-init
loop-header-init c = record { lines_are = sym (append-nil c.args.lines.now.items); counts_are = refl }

pub loop-header-preserved : goal.loop-header-preserved
loop-header-preserved c =
    headers_more c.args.origins.now c.args.counts c.args.headers.now c.loop-header.header-index _ c.args.lines.now.items c.loop-header.lines.items c.add_header.new.lines.items c.loop-header.after c.in_ok-after.after c.loop-header-test.true
    c.loop-header.invariant c.in_ok-after.ensures
