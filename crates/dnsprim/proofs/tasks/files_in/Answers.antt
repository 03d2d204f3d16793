use Rattle.std.proofs.Common.{ℕ, List, add-one, arith, subst}
use Rattle.std.specs.String.{string_bytes}
use Rattle.dns_commands.specs.Inputs.{IsInput, octets_held}
use Rattle.dnsprim.proofs.ReadFiles.{Read, one_more_file}
use Rattle.dnsprim.proofs.tasks.files_in.Goals as goal

pub loop-path-preserved : goal.loop-path-preserved
loop-path-preserved c =
    let item = c.loop-path-item.result in
    let is : IsInput c.file.result (string_bytes item.0, octets_held item.1) = subst (λ (path : List ℕ). IsInput c.file.result (path, octets_held item.1)) c.deref.ensures c.file.ensures in
    let here = subst (λ (t : Read). IsInput c.file.result (string_bytes t.0, octets_held t.1)) c.loop-path-item.is is in
    rw (add-one, c.in_ok-push.ensures.items) (one_more_file c.loop-path.files.items c.args.texts.now c.loop-path.path-index item c.file.result (omega arith) c.loop-path.invariant here)
