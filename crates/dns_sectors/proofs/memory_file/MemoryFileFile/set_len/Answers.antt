use Rattle.std.proofs.Common.{arith, ◌≡◌, ◌∙◌, sym, ap, ℕ, ◌++◌, ◌-◌, take, replicate, length, vec_len}
use Rattle.dns_sectors.specs.FileOctets.{padded}
use Rattle.dns_sectors.specs.declared.memory_file.Change.TheVariants.{Resized}
use Rattle.dns_sectors.proofs.FileChanges.{changed, follows, passes_by, resized}
use Rattle.dns_sectors.proofs.memory_file.MemoryFileFile.set_len.Goals as goal

pub invariant_of-self-in-Ok : goal.invariant_of-self-in-Ok
invariant_of-self-in-Ok c =
    let old = c.args.self.now in
    let size : vec_len old.octets ≡ length old.octets.items = omega (arith, old.octets.ok) in
    record {
      held = c.in-Ok.ensures.items ∙ ap (λ (k : ℕ). take c.args.len old.octets.items ++ replicate (c.args.len - k) 0) size ∙ resized c.args.len old.octets.items ∙ ap (padded c.args.len) old.held
          ∙ sym (changed old.start.items old.changes.items c.push_reserved.new.self.items (Resized c.args.len) c.push_reserved.ensures.items);
    }

pub returns-in-Ok-clause-done : goal.returns-in-Ok-clause-done
returns-in-Ok-clause-done c = λ _. let old = c.args.self.now in
    changed old.start.items old.changes.items c.push_reserved.new.self.items (Resized c.args.len) c.push_reserved.ensures.items

pub returns-in-Ok-clause-crash : goal.returns-in-Ok-clause-crash
returns-in-Ok-clause-crash c = λ _. let old = c.args.self.now in
    follows old.start.items old.changes.items c.push_reserved.new.self.items (Resized c.args.len) c.push_reserved.ensures.items

pub returns-in-Ok-clause-time : goal.returns-in-Ok-clause-time
returns-in-Ok-clause-time c = λ _. let old = c.args.self.now in
    passes_by old.start.items old.changes.items c.push_reserved.new.self.items (Resized c.args.len) c.push_reserved.ensures.items
