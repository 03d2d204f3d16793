use Rattle.std.proofs.Common.{arith, ◌≤◌, ◌+◌, ◌∙◌, sym, ap, List, ℕ, ◌++◌, take, drop, length}
use Rattle.std.proofs.lemmas.List.{take_at}
use Rattle.dns_sectors.specs.FileOctets.{written}
use Rattle.dns_sectors.specs.declared.memory_file.Change.TheVariants.{Wrote}
use Rattle.dns_sectors.proofs.FileChanges.{changed, may_change, follows, passes_by, overwritten}
use Rattle.dns_sectors.proofs.memory_file.MemoryFileFile.write_at.Goals as goal

pub returns-clause-whole : goal.returns-clause-whole
returns-clause-whole c = λ _ _. let old = c.args.self.now in
    changed old.start.items old.changes.items c.push_reserved.new.self.items (Wrote c.args.offset c.args.octets.now) c.push_reserved.ensures.items

pub returns-clause-either : goal.returns-clause-either
returns-clause-either c = λ _. let old = c.args.self.now in
    may_change old.start.items old.changes.items c.push_reserved.new.self.items (Wrote c.args.offset c.args.octets.now) c.push_reserved.ensures.items

pub returns-clause-crash : goal.returns-clause-crash
returns-clause-crash c = λ _. let old = c.args.self.now in
    follows old.start.items old.changes.items c.push_reserved.new.self.items (Wrote c.args.offset c.args.octets.now) c.push_reserved.ensures.items

pub returns-clause-time : goal.returns-clause-time
returns-clause-time c = λ _. let old = c.args.self.now in
    passes_by old.start.items old.changes.items c.push_reserved.new.self.items (Wrote c.args.offset c.args.octets.now) c.push_reserved.ensures.items

pub invariant_of-self-2 : goal.invariant_of-self-2
invariant_of-self-2 c =
    let old = c.args.self.now in
    let o : List ℕ = old.octets.items in
    let x : List ℕ = c.args.octets.now in
    let at : ℕ = c.args.offset in
    let within : at + 512 ≤ length o = omega (arith, old.octets.ok, c.if-at-len.false, c.if-len-at-lt512.false) in
    record {
      held = take_at c.overwrite.new.held (drop (length c.overwrite.new.held) o) _ (omega (arith, c.overwrite.auto.held, c.deref_mut.ensures.len))
          ∙ overwritten at x o c.overwrite.new.held c.told-octets within
          (c.overwrite.ensures ∙ ap (λ (l : List ℕ). take at l ++ (x ++ drop (at + 512) l)) c.deref_mut.ensures.value)
          ∙ ap (written at x) old.held
          ∙ sym (changed old.start.items old.changes.items c.push_reserved.new.self.items (Wrote at x) c.push_reserved.ensures.items);
    }
