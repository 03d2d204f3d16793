use Rattle.std.proofs.Common.{◌≡◌, [], sym, ◌∙◌}
use Rattle.dns_records.specs.Compare.{same_record-Decides}
use Rattle.dns_commands.proofs.Changed.{empty_is, not_empty, nothing_changed, same_after}
use Rattle.dns_commands.proofs.change.is_no_change.Goals as goal

pub returns-then-not-is_empty : goal.returns-then-not-is_empty
returns-then-not-is_empty c before after ob oa h = (
  λ t. absurd cc,
  λ e. absurd (not_empty c.removed.result.now (sym c.is_empty.ensures ∙ c.if-not-is_empty.true) (c.removed.ensures.records ∙ (nothing_changed before after c.args.change.now h e).removed)),
)

pub returns : goal.returns
returns c before after ob oa h =
    let change = c.args.change.now in
    let removed : change.removed ≡ [] = sym c.removed.ensures.records ∙ empty_is c.removed.result.now (sym c.is_empty.ensures ∙ c.if-not-is_empty.false) in
    let added : change.added ≡ [] = sym c.added.ensures.records ∙ empty_is c.added.result.now (sym c.is_empty-2.ensures ∙ c.if-not-is_empty-2.false) in
    let same = same_record-Decides c.old_soa.result.now c.new_soa.result.now in (
      λ t. same_after before after change ob oa h removed added (sym c.old_soa.ensures ∙ same.0 (sym c.eq.ensures.value ∙ t) ∙ c.new_soa.ensures),
      λ e. c.eq.ensures.value ∙ same.1 (c.old_soa.ensures ∙ (nothing_changed before after change h e).soa ∙ sym c.new_soa.ensures),
    )
