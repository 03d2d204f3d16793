use Rattle.std.proofs.Common.{◌∙◌, ◌-◌, ap, rules, take}
use Rattle.dns_zone.proofs.Moved.{moved, spliced}
use Rattle.dns_zone.proofs.list.replace_between.Goals as goal

-- src/list.rt:45:1
pub returns-clause-ok : goal.returns-clause-ok
returns-clause-ok c =
    spliced c.args.items.now.items c.args.come.items c.move_to_end.new.items.items c.truncate.new.self.items c.move_to_end-2.new.items.items c.args.begin c.args.end
    c.requires.order c.requires.inside
    (c.move_to_end.ensures ∙ ap (λ xs. moved xs c.args.begin (c.args.end - c.args.begin)) c.in_ok-append.ensures.items)
    (c.truncate.ensures.items ∙ ap (λ n. take (n - (c.args.end - c.args.begin)) c.move_to_end.new.items.items) (search rules))
    (c.move_to_end-2.ensures ∙ ap (λ n. moved c.truncate.new.self.items c.args.begin (n - c.args.end)) (search rules))
