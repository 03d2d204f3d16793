use Rattle.std.proofs.lemmas.Fn.{always_returns_same}
use Rattle.std.proofs.Common.{rules}
use Rattle.std.specs.List.Sorted.{IsSortedBy}
use Rattle.dns_update.proofs.ByName.{is_earlier, named_stay, owners_rank}
use Rattle.dns_update.proofs.Found.{ok_by}
use Rattle.dns_update.proofs.runs.sort_by_owner.Goals as goal

pub returns-clause-stay : goal.returns-clause-stay
returns-clause-stay c = named_stay c.args.items.now.items c.sort_by.new.self.items (c.sort_by.ensures.stable is_earlier owners_rank (always_returns_same _ _ _ (λ a r f' k. search rules)))

pub returns-clause-sorted : goal.returns-clause-sorted
returns-clause-sorted c = ok_by c.sort_by.result _ (IsSortedBy is_earlier c.sort_by.new.self.items) (λ up. up is_earlier owners_rank (always_returns_same _ _ _ (λ a r f' k. search rules))) c.sort_by.ensures.sorted
