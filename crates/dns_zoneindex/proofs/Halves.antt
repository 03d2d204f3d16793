-- Records in order on the two sides of one that is looked for.
use Rattle.std.proofs.Common.{◌≡◌, true, false, inl, inr, refl, sym, ap, ◌∙◌}
use Rattle.std.specs.Ordering.{is_gt}
use Rattle.std.specs.Cmp.{alike_right}
use Rattle.std.specs.declared.cmp.Ordering.{Ordering}
use Rattle.std.specs.declared.cmp.Ordering.TheVariants.{Less, Equal, Greater}
use Rattle.dns_records.specs.Record.{Record, record_cmp}
use Rattle.dns_zone.specs.Order.{record_total}
use Rattle.dns_zone.specs.Sets.{true_or_false}

by_side : (a r s : Record) (o : Ordering) → record_cmp s a ≡ o → record_cmp r s ≡ Less → is_gt o ≡ false → is_gt (record_cmp r a) ≡ false
by_side a r s Less e less h = ap is_gt (record_total.trans r s a less e)
by_side a r s Equal e less h = ap is_gt (sym (alike_right record_total s a r e) ∙ less)
by_side a r s Greater e less h = absurd cc

-- a record before one that is not greater is not greater
pub not_greater : (a r s : Record) → record_cmp r s ≡ Less → is_gt (record_cmp s a) ≡ false → is_gt (record_cmp r a) ≡ false
not_greater a r s less h = by_side a r s (record_cmp s a) refl less h

-- a record after a greater one is greater
pub greater : (a r s : Record) → record_cmp r s ≡ Less → is_gt (record_cmp r a) ≡ true → is_gt (record_cmp s a) ≡ true
greater a r s less h = elim (true_or_false (is_gt (record_cmp s a))) [ inl e ↦ e | inr e ↦ (let low = not_greater a r s less e in absurd cc) ]
