-- Changes that lead from one version to another.
use Rattle.std.proofs.Common.{◌≡◌, ℕ, ◌+◌, ◌^◌, ◌<◌, ◌⊎◌, inl, inr, true, false, List, [], ◌∷◌, ◌++◌, Some, None, refl, sym, ap, subst, ◌∙◌, arith}
use Rattle.std.specs.Prelude.{◌==◌, ◌&&◌, if◌then◌else◌}
use Rattle.std.proofs.lemmas.Bool.Decides.{nat_tests}
use Rattle.dns_names.specs.Name.{Labels}
use Rattle.dns_records.specs.Record.{Record, serial_of}
use Rattle.dns_serial.specs.Serial.{advance}
use Rattle.dns_zone.specs.Zone.{IsZone, soas}
use Rattle.dns_zone.specs.Order.{both_true}
use Rattle.dns_zone.specs.Sets.{true_or_false}
use Rattle.dns_changes.specs.Change.{Change}
use Rattle.dns_changes.specs.Applied.{change_leads}
use Rattle.dns_changes.proofs.Formed.{formed}
use Rattle.dns_transfer.specs.Form.{advances, is_journalled, since}
use Rattle.dns_transfer.proofs.Since.{journalled, found_here, not_here, same_number, other_number}
use Rattle.dns_secondary.specs.Taken.{Applies, Leads}
use Rattle.dns_secondary.proofs.Applying.{applies_of}
use Rattle.dns_theorem.specs.Versions.{IsStep, LeadTo, EndAlike}
use Rattle.dns_theorem.proofs.Serials.{steps_to, joined, unequal, below_is, up_from, zone_small}

first_is : {A : Type 0} (a b : A) (xs ys : List A) → a ∷ xs ≡ b ∷ ys → a ≡ b
first_is a b xs ys e = cc

pub one_soa : (xs : List Record) (a b : Record) → soas xs ≡ a ∷ [] → soas xs ≡ b ∷ [] → a ≡ b
one_soa xs a b e f = first_is a b [] [] (sym e ∙ f)

-- the last is a valid zone
pub last_zone : (apex : Labels) (from : List Record) (cs : List Change) (to : List Record) → LeadTo apex from cs to → IsZone (record { apex = apex; records = to })
last_zone apex from [] to h = subst (λ (xs : List Record). IsZone (record { apex = apex; records = xs })) (sym h.1) h.0
last_zone apex from (c ∷ rest) to h = last_zone apex h.1 rest to h.3

pub first_zone : (apex : Labels) (from : List Record) (cs : List Change) (to : List Record) → LeadTo apex from cs to → IsZone (record { apex = apex; records = from })
first_zone apex from [] to h = h.0
first_zone apex from (c ∷ rest) to h = h.0

-- each change puts the serial on
pub steps_up : (before after : List Record) (c : Change) → IsStep before after c → 0 < advance (serial_of c.old_soa) (serial_of c.new_soa)
steps_up before after c h = up_from (serial_of c.new_soa) (serial_of c.old_soa) h.serial

-- the serial of the last version, from that of the first
pub went : (apex : Labels) (from : List Record) (cs : List Change) (to : List Record) (a b : Record)
    → LeadTo apex from cs to → advances cs < 2 ^ 31 → soas from ≡ a ∷ [] → soas to ≡ b ∷ []
    → (serial_of a + advances cs ≡ serial_of b) ⊎ (serial_of a + advances cs ≡ serial_of b + 2 ^ 32)
went apex from [] to a b h less ea eb =
    let same : a ≡ b = one_soa from a b ea (sym (ap soas h.1) ∙ eb) in
    let even : serial_of a ≡ serial_of b = ap serial_of same in
    inl (omega (arith, even))
went apex from (c ∷ rest) to a b h less ea eb =
    let step = h.2 in
    let next = h.1 in
    let old : c.old_soa ≡ a = one_soa from c.old_soa a step.change.old_soa ea in
    let small_old = zone_small apex from c.old_soa h.0 step.change.old_soa in
    let small_new = zone_small apex next c.new_soa (first_zone apex next rest to h.3) step.change.new_soa in
    let one = steps_to (serial_of c.old_soa) (serial_of c.new_soa) small_old small_new in
    let fewer : advances rest < 2 ^ 31 = omega (arith, less) in
    let more = went apex next rest to c.new_soa b h.3 fewer step.change.new_soa eb in
    subst (λ (r : Record). (serial_of r + advances (c ∷ rest) ≡ serial_of b) ⊎ (serial_of r + advances (c ∷ rest) ≡ serial_of b + 2 ^ 32)) old
    (joined (serial_of c.old_soa) (advance (serial_of c.old_soa) (serial_of c.new_soa)) (serial_of c.new_soa) (advances rest) (serial_of b) small_old less one more)

-- the version from which the last of the changes lead
pub record Part (apex : Labels) (cs : List Change) (to : List Record) : Type 0 where
  pub from : List Record
  pub leads : LeadTo apex from cs to

pub pending : (apex : Labels) (from : List Record) (front cs : List Change) (to : List Record) → LeadTo apex from (front ++ cs) to → Part apex cs to
pending apex from [] cs to h = record { from = from; leads = h }
pending apex from (f ∷ front) cs to h = pending apex h.1 front cs to h.3

pub fewer : (apex : Labels) (from : List Record) (f : Change) (front cs : List Change) (to : List Record) → LeadTo apex from (f ∷ (front ++ cs)) to
    → advances cs < advances (f ∷ (front ++ cs))
fewer apex from f [] cs to h = omega (arith, steps_up from h.1 f h.2)
fewer apex from f (g ∷ front) cs to h = let rest = fewer apex h.1 g front cs to h.3 in omega (arith, rest)

pub first_soa : (apex : Labels) (from : List Record) (c : Change) (rest : List Change) (to : List Record) → LeadTo apex from (c ∷ rest) to → soas from ≡ c.old_soa ∷ []
first_soa apex from c rest to h = h.2.change.old_soa

-- within a window no serial comes twice
pub never_twice : (apex : Labels) (from : List Record) (f : Change) (front : List Change) (c : Change) (rest : List Change) (to : List Record) (b : Record)
    → LeadTo apex from (f ∷ (front ++ c ∷ rest)) to → advances (f ∷ (front ++ c ∷ rest)) < 2 ^ 31 → soas to ≡ b ∷ []
    → serial_of f.old_soa ≡ serial_of c.old_soa → ⊥
never_twice apex from f front c rest to b h less last e =
    let part = pending apex from (f ∷ front) (c ∷ rest) to h in
    let up = fewer apex from f front (c ∷ rest) to h in
    let shorter : advances (c ∷ rest) < 2 ^ 31 = omega (arith, up, less) in
    let one = went apex from (f ∷ (front ++ c ∷ rest)) to f.old_soa b h less (first_soa apex from f (front ++ c ∷ rest) to h) last in
    let two = went apex part.from (c ∷ rest) to c.old_soa b part.leads shorter (first_soa apex part.from c rest to part.leads) last in
    unequal (serial_of f.old_soa) (advances (f ∷ (front ++ c ∷ rest))) (advances (c ∷ rest)) (serial_of b) up less one
    (subst (λ (n : ℕ). (n + advances (c ∷ rest) ≡ serial_of b) ⊎ (n + advances (c ∷ rest) ≡ serial_of b + 2 ^ 32)) (sym e) two)

number_is : (a b : ℕ) → (a == b) ≡ true → a ≡ b
number_is a b e = grind (arith, nat_tests)

-- kept from before, the changes of a serial are found
pub found_pending : (apex : Labels) (base : List Record) (front : List Change) (c : Change) (rest : List Change) (to : List Record) (b : Record)
    → LeadTo apex base (front ++ c ∷ rest) to → advances (c ∷ rest) < 2 ^ 31 → soas to ≡ b ∷ []
    → since (serial_of c.old_soa) (front ++ c ∷ rest) ≡ Some (c ∷ rest)
found_pending apex base [] c rest to b h less last =
    found_here (serial_of c.old_soa) c rest (journalled (c ∷ rest) less) (same_number (serial_of c.old_soa) (serial_of c.old_soa) refl)
found_pending apex base (f ∷ front) c rest to b h less last =
    let serial = serial_of c.old_soa in
    let on = found_pending apex h.1 front c rest to b h.3 less last in
    elim (true_or_false (is_journalled (f ∷ (front ++ c ∷ rest)) && (serial_of f.old_soa == serial))) [
      | inl t ↦
          (let both = both_true (is_journalled (f ∷ (front ++ c ∷ rest))) (serial_of f.old_soa == serial) t in
          absurd (never_twice apex base f front c rest to b h (below_is (advances (f ∷ (front ++ c ∷ rest))) (2 ^ 31) both.0) last
          (number_is (serial_of f.old_soa) serial both.1)))
      | inr t ↦ ap (λ d. if d then Some (f ∷ (front ++ c ∷ rest)) else since serial (front ++ c ∷ rest)) t ∙ on
    ]

-- kept from later on, no change is of the serial
pub none_before : (apex : Labels) (from : List Record) (f : Change) (front kept : List Change) (to : List Record) (b : Record)
    → LeadTo apex from (f ∷ (front ++ kept)) to → advances (f ∷ (front ++ kept)) < 2 ^ 31 → soas to ≡ b ∷ []
    → since (serial_of f.old_soa) kept ≡ None
none_before apex from f front [] to b h less last = refl
none_before apex from f front (k ∷ kept) to b h less last =
    let other = other_number (serial_of k.old_soa) (serial_of f.old_soa) (λ e. never_twice apex from f front k kept to b h less last (sym e)) in
    let moved : front ++ k ∷ kept ≡ (front ++ k ∷ []) ++ kept = shift front k kept in
    not_here (serial_of f.old_soa) k kept other
    ∙ none_before apex from f (front ++ k ∷ []) kept to b (subst (λ (xs : List Change). LeadTo apex from (f ∷ xs) to) moved h)
    (subst (λ (xs : List Change). advances (f ∷ xs) < 2 ^ 31) moved less) last
  where
    shift : (xs : List Change) (y : Change) (ys : List Change) → xs ++ y ∷ ys ≡ (xs ++ y ∷ []) ++ ys
    shift [] y ys = refl
    shift (x ∷ xs) y ys = ap (λ (zs : List Change). x ∷ zs) (shift xs y ys)

-- the changes from the client's version on are found, or there are none of its serial
pub since_is : (apex : Labels) (base from : List Record) (kept : List Change) (c : Change) (rest : List Change) (to : List Record) (b : Record)
    → LeadTo apex base kept to → LeadTo apex from (c ∷ rest) to → advances (c ∷ rest) < 2 ^ 31 → soas to ≡ b ∷ [] → EndAlike (c ∷ rest) kept
    → (since (serial_of c.old_soa) kept ≡ Some (c ∷ rest)) ⊎ (since (serial_of c.old_soa) kept ≡ None)
since_is apex base from kept c rest to b hk hc less last (inr ends) =
    inl (subst (λ (xs : List Change). since (serial_of c.old_soa) xs ≡ Some (c ∷ rest)) (sym ends.1)
    (found_pending apex base ends.0 c rest to b (subst (λ (xs : List Change). LeadTo apex base xs to) ends.1 hk) less last))
since_is apex base from kept c rest to b hk hc less last (inl ends) = at ends.0 ends.1
  where
    at : (front : List Change) → c ∷ rest ≡ front ++ kept → (since (serial_of c.old_soa) kept ≡ Some (c ∷ rest)) ⊎ (since (serial_of c.old_soa) kept ≡ None)
    at [] e = inl (subst (λ (xs : List Change). since (serial_of c.old_soa) xs ≡ Some (c ∷ rest)) e (found_pending apex from [] c rest to b hc less last))
    at (f ∷ front) e =
        let first : c ≡ f = cc in
        inr (subst (λ (d : Change). since (serial_of d.old_soa) kept ≡ None) (sym first)
        (none_before apex from f front kept to b (subst (λ (xs : List Change). LeadTo apex from xs to) e hc) (subst (λ (xs : List Change). advances xs < 2 ^ 31) e less) last))

-- a change between versions is a sequence of an answer
applies : (apex : Labels) (before after : List Record) (c : Change) → IsZone (record { apex = apex; records = before }) → IsZone (record { apex = apex; records = after })
    → IsStep before after c → Applies c before after
applies apex before after c z w h =
    let change = h.change in
    applies_of c before after z.ordered (formed before after c.old_soa c.new_soa c.removed c.added z.ordered w.ordered change.old_soa change.new_soa change.removed change.added)
    (change_leads before after c z.ordered w.ordered change)

-- they lead from the first version to the last
pub leads : (apex : Labels) (from : List Record) (c : Change) (rest : List Change) (to : List Record) (b : Record)
    → LeadTo apex from (c ∷ rest) to → advances (c ∷ rest) < 2 ^ 31 → soas to ≡ b ∷ [] → Leads b c.old_soa from (c ∷ rest) to
leads apex from c [] to b h less last =
    let next = h.1 in
    let to_is : to ≡ next = h.3.1 in
    let soa : c.new_soa ≡ b = one_soa next c.new_soa b h.2.change.new_soa (sym (ap soas to_is) ∙ last) in
    (refl, soa, subst (λ (xs : List Record). Applies c from xs) (sym to_is) (applies apex from next c h.0 h.3.0 h.2))
leads apex from c (d ∷ rest) to b h less last =
    let next = h.1 in
    let fewer : advances (d ∷ rest) < 2 ^ 31 = omega (arith, less) in
    let reached : c.new_soa ≡ d.old_soa = one_soa next c.new_soa d.old_soa h.2.change.new_soa (first_soa apex next d rest to h.3) in
    let up : 0 < advances (d ∷ rest) = omega (arith, steps_up next h.3.1 d h.3.2) in
    let gone = went apex next (d ∷ rest) to c.new_soa b h.3 fewer h.2.change.new_soa last in
    let other : (serial_of c.new_soa == serial_of b) ≡ false = other_number (serial_of c.new_soa) (serial_of b) (λ e. apart (serial_of c.new_soa) (advances (d ∷ rest)) (serial_of b) up fewer gone e) in (
      refl,
      other,
      next,
      applies apex from next c h.0 (first_zone apex next (d ∷ rest) to h.3) h.2,
      subst (λ (r : Record). Leads b r next (d ∷ rest) to) (sym reached) (leads apex next d rest to b h.3 fewer last),
    )
  where
    apart : (s a last : ℕ) → 0 < a → a < 2 ^ 31 → (s + a ≡ last) ⊎ (s + a ≡ last + 2 ^ 32) → s ≡ last → ⊥
    apart s a last up less (inl e) f = omega arith
    apart s a last up less (inr e) f = omega arith
