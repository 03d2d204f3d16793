use Rattle.std.proofs.Common.{◌≡◌, ◌+◌, ◌++◌, ◌∷◌, [], length, map, sym, ap, ◌∙◌, arith, append_assoc, length-append}
use Rattle.std.proofs.lemmas.List.{map-append}
use Rattle.dns_primary.specs.Open.{device_of_pending}
use Rattle.dns_primary.proofs.open.take_back.Goals as goal

pub loop-last-preserved-in-Ok : goal.loop-last-preserved-in-Ok
loop-last-preserved-in-Ok g c =
    let before = c.loop-last.pending.items in
    let after = c.pop.new.self.items in
    let one : after ++ c.in-Some.last ∷ [] ≡ before = sym c.in-Some.ensures.items in
    let room : length after + 1 ≡ length before = sym (length-append after (c.in-Some.last ∷ [])) ∙ ap (λ l. length l) one in
    let joined : map (λ b. device_of_pending b) after ++ (c.into_device.result ∷ c.loop-last.devices.items) ≡ map (λ b. device_of_pending b) before ++ c.loop-last.devices.items =
    sym (append_assoc (map (λ b. device_of_pending b) after) (c.into_device.result ∷ []) c.loop-last.devices.items)
    ∙ ap (λ l. l ++ c.loop-last.devices.items) ((λ i. map (λ b. device_of_pending b) after ++ c.into_device.ensures i ∷ []) ∙ sym (map-append (λ b. device_of_pending b) after (c.in-Some.last ∷ [])) ∙ ap (map (λ b. device_of_pending b)) one) in
    record {
      items = ap (λ l. map (λ b. device_of_pending b) after ++ l) c.in-Ok.ensures.items ∙ joined ∙ c.loop-last.invariant.items;
      room = omega (arith, room, ap (λ l. length l) c.in-Ok.ensures.items, c.loop-last.invariant.room, c.in-Ok.ensures.capacity);
    }

pub loop-last-preserved : goal.loop-last-preserved
loop-last-preserved g c =
    let before = c.loop-last.pending.items in
    let after = c.pop.new.self.items in
    let one : after ++ c.in-Some.last ∷ [] ≡ before = sym c.in-Some.ensures.items in
    let room : length after + 1 ≡ length before = sym (length-append after (c.in-Some.last ∷ [])) ∙ ap (λ l. length l) one in
    let joined : map (λ b. device_of_pending b) after ++ (c.into_device.result ∷ c.loop-last.devices.items) ≡ map (λ b. device_of_pending b) before ++ c.loop-last.devices.items =
    sym (append_assoc (map (λ b. device_of_pending b) after) (c.into_device.result ∷ []) c.loop-last.devices.items)
    ∙ ap (λ l. l ++ c.loop-last.devices.items) ((λ i. map (λ b. device_of_pending b) after ++ c.into_device.ensures i ∷ []) ∙ sym (map-append (λ b. device_of_pending b) after (c.in-Some.last ∷ [])) ∙ ap (map (λ b. device_of_pending b)) one) in
    record {
      items = ap (λ l. map (λ b. device_of_pending b) after ++ l) c.in-Ok.ensures.items ∙ joined ∙ c.loop-last.invariant.items;
      room = omega (arith, room, ap (λ l. length l) c.in-Ok.ensures.items, c.loop-last.invariant.room, c.in-Ok.ensures.capacity);
    }
