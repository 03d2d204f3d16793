-- A serial is looked for among the changes from the newest on.
use Rattle.std.proofs.Common.{◌≡◌, ℕ, zero, suc, ◌+◌, ◌-◌, ◌^◌, ◌<◌, ◌≤◌, Bool, true, false, ◌&&◌, List, [], ◌∷◌, Some, drop, refl, ap, ◌∙◌, arith}
use Rattle.std.specs.Prelude.{◌==◌, slice_get, if◌then◌else◌}
use Rattle.std.proofs.lemmas.Bool.Decides.{nat_tests}
use Rattle.dns_records.specs.Record.{serial_of}
use Rattle.dns_serial.specs.Serial.{advance}
use Rattle.dns_changes.specs.Change.{Change}
use Rattle.dns_transfer.specs.Form.{advances, is_journalled, since}
use Rattle.dns_transfer.proofs.Lists.{drop_get}

-- over later changes alone the serial goes no further
fewer : (changes : List Change) (n : ℕ) → advances (drop n changes) ≤ advances changes
fewer [] zero = omega arith
fewer [] (suc n) = omega arith
fewer (c ∷ rest) zero = omega arith
fewer (c ∷ rest) (suc n) = omega (arith, fewer rest n)

not_journalled : (changes : List Change) → 2 ^ 31 ≤ advances changes → is_journalled changes ≡ false
not_journalled changes far = grind (arith, nat_tests)

pub journalled : (changes : List Change) → advances changes < 2 ^ 31 → is_journalled changes ≡ true
journalled changes near = grind (arith, nat_tests)

skipped : (serial : ℕ) (c : Change) (rest : List Change) → is_journalled (c ∷ rest) ≡ false → since serial (c ∷ rest) ≡ since serial rest
skipped serial c rest e = ap (λ b. if b && (serial_of c.old_soa == serial) then Some (c ∷ rest) else since serial rest) e

-- where a version is too far away, so are all before it
pub since_behind : (serial : ℕ) (changes : List Change) (n : ℕ) → 2 ^ 31 ≤ advances (drop n changes) → since serial changes ≡ since serial (drop (n + 1) changes)
since_behind serial [] zero far = refl
since_behind serial [] (suc n) far = let next : suc (suc n) ≡ suc n + 1 = omega arith in ap (λ k. since serial (drop k [])) next
since_behind serial (c ∷ rest) zero far = skipped serial c rest (not_journalled (c ∷ rest) far)
since_behind serial (c ∷ rest) (suc n) far =
    let more : 2 ^ 31 ≤ advances (c ∷ rest) = omega (arith, fewer rest n, far) in
    let next : suc (n + 1) ≡ suc n + 1 = omega arith in
    skipped serial c rest (not_journalled (c ∷ rest) more) ∙ since_behind serial rest n far ∙ ap (λ k. since serial (drop k (c ∷ rest))) next

pub found_here : (serial : ℕ) (c : Change) (rest : List Change) → is_journalled (c ∷ rest) ≡ true → (serial_of c.old_soa == serial) ≡ true → since serial (c ∷ rest) ≡ Some (c ∷ rest)
found_here serial c rest near e = λ i. if near i && e i then Some (c ∷ rest) else since serial rest

pub not_here : (serial : ℕ) (c : Change) (rest : List Change) → (serial_of c.old_soa == serial) ≡ false → since serial (c ∷ rest) ≡ since serial rest
not_here serial c rest e = at (is_journalled (c ∷ rest))
  where
    at : (b : Bool) → (if b && (serial_of c.old_soa == serial) then Some (c ∷ rest) else since serial rest) ≡ since serial rest
    at false = refl
    at true = ap (λ d. if d then Some (c ∷ rest) else since serial rest) e

-- the changes from the one before on
pub list_before : (changes : List Change) (n : ℕ) (c : Change) → 0 < n → slice_get changes (n - 1) ≡ Some c → drop (n - 1) changes ≡ c ∷ drop n changes
list_before changes n c up e =
    let back : n - 1 + 1 ≡ n = omega arith in drop_get changes (n - 1) c e ∙ ap (λ k. c ∷ drop k changes) back

pub advances_before : (changes : List Change) (n : ℕ) (c : Change) → 0 < n → slice_get changes (n - 1) ≡ Some c → advances (drop (n - 1) changes) ≡ advance (serial_of c.old_soa) (serial_of c.new_soa) + advances (drop n changes)
advances_before changes n c up e = ap advances (list_before changes n c up e)

pub too_far : (serial : ℕ) (changes : List Change) (n : ℕ) → 0 < n → 2 ^ 31 ≤ advances (drop (n - 1) changes) → since serial changes ≡ since serial (drop n changes)
too_far serial changes n up far = let back : n - 1 + 1 ≡ n = omega arith in since_behind serial changes (n - 1) far ∙ ap (λ k. since serial (drop k changes)) back

pub same_number : (a b : ℕ) → a ≡ b → (a == b) ≡ true
same_number a b e = grind (arith, nat_tests)

pub other_number : (a b : ℕ) → (a ≡ b → ⊥) → (a == b) ≡ false
other_number a b e = grind (arith, nat_tests)
