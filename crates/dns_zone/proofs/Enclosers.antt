-- The closest encloser, and the room for the label `*` before it.
use Rattle.std.proofs.Common.{◌≡◌, ℕ, ◌<◌, ◌≤◌, Bool, true, false, List, [], ◌∷◌, length, refl, sym, ap, subst, ◌∙◌, arith, cond}
use Rattle.std.specs.Prelude.{Some, None, unwrap_or}
use Rattle.std.specs.List.{find}
use Rattle.std.proofs.lemmas.List.{length-append}
use Rattle.dns_names.specs.Name.{Labels, IsName, wire, parent, ancestors}
use Rattle.dns_records.specs.Record.{Record}
use Rattle.dns_zone.specs.Records.{exists}
use Rattle.dns_zone.specs.Node.{encloser}

abbrev pub chosen : Labels → Bool → Labels → Labels
chosen name here above = cond here name above

-- the root encloses itself
abbrev root : Labels
root = []

at_root : (b : Bool) → unwrap_or (cond b (Some root) None) root ≡ root
at_root true = refl
at_root false = refl

-- one name up
encloser_step : (records : List Record) (l : List ℕ) (rest : Labels) (b : Bool) → unwrap_or (cond b (Some (l ∷ rest)) (find (exists records) (ancestors rest))) [] ≡ chosen (l ∷ rest) b (encloser records rest)
encloser_step records l rest true = refl
encloser_step records l rest false = refl

pub encloser_here : (records : List Record) (name : Labels) → exists records name ≡ true → encloser records name ≡ name
encloser_here records [] e = at_root (exists records [])
encloser_here records (l ∷ rest) e = encloser_step records l rest (exists records (l ∷ rest)) ∙ ap (λ (b : Bool). chosen (l ∷ rest) b (encloser records rest)) e

pub encloser_up : (records : List Record) (l : List ℕ) (rest : Labels) → exists records (l ∷ rest) ≡ false → encloser records (l ∷ rest) ≡ encloser records rest
encloser_up records l rest e = encloser_step records l rest (exists records (l ∷ rest)) ∙ ap (λ (b : Bool). chosen (l ∷ rest) b (encloser records rest)) e

pub encloser_parent : (records : List Record) (name above : Labels) → Some above ≡ parent name → exists records name ≡ false → encloser records name ≡ encloser records above
encloser_parent records [] above e none = absurd cc
encloser_parent records (l ∷ rest) above e none = let same : above ≡ rest = cc in encloser_up records l rest none ∙ ap (encloser records) (sym same)

pub encloser_root : (records : List Record) (name : Labels) → None ≡ parent name → encloser records name ≡ name
encloser_root records [] e = at_root (exists records [])
encloser_root records (l ∷ rest) e = absurd cc

longest : (l : List ℕ) (rest above : Labels) → length (wire above) ≤ length (wire rest) → (b : Bool) → length (wire (chosen (l ∷ rest) b above)) ≤ length (wire (l ∷ rest))
longest l rest above h true = omega arith
longest l rest above h false = omega (arith, h, length-append l (wire rest))

-- the encloser is no longer than the name
pub encloser_within : (records : List Record) (name : Labels) → length (wire (encloser records name)) ≤ length (wire name)
encloser_within records [] = subst (λ (n : Labels). length (wire n) ≤ 1) (sym (at_root (exists records []))) (omega arith)
encloser_within records (l ∷ rest) = subst (λ (n : Labels). length (wire n) ≤ length (wire (l ∷ rest))) (sym (encloser_step records l rest (exists records (l ∷ rest)))) (longest l rest (encloser records rest) (encloser_within records rest) (exists records (l ∷ rest)))

-- the encloser of a name that does not exist leaves two octets
pub encloser_leaves : (records : List Record) (name : Labels) → IsName name → exists records name ≡ false → length (wire (encloser records name)) ≤ 253
encloser_leaves records [] valid none = (let low = encloser_within records [] in omega (arith, low))
encloser_leaves records (l ∷ rest) valid none =
    let some : 0 < length l = valid.labels.0.some in
    let short : length (wire (l ∷ rest)) ≤ 255 = valid.short in
    let above : length (wire (encloser records rest)) ≤ 253 = omega (arith, encloser_within records rest, length-append l (wire rest), some, short) in
    subst (λ (n : Labels). length (wire n) ≤ 253) (sym (encloser_up records l rest none)) above
