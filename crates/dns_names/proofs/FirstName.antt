-- The name at the front of octets, in lower case.
use Rattle.std.proofs.Common.{◌≡◌, ℕ, ◌+◌, ◌≤◌, inl, List, ◌++◌, length, map, take, drop, Some, refl, sym, ap, ◌∙◌, arith, take-append-drop}
use Rattle.std.specs.Prelude.{slice_get}
use Rattle.std.specs.Char.{to_ascii_lowercase}
use Rattle.std.proofs.lemmas.List.{length-append, take_at}
use Rattle.dns_names.specs.Name.{Labels, IsName, wire, labels_of}
use Rattle.dns_names.specs.Octets.{LabelsAt, ExplainsName}
use Rattle.dns_names.specs.Lower.{AreOctets}
use Rattle.dns_names.specs.Plain.{IsPlain}
use Rattle.dns_names.specs.PlainLaws.{wire_stands, wire_lower}
use Rattle.dns_names.specs.Runs.{run_unique}
use Rattle.dns_names.specs.declared.NameError.{NameError}
use Rattle.dns_names.specs.declared.NameError.TheVariants.{OutOfMemory}
use Rattle.dns_names.proofs.Parsed.{parsed, refused_none}

read_of : (m : List ℕ) (name : Labels) (rest : List ℕ) → IsName name → m ≡ wire name ++ rest → map to_ascii_lowercase (take (length (wire name)) m) ≡ wire name
read_of m name rest valid e = ap (λ (x : List ℕ). map to_ascii_lowercase (take (length (wire name)) x)) e ∙ ap (map to_ascii_lowercase) (take_at (wire name) rest (length (wire name)) refl) ∙ wire_lower name valid.labels

-- where octets are refused, there is no name in lower case
pub none_first : (m : List ℕ) (e : NameError) → ExplainsName m e → (e ≡ OutOfMemory → ⊥) → (name : Labels) (rest : List ℕ) → IsName name → m ≡ wire name ++ rest → ⊥
none_first m e why other name rest valid same =
    let size = ap length same ∙ length-append (wire name) rest in
    refused_none m e name (length (wire name)) valid (omega (arith, size)) (read_of m name rest valid same) why other

-- nor where the octets of the name that is there have a capital
pub none_lower : (m : List ℕ) (stop : ℕ) (labels : Labels) → LabelsAt m 0 labels stop → slice_get m stop ≡ Some 0 → (map to_ascii_lowercase (take (stop + 1) m) ≡ take (stop + 1) m → ⊥) → (name : Labels) (rest : List ℕ) → IsName name → m ≡ wire name ++ rest → ⊥
none_lower m stop labels h z high name rest valid same =
    let size = ap length same ∙ length-append (wire name) rest in
    let front = wire_stands m 0 (length (wire name)) name valid.labels (read_of m name rest valid same) (omega (arith, size)) in
    let one = run_unique m 0 labels stop 0 name front.stop 0 h (record { stands = z; other = inl refl }) front.stand (record { stands = front.root; other = inl refl }) in
    let last : 0 + length (wire name) ≡ front.stop + 1 = front.last in
    let here : front.stop ≡ stop = one.1 in
    let width : stop + 1 ≡ length (wire name) = omega arith in
    let text : take (stop + 1) m ≡ wire name = ap (λ (k : ℕ). take k m) width ∙ ap (take (length (wire name))) same ∙ take_at (wire name) rest (length (wire name)) refl in
    high (ap (map to_ascii_lowercase) text ∙ wire_lower name valid.labels ∙ sym text)

-- the name that is there
pub record Firsts (m plain rest : List ℕ) : Type 0 where
  pub shape : IsPlain plain
  pub whole : m ≡ wire (labels_of plain) ++ rest

pub firsts : (m : List ℕ) (stop : ℕ) (labels : Labels) (plain rest : List ℕ) → AreOctets m → LabelsAt m 0 labels stop → slice_get m stop ≡ Some 0 → stop ≤ 254 → plain ≡ take (stop + 1) m → rest ≡ drop (stop + 1) m → map to_ascii_lowercase plain ≡ plain → Firsts m plain rest
firsts m stop labels plain rest fits h z small front back low =
    let p = parsed m stop labels plain fits h z small (sym low ∙ ap (map to_ascii_lowercase) front) in
    record { shape = p.plain; whole = sym (take-append-drop (stop + 1) m) ∙ ap (λ (x : List ℕ). x ++ drop (stop + 1) m) (sym front) ∙ ap (λ (x : List ℕ). plain ++ x) (sym back) ∙ ap (λ (x : List ℕ). x ++ rest) (sym p.plain.whole) }
