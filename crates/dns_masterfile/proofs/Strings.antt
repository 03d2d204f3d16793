-- The octets of strings, letter by letter.
use Rattle.std.proofs.Common.{◌≡◌, ℕ, ◌<◌, ◌≤◌, Bool, true, false, List, [], ◌∷◌, ◌++◌, length, refl, sym, ap, ◌∙◌, arith, append_assoc, append-nil}
use Rattle.std.specs.Prelude.{Option, Some, None, map, option_and_then, ◌==◌, nat_lt, if◌then◌else◌}
use Rattle.std.proofs.lemmas.Bool.Decides.{nat_tests}
use Rattle.std.proofs.lemmas.List.{length-map}
use borrow.Author.Tests.{eqb-true}
use Rattle.dns_names.specs.Text.{Letter, Itself, Escaped, letters, octet_of, onto}
use Rattle.dns_masterfile.specs.Text.{string_of_text}

abbrev pub octets_of_letters : Option (List Letter) → Option (List ℕ)
octets_of_letters None = None
octets_of_letters (Some ls) = Some (map octet_of ls)

abbrev pub octets_in : List ℕ → Option (List ℕ)
octets_in text = octets_of_letters (letters text)

abbrev pub onto_all : List ℕ → Option (List ℕ) → Option (List ℕ)
onto_all front None = None
onto_all front (Some octets) = Some (front ++ octets)

onto_more : (l : Letter) (r : Option (List Letter)) (front : List ℕ) → onto_all front (octets_of_letters (onto l r)) ≡ onto_all (front ++ octet_of l ∷ []) (octets_of_letters r)
onto_more l None front = refl
onto_more l (Some ls) front = ap Some (sym (append_assoc front (octet_of l ∷ []) (map octet_of ls)))

octet_either : (escaped : Bool) (octet : ℕ) → octet_of (if escaped then Escaped octet else Itself octet) ≡ octet
octet_either true octet = refl
octet_either false octet = refl

-- one more letter
pub letter_more : (all : Option (List ℕ)) (front more text behind : List ℕ) (escaped : Bool) (octet : ℕ) → all ≡ onto_all front (octets_in text) → letters text ≡ onto (if escaped then Escaped octet else Itself octet) (letters behind) → more ≡ front ++ octet ∷ [] → all ≡ onto_all more (octets_in behind)
letter_more all front more text behind escaped octet h e m =
    let letter : Letter = if escaped then Escaped octet else Itself octet in
    h ∙ ap (λ (r : Option (List Letter)). onto_all front (octets_of_letters r)) e
    ∙ onto_more letter (letters behind) front
    ∙ ap (λ (c : ℕ). onto_all (front ++ c ∷ []) (octets_in behind)) (octet_either escaped octet)
    ∙ ap (λ (xs : List ℕ). onto_all xs (octets_in behind)) (sym m)

abbrev if_short : List ℕ → Option (List ℕ)
if_short octets = if nat_lt (length octets) 256 then Some octets else None

string_letters : (r : Option (List Letter)) (octets : List ℕ) → octets_of_letters r ≡ Some octets → option_and_then (λ ls. if nat_lt (length ls) 256 then Some (map octet_of ls) else None) r ≡ if_short octets
string_letters None octets h = absurd cc
string_letters (Some ls) octets h =
    let e : map octet_of ls ≡ octets = cc in
    ap (λ (n : ℕ). if nat_lt n 256 then Some (map octet_of ls) else None) (sym (length-map ls octet_of)) ∙ ap if_short e

pub no_octets : (octets : List ℕ) → true ≡ (length octets == 0) → octets ≡ []
no_octets [] h = refl
no_octets (c ∷ octets) h = absurd (omega (arith, eqb-true (length (c ∷ octets)) 0 (sym h)))

-- the string, when no letter is left
pub string_is : (text octets rest : List ℕ) → octets_in text ≡ onto_all octets (octets_in rest) → rest ≡ [] → string_of_text text ≡ if_short octets
string_is text octets rest h e =
    string_letters (letters text) octets (h ∙ ap (λ (xs : List ℕ). onto_all octets (octets_in xs)) e ∙ ap Some (append-nil octets))

pub string_short : (text octets rest : List ℕ) → octets_in text ≡ onto_all octets (octets_in rest) → rest ≡ [] → length octets ≤ 255 → string_of_text text ≡ Some octets
string_short text octets rest h e small =
    let test : nat_lt (length octets) 256 ≡ true = grind (arith, nat_tests) in
    string_is text octets rest h e ∙ rw test refl

pub string_long : (text octets rest : List ℕ) → octets_in text ≡ onto_all octets (octets_in rest) → rest ≡ [] → 255 < length octets → string_of_text text ≡ None
string_long text octets rest h e large =
    let test : nat_lt (length octets) 256 ≡ false = grind (arith, nat_tests) in
    string_is text octets rest h e ∙ rw test refl
