-- A name that is written label by label.
use Rattle.std.proofs.Common.{◌≡◌, ℕ, suc, ◌+◌, Bool, true, false, List, [], ◌∷◌, ◌++◌, length, Option, Some, None, refl, sym, ap, ◌∙◌, arith, append_assoc}
use Rattle.std.specs.Prelude.{nat_lt}
use Rattle.std.specs.Option.{option_map}
use Rattle.std.proofs.lemmas.Bool.Decides.{nat_tests}
use Rattle.std.proofs.lemmas.List.{append-nil, length-append}
use Rattle.dns_names.specs.Name.{Labels}
use Rattle.dns_wire.specs.Compress.{Place, Compressing, place_of, pointer, compress_name, new_places, compressed_name}
use Rattle.dns_wire.specs.Puts.{noted}
use Rattle.dns_wire.proofs.Puts.{Leaves, leaves_first, leaves_next, leaves_as}

-- what is left of a name to be written at an offset
abbrev pub NameLeft : List ℕ → Compressing → List Place → List ℕ → List Place → Labels → Type 0
NameLeft before whole known octets places name = Leaves before whole octets (compress_name known name) (places ++ new_places known (length octets) name)

pub compressed_known : (known : List Place) (label : List ℕ) (rest : Labels) (offset : ℕ) → Some offset ≡ option_map (λ p. p.offset) (place_of known (label ∷ rest)) → compress_name known (label ∷ rest) ≡ pointer offset
compressed_known known label rest offset e = go (place_of known (label ∷ rest)) refl
  where
    go : (o : Option Place) → place_of known (label ∷ rest) ≡ o → compress_name known (label ∷ rest) ≡ pointer offset
    go None is = let bad : Some offset ≡ None = e ∙ ap (λ (o : Option Place). option_map (λ p. p.offset) o) is in absurd cc
    go (Some p) is =
        let one : Some offset ≡ Some p.offset = e ∙ ap (λ (o : Option Place). option_map (λ p. p.offset) o) is in
        let same : p.offset ≡ offset = cc in
        rw (is, compress_name) (ap pointer same)

pub no_places_known : (known : List Place) (at : ℕ) (label : List ℕ) (rest : Labels) (offset : ℕ) → Some offset ≡ option_map (λ p. p.offset) (place_of known (label ∷ rest)) → new_places known at (label ∷ rest) ≡ []
no_places_known known at label rest offset e = go (place_of known (label ∷ rest)) refl
  where
    go : (o : Option Place) → place_of known (label ∷ rest) ≡ o → new_places known at (label ∷ rest) ≡ []
    go None is = let bad : Some offset ≡ None = e ∙ ap (λ (o : Option Place). option_map (λ p. p.offset) o) is in absurd cc
    go (Some p) is = rw (is, new_places) refl

pub not_known : (known : List Place) (name : Labels) → None ≡ option_map (λ p. p.offset) (place_of known name) → place_of known name ≡ None
not_known known name e = go (place_of known name) refl
  where
    go : (o : Option Place) → place_of known name ≡ o → place_of known name ≡ None
    go None is = is
    go (Some p) is = let bad : None ≡ Some p.offset = e ∙ ap (λ (o : Option Place). option_map (λ p. p.offset) o) is in absurd cc

pub compressed_label : (known : List Place) (label : List ℕ) (rest : Labels) → place_of known (label ∷ rest) ≡ None → compress_name known (label ∷ rest) ≡ (length label ∷ label) ++ compress_name known rest
compressed_label known label rest e = rw (e, compress_name) refl

-- after the positions that a pointer can name, none is added
none_high : (known : List Place) (at : ℕ) (name : Labels) → nat_lt at 16384 ≡ false → new_places known at name ≡ []
none_high known at [] high = refl
none_high known at (label ∷ rest) high = go (place_of known (label ∷ rest)) refl
  where
    go : (o : Option Place) → place_of known (label ∷ rest) ≡ o → new_places known at (label ∷ rest) ≡ []
    go None is = rw (is, high, new_places) refl
    go (Some p) is = rw (is, new_places) refl

still_high : (at more : ℕ) → nat_lt at 16384 ≡ false → nat_lt (at + more) 16384 ≡ false
still_high at more h = grind (arith, nat_tests)

pub places_next : (known places : List Place) (at : ℕ) (label : List ℕ) (rest : Labels) (after : ℕ) → place_of known (label ∷ rest) ≡ None → after ≡ at + 1 + length label
    → places ++ new_places known at (label ∷ rest) ≡ (places ++ noted at (label ∷ rest)) ++ new_places known after rest
places_next known places at label rest after e position = go (nat_lt at 16384) refl
  where
    go : (b : Bool) → nat_lt at 16384 ≡ b → places ++ new_places known at (label ∷ rest) ≡ (places ++ noted at (label ∷ rest)) ++ new_places known after rest
    go true low =
        let here : Place = record { offset = at; suffix = label ∷ rest } in
        let new : new_places known at (label ∷ rest) ≡ here ∷ new_places known (at + 1 + length label) rest = rw (e, low, new_places) refl in
        let note : noted at (label ∷ rest) ≡ here ∷ [] = rw (low, noted) refl in
        ap (λ (xs : List Place). places ++ xs) (new ∙ ap (λ (k : ℕ). here ∷ new_places known k rest) (sym position))
        ∙ sym (append_assoc places (here ∷ []) (new_places known after rest))
        ∙ ap (λ (xs : List Place). (places ++ xs) ++ new_places known after rest) (sym note)
    go false high =
        let none : new_places known at (label ∷ rest) ≡ [] = none_high known at (label ∷ rest) high in
        let far : nat_lt (at + (1 + length label)) 16384 ≡ false = still_high at (1 + length label) high in
        let same : at + (1 + length label) ≡ after = omega (arith, position) in
        let none' : new_places known after rest ≡ [] = none_high known after rest (ap (λ (k : ℕ). nat_lt k 16384) (sym same) ∙ far) in
        let note : noted at (label ∷ rest) ≡ [] = rw (high, noted) refl in
        ap (λ (xs : List Place). places ++ xs) none
        ∙ sym (append-nil (places ++ []))
        ∙ ap (λ (xs : List Place). (places ++ xs) ++ []) (sym note)
        ∙ ap (λ (xs : List Place). (places ++ noted at (label ∷ rest)) ++ xs) (sym none')

-- one label more is written
pub name_next : (before : List ℕ) (whole : Compressing) (known : List Place) (octets : List ℕ) (places : List Place) (label : List ℕ) (rest : Labels) (after : List ℕ) (places' : List Place) → place_of known (label ∷ rest) ≡ None → after ≡ octets ++ (length label ∷ label) → places' ≡ places ++ noted (length octets) (label ∷ rest)
    → NameLeft before whole known octets places (label ∷ rest) → NameLeft before whole known after places' rest
name_next before whole known octets places label rest after places' e grown kept h =
    let size : length after ≡ length octets + 1 + length label = (let s : length after ≡ length octets + suc (length label) = ap length grown ∙ length-append octets (length label ∷ label) in omega (arith, s)) in
    let table : places ++ new_places known (length octets) (label ∷ rest) ≡ places' ++ new_places known (length after) rest =
    places_next known places (length octets) label rest (length after) e size ∙ ap (λ (xs : List Place). xs ++ new_places known (length after) rest) (sym kept) in
    leaves_as before whole after (compress_name known rest) (compress_name known rest) (places ++ new_places known (length octets) (label ∷ rest)) (places' ++ new_places known (length after) rest) refl table
    (leaves_next before whole octets (compress_name known (label ∷ rest)) (places ++ new_places known (length octets) (label ∷ rest)) (length label ∷ label) (compress_name known rest) after (compressed_label known label rest e) grown h)

pub name_first : (known : List Place) (before : List ℕ) (name : Labels) → NameLeft before (compressed_name known (length before) name) known before known name
name_first known before name = leaves_first before (compressed_name known (length before) name)

-- a pointer is left
pub name_known : (before : List ℕ) (whole : Compressing) (known : List Place) (octets : List ℕ) (places : List Place) (label : List ℕ) (rest : Labels) (offset : ℕ) (pointed : List ℕ) → Some offset ≡ option_map (λ p. p.offset) (place_of known (label ∷ rest)) → pointed ≡ pointer offset
    → NameLeft before whole known octets places (label ∷ rest) → Leaves before whole octets pointed places
name_known before whole known octets places label rest offset pointed e is h =
    leaves_as before whole octets (compress_name known (label ∷ rest)) pointed (places ++ new_places known (length octets) (label ∷ rest)) places
    (compressed_known known label rest offset e ∙ sym is)
    (ap (λ (xs : List Place). places ++ xs) (no_places_known known (length octets) label rest offset e) ∙ append-nil places) h
