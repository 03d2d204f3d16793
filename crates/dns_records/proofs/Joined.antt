-- Strings that are put one after the other.
use Rattle.std.proofs.Common.{◌≡◌, ℕ, ◌<◌, List, [], ◌∷◌, ◌++◌, length, map, refl, sym, ap, subst, ◌∙◌, append_assoc, append-nil, arith}
use Rattle.std.specs.List.{AllByRecursion, flat_map}
use Rattle.dns_records.specs.Types.{type_txt}
use Rattle.dns_records.specs.Record.{Data, IsData, string}
use Rattle.dns_records.specs.Refusals.{RefusesData}
use Rattle.dns_records.specs.TextStrings.{txt_data, FitsTxt, RefusesTxt}
use Rattle.dns_records.specs.declared.record.RecordError.{RecordError}
use Rattle.dns_records.specs.declared.record.RecordError.TheVariants.{OutOfMemory, BadData, TooLong, UnknownType}
use Rattle.dns_records.proofs.StringParts.{txt_of, strings_of-flat}

abbrev pub AreShort : List (List ℕ) → Type 0
AreShort strings = AllByRecursion (λ (s : List ℕ). length s < 256) strings

-- the octets are the strings before those that are left
pub record Joined {X : Type 0} (f : X → List ℕ) (octets : List ℕ) (left all : List X) : Type 0 where
  pub whole : octets ++ flat_map string (map f left) ≡ flat_map string (map f all)
  pub short : AreShort (map f left) → AreShort (map f all)
  pub still : AreShort (map f all) → AreShort (map f left)

pub joined_none : {X : Type 0} (f : X → List ℕ) (o : List ℕ) (left all : List X) → o ≡ [] → left ≡ all → Joined f o left all
joined_none f o left all e same = record {
  whole = ap (λ (x : List ℕ). x ++ flat_map string (map f left)) e ∙ ap (λ xs. flat_map string (map f xs)) same;
  short = subst (λ xs. AreShort (map f xs)) same;
  still = subst (λ xs. AreShort (map f xs)) (sym same);
}

pub joined_more : {X : Type 0} (f : X → List ℕ) (o one two : List ℕ) (x : X) (left rest all : List X) → Joined f o left all → left ≡ x ∷ rest → length (f x) < 256 → one ≡ o ++ length (f x) ∷ [] → two ≡ one ++ f x → Joined f two rest all
joined_more f o one two x left rest all h e short a b =
    let was : o ++ flat_map string (map f (x ∷ rest)) ≡ flat_map string (map f all) = ap (λ xs. o ++ flat_map string (map f xs)) (sym e) ∙ h.whole in
    let more = flat_map string (map f rest) in
    let line : two ≡ o ++ string (f x) = b ∙ ap (λ (y : List ℕ). y ++ f x) a ∙ append_assoc o (length (f x) ∷ []) (f x) in
    record {
      whole = ap (λ (y : List ℕ). y ++ more) line ∙ append_assoc o (string (f x)) more ∙ was;
      short = λ s. h.short (subst (λ xs. AreShort (map f xs)) (sym e) (short, s));
      still = λ s. (subst (λ xs. AreShort (map f xs)) e (h.still s)).1;
    }

pub joined_all : {X : Type 0} (f : X → List ℕ) (o : List ℕ) (left all : List X) → Joined f o left all → left ≡ [] → (o ≡ flat_map string (map f all)) × AreShort (map f all)
joined_all f o left all h e = (
  sym (append-nil o) ∙ ap (λ xs. o ++ flat_map string (map f xs)) (sym e) ∙ h.whole,
  h.short (subst (λ xs. AreShort (map f xs)) (sym e) tt),
)

-- one that is left and is too long
pub joined_long : {X : Type 0} (f : X → List ℕ) (o : List ℕ) (x : X) (left rest all : List X) → Joined f o left all → left ≡ x ∷ rest → (length (f x) < 256 → ⊥) → FitsTxt (map f all) → ⊥
joined_long f o x left rest all h e long fits = long (subst (λ xs. AreShort (map f xs)) e (h.still fits.short)).0

abbrev data_at : List ℕ → Data
data_at x = record { rtype = type_txt; octets = x }

pub txt_found : (d : Data) (o : List ℕ) (texts : List (List ℕ)) → d ≡ data_at o → IsData d → o ≡ flat_map string texts → AreShort texts → (d ≡ txt_data texts) × FitsTxt texts
txt_found d o texts e valid flat short =
    let t = txt_of d o valid (ap (λ (x : Data). x.rtype) e) (sym (ap (λ (x : Data). x.octets) e)) in
    (e ∙ ap data_at flat, record { some = λ none. t.fits.some (strings_of-flat o texts flat ∙ none); short = short })

pub txt_refused : (o : List ℕ) (texts : List (List ℕ)) (e : RecordError) → o ≡ flat_map string texts → AreShort texts → RefusesData (data_at o) e → RefusesTxt texts e
txt_refused o texts OutOfMemory flat short h = tt
txt_refused o texts UnknownType flat short h = absurd cc
txt_refused o texts TooLong flat short h =
    let long : 4096 < length (flat_map string texts) = subst (λ (x : List ℕ). 4096 < length x) flat h.1 in
    (record { some = λ none. (let zero : 4096 < 0 = subst (λ (xs : List (List ℕ)). 4096 < length (flat_map string xs)) none long in omega (arith, zero)); short = short }, long)
txt_refused o texts BadData flat short h = λ fits. h.2 (o, [], sym (append-nil o), (texts, fits.some, fits.short, flat), refl)

pub txt_once : (a b : List (List ℕ)) → txt_data a ≡ txt_data b → a ≡ b
txt_once a b e = sym (strings_of-flat (flat_map string a) a refl) ∙ strings_of-flat (flat_map string a) b (ap (λ (d : Data). d.octets) e)
