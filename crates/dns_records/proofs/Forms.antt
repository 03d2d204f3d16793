-- The parts of data, taken from octets one by one.
use Rattle.std.proofs.Common.{◌≡◌, ◌≢◌, ℕ, suc, ◌<◌, ◌≤◌, ◌↔◌, Bool, true, false, List, [], ◌∷◌, ◌++◌, length, take, drop, refl, sym, ap, subst, ◌∙◌, arith, append-nil, take-append-drop, length-append}
use Rattle.std.specs.Prelude.{IsTrue, not, ◌==◌}
use Rattle.std.specs.List.{AllByRecursion, flat_map}
use Rattle.std.proofs.lemmas.List.{drop_at, length-take-le}
use Rattle.std.proofs.lemmas.Bool.Decides.{nat_tests}
use Rattle.dns_names.specs.Name.{Labels, IsName, wire}
use Rattle.dns_names.specs.PlainLaws.{wire_first}
use Rattle.dns_records.specs.Types.{Field, Value, Values, octet_count, Name, UncompressedName, Strings}
use Rattle.dns_records.specs.Record.{string, IsField, AreFields}
use Rattle.dns_records.specs.Fields.{StringsLast, stated_field, stated_fields}
use Rattle.dns_records.specs.declared.parts.Field.{Field as Part}

-- so many octets, and the other parts
pub octets_first : (vs : List Value) (n : ℕ) (fields : List Field) (o : List ℕ) → octet_count vs ≡ n → n ≤ length o → AreFields fields (drop n o) ↔ AreFields (Values vs ∷ fields) o
octets_first vs n fields o count long = (
  λ h. (take n o, drop n o, sym (take-append-drop n o), length-take-le n o long ∙ sym count, h),
  λ h. (let at : drop n o ≡ h.1 = ap (drop n) h.2 ∙ drop_at h.0 h.1 n (h.3 ∙ count) in subst (AreFields fields) (sym at) h.4),
)

pub octets_none : (vs : List Value) (fields : List Field) (o : List ℕ) → length o < octet_count vs → AreFields (Values vs ∷ fields) o → ⊥
octets_none vs fields o short h = (let size = ap length h.2 ∙ length-append h.0 h.1 in let front : length h.0 ≡ octet_count vs = h.3 in omega (arith, size))

-- a name, and the other parts
name_behind : (fields : List Field) (o : List ℕ) (name : Labels) (rest : List ℕ) → IsName name → o ≡ wire name ++ rest → (h : (front back : List ℕ) × (o ≡ front ++ back) × ((other : Labels) × IsName other × (front ≡ wire other)) × AreFields fields back) → AreFields fields rest
name_behind fields o name rest valid e h =
    let other : o ≡ wire h.3.0 ++ h.1 = h.2 ∙ ap (λ (x : List ℕ). x ++ h.1) h.3.2 in
    let valid_other : IsName h.3.0 = h.3.1 in
    let both = wire_first h.3.0 name h.1 rest valid_other.labels valid.labels (sym other ∙ e) in
    subst (AreFields fields) both.1 h.4

pub name_first : (fields : List Field) (o : List ℕ) (name : Labels) (rest : List ℕ) → IsName name → o ≡ wire name ++ rest → AreFields fields rest ↔ AreFields (Name ∷ fields) o
name_first fields o name rest valid e = (λ h. (wire name, rest, e, (name, valid, refl), h), name_behind fields o name rest valid e)

pub target_first : (fields : List Field) (o : List ℕ) (name : Labels) (rest : List ℕ) → IsName name → o ≡ wire name ++ rest → AreFields fields rest ↔ AreFields (UncompressedName ∷ fields) o
target_first fields o name rest valid e = (λ h. (wire name, rest, e, (name, valid, refl), h), name_behind fields o name rest valid e)

-- no name, and so not the parts
name_lacks : (o : List ℕ) (fields : List Field) → ((name : Labels) (rest : List ℕ) → IsName name → o ≡ wire name ++ rest → ⊥) → (h : (front back : List ℕ) × (o ≡ front ++ back) × ((other : Labels) × IsName other × (front ≡ wire other)) × AreFields fields back) → ⊥
name_lacks o fields none h = none h.3.0 h.1 h.3.1 (h.2 ∙ ap (λ (x : List ℕ). x ++ h.1) h.3.2)

pub name_none : (fields : List Field) (o : List ℕ) → ((name : Labels) (rest : List ℕ) → IsName name → o ≡ wire name ++ rest → ⊥) → AreFields (Name ∷ fields) o → ⊥
name_none fields o none h = name_lacks o fields none h

-- strings alone
pub strings_alone : (o : List ℕ) → IsField Strings o ↔ AreFields (Strings ∷ []) o
strings_alone o = (
  λ h. (o, [], sym (append-nil o), h, refl),
  λ h. (let same : h.0 ≡ o = sym (append-nil h.0) ∙ ap (λ (x : List ℕ). h.0 ++ x) (sym h.4) ∙ sym h.2 in subst (IsField Strings) same h.3),
)

-- strings, or none
abbrev pub AreStrings : List ℕ → Type 0
AreStrings o = (strings : List (List ℕ)) × AllByRecursion (λ (s : List ℕ). length s < 256) strings × (o ≡ flat_map string strings)

pub strings_next : (n : ℕ) (behind : List ℕ) → n < 256 → n ≤ length behind → AreStrings (n ∷ behind) ↔ AreStrings (drop n behind)
strings_next n behind small long = (λ h. away h.0 h.1 h.2, λ h. onto h.0 h.1 h.2)
  where
    away : (strings : List (List ℕ)) → AllByRecursion (λ (s : List ℕ). length s < 256) strings → n ∷ behind ≡ flat_map string strings → AreStrings (drop n behind)
    away [] fit e = absurd cc
    away (s ∷ ss) fit e =
        let width : n ≡ length s = cc in
        let text : behind ≡ s ++ flat_map string ss = cc in
        (ss, fit.1, ap (drop n) text ∙ drop_at s (flat_map string ss) n (sym width))

    onto : (strings : List (List ℕ)) → AllByRecursion (λ (s : List ℕ). length s < 256) strings → drop n behind ≡ flat_map string strings → AreStrings (n ∷ behind)
    onto ss fit e =
        let width : length (take n behind) ≡ n = length-take-le n behind long in
        let text : behind ≡ take n behind ++ flat_map string ss = sym (take-append-drop n behind) ∙ ap (λ (x : List ℕ). take n behind ++ x) e in
        let short : length (take n behind) < 256 = omega (arith, width) in
        (take n behind ∷ ss, (short, fit), ap (λ (x : List ℕ). n ∷ x) text ∙ ap (λ (k : ℕ). k ∷ (take n behind ++ flat_map string ss)) (sym width))

pub strings_cut : (n : ℕ) (behind : List ℕ) → length behind < n → AreStrings (n ∷ behind) → ⊥
strings_cut n behind short h = go h.0 h.2
  where
    go : (strings : List (List ℕ)) → n ∷ behind ≡ flat_map string strings → ⊥
    go [] e = absurd cc
    go (s ∷ ss) e =
        let width : n ≡ length s = cc in
        let text : behind ≡ s ++ flat_map string ss = cc in
        let size = ap length text ∙ length-append s (flat_map string ss) in
        omega (arith, size)

pub strings_none : AreStrings []
strings_none = ([], tt, refl)

pub strings_are : (o : List ℕ) → IsField Strings o → AreStrings o
strings_are o h = (h.0, h.2, h.3)

pub strings_some : (o : List ℕ) → o ≢ [] → AreStrings o → IsField Strings o
strings_some o some h = (h.0, (λ e. some (h.2 ∙ ap (flat_map string) e)), h.1, h.2)

pub strings_not_none : IsField Strings [] → ⊥
strings_not_none h = go h.0 h.1 h.3
  where
    go : (strings : List (List ℕ)) → strings ≢ [] → [] ≡ flat_map string strings → ⊥
    go [] some e = some refl
    go (s ∷ ss) some e = cc

more_than_none : (n : ℕ) → (suc n == 0) ≡ false
more_than_none n = grind (arith, nat_tests)

-- what the walk over strings has told at its end
pub strings_done : (o rest : List ℕ) (empty : Bool) → AreStrings o ↔ AreStrings rest → length rest ≡ 0 → empty ≡ (length o == 0) → IsTrue (not empty) ↔ IsField Strings o
strings_done [] rest empty h none e = ((λ t. absurd (cc)), (λ s. absurd (strings_not_none s)))
strings_done (x ∷ o) [] empty h none e =
    let full : not empty ≡ true = ap not (e ∙ more_than_none (length o)) in
    ((λ t. strings_some (x ∷ o) (λ same. absurd (cc)) (h.1 strings_none)), (λ s. full))
strings_done (x ∷ o) (y ∷ rest) empty h none e = absurd (omega arith)

-- the parts of the code, the first and the others
pub first_is : (fields : List Part) (field : Part) (more : List Part) (f : Field) → fields ≡ field ∷ more → stated_field field ≡ f → stated_fields fields ≡ f ∷ stated_fields more
first_is fields field more f e s = ap stated_fields e ∙ ap (λ (x : Field). x ∷ stated_fields more) s

pub strings_end : (fields : List Field) → StringsLast (Strings ∷ fields) → fields ≡ []
strings_end [] h = refl
strings_end (f ∷ fields) h = absurd h
