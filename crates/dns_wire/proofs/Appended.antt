-- Parts of a record's data that are appended to octets.
use Rattle.std.proofs.Common.{◌≡◌, ℕ, ◌+◌, ◌≤◌, List, ◌∷◌, ◌++◌, length, refl, sym, ap, subst, ◌∙◌, arith}
use Rattle.std.specs.Prelude.{slice_range}
use Rattle.std.proofs.lemmas.List.{append_assoc}
use Rattle.dns_names.specs.Name.{Labels, wire}
use Rattle.dns_records.specs.Types.{Field, Value, Values, octet_count, Name, UncompressedName, Strings}
use Rattle.dns_wire.specs.NameAt.{FullNameAt}
use Rattle.dns_wire.specs.Reads.{FieldsAt}
use Rattle.dns_wire.specs.Fields.{SomeField}
use Rattle.dns_wire.proofs.NameRead.{name_unique}

pub values_appended : (m : List ℕ) (vs : List Value) (at n mid stop : ℕ) (old new : List ℕ) → n ≡ octet_count vs → SomeField m at (Values vs) mid stop → stop ≤ length m → new ≡ old ++ slice_range m at (at + n) → (part : SomeField m at (Values vs) (at + n) stop) × (new ≡ old ++ part.plain)
values_appended m vs at n mid stop old new count h inside e =
    let end : mid ≡ at + octet_count vs = h.stands.0 in
    let low : mid ≤ stop = h.within in
    (record { plain = slice_range m at (at + n); stands = (ap (λ (k : ℕ). at + k) count, omega (arith, count, end, low, inside), refl); within = omega (arith, count, end, low) }, e)

pub name_appended : (m : List ℕ) (at mid stop end : ℕ) (old new : List ℕ) → SomeField m at Name mid stop → (x : Labels) × FullNameAt m at x end × (new ≡ old ++ wire x) → (part : SomeField m at Name end stop) × (new ≡ old ++ part.plain)
name_appended m at mid stop end old new h (x, full, e) =
    let same : mid ≡ end = (name_unique m at h.stands.0 x mid end h.stands.1 full).1 in
    let low : mid ≤ stop = h.within in
    (record { plain = wire x; stands = (x, full, refl); within = omega (arith, same, low) }, e)

pub target_appended : (m : List ℕ) (at mid stop end : ℕ) (old new : List ℕ) → SomeField m at UncompressedName mid stop → (x : Labels) × FullNameAt m at x end × (new ≡ old ++ wire x) → (part : SomeField m at UncompressedName end stop) × (new ≡ old ++ part.plain)
target_appended m at mid stop end old new h (x, full, e) =
    let same : mid ≡ end = (name_unique m at h.stands.0 x mid end h.stands.1 full).1 in
    let low : mid ≤ stop = h.within in
    (record { plain = wire x; stands = (x, full, refl); within = omega (arith, same, low) }, e)

pub strings_appended : (m : List ℕ) (at mid stop : ℕ) (old new : List ℕ) → SomeField m at Strings mid stop → new ≡ old ++ slice_range m at stop → (part : SomeField m at Strings stop stop) × (new ≡ old ++ part.plain)
strings_appended m at mid stop old new h e =
    let end : mid ≡ stop = h.within in
    let here : SomeField m at Strings stop stop = subst (λ (k : ℕ). SomeField m at Strings k stop) end h in
    (here, e ∙ ap (λ (xs : List ℕ). old ++ xs) (sym here.stands.1))

-- the parts that are still to come, after those that are appended
abbrev pub Joins : List ℕ → ℕ → List Field → ℕ → ℕ → List Field → List ℕ → List ℕ → Type 0
Joins m at all stop next left old now =
    (rest : List ℕ) → FieldsAt m next left rest stop → (plain : List ℕ) × FieldsAt m at all plain stop × (now ++ rest ≡ old ++ plain)

pub joined_next : (m : List ℕ) (at : ℕ) (all : List Field) (stop next : ℕ) (field : Field) (left : List Field) (end : ℕ) (old now new : List ℕ) → Joins m at all stop next (field ∷ left) old now → (part : SomeField m next field end stop) → new ≡ now ++ part.plain → Joins m at all stop end left old new
joined_next m at all stop next field left end old now new joins part e rest behind =
    let whole = joins (part.plain ++ rest) (part.plain, rest, end, refl, part.stands, behind) in
    (whole.0, whole.1, ap (λ (xs : List ℕ). xs ++ rest) e ∙ append_assoc now part.plain rest ∙ whole.2)
