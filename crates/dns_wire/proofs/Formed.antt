-- The data of the records of a message has the form of its type, or is empty.
use Rattle.std.proofs.Common.{◌≡◌, ℕ, zero, suc, ◌+◌, ◌≤◌, ◌⊎◌, inl, inr, List, [], ◌∷◌, Option, Some, None, length, ap, ◌∙◌, arith, length-take, length-drop}
use Rattle.std.specs.Prelude.{MatchOption, IfSome, slice_range}
use Rattle.dns_records.specs.Types.{Field, Values, octet_count, Name, UncompressedName, Strings, form}
use Rattle.dns_records.specs.Record.{IsField, AreFields, IsRData}
use Rattle.dns_wire.specs.Reads.{FieldAt, FieldsAt, RDataAt}

width : (m : List ℕ) (at stop n : ℕ) → stop ≡ at + n → stop ≤ length m → length (slice_range m at stop) ≡ n
width m at stop n last inside = simp (length-take, length-drop) (omega (arith, last, inside))

field_formed : (m : List ℕ) (at : ℕ) (f : Field) (plain : List ℕ) (stop : ℕ) → FieldAt m at f plain stop → IsField f plain
field_formed m at (Values vs) plain stop (last, inside, is) = ap length is ∙ width m at stop (octet_count vs) last inside
field_formed m at Name plain stop (name, stands, is) = (name, stands.valid, is)
field_formed m at UncompressedName plain stop (name, stands, is) = (name, stands.valid, is)
field_formed m at Strings plain stop (inside, is, strings) = strings

fields_formed : (m : List ℕ) (at : ℕ) (fields : List Field) (plain : List ℕ) (stop : ℕ) → FieldsAt m at fields plain stop → AreFields fields plain
fields_formed m at [] plain stop (last, is) = is
fields_formed m at (f ∷ fields) plain stop (front, rest, mid, is, field, more) = (front, rest, is, field_formed m at f front mid field, fields_formed m mid fields rest stop more)

form_from : (m : List ℕ) (at : ℕ) (o : Option (List Field)) (plain slice : List ℕ) (stop : ℕ) → MatchOption o (plain ≡ slice) (λ fields. FieldsAt m at fields plain stop) → IfSome o (λ fields. AreFields fields plain)
form_from m at None plain slice stop h = tt
form_from m at (Some fields) plain slice stop h = fields_formed m at fields plain stop h

pub data_formed : (m : List ℕ) (at rtype n : ℕ) (plain : List ℕ) → RDataAt m at rtype n plain → (length plain ≡ 0) ⊎ IsRData rtype plain
data_formed m at rtype zero plain h = inl (ap length h)
data_formed m at rtype (suc n) plain h = inr (form_from m at (form rtype) plain (slice_range m at (at + suc n)) (at + suc n) h.1)
