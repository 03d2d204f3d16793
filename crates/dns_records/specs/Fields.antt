-- The parts of a record's data in the code, and as they are stated.
use Rattle.std.specs.Prelude.{List, [], ◌∷◌, map}
use Rattle.dns_records.specs.Types.{Field, Values, Value, U16, U32, Ipv4, Ipv6, Name, UncompressedName}
use Rattle.dns_records.specs.Types.{Strings}
use Rattle.dns_records.specs.declared.parts.Field.{Field as Part}
use Rattle.dns_records.specs.declared.parts.Field.TheVariants as part
use Rattle.dns_records.specs.declared.parts.Value.{Value as Kind}
use Rattle.dns_records.specs.declared.parts.Value.TheVariants as kind

abbrev pub stated_value : Kind → Value
stated_value kind.U16 = U16
stated_value kind.U32 = U32
stated_value kind.Ipv4 = Ipv4
stated_value kind.Ipv6 = Ipv6

abbrev pub stated_values : List Kind → List Value
stated_values vs = map stated_value vs

abbrev pub stated_field : Part → Field
stated_field (part.Values vs) = Values (stated_values vs.now)
stated_field part.Name = Name
stated_field part.UncompressedName = UncompressedName
stated_field part.Strings = Strings

abbrev pub stated_fields : List Part → List Field
stated_fields fields = map stated_field fields

-- Strings take what is left of the data, so they come last.
abbrev pub StringsLast : List Field → Type 0
StringsLast [] = Unit {0}
StringsLast (Values vs ∷ fields) = StringsLast fields
StringsLast (Name ∷ fields) = StringsLast fields
StringsLast (UncompressedName ∷ fields) = StringsLast fields
StringsLast (Strings ∷ []) = Unit {0}
StringsLast (Strings ∷ field ∷ fields) = ⊥
