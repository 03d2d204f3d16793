-- Why octets are no message: the first fault in the order of the octets.
use Rattle.std.specs.Prelude.{◌≡◌, ℕ, zero, suc, ◌+◌, ◌-◌, ◌<◌, ◌≤◌, ◌⊎◌, List, [], ◌∷◌, length, Some}
use Rattle.std.specs.Prelude.{slice_get, slice_range}
use Rattle.dns_names.specs.Name.{Labels}
use Rattle.dns_names.specs.Octets.{LabelsAt, IsCutAt}
use Rattle.dns_records.specs.Types.{Field, Values, octet_count, Name, UncompressedName, Strings, form}
use Rattle.dns_records.specs.Record.{IsField}
use Rattle.dns_wire.specs.NameAt.{IsPointer, FullNameAt}
use Rattle.dns_wire.specs.Reads.{NumberAt}
use Rattle.dns_wire.specs.Fields.{SomeField}
use Rattle.dns_wire.specs.Walk.{SomeQuestion, SomeItem, Times}
use Rattle.dns_wire.specs.declared.ReadError.{ReadError}
use Rattle.dns_wire.specs.declared.ReadError.TheVariants.{Short, BadPointer, ReservedLabel, NameTooLong, Cut}
use Rattle.dns_wire.specs.declared.ReadError.TheVariants.{Trailing, BadData}

-- The octets end in a label or where one is due, or in a pointer.
abbrev pub IsCut : List ℕ → ℕ → Type 0
IsCut message stop =
    ((octet : ℕ) × IsCutAt message stop octet)
    ⊎ ((high : ℕ) × (slice_get message stop ≡ Some high) × (192 ≤ high) × (length message ≤ stop + 1))

-- What follows the labels of a run that begins at an offset and may take so many octets (RFC 1035 2.3.4
-- and 4.1.4).
abbrev pub EndRefused : List ℕ → ℕ → ℕ → ℕ → ReadError → Type 0
EndRefused message run room stop NameTooLong = run + room < stop
EndRefused message run room stop Cut = (stop ≤ run + room) × IsCut message stop
EndRefused message run room stop ReservedLabel =
    (stop ≤ run + room) × (octet : ℕ) × (slice_get message stop ≡ Some octet) × (63 < octet) × (octet < 192)
EndRefused message run room stop BadPointer =
    (stop ≤ run + room) × (target : ℕ) × IsPointer message stop target × ((target < 12) ⊎ (run ≤ target))
EndRefused message run room stop Short = ⊥
EndRefused message run room stop Trailing = ⊥
EndRefused message run room stop BadData = ⊥

pub record RunRefused (message : List ℕ) (run room : ℕ) (e : ReadError) : Type 0 where
  pub labels : Labels
  pub stop : ℕ
  pub stand : LabelsAt message run labels stop
  pub fault : EndRefused message run room stop e

-- The fault of a name is in its labels, or in those that a pointer leads to.
pub data NameRefused (message : List ℕ) (e : ReadError) : ℕ → ℕ → Type 0 where
  here : {at room : ℕ} → RunRefused message at room e → NameRefused message e at room
  behind : {at room : ℕ}
      → (labels : Labels) (stop target : ℕ)
      → LabelsAt message at labels stop
      → IsPointer message stop target
      → 12 ≤ target
      → target < at
      → NameRefused message e target (room - (stop - at))
      → NameRefused message e at room

-- A name of at most 255 octets (RFC 1035 2.3.4): 254 and the root.
abbrev pub NoName : List ℕ → ℕ → ReadError → Type 0
NoName message at e = NameRefused message e at 254

-- A name in data that ends at an offset: it is refused, or ends past the end of the data.
abbrev pub NoNamePart : List ℕ → ℕ → ℕ → ReadError → Type 0
NoNamePart message at stop e =
    NoName message at e
    ⊎ ((name : Labels) × (end : ℕ) × FullNameAt message at name end × (stop < end) × (e ≡ BadData))

abbrev pub FieldRefused : List ℕ → ℕ → Field → ℕ → ReadError → Type 0
FieldRefused message at (Values vs) stop e = (stop < at + octet_count vs) × (e ≡ BadData)
FieldRefused message at Name stop e = NoNamePart message at stop e
FieldRefused message at UncompressedName stop e = NoNamePart message at stop e
FieldRefused message at Strings stop e = (IsField Strings (slice_range message at stop) → ⊥) × (e ≡ BadData)

-- The parts of data up to an offset: the first that is no such part, or octets that are left.
abbrev pub FieldsRefused : List ℕ → ℕ → List Field → ℕ → ReadError → Type 0
FieldsRefused message at [] stop e = (at < stop) × (e ≡ BadData)
FieldsRefused message at (f ∷ fields) stop e =
    FieldRefused message at f stop e
    ⊎ ((mid : ℕ) × SomeField message at f mid stop × FieldsRefused message mid fields stop e)

abbrev pub RDataRefused : List ℕ → ℕ → ℕ → ℕ → ReadError → Type 0
RDataRefused message at rtype size e =
    (0 < size) × (fields : List Field) × (form rtype ≡ Some fields)
    × FieldsRefused message at fields (at + size) e

abbrev pub QuestionRefused : List ℕ → ℕ → ReadError → Type 0
QuestionRefused message at e =
    NoName message at e
    ⊎ ((name : Labels) × (mid : ℕ) × FullNameAt message at name mid × (length message < mid + 4) × (e ≡ Cut))

-- After the owner of a record: its ten octets or its data are cut, or the data is refused.
pub record DataRefused (message : List ℕ) (mid : ℕ) (e : ReadError) : Type 0 where
  pub rtype : ℕ
  pub size : ℕ
  pub typed : NumberAt message mid 2 rtype
  pub counted : NumberAt message (mid + 8) 2 size
  pub fault : ((length message < mid + 10 + size) × (e ≡ Cut)) ⊎ RDataRefused message (mid + 10) rtype size e

abbrev pub ResourceRecordRefused : List ℕ → ℕ → ReadError → Type 0
ResourceRecordRefused message at e =
    NoName message at e
    ⊎ ((owner : Labels) × (mid : ℕ) × FullNameAt message at owner mid
    × (((length message < mid + 10) × (e ≡ Cut)) ⊎ DataRefused message mid e))

-- Of so many, one after the other, the first that is refused.
abbrev pub TimesRefused : (ℕ → ℕ → Type 0) → (ℕ → ReadError → Type 0) → ℕ → ℕ → ReadError → Type 0
TimesRefused One Refused zero at e = ⊥
TimesRefused One Refused (suc n) at e =
    Refused at e ⊎ ((mid : ℕ) × One at mid × TimesRefused One Refused n mid e)

-- The sections: so many questions or records each, and no octet after the last (RFC 1035 4.1).
pub data Kind : Type 0 where
  Questions : Kind
  Records : Kind

abbrev pub One : List ℕ → Kind → ℕ → ℕ → Type 0
One message Questions = SomeQuestion message
One message Records = SomeItem message

abbrev pub OneRefused : List ℕ → Kind → ℕ → ReadError → Type 0
OneRefused message Questions = QuestionRefused message
OneRefused message Records = ResourceRecordRefused message

abbrev pub SectionsRefused : List ℕ → List (Kind × ℕ) → ℕ → ReadError → Type 0
SectionsRefused message [] at e = (at < length message) × (e ≡ Trailing)
SectionsRefused message (s ∷ sections) at e =
    TimesRefused (One message s.0) (OneRefused message s.0) s.1 at e
    ⊎ ((mid : ℕ) × Times (One message s.0) s.1 at mid × SectionsRefused message sections mid e)

pub record CountsRefused (octets : List ℕ) (e : ReadError) : Type 0 where
  pub qdcount : ℕ
  pub ancount : ℕ
  pub nscount : ℕ
  pub arcount : ℕ
  pub questions : NumberAt octets 4 2 qdcount
  pub answers : NumberAt octets 6 2 ancount
  pub authorities : NumberAt octets 8 2 nscount
  pub additionals : NumberAt octets 10 2 arcount
  pub fault : SectionsRefused octets
      ((Questions, qdcount) ∷ (Records, ancount) ∷ (Records, nscount) ∷ (Records, arcount) ∷ []) 12 e

-- There is no header, or what follows it is not what it counts.
abbrev pub MessageRefused : List ℕ → ReadError → Type 0
MessageRefused octets e = ((length octets < 12) × (e ≡ Short)) ⊎ CountsRefused octets e
