-- Transfers of small zones.
use Rattle.std.specs.Prelude.{◌≡◌, ℕ, List, [], ◌∷◌, Option, Some, None, refl, codes, length, map}
use Rattle.dns_names.specs.Name.{Labels, wire}
use Rattle.dns_records.specs.Types.{type_ns, type_soa, type_txt}
use Rattle.dns_records.specs.Record.{Record, string}
use Rattle.dns_zone.specs.ExampleZone.{of, soa_octets}
use Rattle.dns_changes.specs.Change.{Change}
use Rattle.dns_transfer.specs.Form.{Form, Current, Incremental, Full, form_of}
use Rattle.dns_transfer.specs.Records.{transfer_of}

tiny : Labels
tiny = codes "w" ∷ []

abbrev soa_of : ℕ → Record
soa_of serial = of (codes "w" ∷ []) type_soa (soa_octets (codes "w" ∷ []) (codes "w" ∷ []) (serial ∷ 0 ∷ 0 ∷ 0 ∷ 0 ∷ []))

abbrev text_at : ℕ → Record
text_at letter = of ((letter ∷ []) ∷ codes "w" ∷ []) type_txt (string (letter ∷ []))

abbrev change : ℕ → List ℕ → ℕ → List ℕ → Change
change from gone to come = record { old_soa = soa_of from; removed = map text_at gone; new_soa = soa_of to; added = map text_at come }

-- a comes, b comes, a goes
abbrev three : List Change
three = change 7 [] 8 (97 ∷ []) ∷ change 8 [] 9 (98 ∷ []) ∷ change 9 (97 ∷ []) 10 [] ∷ []

abbrev shown : List Record
shown = of (codes "w" ∷ []) type_ns (wire (codes "w" ∷ [])) ∷ soa_of 10 ∷ text_at 98 ∷ []

abbrev sequences : Form → Option ℕ
sequences (Incremental changes) = Some (length changes)
sequences Current = None
sequences Full = None

abbrev kinds : List Record → List ℕ
kinds records = map (λ r. r.rtype) records

-- from 7 on there are three sequences, from 10 on none, and 6 is older than all that is kept
three_sequences : sequences (form_of 10 three (Some 7)) ≡ Some 3
three_sequences = refl

current_alone : form_of 10 three (Some 10) ≡ Current
current_alone = refl

before_the_first : form_of 10 three (Some 6) ≡ Full
before_the_first = refl

-- SOA; 7, 8, a; 8, 9, b; 9, a, 10; SOA
in_order : kinds (transfer_of shown three (Some 7)) ≡ 6 ∷ 6 ∷ 6 ∷ 16 ∷ 6 ∷ 6 ∷ 16 ∷ 6 ∷ 16 ∷ 6 ∷ 6 ∷ []
in_order = refl

-- the whole zone begins and ends with its SOA
whole : transfer_of shown three None ≡ soa_of 10 ∷ of (codes "w" ∷ []) type_ns (wire (codes "w" ∷ [])) ∷ text_at 98 ∷ soa_of 10 ∷ []
whole = refl

-- steps of 2^30: two of them are 2^31, where serials can't be compared, and a client three behind seems to be ahead
abbrev far : List Change
far = change 7 [] 1073741831 [] ∷ change 1073741831 [] 2147483655 [] ∷ change 2147483655 [] 3221225479 [] ∷ []

one_behind : sequences (form_of 3221225479 far (Some 2147483655)) ≡ Some 1
one_behind = refl

two_behind : form_of 3221225479 far (Some 1073741831) ≡ Full
two_behind = refl

three_behind : form_of 3221225479 far (Some 7) ≡ Current
three_behind = refl
