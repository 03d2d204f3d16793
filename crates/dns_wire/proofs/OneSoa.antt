-- A SOA whose two names are each one label before its owner.
use Rattle.std.proofs.Common.{◌≡◌, ℕ, ◌+◌, false, List, [], ◌∷◌, ◌++◌, length, get_or, drop, refl, sym, ap, ◌∙◌, arith}
use Rattle.std.specs.Prelude.{Option, Some, None}
use Rattle.std.specs.Int.{w16, w32, to_be_bytes}
use Rattle.std.proofs.lemmas.List.{append-nil, length-append, take-append-drop}
use Rattle.dns_names.specs.Name.{Labels, names_eq, wire, labels_of}
use Rattle.dns_records.specs.Types.{Name, Values, class_in, type_soa}
use Rattle.dns_records.specs.Record.{Record}
use Rattle.dns_wire.specs.Compress.{Place, Compressing, compress_name, compressed_fields, compressed_name, compressed_rdata, compressed_record, compressed_records, new_places, pointer}
use Rattle.dns_wire.specs.Indexed.{offset_at}
use Rattle.dns_wire.specs.OneSoa.{soa_data, soa_head}
use Rattle.dns_wire.specs.Puts.{noted}
use Rattle.dns_wire.proofs.FewForms.{five, soa_rdata}
use Rattle.dns_wire.specs.Text.{EchoedQuestion, Reply, header_octets, text}
use Rattle.dns_wire.proofs.First.{among_first, behind_first, no_root}
use Rattle.dns_wire.proofs.Indexed.{noted_other}
use Rattle.dns_wire.proofs.NamePut.{compressed_known, compressed_label, no_places_known, not_known, places_next}

-- a name that occurs is a pointer
pointed : (places : List Place) (at : ℕ) (label : List ℕ) (rest : Labels) (offset : ℕ) → Some offset ≡ offset_at places (label ∷ rest)
    → compressed_name places at (label ∷ rest) ≡ record { octets = pointer offset; places = places }
pointed places at label rest offset known =
    (λ i. record { octets = compressed_known places label rest offset known i; places = places ++ no_places_known places at label rest offset known i })
    ∙ ap (λ (ps : List Place). record { octets = pointer offset; places = ps }) (append-nil places)

-- a label before a name that occurs
labelled : (places : List Place) (label next : List ℕ) (rest : Labels) (offset : ℕ) → None ≡ offset_at places (label ∷ next ∷ rest) → Some offset ≡ offset_at places (next ∷ rest)
    → compress_name places (label ∷ next ∷ rest) ≡ (length label ∷ label) ++ pointer offset
labelled places label next rest offset new known =
    compressed_label places label (next ∷ rest) (not_known places (label ∷ next ∷ rest) new)
    ∙ ap (λ (xs : List ℕ). (length label ∷ label) ++ xs) (compressed_known places next rest offset known)

-- no other name is among the targets that such a name adds
other_new : (places : List Place) (at : ℕ) (label next : List ℕ) (rest name : Labels) (offset : ℕ) → None ≡ offset_at places (label ∷ next ∷ rest) → Some offset ≡ offset_at places (next ∷ rest)
    → names_eq (label ∷ next ∷ rest) name ≡ false → offset_at (new_places places at (label ∷ next ∷ rest)) name ≡ None
other_new places at label next rest name offset new known other =
    let after = at + 1 + length label in
    ap (λ (ps : List Place). offset_at ps name)
    (places_next places [] at label (next ∷ rest) after (not_known places (label ∷ next ∷ rest) new) refl
    ∙ ap (λ (ps : List Place). noted at (label ∷ next ∷ rest) ++ ps) (no_places_known places after next rest offset known)
    ∙ append-nil (noted at (label ∷ next ∷ rest)))
    ∙ noted_other at label (next ∷ rest) name other

-- the data
data_is : (places : List Place) (at : ℕ) (rdata : List ℕ) (first second next : List ℕ) (rest : Labels) (offset : ℕ)
    → labels_of rdata ≡ first ∷ next ∷ rest
    → labels_of (drop (length (wire (labels_of rdata))) rdata) ≡ second ∷ next ∷ rest
    → Some offset ≡ offset_at places (next ∷ rest)
    → None ≡ offset_at places (first ∷ next ∷ rest)
    → None ≡ offset_at places (second ∷ next ∷ rest)
    → names_eq (first ∷ next ∷ rest) (second ∷ next ∷ rest) ≡ false
    → (compressed_fields places at (Name ∷ Name ∷ Values five ∷ []) rdata).octets
    ≡ (let behind = drop (length (wire (labels_of rdata))) rdata in
    soa_data offset (length first ∷ first) (length second ∷ second) (drop (length (wire (labels_of behind))) behind))
data_is places at rdata first second next rest offset one two known new newer other =
    let behind = drop (length (wire (labels_of rdata))) rdata in
    let numbers = drop (length (wire (labels_of behind))) behind in
    let later = places ++ new_places places at (labels_of rdata) in
    let added = new_places places at (first ∷ next ∷ rest) in
    let table : later ≡ places ++ added = ap (λ (n : Labels). places ++ new_places places at n) one in
    let front : compress_name places (labels_of rdata) ≡ (length first ∷ first) ++ pointer offset = ap (compress_name places) one ∙ labelled places first next rest offset new known in
    let nowhere : None ≡ offset_at (places ++ added) (second ∷ next ∷ rest) =
    sym (other_new places at first next rest (second ∷ next ∷ rest) offset new known other) ∙ behind_first places added (second ∷ next ∷ rest) newer in
    let still : Some offset ≡ offset_at (places ++ added) (next ∷ rest) = among_first places added (next ∷ rest) offset known in
    let back : compress_name later (labels_of behind) ≡ (length second ∷ second) ++ pointer offset =
    (λ i. compress_name (table i) (two i)) ∙ labelled (places ++ added) second next rest offset nowhere still in
    (λ i. front i ++ (back i ++ take-append-drop 20 numbers i))

-- the record
pub soa_is : (places : List Place) (at : ℕ) (r : Record) (first second next : List ℕ) (rest : Labels) (offset : ℕ)
    → r.rtype ≡ type_soa
    → r.owner ≡ next ∷ rest
    → labels_of r.rdata ≡ first ∷ r.owner
    → labels_of (drop (length (wire (labels_of r.rdata))) r.rdata) ≡ second ∷ r.owner
    → Some offset ≡ offset_at places r.owner
    → None ≡ offset_at places (first ∷ r.owner)
    → None ≡ offset_at places (second ∷ r.owner)
    → names_eq (first ∷ r.owner) (second ∷ r.owner) ≡ false
    → (compressed_record places at r).octets
    ≡ (let behind = drop (length (wire (labels_of r.rdata))) r.rdata in
    let rdata = soa_data offset (length first ∷ first) (length second ∷ second) (drop (length (wire (labels_of behind))) behind) in
    soa_head offset r.ttl (length rdata) ++ rdata)
soa_is places at r first second next rest offset typed owned one two known new newer other =
    let behind = drop (length (wire (labels_of r.rdata))) r.rdata in
    let parts = soa_data offset (length first ∷ first) (length second ∷ second) (drop (length (wire (labels_of behind))) behind) in
    let owner : compressed_name places at r.owner ≡ record { octets = pointer offset; places = places } =
    ap (compressed_name places at) owned ∙ pointed places at next rest offset (known ∙ ap (offset_at places) owned) in
    let from = at + 2 + 10 in
    let rdata : (compressed_rdata places from r).octets ≡ parts =
    ap (λ (x : Compressing). x.octets) (sym (soa_rdata places from r typed))
    ∙ data_is places from r.rdata first second next rest offset
    (one ∙ ap (λ (n : Labels). first ∷ n) owned) (two ∙ ap (λ (n : Labels). second ∷ n) owned)
    (known ∙ ap (offset_at places) owned)
    (new ∙ ap (λ (n : Labels). offset_at places (first ∷ n)) owned)
    (newer ∙ ap (λ (n : Labels). offset_at places (second ∷ n)) owned)
    (ap (λ (n : Labels). names_eq (first ∷ n) (second ∷ n)) (sym owned) ∙ other) in
    ap (λ (o : Compressing).
    (let rdata = compressed_rdata o.places (at + length o.octets + 10) r in
    o.octets ++ to_be_bytes w16 r.rtype ++ to_be_bytes w16 class_in ++ to_be_bytes w32 r.ttl ++ to_be_bytes w16 (length rdata.octets) ++ rdata.octets)) owner
    ∙ (λ i. pointer offset ++ to_be_bytes w16 (typed i) ++ to_be_bytes w16 class_in ++ to_be_bytes w32 r.ttl ++ to_be_bytes w16 (length (rdata i)) ++ rdata i)

-- what occurs in a name is not the root
pub some_owner : (name owner : Labels) (offset : ℕ) → Some offset ≡ offset_at (new_places [] 12 name) owner → (next : List ℕ) × (rest : Labels) × (owner ≡ next ∷ rest)
some_owner name [] offset known = let bad : Some offset ≡ None = known ∙ no_root 12 name in absurd cc
some_owner name (next ∷ rest) offset known = (next, rest, refl)

-- the reply
pub soa_text : (r : Reply) (q : EchoedQuestion) (one : Record) (octets : List ℕ) → r.question ≡ Some q → r.answer ≡ [] → r.authority ≡ one ∷ [] → r.additional ≡ []
    → ((at : ℕ) → (compressed_record (new_places [] 12 q.name) at one).octets ≡ octets)
    → text r ≡ (header_octets r ++ q.octets) ++ octets
soa_text r q one octets asked answer authority additional h =
    let all : Option EchoedQuestion → List Record → List Record → List Record → List ℕ = λ o x y z.
    (let echoed = elim o as (λ _. List ℕ) [ None ↦ [] | Some e ↦ e.octets ] in
    header_octets r ++ echoed ++ compressed_records (elim o as (λ _. List Place) [ None ↦ [] | Some e ↦ new_places [] 12 e.name ]) (12 + length echoed) (x ++ y ++ z)) in
    let here = compressed_record (new_places [] 12 q.name) (12 + length q.octets) one in
    (λ i. all (asked i) (answer i) (authority i) (additional i))
    ∙ ap (λ (xs : List ℕ). (header_octets r ++ q.octets) ++ xs) (append-nil here.octets ∙ h (12 + length q.octets))

-- how long the data is
pub data_size : (first second numbers : List ℕ) (offset : ℕ) → length numbers ≡ 20 → length first + length second + 20 + 4 ≡ length (soa_data offset first second numbers)
data_size first second numbers offset twenty =
    let p = pointer offset in
    let one : length (first ++ p) ≡ length first + 2 = length-append first p in
    let two : length (second ++ p) ≡ length second + 2 = length-append second p in
    let three : length ((second ++ p) ++ numbers) ≡ length (second ++ p) + length numbers = length-append (second ++ p) numbers in
    let four : length (soa_data offset first second numbers) ≡ length (first ++ p) + length ((second ++ p) ++ numbers) = length-append (first ++ p) ((second ++ p) ++ numbers) in
    omega (arith, one, two, three, four, twenty)

-- a list of one
pub single : {A : Type 0} (xs : List A) (x d : A) → length xs ≡ 1 → x ≡ get_or xs 0 d → xs ≡ x ∷ []
single [] x d size is = absurd (omega (arith, size))
single (y ∷ []) x d size is = ap (λ z. z ∷ []) (sym is)
single (y ∷ z ∷ rest) x d size is = absurd (omega (arith, size))
