-- What is after the parts of a plain record.
use Rattle.std.proofs.Common.{◌≡◌, ℕ, ◌^◌, ◌<◌, ◌≤◌, true, List, ◌++◌, length, take, drop, refl, sym, ap, subst, ◌∙◌, arith, append_assoc, length-append}
use Rattle.std.specs.Int.{w16, w32, to_be_bytes, from_be_bytes}
use Rattle.std.proofs.lemmas.Nat.{from_be_bytes-to_be_bytes_2}
use Rattle.std.proofs.lemmas.List.{take-append-drop}
use Rattle.dns_names.specs.Name.{Labels, IsName, wire}
use Rattle.dns_names.specs.PlainLaws.{parts_same, wire_first}
use Rattle.std.proofs.lemmas.Bool.Decides.{nat_tests}
use Rattle.dns_records.specs.Types.{is_data_type}
use Rattle.dns_records.specs.Record.{Record, Data, IsRecord, plain, data_of}
use Rattle.dns_records.specs.Refusals.{IsRecordFrame, RefusesData}
use Rattle.dns_records.specs.declared.record.RecordError.{RecordError}
use Rattle.dns_records.specs.declared.record.RecordError.TheVariants.{OutOfMemory, BadData, TooLong, UnknownType}

abbrev pub behind_len : Record → List ℕ → List ℕ
behind_len r rest = r.rdata ++ rest

abbrev pub behind_ttl : Record → List ℕ → List ℕ
behind_ttl r rest = to_be_bytes w16 (length r.rdata) ++ behind_len r rest

abbrev pub behind_type : Record → List ℕ → List ℕ
behind_type r rest = to_be_bytes w32 r.ttl ++ behind_ttl r rest

abbrev pub behind_owner : Record → List ℕ → List ℕ
behind_owner r rest = to_be_bytes w16 r.rtype ++ behind_type r rest

plain_parts : (r : Record) (rest : List ℕ) → plain r ++ rest ≡ wire r.owner ++ behind_owner r rest
plain_parts r rest =
    let a = wire r.owner in
    let b = to_be_bytes w16 r.rtype in
    let c = to_be_bytes w32 r.ttl in
    let d = to_be_bytes w16 (length r.rdata) in
    append_assoc (a ++ b ++ c ++ d) r.rdata rest ∙ append_assoc (a ++ b ++ c) d (r.rdata ++ rest) ∙ append_assoc (a ++ b) c (d ++ (r.rdata ++ rest)) ∙ append_assoc a b (c ++ (d ++ (r.rdata ++ rest)))

pub owner_first : (octets : List ℕ) (name : Labels) (behind : List ℕ) → IsName name → octets ≡ wire name ++ behind → (r : Record) (rest : List ℕ) → IsRecordFrame octets r rest → behind ≡ behind_owner r rest
owner_first octets name behind valid e r rest f =
    let valid_owner : IsName r.owner = f.owner in
    (wire_first name r.owner behind (behind_owner r rest) valid.labels valid_owner.labels (sym e ∙ f.whole ∙ plain_parts r rest)).1

pub type_first : (b : List ℕ) (n : ℕ) (behind : List ℕ) → b ≡ to_be_bytes w16 n ++ behind → (r : Record) (rest : List ℕ) → b ≡ behind_owner r rest → behind ≡ behind_type r rest
type_first b n behind e r rest h = (parts_same (to_be_bytes w16 n) (to_be_bytes w16 r.rtype) behind (behind_type r rest) (sym e ∙ h) refl).1

pub ttl_first : (b : List ℕ) (n : ℕ) (behind : List ℕ) → b ≡ to_be_bytes w32 n ++ behind → (r : Record) (rest : List ℕ) → b ≡ behind_type r rest → behind ≡ behind_ttl r rest
ttl_first b n behind e r rest h = (parts_same (to_be_bytes w32 n) (to_be_bytes w32 r.ttl) behind (behind_ttl r rest) (sym e ∙ h) refl).1

pub len_first : (b : List ℕ) (n : ℕ) (behind : List ℕ) → n < 2 ^ 16 → b ≡ to_be_bytes w16 n ++ behind → (r : Record) (rest : List ℕ) → length r.rdata < 2 ^ 16 → b ≡ behind_ttl r rest → (behind ≡ behind_len r rest) × (n ≡ length r.rdata)
len_first b n behind small e r rest fits h =
    let both = parts_same (to_be_bytes w16 n) (to_be_bytes w16 (length r.rdata)) behind (behind_len r rest) (sym e ∙ h) refl in
    (both.1, sym (from_be_bytes-to_be_bytes_2 n small) ∙ ap (from_be_bytes w16) both.0 ∙ from_be_bytes-to_be_bytes_2 (length r.rdata) fits)

pub type_none : (b : List ℕ) → length b < 2 → (r : Record) (rest : List ℕ) → b ≡ behind_owner r rest → ⊥
type_none b short r rest h = omega (arith, ap length h)

pub ttl_none : (b : List ℕ) → length b < 4 → (r : Record) (rest : List ℕ) → b ≡ behind_type r rest → ⊥
ttl_none b short r rest h = omega (arith, ap length h)

pub len_none : (b : List ℕ) → length b < 2 → (r : Record) (rest : List ℕ) → b ≡ behind_ttl r rest → ⊥
len_none b short r rest h = omega (arith, ap length h)

pub data_none : (b : List ℕ) (n : ℕ) → length b < n → (r : Record) (rest : List ℕ) → b ≡ behind_len r rest → n ≡ length r.rdata → ⊥
data_none b n short r rest h same = omega (arith, ap length h, length-append r.rdata rest)

-- a valid record at the front is framed there, and its data is refused by nothing but memory
pub framed : (octets : List ℕ) (r : Record) (n : ℕ) → IsRecord r → r.rtype < 2 ^ 16 → n ≤ length octets → take n octets ≡ plain r → (rest : List ℕ) × IsRecordFrame octets r rest
framed octets r n valid small fits e =
    let short : length r.rdata ≤ 4096 = valid.short in
    (drop n octets, record { owner = valid.owner; rtype = small; ttl = valid.ttl; size = omega arith; whole = sym (take-append-drop n octets) ∙ ap (λ (x : List ℕ). x ++ drop n octets) e })

-- types of data are numbers of 16 bits
pub known_small : (t : ℕ) → is_data_type t ≡ true → t < 2 ^ 16
known_small t h = grind (arith, nat_tests)

abbrev made : ℕ → List ℕ → Data
made t o = record { rtype = t; octets = o }

-- octets begin as one plain record at most
pub frames_once : (octets : List ℕ) (r s : Record) (x y : List ℕ) → IsRecordFrame octets r x → IsRecordFrame octets s y → data_of r ≡ data_of s
frames_once octets r s x y f g =
    let owner = owner_first octets r.owner (behind_owner r x) f.owner (f.whole ∙ plain_parts r x) s y g in
    let types = parts_same (to_be_bytes w16 r.rtype) (to_be_bytes w16 s.rtype) (behind_type r x) (behind_type s y) owner refl in
    let rtype : r.rtype ≡ s.rtype = sym (from_be_bytes-to_be_bytes_2 r.rtype f.rtype) ∙ ap (from_be_bytes w16) types.0 ∙ from_be_bytes-to_be_bytes_2 s.rtype g.rtype in
    let ttls = ttl_first (behind_type r x) r.ttl (behind_ttl r x) refl s y types.1 in
    let sizes = len_first (behind_ttl r x) (length r.rdata) (behind_len r x) f.size refl s y g.size ttls in
    let octets : r.rdata ≡ s.rdata = (parts_same r.rdata s.rdata x y sizes.0 sizes.1).0 in
    ap (λ (t : ℕ). made t r.rdata) rtype ∙ ap (made s.rtype) octets

-- nothing but memory refuses valid data
refused_valid : (r : Record) → IsRecord r → (e : RecordError) → RefusesData (data_of r) e → e ≡ OutOfMemory
refused_valid r h OutOfMemory w = refl
refused_valid r h UnknownType w = (let known : is_data_type r.rtype ≡ true = h.rtype in absurd (cc))
refused_valid r h TooLong w = (let short : length r.rdata ≤ 4096 = h.short in let long : 4096 < length r.rdata = w.1 in absurd (omega arith))
refused_valid r h BadData w = absurd (w.2 h.rdata)

pub only_memory : (octets : List ℕ) (s : Record) (y : List ℕ) → IsRecordFrame octets s y → (e : RecordError) → RefusesData (data_of s) e → (r : Record) (n : ℕ) → IsRecord r → n ≤ length octets → take n octets ≡ plain r → e ≡ OutOfMemory
only_memory octets s y f e w r n valid fits read =
    let g = framed octets r n valid (known_small r.rtype valid.rtype) fits read in
    refused_valid r valid e (subst (λ (d : Data). RefusesData d e) (frames_once octets s r y g.0 f g.1) w)

pub none_read : (octets : List ℕ) → ((r : Record) (rest : List ℕ) → IsRecordFrame octets r rest → ⊥) → (r : Record) (n : ℕ) → IsRecord r → n ≤ length octets → take n octets ≡ plain r → ⊥
none_read octets none r n valid fits read = let g = framed octets r n valid (known_small r.rtype valid.rtype) fits read in none r g.0 g.1
