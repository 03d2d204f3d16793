-- Records, written one after the other.
use Rattle.std.proofs.Common.{◌≡◌, ℕ, suc, ◌+◌, ◌-◌, ◌<◌, ◌≤◌, List, [], ◌∷◌, ◌++◌, length, take, drop, get_or, Option, refl, sym, ap, ◌∙◌, arith, append_assoc}
use Rattle.std.specs.Int.{w16, w32, to_be_bytes}
use Rattle.std.proofs.Math.Seq.{drop-cons}
use Rattle.std.proofs.lemmas.List.{length-append, length-take, length-drop, take_at, drop_at}
use Rattle.dns_records.specs.Types.{class_in}
use Rattle.dns_records.specs.Record.{Record}
use Rattle.dns_wire.specs.Compress.{Place, Compressing, compressed_name, compressed_rdata, compressed_record}
use Rattle.dns_wire.specs.Puts.{IsBehindLabels, RefusesUpTo, WroteLabels, behind_owner, fixed_octets, compressed_all, name_end}
use Rattle.dns_wire.specs.declared.WriteError.{WriteError}
use Rattle.dns_wire.proofs.Puts.{Leaves, leaves_as, refuses_part}

-- these records are still to be written
abbrev pub RecordsLeft : List ℕ → Compressing → List ℕ → List Place → List Record → Type 0
RecordsLeft before whole octets places rs =
    let tail = compressed_all places (length octets) rs in
    Leaves before whole octets tail.octets tail.places

pub records_refused : (limit : ℕ) (before : List ℕ) (whole : Compressing) (octets : List ℕ) (places : List Place) (now : ℕ) (r : Record) (rs : List Record) (e : WriteError) → now ≡ limit
    → RecordsLeft before whole octets places (r ∷ rs) → RefusesUpTo now (length octets + length (compressed_record places (length octets) r).octets) e → RefusesUpTo limit (length before + length whole.octets) e
records_refused limit before whole octets places now r rs e same h f =
    let here = compressed_record places (length octets) r in
    let tail = compressed_all here.places (length octets + length here.octets) rs in
    refuses_part limit before whole octets (here.octets ++ tail.octets) tail.places now here.octets tail.octets e refl same h f

pub records_left : (rs : List Record) (i : ℕ) (d : Record) → i < length rs → drop i rs ≡ get_or rs i d ∷ drop (i + 1) rs
records_left rs i d h =
    let one : suc i ≡ i + 1 = omega arith in
    drop-cons rs i d h ∙ ap (λ (k : ℕ). get_or rs i d ∷ drop k rs) one

-- the two octets before the rdata, filled in
pub sized : (front zeros rdata all : List ℕ) (start : ℕ) → length zeros ≡ 2 → all ≡ (front ++ zeros) ++ rdata → start ≡ length (front ++ zeros) → take (start - 2) all ++ to_be_bytes w16 (length all - start) ++ drop start all ≡ (front ++ to_be_bytes w16 (length rdata)) ++ rdata
sized front zeros rdata all start two e position =
    let width : length (front ++ zeros) ≡ length front + 2 = length-append front zeros ∙ ap (λ (k : ℕ). length front + k) two in
    let total : length all ≡ length (front ++ zeros) + length rdata = ap length e ∙ length-append (front ++ zeros) rdata in
    let before : length front ≡ start - 2 = omega (arith, width, position) in
    let size : length all - start ≡ length rdata = omega (arith, total, position) in
    let head : take (start - 2) all ≡ front = ap (take (start - 2)) (e ∙ append_assoc front zeros rdata) ∙ take_at front (zeros ++ rdata) (start - 2) before in
    let tail : drop start all ≡ rdata = ap (drop start) e ∙ drop_at (front ++ zeros) rdata start (sym position) in
    ap (λ (xs : List ℕ). xs ++ to_be_bytes w16 (length all - start) ++ drop start all) head
    ∙ ap (λ (k : ℕ). front ++ to_be_bytes w16 k ++ drop start all) size
    ∙ ap (λ (xs : List ℕ). (front ++ to_be_bytes w16 (length rdata)) ++ xs) tail

regroup : (b o t c l s d : List ℕ) → (((b ++ o) ++ ((t ++ c) ++ l)) ++ s) ++ d ≡ b ++ (((((o ++ t) ++ c) ++ l) ++ s) ++ d)
regroup b o t c l s d = simp append_assoc

pub record_places : (before : List ℕ) (places : List Place) (r : Record) (one two : List ℕ) (p q : List Place) → one ≡ before ++ (compressed_name places (length before) r.owner).octets → p ≡ (compressed_name places (length before) r.owner).places → two ≡ one ++ fixed_octets r.rtype r.ttl → q ≡ p
    → compressed_rdata q (length two) r ≡ compressed_rdata (compressed_name places (length before) r.owner).places (length before + length (compressed_name places (length before) r.owner).octets + 10) r
record_places before places r one two p q e1 e2 e3 e4 =
    let owner = compressed_name places (length before) r.owner in
    let ten : length (fixed_octets r.rtype r.ttl) ≡ 10 = refl in
    let position : length two ≡ length before + length owner.octets + 10 = ap length e3 ∙ length-append one (fixed_octets r.rtype r.ttl) ∙ ap (λ (k : ℕ). k + 10) (ap length e1 ∙ length-append before owner.octets) in
    ap (λ (ps : List Place). compressed_rdata ps (length two) r) (e4 ∙ e2) ∙ ap (λ (k : ℕ). compressed_rdata owner.places k r) position

-- a record, its length filled in
pub record_octets : (before : List ℕ) (places : List Place) (r : Record) (one two three four : List ℕ) (p q : List Place) (start : ℕ) → one ≡ before ++ (compressed_name places (length before) r.owner).octets → p ≡ (compressed_name places (length before) r.owner).places → two ≡ one ++ fixed_octets r.rtype r.ttl → q ≡ p
    → three ≡ two ++ (compressed_rdata q (length two) r).octets → start ≡ length two → four ≡ take (start - 2) three ++ to_be_bytes w16 (length three - start) ++ drop start three
    → four ≡ before ++ (compressed_record places (length before) r).octets
record_octets before places r one two three four p q start e1 e2 e3 e4 e5 e6 e7 =
    let owner = compressed_name places (length before) r.owner in
    let mid : List ℕ = (to_be_bytes w16 r.rtype ++ to_be_bytes w16 class_in) ++ to_be_bytes w32 r.ttl in
    let zeros : List ℕ = 0 ∷ 0 ∷ [] in
    let front : List ℕ = (before ++ owner.octets) ++ mid in
    let two-is : two ≡ front ++ zeros = e3 ∙ ap (λ (xs : List ℕ). xs ++ (mid ++ zeros)) e1 ∙ sym (append_assoc (before ++ owner.octets) mid zeros) in
    let rdata = compressed_rdata owner.places (length before + length owner.octets + 10) r in
    let same : compressed_rdata q (length two) r ≡ rdata = record_places before places r one two p q e1 e2 e3 e4 in
    let three-is : three ≡ (front ++ zeros) ++ rdata.octets = e5 ∙ ap (λ (xs : List ℕ). xs ++ (compressed_rdata q (length two) r).octets) two-is ∙ ap (λ (x : Compressing). (front ++ zeros) ++ x.octets) same in
    e7 ∙ sized front zeros rdata.octets three start refl three-is (e6 ∙ ap length two-is) ∙ regroup before owner.octets (to_be_bytes w16 r.rtype) (to_be_bytes w16 class_in) (to_be_bytes w32 r.ttl) (to_be_bytes w16 (length rdata.octets)) rdata.octets

pub record_size : (places : List Place) (at : ℕ) (r : Record)
    → length (compressed_record places at r).octets ≡ length (compressed_name places at r.owner).octets + 10 + length (compressed_rdata (compressed_name places at r.owner).places (at + length (compressed_name places at r.owner).octets + 10) r).octets
record_size places at r =
    let owner = compressed_name places at r.owner in
    let rdata = compressed_rdata owner.places (at + length owner.octets + 10) r in
    let all = owner.octets ++ to_be_bytes w16 r.rtype ++ to_be_bytes w16 class_in ++ to_be_bytes w32 r.ttl ++ to_be_bytes w16 (length rdata.octets) in
    let front : length all ≡ length owner.octets + 2 + 2 + 4 + 2 = simp length-append in
    omega (arith, length-append all rdata.octets, front)

pub sized_length : (all four : List ℕ) (start n : ℕ) → 2 ≤ start → start ≤ length all → four ≡ take (start - 2) all ++ to_be_bytes w16 n ++ drop start all → length four ≡ length all
sized_length all four start n up inside e =
    let size : length (take (start - 2) all ++ to_be_bytes w16 n ++ drop start all) ≡ length all = simp (length-append, length-take, length-drop) (omega arith) in
    ap length e ∙ size

pub start_of : (one two three fixed more : List ℕ) (start : ℕ) → length fixed ≡ 10 → two ≡ one ++ fixed → three ≡ two ++ more → start ≡ length two → (2 ≤ start) × (start ≤ length three)
start_of one two three fixed more start ten e f position =
    let a : length two ≡ length one + length fixed = ap length e ∙ length-append one fixed in
    let b : length three ≡ length two + length more = ap length f ∙ length-append two more in
    (omega (arith, a, ten, position), omega (arith, b, position))

owner_first : (o t c l s d : List ℕ) → ((((o ++ t) ++ c) ++ l) ++ s) ++ d ≡ o ++ ((((t ++ c) ++ l) ++ s) ++ d)
owner_first o t c l s d = simp append_assoc

-- what of a record is to come after the labels of its owner
pub after_labels : (limit : ℕ) (before after : List ℕ) (now : ℕ) (places places' : List Place) (r : Record) (found : Option ℕ) → WroteLabels limit before after now places' (compressed_name places (length before) r.owner) found
    → (let behind = behind_owner (compressed_name places (length before) r.owner).places (length before + length (compressed_name places (length before) r.owner).octets) r in
    Leaves before (compressed_record places (length before) r) after (name_end found ++ behind.octets) behind.places)
after_labels limit before after now places places' r found w =
    let owner = compressed_name places (length before) r.owner in
    let behind = behind_owner owner.places (length before + length owner.octets) r in
    let rdata = compressed_rdata owner.places (length before + length owner.octets + 10) r in
    let whole : (compressed_record places (length before) r).octets ≡ owner.octets ++ behind.octets = owner_first owner.octets (to_be_bytes w16 r.rtype) (to_be_bytes w16 class_in) (to_be_bytes w32 r.ttl) (to_be_bytes w16 (length rdata.octets)) rdata.octets in
    record {
      octets-are = ap (λ (xs : List ℕ). before ++ xs) whole
          ∙ sym (append_assoc before owner.octets behind.octets)
          ∙ ap (λ (xs : List ℕ). xs ++ behind.octets) w.octets
          ∙ append_assoc after (name_end found) behind.octets;
      places-are = refl;
    }

-- it is to come in one piece
pub record_left : (limit : ℕ) (before after : List ℕ) (now : ℕ) (places places' : List Place) (r : Record) (found : Option ℕ) (octets : List ℕ) → WroteLabels limit before after now places' (compressed_name places (length before) r.owner) found → IsBehindLabels found r octets
    → Leaves before (compressed_record places (length before) r) after octets places'
record_left limit before after now places places' r found octets w is =
    let owner = compressed_name places (length before) r.owner in
    let at = length before + length owner.octets in
    let behind = behind_owner owner.places at r in
    leaves_as before (compressed_record places (length before) r) after (name_end found ++ behind.octets) octets behind.places places' (sym (is.octets-are owner.places at)) (sym (is.places-are owner.places at) ∙ sym w.places)
    (after_labels limit before after now places places' r found w)
