-- A whole text, written part by part.
use Rattle.std.proofs.Common.{◌≡◌, ℕ, ◌+◌, ◌*◌, ◌≤◌, List, [], ◌∷◌, ◌++◌, length, Option, Some, None, refl, sym, ap, subst, ◌∙◌, arith, append_assoc}
use Rattle.std.proofs.lemmas.List.{length-append}
use Rattle.dns_records.specs.Record.{Record}
use Rattle.dns_wire.specs.Compress.{Place, Compressing, compressed_record, compressed_records}
use Rattle.dns_wire.specs.Text.{EchoedQuestion, Reply, header_octets, question_octets, question_places, text}
use Rattle.dns_wire.specs.Puts.{RefusesUpTo, asked, compressed_all}
use Rattle.dns_wire.specs.declared.WriteError.{WriteError}
use Rattle.dns_wire.proofs.Puts.{refuses_more}
use Rattle.dns_wire.proofs.RecordsPut.{record_size}

pub all_records : (places : List Place) (at : ℕ) (rs : List Record) → compressed_records places at rs ≡ (compressed_all places at rs).octets
all_records places at [] = refl
all_records places at (r ∷ rs) = let here = compressed_record places at r in ap (λ (xs : List ℕ). here.octets ++ xs) (all_records here.places (at + length here.octets) rs)

pub all_append : (places : List Place) (at : ℕ) (a b : List Record) →
    let one = compressed_all places at a in
    let two = compressed_all one.places (at + length one.octets) b in
    compressed_all places at (a ++ b) ≡ record { octets = one.octets ++ two.octets; places = two.places }
all_append places at [] b = let same : at ≡ at + 0 = omega arith in ap (λ (k : ℕ). compressed_all places k b) same
all_append places at (r ∷ rs) b =
    let here = compressed_record places at r in
    let after = compressed_all here.places (at + length here.octets) rs in
    let inner = all_append here.places (at + length here.octets) rs b in
    let position : at + length here.octets + length after.octets ≡ at + length (here.octets ++ after.octets) = omega (arith, length-append here.octets after.octets) in
    let there = compressed_all after.places (at + length here.octets + length after.octets) b in
    let moved : there ≡ compressed_all after.places (at + length (here.octets ++ after.octets)) b = ap (λ (k : ℕ). compressed_all after.places k b) position in
    ap (λ (p : Compressing). record { octets = here.octets ++ p.octets; places = p.places }) inner
    ∙ ap (λ (xs : List ℕ). record { octets = xs; places = there.places }) (sym (append_assoc here.octets after.octets there.octets))
    ∙ ap (λ (p : Compressing). record { octets = (here.octets ++ after.octets) ++ p.octets; places = p.places }) moved

pub all_long : (places : List Place) (at : ℕ) (rs : List Record) → length rs ≤ length (compressed_all places at rs).octets
all_long places at [] = omega arith
all_long places at (r ∷ rs) =
    let here = compressed_record places at r in
    let after = compressed_all here.places (at + length here.octets) rs in
    omega (arith, all_long here.places (at + length here.octets) rs, record_size places at r, length-append here.octets after.octets)

-- a record takes at least ten octets
pub all_longer : (places : List Place) (at : ℕ) (rs : List Record) → 10 * length rs ≤ length (compressed_all places at rs).octets
all_longer places at [] = omega arith
all_longer places at (r ∷ rs) =
    let here = compressed_record places at r in
    let after = compressed_all here.places (at + length here.octets) rs in
    omega (arith, all_longer here.places (at + length here.octets) rs, record_size places at r, length-append here.octets after.octets)

-- the compressions of the three sections
unfoldable pub first_all : Reply → Compressing
first_all r = compressed_all (question_places r) (12 + length (question_octets r)) r.answer

unfoldable pub second_all : Reply → Compressing
second_all r = compressed_all (first_all r).places (12 + length (question_octets r) + length (first_all r).octets) r.authority

unfoldable pub third_all : Reply → Compressing
third_all r = compressed_all (second_all r).places (12 + length (question_octets r) + length (first_all r).octets + length (second_all r).octets) r.additional

records_is : (r : Reply) → compressed_records (question_places r) (12 + length (question_octets r)) (r.answer ++ r.authority ++ r.additional) ≡ ((first_all r).octets ++ (second_all r).octets) ++ (third_all r).octets
unfolding first_all second_all third_all
records_is r =
    let p = question_places r in
    let n = 12 + length (question_octets r) in
    let one = compressed_all p n r.answer in
    let two = compressed_all one.places (n + length one.octets) r.authority in
    let both : Compressing = record { octets = one.octets ++ two.octets; places = two.places } in
    let same : compressed_all p n (r.answer ++ r.authority) ≡ both = all_append p n r.answer r.authority in
    let position : n + length both.octets ≡ n + length one.octets + length two.octets = omega (arith, length-append one.octets two.octets) in
    all_records p n (r.answer ++ r.authority ++ r.additional)
    ∙ ap (λ (x : Compressing). x.octets) (all_append p n (r.answer ++ r.authority) r.additional)
    ∙ ap (λ (x : Compressing). x.octets ++ (compressed_all x.places (n + length x.octets) r.additional).octets) same
    ∙ ap (λ (k : ℕ). both.octets ++ (compressed_all two.places k r.additional).octets) position

pub text_is : (r : Reply) → text r ≡ (header_octets r ++ question_octets r) ++ (((first_all r).octets ++ (second_all r).octets) ++ (third_all r).octets)
text_is r = ap (λ (xs : List ℕ). (header_octets r ++ question_octets r) ++ xs) (records_is r)

pub text_size : (r : Reply) → length (text r) ≡ 12 + length (question_octets r) + length (first_all r).octets + length (second_all r).octets + length (third_all r).octets
text_size r =
    let a = (first_all r).octets in
    let b = (second_all r).octets in
    let c = (third_all r).octets in
    let twelve : length (header_octets r) ≡ 12 = refl in
    omega (arith, ap length (text_is r), length-append (header_octets r ++ question_octets r) ((a ++ b) ++ c), length-append (header_octets r) (question_octets r), length-append (a ++ b) c, length-append a b)

-- so many records are too many for any header
pub text_long : (r : Reply) → length r.answer + length r.authority + length r.additional ≤ length (text r)
unfolding first_all second_all third_all
text_long r =
    let one : length r.answer ≤ length (first_all r).octets = all_long (question_places r) (12 + length (question_octets r)) r.answer in
    let two : length r.authority ≤ length (second_all r).octets = all_long (first_all r).places (12 + length (question_octets r) + length (first_all r).octets) r.authority in
    let three : length r.additional ≤ length (third_all r).octets = all_long (second_all r).places (12 + length (question_octets r) + length (first_all r).octets + length (second_all r).octets) r.additional in
    omega (arith, text_size r, one, two, three)

pub text_longer : (r : Reply) → 12 + 10 * (length r.answer + length r.authority + length r.additional) ≤ length (text r)
unfolding first_all second_all third_all
text_longer r =
    let one : 10 * length r.answer ≤ length (first_all r).octets = all_longer (question_places r) (12 + length (question_octets r)) r.answer in
    let two : 10 * length r.authority ≤ length (second_all r).octets = all_longer (first_all r).places (12 + length (question_octets r) + length (first_all r).octets) r.authority in
    let three : 10 * length r.additional ≤ length (third_all r).octets = all_longer (second_all r).places (12 + length (question_octets r) + length (first_all r).octets + length (second_all r).octets) r.additional in
    omega (arith, text_size r, one, two, three)

pub asked_octets : (r : Reply) → (asked r.question).octets ≡ question_octets r
asked_octets r = go r.question
  where
    go : (q : Option EchoedQuestion) → (asked q).octets ≡ elim q [ None ↦ [] | Some e ↦ e.octets ]
    go None = refl
    go (Some e) = refl

pub asked_places : (r : Reply) → (asked r.question).places ≡ question_places r
asked_places r = go r.question
  where
    go : (q : Option EchoedQuestion) → (asked q).places ≡ elim q [ None ↦ [] | Some e ↦ (asked (Some e)).places ]
    go None = refl
    go (Some e) = refl

-- the states while a text is written
pub record Begun (r : Reply) (octets : List ℕ) (places : List Place) : Type 0 where
  pub octets-are : octets ≡ header_octets r ++ question_octets r
  pub size : length octets ≡ 12 + length (question_octets r)
  pub next : compressed_all places (length octets) r.answer ≡ first_all r

pub begun : (r : Reply) (none one octets : List ℕ) (places : List Place) → none ≡ [] → one ≡ none ++ header_octets r → octets ≡ one ++ (asked r.question).octets → places ≡ (asked r.question).places → Begun r octets places
unfolding first_all
begun r none one octets places e0 e1 e2 e3 =
    let is : octets ≡ header_octets r ++ question_octets r = e2 ∙ ap (λ (xs : List ℕ). xs ++ (asked r.question).octets) (e1 ∙ ap (λ (xs : List ℕ). xs ++ header_octets r) e0) ∙ ap (λ (xs : List ℕ). header_octets r ++ xs) (asked_octets r) in
    let twelve : length (header_octets r) ≡ 12 = refl in
    let size : length octets ≡ 12 + length (question_octets r) = ap length is ∙ length-append (header_octets r) (question_octets r) ∙ ap (λ (k : ℕ). k + length (question_octets r)) twelve in
    record {
      octets-are = is;
      size = size;
      next = ap (λ (ps : List Place). compressed_all ps (length octets) r.answer) (e3 ∙ asked_places r) ∙ ap (λ (k : ℕ). compressed_all (question_places r) k r.answer) size;
    }

pub record Answered (r : Reply) (octets : List ℕ) (places : List Place) : Type 0 where
  pub octets-are : octets ≡ (header_octets r ++ question_octets r) ++ (first_all r).octets
  pub size : length octets ≡ 12 + length (question_octets r) + length (first_all r).octets
  pub next : compressed_all places (length octets) r.authority ≡ second_all r

pub answered : (r : Reply) (two octets : List ℕ) (before places : List Place) → Begun r two before → octets ≡ two ++ (compressed_all before (length two) r.answer).octets → places ≡ (compressed_all before (length two) r.answer).places → Answered r octets places
unfolding second_all
answered r two octets before places h e f =
    let more : octets ≡ two ++ (first_all r).octets = e ∙ ap (λ (p : Compressing). two ++ p.octets) h.next in
    let size : length octets ≡ 12 + length (question_octets r) + length (first_all r).octets = ap length more ∙ length-append two (first_all r).octets ∙ ap (λ (k : ℕ). k + length (first_all r).octets) h.size in
    record {
      octets-are = more ∙ ap (λ (xs : List ℕ). xs ++ (first_all r).octets) h.octets-are;
      size = size;
      next = ap (λ (ps : List Place). compressed_all ps (length octets) r.authority) (f ∙ ap (λ (p : Compressing). p.places) h.next) ∙ ap (λ (k : ℕ). compressed_all (first_all r).places k r.authority) size;
    }

pub record Authorised (r : Reply) (octets : List ℕ) (places : List Place) : Type 0 where
  pub octets-are : octets ≡ ((header_octets r ++ question_octets r) ++ (first_all r).octets) ++ (second_all r).octets
  pub size : length octets ≡ 12 + length (question_octets r) + length (first_all r).octets + length (second_all r).octets
  pub next : compressed_all places (length octets) r.additional ≡ third_all r

pub authorised : (r : Reply) (three octets : List ℕ) (before places : List Place) → Answered r three before → octets ≡ three ++ (compressed_all before (length three) r.authority).octets → places ≡ (compressed_all before (length three) r.authority).places → Authorised r octets places
unfolding third_all
authorised r three octets before places h e f =
    let more : octets ≡ three ++ (second_all r).octets = e ∙ ap (λ (p : Compressing). three ++ p.octets) h.next in
    let size : length octets ≡ 12 + length (question_octets r) + length (first_all r).octets + length (second_all r).octets = ap length more ∙ length-append three (second_all r).octets ∙ ap (λ (k : ℕ). k + length (second_all r).octets) h.size in
    record {
      octets-are = more ∙ ap (λ (xs : List ℕ). xs ++ (second_all r).octets) h.octets-are;
      size = size;
      next = ap (λ (ps : List Place). compressed_all ps (length octets) r.additional) (f ∙ ap (λ (p : Compressing). p.places) h.next) ∙ ap (λ (k : ℕ). compressed_all (second_all r).places k r.additional) size;
    }

pub whole_text : (r : Reply) (four octets : List ℕ) (before : List Place) → Authorised r four before → octets ≡ four ++ (compressed_all before (length four) r.additional).octets → octets ≡ text r
whole_text r four octets before h e =
    let front = header_octets r ++ question_octets r in
    let a = (first_all r).octets in
    let b = (second_all r).octets in
    let c = (third_all r).octets in
    let grouped : ((front ++ a) ++ b) ++ c ≡ front ++ ((a ++ b) ++ c) = simp append_assoc in
    e ∙ ap (λ (p : Compressing). four ++ p.octets) h.next ∙ ap (λ (xs : List ℕ). xs ++ c) h.octets-are ∙ grouped ∙ sym (text_is r)

-- a section is refused
pub first_refused : (r : Reply) (octets : List ℕ) (places : List Place) (now limit : ℕ) (e : WriteError) → Begun r octets places → now ≡ limit → RefusesUpTo now (length octets + length (compressed_all places (length octets) r.answer).octets) e → RefusesUpTo limit (length (text r)) e
first_refused r octets places now limit e h up f =
    let size : length (compressed_all places (length octets) r.answer).octets ≡ length (first_all r).octets = ap (λ (p : Compressing). length p.octets) h.next in
    subst (λ (k : ℕ). RefusesUpTo k (length (text r)) e) up (refuses_more now (length octets + length (compressed_all places (length octets) r.answer).octets) (length (text r)) e (omega (arith, size, h.size, text_size r)) f)

pub second_refused : (r : Reply) (octets : List ℕ) (places : List Place) (now limit : ℕ) (e : WriteError) → Answered r octets places → now ≡ limit → RefusesUpTo now (length octets + length (compressed_all places (length octets) r.authority).octets) e → RefusesUpTo limit (length (text r)) e
second_refused r octets places now limit e h up f =
    let size : length (compressed_all places (length octets) r.authority).octets ≡ length (second_all r).octets = ap (λ (p : Compressing). length p.octets) h.next in
    subst (λ (k : ℕ). RefusesUpTo k (length (text r)) e) up (refuses_more now (length octets + length (compressed_all places (length octets) r.authority).octets) (length (text r)) e (omega (arith, size, h.size, text_size r)) f)

pub third_refused : (r : Reply) (octets : List ℕ) (places : List Place) (now limit : ℕ) (e : WriteError) → Authorised r octets places → now ≡ limit → RefusesUpTo now (length octets + length (compressed_all places (length octets) r.additional).octets) e → RefusesUpTo limit (length (text r)) e
third_refused r octets places now limit e h up f =
    let size : length (compressed_all places (length octets) r.additional).octets ≡ length (third_all r).octets = ap (λ (p : Compressing). length p.octets) h.next in
    subst (λ (k : ℕ). RefusesUpTo k (length (text r)) e) up (refuses_more now (length octets + length (compressed_all places (length octets) r.additional).octets) (length (text r)) e (omega (arith, size, h.size, text_size r)) f)
