-- A message while its answer is filled, and its text.
use Rattle.std.proofs.Common.{◌≡◌, ℕ, ◌+◌, ◌≤◌, List, [], ◌∷◌, ◌++◌, length, drop, refl, sym, ap, ◌∙◌, arith, append_assoc}
use Rattle.std.proofs.lemmas.List.{length-append, append-nil, drop_at}
use Rattle.dns_records.specs.Record.{Record}
use Rattle.dns_wire.specs.Compress.{Place, Compressing, compressed_record}
use Rattle.dns_wire.specs.Text.{Reply, header_octets, question_octets, question_places, text}
use Rattle.dns_wire.specs.Puts.{compressed_all}
use Rattle.dns_wire.specs.Building.{Building, with_record, compressed_answer, IsReplyBuilt, StandsBuilt}
use Rattle.dns_wire.proofs.TextPut.{all_append, text_is, text_long, first_all, second_all, third_all}

-- sections without records have no octets
no_octets : (r : Reply) → r.authority ≡ [] → r.additional ≡ [] → ((first_all r).octets ++ (second_all r).octets) ++ (third_all r).octets ≡ (compressed_answer r).octets
unfolding first_all second_all third_all
no_octets r none nothing =
    let one = compressed_answer r in
    let n = 12 + length (question_octets r) + length one.octets in
    let two = compressed_all one.places n r.authority in
    let second : two.octets ≡ [] = ap (λ (rs : List Record). (compressed_all one.places n rs).octets) none in
    let third : (compressed_all two.places (n + length two.octets) r.additional).octets ≡ [] = ap (λ (rs : List Record). (compressed_all two.places (n + length two.octets) rs).octets) nothing in
    ap (λ (xs : List ℕ). (one.octets ++ two.octets) ++ xs) third
    ∙ append-nil (one.octets ++ two.octets)
    ∙ ap (λ (xs : List ℕ). one.octets ++ xs) second
    ∙ append-nil one.octets

plain_text : (r : Reply) → r.authority ≡ [] → r.additional ≡ [] → text r ≡ (header_octets r ++ question_octets r) ++ (compressed_answer r).octets
plain_text r none nothing = text_is r ∙ ap (λ (xs : List ℕ). (header_octets r ++ question_octets r) ++ xs) (no_octets r none nothing)

-- with its header the message is its text
pub built_text : (r : Reply) (octets : List ℕ) → IsReplyBuilt r octets → header_octets r ++ drop 12 octets ≡ text r
built_text r octets h =
    let q = question_octets r in
    let c = (compressed_answer r).octets in
    let whole : octets ≡ h.head ++ (q ++ c) = h.written ∙ append_assoc h.head q c in
    let behind : drop 12 octets ≡ q ++ c = ap (drop 12) whole ∙ drop_at h.head (q ++ c) 12 h.header in
    ap (λ (xs : List ℕ). header_octets r ++ xs) behind ∙ sym (append_assoc (header_octets r) q c) ∙ sym (plain_text r h.authority h.additional)

pub built_size : (r : Reply) (octets : List ℕ) → IsReplyBuilt r octets → length (text r) ≡ length octets
built_size r octets h =
    let twelve : length (header_octets r) ≡ 12 = refl in
    let c = (compressed_answer r).octets in
    let q = question_octets r in
    omega (arith, ap length (plain_text r h.authority h.additional), ap length h.written, h.header, length-append (header_octets r ++ q) c, length-append (header_octets r) q, length-append (h.head ++ q) c, length-append h.head q)

-- the header can count its records
pub built_few : (r : Reply) (octets : List ℕ) → IsReplyBuilt r octets → length r.answer + length r.authority + length r.additional ≤ 16384
built_few r octets h = (let low : length octets ≤ 16384 = h.low in omega (arith, text_long r, built_size r octets h, low))

-- with one record more
answer_next : (r : Reply) (octets : List ℕ) (places : List Place) (x : Record) → IsReplyBuilt r octets → places ≡ (compressed_answer r).places → (let here = compressed_record places (length octets) x in compressed_answer (with_record r x) ≡ record { octets = (compressed_answer r).octets ++ here.octets; places = here.places })
answer_next r octets places x h e =
    let n = 12 + length (question_octets r) in
    let one = compressed_answer r in
    let size : n + length one.octets ≡ length octets = omega (arith, ap length h.written, h.header, length-append (h.head ++ question_octets r) one.octets, length-append h.head (question_octets r)) in
    let there = compressed_record one.places (n + length one.octets) x in
    let here = compressed_record places (length octets) x in
    let same : there ≡ here = ap (λ (k : ℕ). compressed_record one.places k x) size ∙ ap (λ (ps : List Place). compressed_record ps (length octets) x) (sym e) in
    all_append (question_places r) n r.answer (x ∷ [])
    ∙ ap (λ (xs : List ℕ). record { octets = one.octets ++ xs; places = there.places }) (append-nil there.octets)
    ∙ ap (λ (c : Compressing). record { octets = one.octets ++ c.octets; places = c.places }) same

next_written : (r : Reply) (octets after : List ℕ) (places : List Place) (x : Record) (h : IsReplyBuilt r octets) → places ≡ (compressed_answer r).places → after ≡ octets ++ (compressed_record places (length octets) x).octets → after ≡ (h.head ++ question_octets r) ++ (compressed_answer (with_record r x)).octets
next_written r octets after places x h e grown =
    let here = compressed_record places (length octets) x in
    let front = h.head ++ question_octets r in
    grown
    ∙ ap (λ (xs : List ℕ). xs ++ here.octets) h.written
    ∙ append_assoc front (compressed_answer r).octets here.octets
    ∙ ap (λ (c : Compressing). front ++ c.octets) (sym (answer_next r octets places x h e))

pub built_next : (b : Building) (octets after : List ℕ) (places places' : List Place) (x : Record) → StandsBuilt b octets places → after ≡ octets ++ (compressed_record places (length octets) x).octets → places' ≡ (compressed_record places (length octets) x).places → length after ≤ b.limit → StandsBuilt (record b { reply = with_record b.reply x }) after places'
built_next b octets after places places' x h grown same fits =
    let built = h.built in
    let low : b.limit ≤ 16384 = h.low in
    record {
      built = record {
        authority = built.authority;
        additional = built.additional;
        head = built.head;
        header = built.header;
        written = next_written b.reply octets after places x built h.table grown;
        low = omega (arith, fits, low);
      };
      table = same ∙ ap (λ (c : Compressing). c.places) (sym (answer_next b.reply octets places x built h.table));
      low = h.low;
      fits = fits;
    }

-- the text with the record is as long as what was written
pub longer_text : (r : Reply) (octets after : List ℕ) (places : List Place) (x : Record) → IsReplyBuilt r octets → places ≡ (compressed_answer r).places → after ≡ octets ++ (compressed_record places (length octets) x).octets → length (text (with_record r x)) ≡ length after
longer_text r octets after places x h e grown =
    let twelve : length (header_octets (with_record r x)) ≡ 12 = refl in
    let q = question_octets r in
    let c = (compressed_answer (with_record r x)).octets in
    let whole : text (with_record r x) ≡ (header_octets (with_record r x) ++ q) ++ c = plain_text (with_record r x) h.authority h.additional in
    let size : length after ≡ length ((h.head ++ q) ++ c) = ap length (next_written r octets after places x h e grown) in
    omega (arith, ap length whole, size, h.header, length-append (header_octets (with_record r x) ++ q) c, length-append (header_octets (with_record r x)) q, length-append (h.head ++ q) c, length-append h.head q)
