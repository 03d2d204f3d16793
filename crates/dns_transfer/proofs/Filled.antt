-- Messages that are filled with the records of an answer.
use Rattle.std.proofs.Common.{◌≡◌, ℕ, ◌+◌, ◌<◌, ◌≤◌, Bool, true, false, List, [], ◌∷◌, ◌++◌, length, Option, refl, sym, ap, subst, ◌∙◌, arith, append_assoc}
use Rattle.std.specs.Prelude.{nat_le}
use Rattle.std.proofs.lemmas.List.{length-append, append-nil}
use Rattle.std.proofs.lemmas.Bool.Decides.{nat_tests}
use Rattle.dns_records.specs.Record.{Record}
use Rattle.dns_changes.specs.Change.{Change}
use Rattle.dns_wire.specs.Text.{EchoedQuestion, Reply, question_octets, question_places, text}
use Rattle.dns_wire.specs.Compress.{Compressing}
use Rattle.dns_wire.specs.Puts.{compressed_all}
use Rattle.dns_wire.proofs.TextPut.{all_append, text_size, first_all, second_all, third_all}
use Rattle.dns_transfer.specs.Left.{left_in, left_at}
use Rattle.dns_transfer.specs.Messages.{Heading, IsNextMessage, message_with, octets_with, datagram_of}
use Rattle.dns_transfer.specs.Session.{IsFilled, with_answer}
use Rattle.dns_transfer.specs.declared.form.Form.TheVariants as form
use Rattle.dns_transfer.specs.declared.unsent.Place.{Place}
use Rattle.dns_transfer.specs.declared.unsent.Place.TheVariants.{Opening, Zone, Sequence, End}

-- ---- filling
-- so many records are in the message, and so many are left
pub record Filling (reply : Reply) (left sent rest : List Record) (now : Reply) : Type 0 where
  pub in_order : left ≡ sent ++ rest
  pub has : now ≡ with_answer reply sent

pub filling_next : (reply : Reply) (left sent rest more : List Record) (now : Reply) (r : Record) → Filling reply left sent rest now → rest ≡ r ∷ more → Filling reply left (sent ++ r ∷ []) more (record now { answer = now.answer ++ r ∷ [] })
filling_next reply left sent rest more now r h e = record {
  in_order = h.in_order ∙ ap (λ (rs : List Record). sent ++ rs) e ∙ sym (append_assoc sent (r ∷ []) more);
  has = ap (λ (n : Reply). record n { answer = n.answer ++ r ∷ [] }) h.has;
}

-- the next record does not fit
pub filled_full : (reply now : Reply) (limit : ℕ) (left sent rest more : List Record) (octets : List ℕ) (r : Record) → Filling reply left sent rest now → rest ≡ r ∷ more → octets ≡ text now → length octets ≤ limit → limit < length (text (record now { answer = now.answer ++ r ∷ [] })) → IsFilled reply limit left octets rest
filled_full reply now limit left sent rest more octets r h e is fits over = record {
  sent = sent;
  in_order = h.in_order;
  packed = is ∙ ap text h.has;
  fits = fits;
  most = λ s others f.
      (let same : r ∷ more ≡ s ∷ others = sym e ∙ f in
      let one : r ≡ s = cc in
      let now_is : record now { answer = now.answer ++ r ∷ [] } ≡ with_answer reply (sent ++ s ∷ []) = ap (λ (n : Reply). record n { answer = n.answer ++ r ∷ [] }) h.has ∙ ap (λ (x : Record). with_answer reply (sent ++ x ∷ [])) one in
      subst (λ (k : ℕ). limit < k) (ap (λ (n : Reply). length (text n)) now_is) over);
}

-- ---- the end of an answer
some_behind : (rs : List Record) (soa : Record) → (r : Record) × (more : List Record) × (rs ++ soa ∷ [] ≡ r ∷ more)
some_behind [] soa = (soa, [], refl)
some_behind (x ∷ rs) soa = (x, rs ++ soa ∷ [], refl)

pub some_left : (soa : Record) (records : List Record) (changes : List Change) (position : Place) → (position ≡ End → ⊥) → (r : Record) × (more : List Record) × (left_at soa records changes position ≡ r ∷ more)
some_left soa records changes (Opening form.Current) more = (soa, [], refl)
some_left soa records changes (Opening (form.Incremental first)) more = (soa, _, refl)
some_left soa records changes (Opening form.Full) more = (soa, _, refl)
some_left soa records changes (Zone position) more = some_behind _ soa
some_left soa records changes (Sequence number behind) more = some_behind (left_in changes number behind) soa
some_left soa records changes End more = absurd (more refl)

-- ---- by UDP
-- with more records the text is longer
longer : (reply : Reply) (few more : List Record) → reply.authority ≡ [] → reply.additional ≡ [] → length (text (with_answer reply few)) ≤ length (text (with_answer reply (few ++ more)))
unfolding first_all second_all third_all
longer reply few more none nothing =
    let p = question_places reply in
    let n = 12 + length (question_octets reply) in
    let one = compressed_all p n few in
    let two = compressed_all one.places (n + length one.octets) more in
    let both = compressed_all p n (few ++ more) in
    let size : length both.octets ≡ length one.octets + length two.octets = ap (λ c. length c.octets) (all_append p n few more) ∙ length-append one.octets two.octets in
    let second : (c : Compressing) → length (compressed_all c.places (n + length c.octets) reply.authority).octets ≡ 0 = λ c. ap (λ (rs : List Record). length (compressed_all c.places (n + length c.octets) rs).octets) none in
    let third : (c d : Compressing) → length (compressed_all d.places (n + length c.octets + length d.octets) reply.additional).octets ≡ 0 = λ c d. ap (λ (rs : List Record). length (compressed_all d.places (n + length c.octets + length d.octets) rs).octets) nothing in
    let a = compressed_all one.places (n + length one.octets) reply.authority in
    let b = compressed_all both.places (n + length both.octets) reply.authority in
    omega (arith, text_size (with_answer reply few), text_size (with_answer reply (few ++ more)), size, second one, second both, third one a, third both b)

le_true : (m n : ℕ) → m ≤ n → nat_le m n ≡ true
le_true m n h = grind (arith, nat_tests)

le_false : (m n : ℕ) → n < m → nat_le m n ≡ false
le_false m n h = grind (arith, nat_tests)

-- by its two tests
chosen : Bool → Bool → List ℕ → List ℕ → List ℕ → List ℕ
chosen b c whole alone none = elim b [ true ↦ whole | false ↦ elim c [ true ↦ alone | false ↦ none ] ]

module _ (h : Heading) (question : Option EchoedQuestion) (left : List Record) (soa : Record) where
  abbrev base : Reply
  base = message_with h question []

  datagram_is : (b c : Bool) → nat_le (length (octets_with h question left)) 512 ≡ b → nat_le (length (octets_with h question (soa ∷ []))) 512 ≡ c → datagram_of h question left soa ≡ chosen b c (octets_with h question left) (octets_with h question (soa ∷ [])) (text (record base { tc = true }))
  unfolding chosen
  datagram_is b c e f = λ i. elim (e i) [ true ↦ octets_with h question left | false ↦ elim (f i) [ true ↦ octets_with h question (soa ∷ []) | false ↦ text (record base { tc = true }) ] ]

  -- the whole answer fits
  pub datagram_whole : (rest : List Record) (message : List ℕ) → rest ≡ [] → IsFilled base 512 left message rest → message ≡ datagram_of h question left soa
  unfolding chosen
  datagram_whole rest message none f =
      let all : left ≡ f.sent = f.in_order ∙ ap (λ (rs : List Record). f.sent ++ rs) none ∙ append-nil f.sent in
      let is : message ≡ octets_with h question left = f.packed ∙ ap (octets_with h question) (sym all) in
      let fits : length message ≤ 512 = f.fits in
      is ∙ sym (datagram_is true _ (le_true (length (octets_with h question left)) 512 (omega (arith, fits, ap length is))) refl)

  too_long : (r : Record) (more rest : List Record) (message : List ℕ) → rest ≡ r ∷ more → IsFilled base 512 left message rest → nat_le (length (octets_with h question left)) 512 ≡ false
  too_long r more rest message e f =
      let all : left ≡ (f.sent ++ r ∷ []) ++ more = f.in_order ∙ ap (λ (rs : List Record). f.sent ++ rs) e ∙ sym (append_assoc f.sent (r ∷ []) more) in
      let over : 512 < length (octets_with h question (f.sent ++ r ∷ [])) = f.most r more e in
      let up : length (octets_with h question (f.sent ++ r ∷ [])) ≤ length (octets_with h question ((f.sent ++ r ∷ []) ++ more)) = longer base (f.sent ++ r ∷ []) more refl refl in
      let same : length (octets_with h question left) ≡ length (octets_with h question ((f.sent ++ r ∷ []) ++ more)) = ap (λ (rs : List Record). length (octets_with h question rs)) all in
      le_false (length (octets_with h question left)) 512 (omega (arith, over, up, same))

  -- the SOA alone does
  pub datagram_alone : (r : Record) (more rest : List Record) (message octets : List ℕ) → rest ≡ r ∷ more → IsFilled base 512 left message rest → octets ≡ octets_with h question (soa ∷ []) → length octets ≤ 512 → octets ≡ datagram_of h question left soa
  unfolding chosen
  datagram_alone r more rest message octets e f is fits =
      is ∙ sym (datagram_is false true (too_long r more rest message e f) (le_true (length (octets_with h question (soa ∷ []))) 512 (omega (arith, fits, ap length is))))

  -- neither does
  pub datagram_none : (r : Record) (more rest : List Record) (message octets : List ℕ) → rest ≡ r ∷ more → IsFilled base 512 left message rest → 512 < length (octets_with h question (soa ∷ [])) → octets ≡ text (record base { tc = true }) → octets ≡ datagram_of h question left soa
  unfolding chosen
  datagram_none r more rest message octets e f over is =
      is ∙ sym (datagram_is false false (too_long r more rest message e f) (le_false (length (octets_with h question (soa ∷ []))) 512 over))

-- by TCP
pub next_of : (h : Heading) (question : Option EchoedQuestion) (left rest : List Record) (message : List ℕ) → IsFilled (message_with h question []) 16384 left message rest → IsNextMessage h question left message rest
next_of h question left rest message f = record { sent = f.sent; in_order = f.in_order; packed = f.packed; fits = f.fits; most = f.most }
