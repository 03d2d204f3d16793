-- What a message that was read shows of itself.
use Rattle.std.proofs.Common.{◌≡◌, ℕ, ◌+◌, ◌-◌, ◌≤◌, List, [], ◌∷◌, length, Option, refl, sym, ap, subst, ◌∙◌, arith}
use Rattle.std.specs.Prelude.{unwrap_or, slice_range}
use Rattle.std.proofs.lemmas.List.{append-nil, length-take, length-drop}
use Rattle.dns_names.specs.Name.{Labels, wire}
use Rattle.dns_records.specs.Record.{number_of}
use Rattle.dns_wire.specs.Message.{Question, Message, Received, empty_message}
use Rattle.dns_wire.specs.NameAt.{NameAt, ends, points, FullNameAt}
use Rattle.dns_wire.specs.NameLaws.{length-wire}
use Rattle.dns_wire.specs.Reads.{NumberAt, QuestionsAt, Reads}
use Rattle.dns_wire.specs.Received.{received, AreSections}
use Rattle.dns_wire.specs.Viewed.{labels_at, IsViewed, question_shown, IsQuestionShown}
use Rattle.dns_wire.proofs.Ends.{name_inside, number_once}
use Rattle.dns_wire.proofs.NameRead.{viewed}
use Rattle.dns_wire.proofs.PartsRead.{name_up}
use Rattle.dns_wire.proofs.Whole.{message_is}

pub received_is : (m : List ℕ) (x : Message) → Reads m x → x ≡ (received m).message
unfolding received
received_is m x h = sym (ap (λ (o : Option Message). unwrap_or o empty_message) (message_is m x h))

pub sections_received : (m : List ℕ) (x : Message) (i j k : ℕ) → AreSections m x i j k → AreSections m (received m).message i j k
sections_received m x i j k h = subst (λ (y : Message). AreSections m y i j k) (received_is m x h.stands) h

pub octets_of : (m : List ℕ) (r : Received) → received m ≡ r → m ≡ r.octets
unfolding received
octets_of m r e = ap (λ (x : Received). x.octets) e

pub reads_of : (m : List ℕ) (r : Received) → received m ≡ r → Reads m (received m).message → Reads r.octets r.message
unfolding received
reads_of m r e h = subst (λ (x : Received). Reads x.octets x.message) e h

pub questions_of_message : (m : List ℕ) (r : Received) → received m ≡ r → (received m).message.questions ≡ r.message.questions
questions_of_message m r e = ap (λ (x : Received). x.message.questions) e

-- questions are within the octets
pub questions_within : (m : List ℕ) (at : ℕ) (qs : List Question) (stop : ℕ) → at ≤ length m → QuestionsAt m at qs stop → (at ≤ stop) × (stop ≤ length m)
questions_within m at [] stop here e = (omega arith, omega arith)
questions_within m at (q ∷ qs) stop here (mid, first, behind) =
    let up = name_up first.name.stands in
    let inside : first.mid + 2 + 2 ≤ length m = first.qclass.inside in
    let last : mid ≡ first.mid + 4 = first.last in
    let rest = questions_within m mid qs stop (omega (arith, inside, last)) behind in
    (omega (arith, up, last, rest.0), rest.1)

-- one question, and what it shows
pub record OneQuestion (m : List ℕ) (q : Question) (stop : ℕ) : Type 0 where
  pub room : 4 ≤ stop
  pub shown : IsQuestionShown m 12 (stop - 4)
  pub is : question_shown m 12 (stop - 4) ≡ q

pub one_question : (m : List ℕ) (q : Question) (stop : ℕ) → QuestionsAt m 12 (q ∷ []) stop → OneQuestion m q stop
one_question m q stop (mid, first, e) =
    let last : mid ≡ first.mid + 4 = first.last in
    let position : first.mid ≡ stop - 4 = omega (arith, last, e) in
    let inside : first.mid + 2 + 2 ≤ length m = first.qclass.inside in
    let one : question_shown m 12 first.mid ≡ q =
    ap (λ (n : Labels). record { name = n; qtype = number_of (slice_range m first.mid (first.mid + 2)); qclass = number_of (slice_range m (first.mid + 2) (first.mid + 2 + 2)) }) (viewed m 12 q.name first.mid first.name)
    ∙ ap (λ (t : ℕ). record { name = q.name; qtype = t; qclass = number_of (slice_range m (first.mid + 2) (first.mid + 2 + 2)) }) (sym first.qtype.read)
    ∙ ap (λ (c : ℕ). record { name = q.name; qtype = q.qtype; qclass = c }) (sym first.qclass.read) in
    record {
      room = omega (arith, last, e);
      shown = subst (λ (k : ℕ). IsQuestionShown m 12 k) position (record { name = q.name; stands = first.name; inside = omega arith });
      is = subst (λ (k : ℕ). question_shown m 12 k ≡ q) position one;
    }

pub only_of : (qs : List Question) → length qs ≡ 1 → (q : Question) × (qs ≡ q ∷ [])
only_of [] e = absurd (omega (arith, e))
only_of (q ∷ []) e = (q, refl)
only_of (q ∷ r ∷ rest) e = absurd (omega (arith, e))

-- no pointer occurs in a name right after the header
pub first_name : {m : List ℕ} {name : Labels} {end : ℕ} → NameAt m 12 name end → end ≡ 12 + length (wire name)
first_name {m = m} {name = name} (ends stop h z e) =
    let size : 12 + length (wire name) ≡ stop + 1 = subst (λ (x : Labels). 12 + length (wire x) ≡ stop + 1) (append-nil name) (length-wire m 12 name stop [] h) in
    omega (arith, size, e)
first_name (points labels rest stop target after h p far back inner is e) = absurd (omega arith)

pub one_question_size : (m : List ℕ) (q : Question) (stop : ℕ) → QuestionsAt m 12 (q ∷ []) stop → stop ≡ 12 + (length (wire q.name) + 4)
one_question_size m q stop (mid, first, e) =
    let last : mid ≡ first.mid + 4 = first.last in
    let size = first_name first.name.stands in
    omega (arith, last, e, size)

-- the questions of a message
pub asked : (m : List ℕ) (x : Message) (i j k n : ℕ) → AreSections m x i j k → NumberAt m 4 2 n → n ≡ 1 → (q : Question) × (x.questions ≡ q ∷ []) × OneQuestion m q i
asked m x i j k n h c e =
    let count : length x.questions ≡ n = number_once m 4 2 (length x.questions) n h.stands.qdcount c in
    let one = only_of x.questions (count ∙ e) in
    (one.0, one.1, one_question m one.0 i (subst (λ (qs : List Question). QuestionsAt m 12 qs i) one.1 h.questions))

-- a view's name is there
pub record NameShown (m : List ℕ) (at : ℕ) : Type 0 where
  pub end : ℕ
  pub stands : FullNameAt m at (labels_at m at) end
  pub inside : at ≤ length m

pub name_viewed : (m : List ℕ) (at : ℕ) → IsViewed m at → NameShown m at
name_viewed m at h =
    let up = name_up h.stands.stands in
    let inside = name_inside h.stands.stands in
    record {
      end = h.end;
      stands = subst (λ (n : Labels). FullNameAt m at n h.end) (sym (viewed m at h.name h.end h.stands)) h.stands;
      inside = omega (arith, up, inside);
    }

-- the octets of the questions
pub record Behind (m : List ℕ) (stop : ℕ) : Type 0 where
  pub up : 12 ≤ stop
  pub inside : stop ≤ length m
  pub ends : stop ≡ 12 + length (slice_range m 12 stop)

pub behind_header : (m : List ℕ) (x : Message) (i j k : ℕ) → AreSections m x i j k → Behind m i
behind_header m x i j k h =
    let room : 10 + 2 ≤ length m = h.stands.arcount.inside in
    let all = questions_within m 12 x.questions i (omega (arith, room)) h.questions in
    let size : length (slice_range m 12 i) ≡ i - 12 = simp (length-take, length-drop) (omega (arith, all.0, all.1)) in
    record { up = all.0; inside = all.1; ends = omega (arith, size, all.0) }
