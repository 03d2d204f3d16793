-- The computed text of a reply reads as the reply.
use Rattle.std.proofs.Common.{◌≡◌, ℕ, ◌+◌, ◌-◌, ◌/◌, ◌%◌, ◌<◌, ◌≤◌, ◌^◌, Bool, true, false, List, [], ◌∷◌, ◌++◌, length, map, take, drop, Option, Some, None, refl, sym, ap, subst, ◌∙◌, arith, append_assoc, take-append-drop}
use Rattle.std.specs.Prelude.{IfSome, nat_lt, slice_get, slice_range}
use Rattle.std.specs.Char.{to_ascii_lowercase}
use Rattle.std.specs.List.{AllByRecursion}
use Rattle.std.proofs.lemmas.List.{length-append, length-map, length-drop, length-take-le, drop_at, take-append-le, append-nil}
use Rattle.std.proofs.lemmas.Option.{none-some}
use Rattle.std.specs.Int.{w16, to_be_bytes}
use Rattle.dns_names.specs.Octets.{LabelsAt}
use Rattle.dns_names.specs.Runs.{run_up}
use Rattle.dns_names.specs.Name.{Labels, names_eq, wire}
use Rattle.dns_names.specs.PlainLaws.{Front, wire_stands}
use Rattle.dns_records.specs.Record.{Record, IsRecord, number_of}
use Rattle.dns_wire.specs.Message.{Header, bit, header_of}
use Rattle.dns_wire.specs.NameAt.{ends}
use Rattle.dns_wire.specs.Compress.{Place, place_of, new_places}
use Rattle.dns_wire.specs.Reads.{NumberAt, QuestionAt, QuestionsAt, ResourceRecordsAt, Reads}
use Rattle.dns_wire.specs.Text.{EchoedQuestion, Reply, header_octets, question_octets, question_places, text}
use Rattle.dns_wire.specs.Valid.{IsEchoed, IsReply, item_of, question_of, questions_of, message_of_reply}
use Rattle.dns_wire.proofs.NamesBack.{Readable, readable_none, readable_more, ReadAt}
use Rattle.dns_wire.proofs.NumbersBack.{flags, two_back, qr_back, opcode_back, aa_back, tc_back, rd_back}
use Rattle.dns_wire.proofs.RecordsBack.{number_done, all_back}
use Rattle.dns_wire.proofs.TextCompressed.{Rest, piece, rest_as}
use Rattle.dns_wire.proofs.TextPut.{first_all, second_all, third_all, text_is, text_size}
use Rattle.dns_wire.proofs.Places.{names_same}

both_of : (P : Record → Type 0) (a b : List Record) → AllByRecursion P (a ++ b) → AllByRecursion P a × AllByRecursion P b
both_of P [] b h = (tt, h)
both_of P (x ∷ a) b h = let rest = both_of P a b h.1 in ((h.0, rest.0), rest.1)

abbrev made : ℕ → Bool → ℕ → Bool → Bool → Bool → ℕ → Header
made id qr opcode aa tc rd rcode = record { id = id; qr = qr; opcode = opcode; aa = aa; tc = tc; rd = rd; rcode = rcode }

-- the header
header_back : (r : Reply) → IsReply r → header_of (text r) ≡ (message_of_reply r).header
header_back r h =
    let f = flags r.opcode r.aa r.tc r.rd in
    let code : r.rcode % 16 ≡ r.rcode = (let low : r.rcode < 16 = h.rcode in omega arith) in
    ap (λ (x : ℕ). made x (bit f 7) (f / 8 % 16) (bit f 2) (bit f 1) (bit f 0) (r.rcode % 16)) (two_back r.id h.id)
    ∙ ap (λ (x : Bool). made r.id x (f / 8 % 16) (bit f 2) (bit f 1) (bit f 0) (r.rcode % 16)) (qr_back r.opcode r.aa r.tc r.rd h.opcode)
    ∙ ap (λ (x : ℕ). made r.id true x (bit f 2) (bit f 1) (bit f 0) (r.rcode % 16)) (opcode_back r.opcode r.aa r.tc r.rd h.opcode)
    ∙ ap (λ (x : Bool). made r.id true r.opcode x (bit f 1) (bit f 0) (r.rcode % 16)) (aa_back r.opcode r.aa r.tc r.rd h.opcode)
    ∙ ap (λ (x : Bool). made r.id true r.opcode r.aa x (bit f 0) (r.rcode % 16)) (tc_back r.opcode r.aa r.tc r.rd h.opcode)
    ∙ ap (λ (x : Bool). made r.id true r.opcode r.aa r.tc x (r.rcode % 16)) (rd_back r.opcode r.aa r.tc r.rd h.opcode)
    ∙ ap (λ (x : ℕ). made r.id true r.opcode r.aa r.tc r.rd x) code

-- a number of two octets within others
slice_within : (text : List ℕ) (at : ℕ) (octets back : List ℕ) (i : ℕ) → i + 2 ≤ length octets → Rest text at (octets ++ back) → NumberAt text (at + i) 2 (number_of (slice_range octets i (i + 2)))
slice_within text at octets back i inside h =
    let k = i + 2 - i in
    let front = take i octets in
    let one = take k (drop i octets) in
    let rest = drop k (drop i octets) in
    let parts : octets ++ back ≡ front ++ (one ++ (rest ++ back)) =
    ap (λ (xs : List ℕ). xs ++ back) (sym (take-append-drop i octets)) ∙ ap (λ (xs : List ℕ). (front ++ xs) ++ back) (sym (take-append-drop k (drop i octets))) ∙ append_assoc front (one ++ rest) back ∙ ap (λ (xs : List ℕ). front ++ xs) (append_assoc one rest back) in
    let width : length front ≡ i = length-take-le i octets (omega arith) in
    let p = piece text at front (one ++ (rest ++ back)) (rest_as text at at (octets ++ back) (front ++ (one ++ (rest ++ back))) refl parts h) in
    let two : length one ≡ 2 = length-take-le k (drop i octets) (omega (arith, length-drop i octets)) ∙ (let same : k ≡ 2 = omega arith in same) in
    number_done text (at + i) 2 (number_of one) one (rest ++ back) two refl (rest_as text (at + length front) (at + i) (one ++ (rest ++ back)) (one ++ (rest ++ back)) (ap (λ (x : ℕ). at + x) width) refl p.behind)

-- the name of a question is in full
asked_name : (text : List ℕ) (e : EchoedQuestion) (back : List ℕ) → IsEchoed e → Rest text 12 (e.octets ++ back) → Front text 12 (length (wire e.name)) e.name
asked_name text e back valid h =
    let n = length (wire e.name) in
    let size : length e.octets ≡ n + 4 = valid.size in
    let behind : drop 12 text ≡ e.octets ++ back = ap (drop 12) h.is ∙ drop_at h.front (e.octets ++ back) 12 h.size in
    let inside : n ≤ length e.octets = omega arith in
    let read : map to_ascii_lowercase (take n (drop 12 text)) ≡ wire e.name = ap (λ (xs : List ℕ). map to_ascii_lowercase (take n xs)) behind ∙ ap (map to_ascii_lowercase) (take-append-le n e.octets back inside) ∙ valid.name in
    wire_stands text 12 n e.name valid.valid.labels read (omega (arith, ap length behind, length-append e.octets back, inside))

question_back : (text : List ℕ) (e : EchoedQuestion) (back : List ℕ) → IsEchoed e → Rest text 12 (e.octets ++ back) → QuestionAt text 12 (question_of e) (12 + length e.octets)
question_back text e back valid h =
    let n = length (wire e.name) in
    let size : length e.octets ≡ n + 4 = valid.size in
    let f = asked_name text e back valid h in
    let four : n + 2 + 2 ≡ n + 4 = omega arith in
    let position : 12 + (n + 2) ≡ 12 + n + 2 = omega arith in
    let class = slice_within text 12 e.octets back (n + 2) (omega arith) h in
    record {
      mid = 12 + n;
      name = record { stands = ends f.stop f.stand f.root f.last; valid = valid.valid };
      qtype = slice_within text 12 e.octets back n (omega arith) h;
      qclass = subst (λ (k : ℕ). NumberAt text k 2 (number_of (slice_range e.octets (n + 2) (n + 4)))) position (subst (λ (k : ℕ). NumberAt text (12 + (n + 2)) 2 (number_of (slice_range e.octets (n + 2) k))) four class);
      last = omega arith;
    }

questions_back : (text : List ℕ) (q : Option EchoedQuestion) (octets back : List ℕ) → IfSome q IsEchoed → octets ≡ elim q [ None ↦ [] | Some e ↦ e.octets ] → Rest text 12 (octets ++ back) → QuestionsAt text 12 (questions_of q) (12 + length octets)
questions_back text None octets back valid e h = omega (arith, ap length e)
questions_back text (Some q) octets back valid e h =
    (12 + length octets, subst (λ (xs : List ℕ). QuestionAt text 12 (question_of q) (12 + length xs)) (sym e) (question_back text q back valid (rest_as text 12 12 (octets ++ back) (q.octets ++ back) refl (ap (λ (xs : List ℕ). xs ++ back) e) h)), refl)

-- the positions of a name that is in full
stood : (text : List ℕ) (at : ℕ) (name : Labels) (stop : ℕ) → LabelsAt text at name stop → slice_get text stop ≡ Some 0 → 12 ≤ at → (suffix : Labels) (p : Place) → place_of (new_places [] at name) suffix ≡ Some p → ReadAt text (stop + 1) p.offset suffix
stood text at [] stop h z far suffix p e = absurd (none-some p e)
stood text at (label ∷ rest) stop h z far suffix p e =
    go (nat_lt at 16384) refl (names_eq (label ∷ rest) suffix) refl (λ f. stood text (at + 1 + length label) rest stop h.1 z (omega arith) suffix p f)
  where
    go : (b : Bool) → nat_lt at 16384 ≡ b → (c : Bool) → names_eq (label ∷ rest) suffix ≡ c → (place_of (new_places [] (at + 1 + length label) rest) suffix ≡ Some p → ReadAt text (stop + 1) p.offset suffix) → ReadAt text (stop + 1) p.offset suffix
    go false lt c same behind = absurd (let none : place_of (new_places [] at (label ∷ rest)) suffix ≡ None = rw (lt, new_places) refl in none-some p (sym none ∙ e))
    go true lt true same behind =
        let here : Place = record { offset = at; suffix = label ∷ rest } in
        let some : place_of (new_places [] at (label ∷ rest)) suffix ≡ Some here = rw (lt, new_places, same) refl in
        let one : Some here ≡ Some p = sym some ∙ e in
        let is : here ≡ p = cc in
        let up = run_up text at (label ∷ rest) stop h in
        let read : ReadAt text (stop + 1) at (label ∷ rest) = record { far = far; back = omega (arith, up); end = stop + 1; stands = ends stop h z refl } in
        subst (λ (x : Labels). ReadAt text (stop + 1) p.offset x) (names_same (label ∷ rest) suffix same)
        (subst (λ (k : ℕ). ReadAt text (stop + 1) k (label ∷ rest)) (ap (λ (x : Place). x.offset) is) read)
    go true lt false same behind =
        let goes : place_of (new_places [] at (label ∷ rest)) suffix ≡ place_of (new_places [] (at + 1 + length label) rest) suffix = rw (lt, new_places, same) refl in
        behind (sym goes ∙ e)

places_back : (text : List ℕ) (q : Option EchoedQuestion) (octets back : List ℕ) → IfSome q IsEchoed → octets ≡ elim q [ None ↦ [] | Some e ↦ e.octets ] → Rest text 12 (octets ++ back) → Readable text (elim q [ None ↦ [] | Some e ↦ new_places [] 12 e.name ]) (12 + length octets)
places_back text None octets back valid e h = readable_none text (12 + length octets)
places_back text (Some q) octets back valid e h =
    let f = asked_name text q back valid (rest_as text 12 12 (octets ++ back) (q.octets ++ back) refl (ap (λ (xs : List ℕ). xs ++ back) e) h) in
    let size : length q.octets ≡ length (wire q.name) + 4 = valid.size in
    let last : 12 + length (wire q.name) ≡ f.stop + 1 = f.last in
    readable_more text (new_places [] 12 q.name) (f.stop + 1) (12 + length octets) (omega (arith, ap length e, last)) (record { reads = λ suffix p i. stood text 12 q.name f.stop f.stand f.root (omega arith) suffix p i })

one_question : (q : Option EchoedQuestion) → length (questions_of q) ≡ number_of (to_be_bytes w16 (elim q [ None ↦ 0 | Some e ↦ 1 ]))
one_question None = refl
one_question (Some e) = refl

counted : (text : List ℕ) (at : ℕ) (rs : List Record) → at + 2 ≤ length text → length rs < 2 ^ 16 → number_of (slice_range text at (at + 2)) ≡ number_of (to_be_bytes w16 (length rs)) → NumberAt text at 2 (length (map item_of rs))
counted text at rs inside small read = record { inside = inside; read = length-map rs item_of ∙ sym (two_back (length rs) small) ∙ sym read }

pub reads_back : (r : Reply) → IsReply r → Reads (text r) (message_of_reply r)
unfolding first_all second_all third_all
reads_back r valid =
    let head = header_octets r in
    let question = question_octets r in
    let a = first_all r in
    let b = second_all r in
    let c = third_all r in
    let n = 12 + length question in
    let two = both_of IsRecord (r.answer ++ r.authority) r.additional valid.records in
    let one = both_of IsRecord r.answer r.authority two.0 in
    let whole : text r ≡ head ++ (question ++ (a.octets ++ (b.octets ++ (c.octets ++ [])))) = text_is r ∙ grouped head question a.octets b.octets c.octets in
    let twelve : 0 + length head ≡ 12 = refl in
    let h0 : Rest (text r) 0 (head ++ (question ++ (a.octets ++ (b.octets ++ (c.octets ++ []))))) = record { front = []; is = whole; size = refl } in
    let h1 = rest_as (text r) (0 + length head) 12 (question ++ (a.octets ++ (b.octets ++ (c.octets ++ [])))) (question ++ (a.octets ++ (b.octets ++ (c.octets ++ [])))) twelve refl (piece (text r) 0 head (question ++ (a.octets ++ (b.octets ++ (c.octets ++ [])))) h0).behind in
    let h2 = (piece (text r) 12 question (a.octets ++ (b.octets ++ (c.octets ++ []))) h1).behind in
    let h3 = (piece (text r) n a.octets (b.octets ++ (c.octets ++ [])) h2).behind in
    let h4 = (piece (text r) (n + length a.octets) b.octets (c.octets ++ []) h3).behind in
    let h5 = (piece (text r) (n + length a.octets + length b.octets) c.octets [] h4).behind in
    let table = places_back (text r) r.question question (a.octets ++ (b.octets ++ (c.octets ++ []))) valid.question refl h1 in
    let answers = all_back (text r) (question_places r) n r.answer (b.octets ++ (c.octets ++ [])) one.0 table (omega arith) h2 in
    let authorities = all_back (text r) a.places (n + length a.octets) r.authority (c.octets ++ []) one.1 answers.table (omega arith) h3 in
    let additionals = all_back (text r) b.places (n + length a.octets + length b.octets) r.additional [] two.1 authorities.table (omega arith) h4 in
    let last : n + length a.octets + length b.octets + length c.octets ≡ length (text r) = omega (arith, h5.size, ap length h5.is, length-append h5.front []) in
    let size = text_size r in
    let room : 12 ≤ length (text r) = omega (arith, size) in
    record {
      header = sym (header_back r valid);
      qdcount = record { inside = omega arith; read = one_question r.question };
      ancount = counted (text r) 6 r.answer (omega arith) valid.answer refl;
      nscount = counted (text r) 8 r.authority (omega arith) valid.authority refl;
      arcount = counted (text r) 10 r.additional (omega arith) valid.additional refl;
      first = n;
      second = n + length a.octets;
      third = n + length a.octets + length b.octets;
      questions = questions_back (text r) r.question question (a.octets ++ (b.octets ++ (c.octets ++ []))) valid.question refl h1;
      answers = answers.stand;
      authorities = authorities.stand;
      additionals = subst (λ (k : ℕ). ResourceRecordsAt (text r) (n + length a.octets + length b.octets) (map item_of r.additional) k) last additionals.stand;
    }
  where
    grouped : (h q a b c : List ℕ) → (h ++ q) ++ ((a ++ b) ++ c) ≡ h ++ (q ++ (a ++ (b ++ (c ++ []))))
    grouped h q a b c = simp (append_assoc, append-nil)
