-- A message with another third octet is the same but for its header.
use Rattle.std.proofs.Common.{◌≡◌, ℕ, zero, suc, ◌+◌, ◌≤◌, List, [], ◌∷◌, length, map, refl, sym, ap, subst, ◌∙◌, arith}
use Rattle.std.specs.Prelude.{slice_get, slice_range}
use Rattle.std.specs.Char.{to_ascii_lowercase}
use Rattle.std.specs.List.{AllByRecursion}
use Rattle.dns_names.specs.Name.{Labels}
use Rattle.dns_names.specs.Octets.{LabelAt, LabelsAt}
use Rattle.dns_names.specs.Runs.{run_up}
use Rattle.dns_records.specs.Types.{Value, U32, Values, Name, type_soa}
use Rattle.dns_records.specs.Record.{number_of}
use Rattle.dns_wire.specs.Message.{Question, ResourceRecord, Message, header_of}
use Rattle.dns_wire.specs.NameAt.{IsPointer, NameAt, ends, points, FullNameAt}
use Rattle.dns_wire.specs.Reads.{NumberAt, FieldAt, FieldsAt, RDataAt, QuestionAt, QuestionsAt, ResourceRecordAt, ResourceRecordsAt, Reads}

name_up : (m : List ℕ) (at : ℕ) (name : Labels) (end : ℕ) → NameAt m at name end → at ≤ end
name_up m at name end (ends stop h z e) = let up : at ≤ stop = run_up m at name stop h in omega arith
name_up m at name end (points labels rest stop target after h p low back inner is e) =
    let up : at ≤ stop = run_up m at labels stop h in omega arith

module _ (a b c d : ℕ) (r : List ℕ) where
  same_get : (k : ℕ) → 3 ≤ k → slice_get (a ∷ b ∷ c ∷ r) k ≡ slice_get (a ∷ b ∷ d ∷ r) k
  same_get zero h = absurd (omega arith)
  same_get (suc zero) h = absurd (omega arith)
  same_get (suc (suc zero)) h = absurd (omega arith)
  same_get (suc (suc (suc k))) h = refl

  same_range : (i j : ℕ) → 3 ≤ i → slice_range (a ∷ b ∷ c ∷ r) i j ≡ slice_range (a ∷ b ∷ d ∷ r) i j
  same_range zero j h = absurd (omega arith)
  same_range (suc zero) j h = absurd (omega arith)
  same_range (suc (suc zero)) j h = absurd (omega arith)
  same_range (suc (suc (suc i))) j h = refl

  label_on : (at : ℕ) (l : List ℕ) → 3 ≤ at → LabelAt (a ∷ b ∷ c ∷ r) at l → LabelAt (a ∷ b ∷ d ∷ r) at l
  label_on at l far h = record {
    some = h.some;
    short = h.short;
    counted = sym (same_get at far) ∙ h.counted;
    inside = h.inside;
    read = h.read ∙ ap (map to_ascii_lowercase) (same_range (at + 1) (at + 1 + length l) (omega arith));
  }

  labels_on : (at : ℕ) (ls : Labels) (stop : ℕ) → 3 ≤ at → LabelsAt (a ∷ b ∷ c ∷ r) at ls stop → LabelsAt (a ∷ b ∷ d ∷ r) at ls stop
  labels_on at [] stop far h = h
  labels_on at (l ∷ ls) stop far h = (label_on at l far h.0, labels_on (at + 1 + length l) ls stop (omega arith) h.1)

  pointer_on : (at target : ℕ) → 3 ≤ at → IsPointer (a ∷ b ∷ c ∷ r) at target → IsPointer (a ∷ b ∷ d ∷ r) at target
  pointer_on at target far h = record {
    high = h.high;
    low = h.low;
    first = sym (same_get at far) ∙ h.first;
    second = sym (same_get (at + 1) (omega arith)) ∙ h.second;
    marked = h.marked;
    offset = h.offset;
  }

  name_on : (at : ℕ) (name : Labels) (end : ℕ) → 3 ≤ at → NameAt (a ∷ b ∷ c ∷ r) at name end → NameAt (a ∷ b ∷ d ∷ r) at name end
  name_on at name end far (ends stop h z e) =
      let up : at ≤ stop = run_up (a ∷ b ∷ c ∷ r) at name stop h in
      ends stop (labels_on at name stop far h) (sym (same_get stop (omega arith)) ∙ z) e
  name_on at name end far (points labels rest stop target after h p low back inner is e) =
      let up : at ≤ stop = run_up (a ∷ b ∷ c ∷ r) at labels stop h in
      points labels rest stop target after (labels_on at labels stop far h) (pointer_on stop target (omega arith) p) low back
      (name_on target rest after (omega arith) inner) is e

  full_on : (at : ℕ) (name : Labels) (end : ℕ) → 3 ≤ at → FullNameAt (a ∷ b ∷ c ∷ r) at name end → FullNameAt (a ∷ b ∷ d ∷ r) at name end
  full_on at name end far h = record { stands = name_on at name end far h.stands; valid = h.valid }

  number_on : (at size value : ℕ) → 3 ≤ at → NumberAt (a ∷ b ∷ c ∷ r) at size value → NumberAt (a ∷ b ∷ d ∷ r) at size value
  number_on at size value far h =
      record { inside = h.inside; read = h.read ∙ ap number_of (same_range at (at + size) far) }

  named_on : (at : ℕ) (plain : List ℕ) (stop : ℕ) → 3 ≤ at → FieldAt (a ∷ b ∷ c ∷ r) at Name plain stop
      → FieldAt (a ∷ b ∷ d ∷ r) at Name plain stop × (at ≤ stop)
  named_on at plain stop far h =
      ((h.0, full_on at h.0 stop far h.1, h.2), name_up (a ∷ b ∷ c ∷ r) at h.0 stop (h.1).stands)

  -- the data of a SOA
  soa_on : (at : ℕ) (vs : List Value) (plain : List ℕ) (stop : ℕ) → 3 ≤ at
      → FieldsAt (a ∷ b ∷ c ∷ r) at (Name ∷ Name ∷ Values vs ∷ []) plain stop
      → FieldsAt (a ∷ b ∷ d ∷ r) at (Name ∷ Name ∷ Values vs ∷ []) plain stop
  soa_on at vs plain stop far (one, more, mid, is, h, (one', more', mid', is', h', (one'', more'', mid'', is'', h'', last))) =
      let n = named_on at one mid far h in
      let up : at ≤ mid = n.1 in
      let m = named_on mid one' mid' (omega arith) h' in
      let up' : mid ≤ mid' = m.1 in (
        one,
        more,
        mid,
        is,
        n.0,
        (
          one',
          more',
          mid',
          is',
          m.0,
          (
            one'',
            more'',
            mid'',
            is'',
            (h''.0, h''.1, h''.2 ∙ same_range mid' mid'' (omega arith)),
            last,
          ),
        ),
      )

  rdata_on : (at rtype n : ℕ) (plain : List ℕ) → 3 ≤ at → rtype ≡ type_soa → RDataAt (a ∷ b ∷ c ∷ r) at rtype n plain → RDataAt (a ∷ b ∷ d ∷ r) at rtype n plain
  rdata_on at rtype zero plain far soa h = h
  rdata_on at rtype (suc n) plain far soa h =
      let there = subst (λ t. RDataAt (a ∷ b ∷ c ∷ r) at t (suc n) plain) soa h in
      subst (λ t. RDataAt (a ∷ b ∷ d ∷ r) at t (suc n) plain) (sym soa) (there.0, soa_on at (U32 ∷ U32 ∷ U32 ∷ U32 ∷ U32 ∷ []) plain (at + suc n) far there.1)

  question_on : (at : ℕ) (q : Question) (stop : ℕ) → 3 ≤ at → QuestionAt (a ∷ b ∷ c ∷ r) at q stop → QuestionAt (a ∷ b ∷ d ∷ r) at q stop × (at ≤ stop)
  question_on at q stop far h =
      let up : at ≤ h.mid = name_up (a ∷ b ∷ c ∷ r) at q.name h.mid (h.name).stands in
      let last : stop ≡ h.mid + 4 = h.last in (
        record {
          mid = h.mid;
          name = full_on at q.name h.mid far h.name;
          qtype = number_on h.mid 2 q.qtype (omega arith) h.qtype;
          qclass = number_on (h.mid + 2) 2 q.qclass (omega arith) h.qclass;
          last = h.last;
        },
        omega arith,
      )

  record_on : (at : ℕ) (i : ResourceRecord) (stop : ℕ) → 3 ≤ at → i.rtype ≡ type_soa → ResourceRecordAt (a ∷ b ∷ c ∷ r) at i stop
      → ResourceRecordAt (a ∷ b ∷ d ∷ r) at i stop × (at ≤ stop)
  record_on at i stop far soa h =
      let up : at ≤ h.mid = name_up (a ∷ b ∷ c ∷ r) at i.owner h.mid (h.owner).stands in
      let last : stop ≡ h.mid + 10 + h.rdlength = h.last in (
        record {
          mid = h.mid;
          rdlength = h.rdlength;
          owner = full_on at i.owner h.mid far h.owner;
          rtype = number_on h.mid 2 i.rtype (omega arith) h.rtype;
          class = number_on (h.mid + 2) 2 i.class (omega arith) h.class;
          ttl = number_on (h.mid + 4) 4 i.ttl (omega arith) h.ttl;
          counted = number_on (h.mid + 8) 2 h.rdlength (omega arith) h.counted;
          rdata = rdata_on (h.mid + 10) i.rtype h.rdlength i.rdata (omega arith) soa h.rdata;
          last = h.last;
        },
        omega arith,
      )

  questions_on : (at : ℕ) (qs : List Question) (stop : ℕ) → 3 ≤ at → QuestionsAt (a ∷ b ∷ c ∷ r) at qs stop
      → QuestionsAt (a ∷ b ∷ d ∷ r) at qs stop × (at ≤ stop)
  questions_on at [] stop far h = (h, omega (arith, h))
  questions_on at (q ∷ qs) stop far h =
      let one = question_on at q h.0 far h.1 in
      let up : at ≤ h.0 = one.1 in
      let more = questions_on h.0 qs stop (omega arith) h.2 in
      let up' : h.0 ≤ stop = more.1 in
      ((h.0, one.0, more.0), omega arith)

  records_on : (at : ℕ) (is : List ResourceRecord) (stop : ℕ) → 3 ≤ at → AllByRecursion (λ i. i.rtype ≡ type_soa) is
      → ResourceRecordsAt (a ∷ b ∷ c ∷ r) at is stop
      → ResourceRecordsAt (a ∷ b ∷ d ∷ r) at is stop × (at ≤ stop)
  records_on at [] stop far soas h = (h, omega (arith, h))
  records_on at (i ∷ is) stop far soas h =
      let one = record_on at i h.0 far soas.0 h.1 in
      let up : at ≤ h.0 = one.1 in
      let more = records_on h.0 is stop (omega arith) soas.1 h.2 in
      let up' : h.0 ≤ stop = more.1 in
      ((h.0, one.0, more.0), omega arith)

  pub reads_on : (m : Message)
      → AllByRecursion (λ i. i.rtype ≡ type_soa) m.answers
      → AllByRecursion (λ i. i.rtype ≡ type_soa) m.authorities
      → AllByRecursion (λ i. i.rtype ≡ type_soa) m.additionals
      → Reads (a ∷ b ∷ c ∷ r) m
      → Reads (a ∷ b ∷ d ∷ r) (record m { header = header_of (a ∷ b ∷ d ∷ r) })
  reads_on m answers authorities additionals h =
      let q = questions_on 12 m.questions h.first (omega arith) h.questions in
      let up : 12 ≤ h.first = q.1 in
      let one = records_on h.first m.answers h.second (omega arith) answers h.answers in
      let up' : h.first ≤ h.second = one.1 in
      let two = records_on h.second m.authorities h.third (omega arith) authorities h.authorities in
      let up'' : h.second ≤ h.third = two.1 in
      record {
        header = refl;
        qdcount = number_on 4 2 (length m.questions) (omega arith) h.qdcount;
        ancount = number_on 6 2 (length m.answers) (omega arith) h.ancount;
        nscount = number_on 8 2 (length m.authorities) (omega arith) h.nscount;
        arcount = number_on 10 2 (length m.additionals) (omega arith) h.arcount;
        first = h.first;
        second = h.second;
        third = h.third;
        questions = q.0;
        answers = one.0;
        authorities = two.0;
        additionals = (records_on h.third m.additionals (length (a ∷ b ∷ c ∷ r)) (omega arith) additionals h.additionals).0;
      }
