-- Numbers, the data of a record, questions and records: the relation and the computed reading agree.
use Rattle.std.proofs.Common.{◌≡◌, ℕ, zero, suc, ◌+◌, ◌≤◌, Bool, true, false, List, [], length, Option, Some, None, refl, sym, ap, subst, ◌∙◌}
use Rattle.std.specs.Prelude.{nat_le, slice_range, MatchOption}
use Rattle.std.proofs.lemmas.Option.{none-some, some_pair_parts}
use Rattle.dns_names.specs.Name.{Labels}
use Rattle.dns_names.specs.Lower.{AreOctets}
use Rattle.dns_records.specs.Types.{Field, form}
use Rattle.dns_records.specs.Record.{number_of}
use Rattle.dns_wire.specs.Message.{Question, ResourceRecord}
use Rattle.dns_wire.specs.Reads.{NumberAt, FieldsAt, RDataAt, QuestionAt, ResourceRecordAt}
use Rattle.dns_wire.specs.Reading.{◌>>=◌, name_at, number_read_at, fields_at, rdata_at, question_at, question_behind, item_at, item_behind}
use Rattle.dns_wire.proofs.Binds.{bind_is, bind_some, passed, pass, le_true, true_le}
use Rattle.dns_wire.proofs.NameRead.{name_at_is}
use Rattle.dns_wire.proofs.NameStands.{name_at_stands}
use Rattle.dns_wire.proofs.PartsRead.{fields_are, fields_stand}
use Rattle.dns_records.specs.Laws.{form_last}

pub number_is : (m : List ℕ) (at size value : ℕ) → NumberAt m at size value → number_read_at size m at ≡ Some value
number_is m at size value h =
    pass (nat_le (at + size) (length m)) (number_of (slice_range m at (at + size))) (le_true (at + size) (length m) h.inside) ∙ ap (λ (n : ℕ). Some n) (sym h.read)

pub number_stands : (m : List ℕ) (at size value : ℕ) → number_read_at size m at ≡ Some value → NumberAt m at size value
number_stands m at size value e =
    let one = passed (nat_le (at + size) (length m)) (number_of (slice_range m at (at + size))) value e in
    record { inside = true_le (at + size) (length m) one.0; read = sym one.1 }

pub rdata_is : (m : List ℕ) (at rtype size : ℕ) (plain : List ℕ) → RDataAt m at rtype size plain → rdata_at rtype size m at ≡ Some plain
rdata_is m at rtype zero plain h = ap (λ (xs : List ℕ). Some xs) (sym h)
rdata_is m at rtype (suc n) plain (inside, h) = go (form rtype) refl h
  where
    go : (f : Option (List Field)) → form rtype ≡ f → MatchOption f (plain ≡ slice_range m at (at + suc n)) (λ fields. FieldsAt m at fields plain (at + suc n)) → rdata_at rtype (suc n) m at ≡ Some plain
    go None e k = rw (le_true (at + suc n) (length m) inside, e, rdata_at) (ap (λ (xs : List ℕ). Some xs) (sym k))
    go (Some fields) e k = rw (le_true (at + suc n) (length m) inside, e, rdata_at) (fields_are m at fields plain (at + suc n) (form_last rtype fields e) k)

pub rdata_stands : (m : List ℕ) (at rtype size : ℕ) (plain : List ℕ) → AreOctets m → rdata_at rtype size m at ≡ Some plain → RDataAt m at rtype size plain
rdata_stands m at rtype zero plain fits e = let same : Some [] ≡ Some plain = e in cc
rdata_stands m at rtype (suc n) plain fits e = go (nat_le (at + suc n) (length m)) refl (form rtype) refl
  where
    go : (b : Bool) → nat_le (at + suc n) (length m) ≡ b → (f : Option (List Field)) → form rtype ≡ f → RDataAt m at rtype (suc n) plain
    go false test f i =
        let none : rdata_at rtype (suc n) m at ≡ None = rw (test, rdata_at) refl in
        absurd (none-some plain (sym none ∙ e))
    go true test None i =
        let here : rdata_at rtype (suc n) m at ≡ Some (slice_range m at (at + suc n)) = rw (test, i, rdata_at) refl in
        let same : Some (slice_range m at (at + suc n)) ≡ Some plain = sym here ∙ e in
        let text : plain ≡ slice_range m at (at + suc n) = cc in
        (true_le (at + suc n) (length m) test, subst (λ (f : Option (List Field)). MatchOption f (plain ≡ slice_range m at (at + suc n)) (λ fields. FieldsAt m at fields plain (at + suc n))) (sym i) text)
    go true test (Some fields) i =
        let inside : at + suc n ≤ length m = true_le (at + suc n) (length m) test in
        let here : rdata_at rtype (suc n) m at ≡ fields_at fields (at + suc n) m at = rw (test, i, rdata_at) refl in
        let stand : FieldsAt m at fields plain (at + suc n) = fields_stand m at fields plain (at + suc n) fits (form_last rtype fields i) inside (sym here ∙ e) in
        (inside, subst (λ (f : Option (List Field)). MatchOption f (plain ≡ slice_range m at (at + suc n)) (λ fields. FieldsAt m at fields plain (at + suc n))) (sym i) stand)

pub question_is : (m : List ℕ) (at : ℕ) (q : Question) (stop : ℕ) → QuestionAt m at q stop → question_at m at ≡ Some (q, stop)
question_is m at q stop h =
    let one = number_is m h.mid 2 q.qtype h.qtype in
    let two = number_is m (h.mid + 2) 2 q.qclass h.qclass in
    let behind : question_behind m (q.name, h.mid) ≡ Some (q, h.mid + 4) =
    bind_is (number_read_at 2 m h.mid) (λ qtype. number_read_at 2 m (h.mid + 2) >>= λ qclass. Some (record { name = q.name; qtype = qtype; qclass = qclass }, h.mid + 4)) q.qtype (Some (q, h.mid + 4)) one
    (bind_is (number_read_at 2 m (h.mid + 2)) (λ qclass. Some (record { name = q.name; qtype = q.qtype; qclass = qclass }, h.mid + 4)) q.qclass (Some (q, h.mid + 4)) two refl) in
    bind_is (name_at m at) (question_behind m) (q.name, h.mid) (Some (q, stop)) (name_at_is m at q.name h.mid h.name) (behind ∙ ap (λ (k : ℕ). Some (q, k)) (sym h.last))

pub question_stands : (m : List ℕ) (at : ℕ) (q : Question) (stop : ℕ) → AreOctets m → question_at m at ≡ Some (q, stop) → QuestionAt m at q stop
question_stands m at q stop fits e =
    let n = bind_some (name_at m at) (question_behind m) (q, stop) e in
    let mid = n.value.1 in
    let t = bind_some (number_read_at 2 m mid) (λ qtype. number_read_at 2 m (mid + 2) >>= λ qclass. Some (record { name = n.value.0; qtype = qtype; qclass = qclass }, mid + 4)) (q, stop) n.then in
    let c = bind_some (number_read_at 2 m (mid + 2)) (λ qclass. Some (record { name = n.value.0; qtype = t.value; qclass = qclass }, mid + 4)) (q, stop) t.then in
    let made : Question = record { name = n.value.0; qtype = t.value; qclass = c.value } in
    let same = some_pair_parts made q (mid + 4) stop c.then in
    let stands : QuestionAt m at made (mid + 4) = record {
      mid = mid;
      name = name_at_stands m at n.value.0 mid fits n.is;
      qtype = number_stands m mid 2 t.value t.is;
      qclass = number_stands m (mid + 2) 2 c.value c.is;
      last = refl;
    } in
    subst (λ (x : Question). QuestionAt m at x stop) same.0 (subst (λ (k : ℕ). QuestionAt m at made k) same.1 stands)

-- the steps after an owner, one for each number
class_step : List ℕ → Labels → ℕ → ℕ → Option (ResourceRecord × ℕ)
class_step m owner mid rtype = number_read_at 2 m (mid + 2) >>= λ class. number_read_at 4 m (mid + 4) >>= λ ttl. number_read_at 2 m (mid + 8) >>= λ size. rdata_at rtype size m (mid + 10) >>= λ rdata. Some (record { owner = owner; rtype = rtype; class = class; ttl = ttl; rdata = rdata }, mid + 10 + size)

ttl_step : List ℕ → Labels → ℕ → ℕ → ℕ → Option (ResourceRecord × ℕ)
ttl_step m owner mid rtype class = number_read_at 4 m (mid + 4) >>= λ ttl. number_read_at 2 m (mid + 8) >>= λ size. rdata_at rtype size m (mid + 10) >>= λ rdata. Some (record { owner = owner; rtype = rtype; class = class; ttl = ttl; rdata = rdata }, mid + 10 + size)

size_step : List ℕ → Labels → ℕ → ℕ → ℕ → ℕ → Option (ResourceRecord × ℕ)
size_step m owner mid rtype class ttl = number_read_at 2 m (mid + 8) >>= λ size. rdata_at rtype size m (mid + 10) >>= λ rdata. Some (record { owner = owner; rtype = rtype; class = class; ttl = ttl; rdata = rdata }, mid + 10 + size)

rdata_step : List ℕ → Labels → ℕ → ℕ → ℕ → ℕ → ℕ → Option (ResourceRecord × ℕ)
rdata_step m owner mid rtype class ttl size = rdata_at rtype size m (mid + 10) >>= λ rdata. Some (record { owner = owner; rtype = rtype; class = class; ttl = ttl; rdata = rdata }, mid + 10 + size)

made_step : Labels → ℕ → ℕ → ℕ → ℕ → ℕ → List ℕ → Option (ResourceRecord × ℕ)
made_step owner mid rtype class ttl size rdata = Some (record { owner = owner; rtype = rtype; class = class; ttl = ttl; rdata = rdata }, mid + 10 + size)

pub item_is : (m : List ℕ) (at : ℕ) (r : ResourceRecord) (stop : ℕ) → ResourceRecordAt m at r stop → item_at m at ≡ Some (r, stop)
unfolding class_step ttl_step size_step rdata_step made_step
item_is m at r stop h =
    let y : Option (ResourceRecord × ℕ) = Some (r, h.mid + 10 + h.rdlength) in
    let five = bind_is (rdata_at r.rtype h.rdlength m (h.mid + 10)) (made_step r.owner h.mid r.rtype r.class r.ttl h.rdlength) r.rdata y (rdata_is m (h.mid + 10) r.rtype h.rdlength r.rdata h.rdata) refl in
    let four = bind_is (number_read_at 2 m (h.mid + 8)) (rdata_step m r.owner h.mid r.rtype r.class r.ttl) h.rdlength y (number_is m (h.mid + 8) 2 h.rdlength h.counted) five in
    let three = bind_is (number_read_at 4 m (h.mid + 4)) (size_step m r.owner h.mid r.rtype r.class) r.ttl y (number_is m (h.mid + 4) 4 r.ttl h.ttl) four in
    let two = bind_is (number_read_at 2 m (h.mid + 2)) (ttl_step m r.owner h.mid r.rtype) r.class y (number_is m (h.mid + 2) 2 r.class h.class) three in
    let one = bind_is (number_read_at 2 m h.mid) (class_step m r.owner h.mid) r.rtype y (number_is m h.mid 2 r.rtype h.rtype) two in
    bind_is (name_at m at) (item_behind m) (r.owner, h.mid) (Some (r, stop)) (name_at_is m at r.owner h.mid h.owner) (one ∙ ap (λ (k : ℕ). Some (r, k)) (sym h.last))

pub item_stands : (m : List ℕ) (at : ℕ) (r : ResourceRecord) (stop : ℕ) → AreOctets m → item_at m at ≡ Some (r, stop) → ResourceRecordAt m at r stop
unfolding class_step ttl_step size_step rdata_step made_step
item_stands m at r stop fits e =
    let y : ResourceRecord × ℕ = (r, stop) in
    let n = bind_some (name_at m at) (item_behind m) y e in
    let owner = n.value.0 in
    let mid = n.value.1 in
    let one = bind_some (number_read_at 2 m mid) (class_step m owner mid) y n.then in
    let two = bind_some (number_read_at 2 m (mid + 2)) (ttl_step m owner mid one.value) y one.then in
    let three = bind_some (number_read_at 4 m (mid + 4)) (size_step m owner mid one.value two.value) y two.then in
    let four = bind_some (number_read_at 2 m (mid + 8)) (rdata_step m owner mid one.value two.value three.value) y three.then in
    let five = bind_some (rdata_at one.value four.value m (mid + 10)) (made_step owner mid one.value two.value three.value four.value) y four.then in
    let made : ResourceRecord = record { owner = owner; rtype = one.value; class = two.value; ttl = three.value; rdata = five.value } in
    let same = some_pair_parts made r (mid + 10 + four.value) stop five.then in
    let stands : ResourceRecordAt m at made (mid + 10 + four.value) = record {
      mid = mid;
      rdlength = four.value;
      owner = name_at_stands m at owner mid fits n.is;
      rtype = number_stands m mid 2 one.value one.is;
      class = number_stands m (mid + 2) 2 two.value two.is;
      ttl = number_stands m (mid + 4) 4 three.value three.is;
      counted = number_stands m (mid + 8) 2 four.value four.is;
      rdata = rdata_stands m (mid + 10) one.value four.value five.value fits five.is;
      last = refl;
    } in
    subst (λ (x : ResourceRecord). ResourceRecordAt m at x stop) same.0 (subst (λ (k : ℕ). ResourceRecordAt m at made k) same.1 stands)
