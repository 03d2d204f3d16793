-- The messages of a transfer, fed one after the other.
use Rattle.std.proofs.Common.{◌≡◌, ℕ, ◌^◌, ◌<◌, ◌≤◌, inl, inr, Bool, true, false, not, ◌&&◌, List, [], ◌∷◌, ◌++◌, length, map, Option, Some, None, refl, sym, ap, subst, ◌∙◌, arith, append-nil, append_assoc}
use Rattle.std.specs.Prelude.{◌↔◌, ◌⊎◌, ◌==◌, nat_le, IfSome, if◌then◌else◌}
use Rattle.std.proofs.lemmas.Bool.Decides.{nat_tests}
use Rattle.std.specs.List.{AllByRecursion}
use Rattle.dns_records.specs.Record.{Record, IsRecord, serial_of}
use Rattle.dns_zone.specs.Order.{names_itself, number_itself}
use Rattle.dns_zone.specs.Zone.{soas}
use Rattle.dns_changes.specs.Change.{Change}
use Rattle.dns_wire.specs.Message.{Message, Header, Question, ResourceRecord, header_of, record_of_item}
use Rattle.dns_wire.specs.Reads.{Reads}
use Rattle.dns_wire.specs.Text.{EchoedQuestion, Reply, text}
use Rattle.dns_wire.specs.Valid.{IsEchoed, IsReply, item_of, message_of_reply, question_of, questions_of}
use Rattle.dns_wire.proofs.ReadsBack.{reads_back}
use Rattle.dns_wire.proofs.TextPut.{text_long}
use Rattle.dns_wire.proofs.Whole.{message_unique}
use Rattle.dns_request.specs.declared.request.Transport.{Transport}
use Rattle.dns_request.specs.declared.request.Transport.TheVariants.{Udp, Tcp}
use Rattle.dns_transfer.specs.Form.{Form, Current, Incremental, Full, form_of}
use Rattle.dns_transfer.specs.Messages.{Heading, IsNextMessage, AreMessages, message_with, octets_with, datagram_of}
use Rattle.dns_transfer.specs.Records.{transfer_answer, transfer_from, transfer_of, all_but_soa, sequences}
use Rattle.dns_transfer.specs.Session.{Sending}
use Rattle.dns_secondary.specs.Receiving.{Receiving, header_fault, is_answer, repeats_question, type_asked}
use Rattle.dns_secondary.specs.Request.{question_asked}
use Rattle.dns_secondary.specs.Rest.{Rest, Reaches, is_current}
use Rattle.dns_secondary.specs.State.{State, Begun, Led}
use Rattle.dns_secondary.specs.Told.{Feeds, RefusesFeed, RefusesFrom, Fails, TellsProgress, holding}
use Rattle.dns_secondary.specs.declared.fault.Fault.{Fault}
use Rattle.dns_secondary.specs.declared.fault.Fault.TheVariants.{BadMessage, WrongId}
use Rattle.dns_secondary.specs.declared.fault.Progress.{Progress}
use Rattle.dns_secondary.specs.declared.fault.Progress.TheVariants.{More, Done, UpToDate, RetryTcp}
use Rattle.dns_secondary.proofs.Asked.{is_echoed, question_is, type_small}
use Rattle.dns_secondary.proofs.Forms.{goes_of, taken_rest}
use Rattle.dns_secondary.proofs.Mores.{held_of}
use Rattle.dns_secondary.proofs.Shapes.{led_at}
use Rattle.dns_secondary.proofs.Runs.{rest_of}
use Rattle.dns_theorem.specs.Copies.{AllTellMore, FollowsInOrder, IsFollowed, SendsAll, TransferIsFollowed, answer_for, serial_held}
use Rattle.dns_theorem.specs.Versions.{LeadTo}
use Rattle.dns_theorem.proofs.Forms.{Means, IsNewer, all_fit, back_again, is_good}
use Rattle.dns_theorem.proofs.Sessions.{IsOpenedFor, opened_for, sent_messages, only_sent}
use Rattle.dns_secondary.proofs.Ends.{rest_once}
use Rattle.dns_theorem.proofs.Prefixes.{only_current}

pub all_front : (xs ys : List Record) → AllByRecursion IsRecord (xs ++ ys) → AllByRecursion IsRecord xs × AllByRecursion IsRecord ys
all_front [] ys h = (tt, h)
all_front (x ∷ xs) ys h = (let rest = all_front xs ys h.1 in ((h.0, rest.0), rest.1))

items_joined : (xs ys : List Record) → map item_of (xs ++ ys) ≡ map item_of xs ++ map item_of ys
items_joined [] ys = refl
items_joined (x ∷ xs) ys = ap (λ (zs : List ResourceRecord). item_of x ∷ zs) (items_joined xs ys)

pub valid_reply : (h : Heading) (question : Option EchoedQuestion) (sent : List Record) → h.id < 2 ^ 16 → IfSome question IsEchoed
    → length (octets_with h question sent) ≤ 16384 → AllByRecursion IsRecord sent → IsReply (message_with h question sent)
valid_reply h question sent small echoed fits each =
    let long = text_long (message_with h question sent) in
    record {
      id = small;
      opcode = omega arith;
      rcode = omega arith;
      question = echoed;
      answer = omega (arith, long, fits);
      authority = omega arith;
      additional = omega arith;
      records = subst (AllByRecursion IsRecord) (sym (append-nil (sent ++ []) ∙ append-nil sent)) each;
    }

-- the question of the request
abbrev pub Asks : Receiving → Option EchoedQuestion → Type 0
Asks s question = IfSome question (λ e. question_of e ≡ question_asked s.apex s.held)

repeats : (s : Receiving) (question : Option EchoedQuestion) → Asks s question → repeats_question s.apex s.held (questions_of question) ≡ true
repeats s None h = refl
repeats s (Some e) h =
    ap (λ (q : Question). repeats_question s.apex s.held (q ∷ [])) h
    ∙ (λ i. names_itself s.apex i && number_itself (type_asked s.held) i && true)

no_fault : (a b : Bool) (x y : Fault) → a ≡ true → b ≡ true → (if not a then Some x else if not b then Some y else None) ≡ None
no_fault true true x y h k = refl
no_fault false b x y h k = absurd cc
no_fault true false x y h k = absurd cc

accepted : (s : Receiving) (h : Heading) (question : Option EchoedQuestion) (sent : List Record) → h.id ≡ s.id → Asks s question
    → header_fault s (message_of_reply (message_with h question sent)) ≡ None
accepted s h question sent id asks =
    let m = message_of_reply (message_with h question sent) in
    no_fault (is_answer s m) (h.id == s.id) BadMessage WrongId (repeats s question asks) (ap (λ n. n == s.id) id ∙ number_itself s.id)

-- how far a transfer was fed: the records that were, and those that are left
pub record Feeding (s : Receiving) (transport : Transport) (h : Heading) (question : Option EchoedQuestion) (whole left shown : List Record) : Type 0 where
  pub by : s.transport ≡ transport
  pub number : h.id ≡ s.id
  pub small : h.id < 2 ^ 16
  pub echoed : IfSome question IsEchoed
  pub asks : Asks s question
  pub means : Means s.apex s.held whole shown
  pub newer : IsNewer s.held whole
  pub each : AllByRecursion IsRecord whole
  pub done : List Record
  pub parts : whole ≡ done ++ left
  pub at : State
  pub is : s.state ≡ Some at
  pub reads : (more : List ResourceRecord) (set : List Record) → (Rest s.apex s.held Begun (map item_of done ++ more) set ↔ Rest s.apex s.held at more set)

-- one message of it
pub record Fed (s : Receiving) (message : List ℕ) (at : State) (sent : List Record) : Type 0 where
  pub refuses : (fault : Fault) → RefusesFeed s message fault → Fails s at (map item_of sent) fault
  pub tells : (progress : Progress) (next : Receiving) → Feeds s message progress next → TellsProgress s at (map item_of sent) progress next

some_is : (a b : State) → ◌≡◌ {A = Option State} (Some a) (Some b) → a ≡ b
some_is a b e = cc

-- octets that are a message of some records
pub record IsSent (h : Heading) (question : Option EchoedQuestion) (message : List ℕ) (sent : List Record) : Type 0 where
  pub packed : message ≡ octets_with h question sent
  pub fits : length message ≤ 16384

message_fed : (s : Receiving) (h : Heading) (question : Option EchoedQuestion) (message : List ℕ) (at : State) (sent : List Record)
    → s.state ≡ Some at → h.id ≡ s.id → h.id < 2 ^ 16 → IfSome question IsEchoed → Asks s question → AllByRecursion IsRecord sent
    → IsSent h question message sent → Fed s message at sent
message_fed s h question message at sent is id small echoed asks each n =
    let reply = message_with h question sent in
    let valid = valid_reply h question sent small echoed (subst (λ (t : List ℕ). length t ≤ 16384) n.packed n.fits) each in
    let reads : Reads message (message_of_reply reply) = subst (λ (t : List ℕ). Reads t (message_of_reply reply)) (sym n.packed) (reads_back reply valid) in
    let once : (m : Message) → Reads message m → m ≡ message_of_reply reply = λ m stands. message_unique message m (message_of_reply reply) stands reads in
    let heard = accepted s h question sent id asks in
    record {
      refuses = λ fault refused. elim (subst (λ (o : Option State). RefusesFrom s o message fault) is refused) [
        | inl wrong ↦ elim wrong [
          | inl none ↦ absurd (none.0 (message_of_reply reply) reads)
          | inr by ↦
              (let same = once by.0 by.1 in
              let fault_is = subst (λ (m : Message). header_fault s m ≡ Some fault) same by.2 in
              absurd cc)
        ]
        | inr by ↦ subst (λ (m : Message). Fails s at m.answers fault) (once by.0 by.1) by.3
      ];
      tells = λ progress next fed.
          (let same : fed.0 ≡ at = some_is fed.0 at (sym fed.1 ∙ is) in
          let hears = fed.2 in
          subst (λ (m : Message). TellsProgress s at m.answers progress next) (once hears.message hears.stands)
          (subst (λ (a : State). TellsProgress s a (hears.message).answers progress next) same hears.tells));
    }

no_message : (h : Heading) (messages : List (List ℕ)) → AreMessages h None [] messages → messages ≡ []
no_message h [] m = refl
no_message h (message ∷ messages) m = absurd (m.0 refl)

some_left : (h : Heading) (rest : List Record) (messages : List (List ℕ)) → messages ≡ [] → AreMessages h None rest messages → rest ≡ []
some_left h rest messages e m = subst (λ (ms : List (List ℕ)). AreMessages h None rest ms → rest ≡ []) (sym e) (λ k. k) m

-- one record alone
record IsSingle (xs : List Record) (x : ResourceRecord) : Type 0 where
  one : Record
  alone : xs ≡ one ∷ []
  is : item_of one ≡ x

single : (xs : List Record) (x : ResourceRecord) → map item_of xs ≡ x ∷ [] → IsSingle xs x
single [] x e = absurd cc
single (y ∷ []) x e = record { one = y; alone = refl; is = cc }
single (y ∷ z ∷ zs) x e = absurd cc

module _ (s : Receiving) (transport : Transport) (h : Heading) (question : Option EchoedQuestion) (whole left shown : List Record) (f : Feeding s transport h question whole left shown) where
  meaning : Rest s.apex s.held Begun (map item_of whole) shown
  meaning = taken_rest s.apex s.held (map item_of whole) shown
      (record { fit = all_fit whole f.each; form = subst (λ (xs : List Record). Means s.apex s.held xs shown) (sym (back_again whole)) f.means })

  rest_here : Rest s.apex s.held f.at (map item_of left) shown
  rest_here = (f.reads (map item_of left) shown).0
      (subst (λ (xs : List ResourceRecord). Rest s.apex s.held Begun xs shown) (ap (map item_of) f.parts ∙ items_joined f.done left) meaning)

  module _ (message : List ℕ) (pending : List (List ℕ)) (sent rest : List Record) (in_order : left ≡ sent ++ rest) (n : IsSent h question message sent) where
    fed : Fed s message f.at sent
    fed = message_fed s h question message f.at sent f.is f.number f.small f.echoed f.asks
        (all_front sent rest (subst (AllByRecursion IsRecord) in_order (all_front f.done left (subst (AllByRecursion IsRecord) f.parts f.each)).1)).0 n

    -- the records of this message and those after it
    rest_split : Rest s.apex s.held f.at (map item_of sent ++ map item_of rest) shown
    rest_split = subst (λ (xs : List ResourceRecord). Rest s.apex s.held f.at xs shown) (ap (map item_of) in_order ∙ items_joined sent rest) rest_here

    all_sent : rest ≡ [] → Rest s.apex s.held f.at (map item_of sent) shown
    all_sent e = subst (λ (xs : List ResourceRecord). Rest s.apex s.held f.at xs shown)
        (ap (λ (xs : List Record). map item_of sent ++ map item_of xs) e ∙ append-nil (map item_of sent)) rest_split

    -- nothing has a meaning but the whole
    not_before : (y : Record) (ys : List Record) (set : List Record) → rest ≡ y ∷ ys → Rest s.apex s.held f.at (map item_of sent) set → ⊥
    not_before y ys set e r =
        let so_far = f.done ++ sent in
        let split : whole ≡ so_far ++ (y ∷ ys) =
        f.parts ∙ ap (λ (xs : List Record). f.done ++ xs) (in_order ∙ ap (λ (xs : List Record). sent ++ xs) e) ∙ sym (append_assoc f.done sent (y ∷ ys)) in
        let items = items_joined f.done sent in
        let begun : Rest s.apex s.held Begun (map item_of so_far) set =
        subst (λ (xs : List ResourceRecord). Rest s.apex s.held Begun xs set) (sym items) ((f.reads (map item_of sent) set).1 r) in
        let all : Rest s.apex s.held Begun (map item_of so_far ++ item_of y ∷ map item_of ys) shown =
        subst (λ (xs : List ResourceRecord). Rest s.apex s.held Begun xs shown) (ap (map item_of) split ∙ items_joined so_far (y ∷ ys)) meaning in
        let one = only_current s.apex s.held (map item_of so_far) (item_of y) (map item_of ys) shown set all begun in
        let lone = single so_far one.x one.alone in
        let longer : whole ≡ lone.one ∷ y ∷ ys = split ∙ ap (λ (xs : List Record). xs ++ (y ∷ ys)) lone.alone in
        let older : is_current s.held lone.one ≡ false = subst (IsNewer s.held) longer f.newer in
        let current : is_current s.held lone.one ≡ true = subst (λ (i : ResourceRecord). is_current s.held (record_of_item i) ≡ true) (sym lone.is) one.current in
        absurd cc

    -- so what is told after a message with a meaning is told after the last
    at_the_end : (set : List Record) → Rest s.apex s.held f.at (map item_of sent) set → rest ≡ []
    at_the_end set r = go rest refl
      where
        go : (xs : List Record) → rest ≡ xs → rest ≡ []
        go [] e = e
        go (y ∷ ys) e = absurd (not_before y ys set e r)

    -- nothing is left to come
    pub never_more : rest ≡ [] → (next : Receiving) → Feeds s message More next → ⊥
    never_more ends next feeds = (let told = fed.tells More next feeds in told.5 shown (all_sent ends))

    pub follows : (rest ≡ [] → pending ≡ []) → ((next : Receiving) → Feeds s message More next → pending ≡ [] → ⊥) → (s.transport ≡ Udp → pending ≡ [])
        → FollowsInOrder s message pending shown
    follows last more alone = record {
      refused = λ fault refused. (fed.refuses fault refused).lost (map item_of rest) shown rest_split;
      more = more;
      done = λ next feeds.
          (let told = fed.tells Done next feeds in
          let ends = at_the_end told.0 told.1 in
          let is = rest_once s.apex s.held f.at (map item_of sent) told.0 shown told.1 (all_sent ends) in
          (last ends, told.3 ∙ ap (holding s) is));
      current = λ next feeds.
          (let told = fed.tells UpToDate next feeds in
          let h = held_of s.held told.0 told.2 in
          let of = rest_of s.apex s.held f.at (Led told.0) (map item_of sent) in
          let ends = at_the_end h.set ((of h.set told.1).1 (told.2, h.is)) in
          (last ends, ((of shown told.1).0 (all_sent ends)).1));
      again = λ next feeds. (let told = fed.tells RetryTcp next feeds in told.3);
      alone = alone;
    }

    -- after a message that goes on
    pub next_feeding : (next : Receiving) → Feeds s message More next → Feeding next transport h None whole rest shown
    next_feeding next feeds =
        let told = fed.tells More next feeds in
        subst (λ (r : Receiving). Feeding r transport h None whole rest shown) (sym told.3) (record {
          by = f.by;
          number = f.number;
          small = f.small;
          echoed = tt;
          asks = tt;
          means = f.means;
          newer = f.newer;
          each = f.each;
          done = f.done ++ sent;
          parts = f.parts ∙ ap (λ (xs : List Record). f.done ++ xs) in_order ∙ sym (append_assoc f.done sent rest);
          at = told.0;
          is = refl;
          reads = λ more set.
              (let joins : map item_of (f.done ++ sent) ++ more ≡ map item_of f.done ++ (map item_of sent ++ more) =
              ap (λ (xs : List ResourceRecord). xs ++ more) (items_joined f.done sent) ∙ append_assoc (map item_of f.done) (map item_of sent) more in
              let first = f.reads (map item_of sent ++ more) set in
              let second = told.4 more set in (
                λ r. second.0 (first.0 (subst (λ (xs : List ResourceRecord). Rest s.apex s.held Begun xs set) joins r)),
                λ r. subst (λ (xs : List ResourceRecord). Rest s.apex s.held Begun xs set) (sym joins) (first.1 (second.1 r)),
              ));
        })

sent_of : (h : Heading) (question : Option EchoedQuestion) (left : List Record) (message : List ℕ) (rest : List Record)
    → (n : IsNextMessage h question left message rest) → IsSent h question message n.sent
sent_of h question left message rest n = record { packed = n.packed; fits = n.fits }

not_udp : (s : Receiving) (pending : List (List ℕ)) → s.transport ≡ Tcp → s.transport ≡ Udp → pending ≡ []
not_udp s pending tcp udp = absurd cc

-- by UDP: the whole answer, or its SOA alone
leads_with : (soa : Record) (records : List Record) (form : Form) → (more : List Record) × (transfer_answer soa records form ≡ soa ∷ more)
leads_with soa records Current = ([], refl)
leads_with soa records (Incremental changes) = (sequences changes ++ soa ∷ [], refl)
leads_with soa records Full = (all_but_soa records ++ soa ∷ [], refl)

led_by : (shown : List Record) (kept : List Change) (client : Option ℕ) (soa : Record) → soas shown ≡ soa ∷ []
    → (more : List Record) × (transfer_of shown kept client ≡ soa ∷ more)
led_by shown kept client soa one =
    let l = leads_with soa shown (form_of (serial_of soa) kept client) in
    (l.0, ap (λ (xs : List Record). transfer_from xs shown kept client) one ∙ l.1)

not_cut_off : (h : Heading) (question : Option EchoedQuestion) → h.id < 2 ^ 16 → IfSome question IsEchoed
    → (header_of (text (record (message_with h question []) { tc = true }))).tc ≡ true
not_cut_off h question small echoed =
    let reply : Reply = record (message_with h question []) { tc = true } in
    let reads = reads_back reply (record {
      id = small;
      opcode = omega arith;
      rcode = omega arith;
      question = echoed;
      answer = omega arith;
      authority = omega arith;
      additional = omega arith;
      records = tt;
    }) in
    sym (ap (λ (m : Header). m.tc) reads.header)

fits_in : (n : ℕ) → nat_le n 512 ≡ true → n ≤ 16384
fits_in n e = grind (arith, nat_tests)

abbrev IsEither : Heading → Option EchoedQuestion → List Record → Record → List ℕ → Type 0
IsEither h question whole soa message = IsSent h question message whole ⊎ IsSent h question message (soa ∷ [])

which : (h : Heading) (question : Option EchoedQuestion) (whole : List Record) (soa : Record) (message : List ℕ) → h.id < 2 ^ 16 → IfSome question IsEchoed
    → message ≡ datagram_of h question whole soa → (header_of message).tc ≡ false → IsEither h question whole soa message
which h question whole soa message small echoed is tc =
    at (nat_le (length (octets_with h question whole)) 512) (nat_le (length (octets_with h question (soa ∷ []))) 512) refl refl is
  where
    sent : (records : List Record) → nat_le (length (octets_with h question records)) 512 ≡ true → message ≡ octets_with h question records
        → IsSent h question message records
    sent records fits e = record {
      packed = e;
      fits = subst (λ (t : List ℕ). length t ≤ 16384) (sym e) (fits_in (length (octets_with h question records)) fits);
    }

    at : (a b : Bool) → nat_le (length (octets_with h question whole)) 512 ≡ a → nat_le (length (octets_with h question (soa ∷ []))) 512 ≡ b
        → message ≡ elim a [
          | true ↦ octets_with h question whole
          | false ↦ elim b [ true ↦ octets_with h question (soa ∷ []) | false ↦ text (record (message_with h question []) { tc = true }) ]
        ]
        → IsEither h question whole soa message
    at true b fits other e = inl (sent whole fits e)
    at false true more fits e = inr (sent (soa ∷ []) fits e)
    at false false more longer e =
        let cut : (header_of message).tc ≡ true = ap (λ (t : List ℕ). (header_of t).tc) e ∙ not_cut_off h question small echoed in
        absurd cc

module _ (s : Receiving) (h : Heading) (question : Option EchoedQuestion) (whole shown : List Record) (soa : Record) (message : List ℕ)
    (pending : List (List ℕ)) (f : Feeding s Udp h question whole whole shown) (last : pending ≡ []) where
  whole_followed : IsSent h question message whole → FollowsInOrder s message pending shown
  whole_followed n =
      follows s Udp h question whole whole shown f message pending whole [] (sym (append-nil whole)) n (λ e. last)
      (λ next feeds ends. never_more s Udp h question whole whole shown f message pending whole [] (sym (append-nil whole)) n refl next feeds) (λ udp. last)

  -- by UDP a SOA alone is not the beginning of more
  lone_followed : (more : List Record) → f.at ≡ Begun → whole ≡ soa ∷ more → IsSent h question message (soa ∷ []) → FollowsInOrder s message pending shown
  lone_followed more begun starts n =
      follows s Udp h question whole whole shown f message pending (soa ∷ []) more starts n (λ e. last)
      (λ next feeds ends.
      (let told = (fed s Udp h question whole whole shown f message pending (soa ∷ []) more starts n).tells More next feeds in
      let reaches : Reaches s.apex s.held Begun (item_of soa ∷ []) told.0 = subst (λ a. Reaches s.apex s.held a (item_of soa ∷ []) told.0) begun told.1 in
      let led : told.0 ≡ Led soa = led_at s.apex s.held soa told.0 (goes_of s.apex s.held Begun (item_of soa ∷ []) told.0 reaches).1 in
      let tcp = told.6 soa (subst (λ a. Reaches s.apex s.held f.at (item_of soa ∷ []) a) led told.1) in
      let udp = f.by in
      absurd cc))
      (λ udp. last)

datagram_followed : (s : Receiving) (h : Heading) (question : Option EchoedQuestion) (whole shown : List Record) (soa : Record) (message : List ℕ) (pending : List (List ℕ))
    → (f : Feeding s Udp h question whole whole shown) → f.at ≡ Begun → pending ≡ [] → (more : List Record) × (whole ≡ soa ∷ more)
    → message ≡ datagram_of h question whole soa → (header_of message).tc ≡ false → FollowsInOrder s message pending shown
datagram_followed s h question whole shown soa message pending f begun last starts is tc = elim (which h question whole soa message f.small f.echoed is tc) [
  | inl n ↦ whole_followed s h question whole shown soa message pending f last n
  | inr n ↦ lone_followed s h question whole shown soa message pending f last starts.0 begun starts.1 n
]

-- by TCP
go_on : (h : Heading) (whole shown : List Record) (before : List (List ℕ)) (message : List ℕ) (pending : List (List ℕ)) (s now : Receiving) (question : Option EchoedQuestion) (left : List Record)
    → Feeding s Tcp h question whole left shown → AreMessages h question left (before ++ message ∷ pending) → AllTellMore s before now → FollowsInOrder now message pending shown
go_on h whole shown [] message pending s now question left f m on =
    let n = m.2 in
    let sent = sent_of h question left message m.1 n in
    subst (λ (r : Receiving). FollowsInOrder r message pending shown) (sym on)
    (follows s Tcp h question whole left shown f message pending n.sent m.1 n.in_order sent
    (λ e. no_message h pending (subst (λ (xs : List Record). AreMessages h None xs pending) e m.3))
    (λ next feeds ends. never_more s Tcp h question whole left shown f message pending n.sent m.1 n.in_order sent (some_left h m.1 pending ends m.3) next feeds)
    (not_udp s pending f.by))
go_on h whole shown (first ∷ before) message pending s now question left f m on =
    let n = m.2 in
    go_on h whole shown before message pending on.0 now None m.1
    (next_feeding s Tcp h question whole left shown f first (before ++ message ∷ pending) n.sent m.1 n.in_order (sent_of h question left first m.1 n) on.0 on.1) m.3 on.2

-- A session that answers one who asked, whatever it repeats of the request.
pub record IsSessionFor (s : Receiving) (kept : List Change) (shown : List Record) (sending : Sending) : Type 0 where
  pub by : sending.transport ≡ s.transport
  pub number : (sending.heading).id ≡ s.id
  pub small : (sending.heading).id < 2 ^ 16
  pub echoed : IfSome sending.question IsEchoed
  pub asks : Asks s sending.question
  pub soa : soas shown ≡ sending.soa ∷ []
  pub left : sending.left ≡ answer_for s.held kept shown
  pub each : AllByRecursion IsRecord sending.left

pub session_is_followed : (s : Receiving) (base : List Record) (kept : List Change) (shown : List Record) (sending : Sending) → IsSessionFor s kept shown sending → s.state ≡ Some Begun
    → LeadTo s.apex base kept shown → IsFollowed s.apex s.held kept shown → (before : List (List ℕ)) (message : List ℕ) (pending : List (List ℕ)) (now : Receiving)
    → SendsAll sending (before ++ message ∷ pending) → (s.transport ≡ Udp → AllByRecursion (λ m. (header_of m).tc ≡ false) (before ++ message ∷ pending))
    → AllTellMore s before now → FollowsInOrder now message pending shown
session_is_followed s base kept shown sending opened begun leads followed before message pending now all not_cut on = by s.transport refl
  where
    feeding : (transport : Transport) → s.transport ≡ transport → Feeding s transport sending.heading sending.question sending.left sending.left shown
    feeding transport by =
        let good = is_good s.apex s.held base kept shown leads followed in
        record {
          by = by;
          number = opened.number;
          small = opened.small;
          echoed = opened.echoed;
          asks = opened.asks;
          means = subst (λ (xs : List Record). Means s.apex s.held xs shown) (sym opened.left) good.means;
          newer = subst (IsNewer s.held) (sym opened.left) good.newer;
          each = opened.each;
          done = [];
          parts = refl;
          at = Begun;
          is = begun;
          reads = λ more set. (λ r. r, λ r. r);
        }

    by_tcp : s.transport ≡ Tcp → FollowsInOrder now message pending shown
    by_tcp tcp =
        go_on sending.heading sending.left shown before message pending s now sending.question sending.left (feeding Tcp tcp)
        (sent_messages sending (before ++ message ∷ pending) (opened.by ∙ tcp) all) on

    by_udp : s.transport ≡ Udp → FollowsInOrder now message pending shown
    by_udp udp =
        let one = only_sent sending before message pending (opened.by ∙ udp) all in
        let is : now ≡ s = subst (λ (ms : List (List ℕ)). AllTellMore s ms now) one.first on in
        let uncut = not_cut udp in
        let tc : (header_of message).tc ≡ false =
        (subst (λ (ms : List (List ℕ)). AllByRecursion (λ m. (header_of m).tc ≡ false) (ms ++ message ∷ pending)) one.first uncut).0 in
        let led = led_by shown kept (serial_held s.held) sending.soa opened.soa in
        subst (λ (r : Receiving). FollowsInOrder r message pending shown) (sym is)
        (datagram_followed s sending.heading sending.question sending.left shown sending.soa message pending (feeding Udp udp) refl one.last
        (led.0, opened.left ∙ led.1) one.is tc)

    by : (transport : Transport) → s.transport ≡ transport → FollowsInOrder now message pending shown
    by Tcp e = by_tcp e
    by Udp e = by_udp e

pub transfer_is_followed : TransferIsFollowed
transfer_is_followed s base kept shown before message pending now begun leads followed answers on =
    session_is_followed s base kept shown sending (record {
      by = opened.by;
      number = ap (λ (h : Heading). h.id) opened.heading;
      small = subst (λ (h : Heading). h.id < 2 ^ 16) (sym opened.heading) answers.number;
      echoed = subst (λ (o : Option EchoedQuestion). IfSome o IsEchoed) (sym opened.question) (is_echoed (question_asked s.apex s.held) answers.named);
      asks = subst (Asks s) (sym opened.question) (question_is (question_asked s.apex s.held) (type_small s.held) (omega arith));
      soa = opened.soa;
      left = opened.left;
      each = answers.each;
    }) begun leads followed before message pending now answers.all answers.not_cut on
  where
    sending : Sending
    sending = answers.sending

    opened : IsOpenedFor s.transport s.apex s.held s.id kept shown sending
    opened = opened_for s.transport s.apex s.held s.id kept shown sending answers.named followed answers.opened
