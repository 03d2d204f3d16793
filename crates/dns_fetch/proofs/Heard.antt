-- The messages of an answer, fed one after the other.
use Rattle.std.proofs.Common.{arith, ◌≡◌, ℕ, ◌+◌, ◌<◌, suc, inl, inr, Bool, true, false, List, [], ◌∷◌, ◌++◌, length, map, take, drop, get_or, drop-cons, Option, Some, None, Result, Ok, Err, IfErr, refl, sym, ap, subst, ◌∙◌, append_assoc}
use Rattle.std.specs.Prelude.{◌↔◌, ◌⊎◌, IsErrAnd}
use Rattle.std.proofs.lemmas.List.{append-nil, map-append, take-append-drop, take_more}
use Rattle.dns_names.specs.Name.{Labels}
use Rattle.dns_records.specs.Record.{Record}
use Rattle.dns_zone.specs.Zone.{Zone}
use Rattle.dns_wire.specs.Message.{Message, ResourceRecord}
use Rattle.dns_wire.specs.Reads.{Reads}
use Rattle.dns_secondary.specs.Receiving.{Receiving, header_fault}
use Rattle.dns_secondary.specs.Rest.{Reaches, Rest, is_current}
use Rattle.dns_secondary.specs.State.{State, Begun, Led}
use Rattle.dns_secondary.specs.Taken.{Taken}
use Rattle.dns_secondary.specs.Told.{Feeds, RefusesFeed}
use Rattle.dns_secondary.specs.declared.fault.Fault.{Fault}
use Rattle.dns_secondary.specs.declared.fault.Fault.TheVariants.{OutOfMemory, BadMessage, WrongId, Refused, BadSequence, RemovesAbsent, AddsPresent, InvalidZone, AfterEnd}
use Rattle.dns_secondary.specs.declared.fault.Progress.{Progress}
use Rattle.dns_secondary.specs.declared.fault.Progress.TheVariants.{More, Done, UpToDate}
use Rattle.dns_secondary.proofs.Runs.{reached_on, rest_of, rest_on}
use Rattle.dns_fetch.specs.FetchFaults.{ComesOfAsking, fault_of_answer}
use Rattle.dns_fetch.specs.declared.fetch_faults.FetchFault.{FetchFault}
use Rattle.dns_fetch.specs.declared.fetch_faults.FetchFault.TheVariants as fetch
use Rattle.dns_fetch.specs.TakingIn.{AreAnswersTo, HearsMore, HasIdled, IsIdleCount, IsGivenUp, IsRefusedIn, IsToldBy, IsTooMuch, NeverStalls, TellEnd, TellMore, TellRefusal, Tells, asking, asking_at, idle_limit}
use Rattle.dns_fetch.proofs.Idle.{IsReadOnce, goes_more, goes_on, idled, idled_more, never_stalls, some_is}

-- More messages are fed.
pub end_on : (a b : ℕ) (s mid new : Receiving) (ms ns : List (List ℕ)) → HearsMore a s ms b mid → TellEnd b mid ns new → TellEnd a s (ms ++ ns) new
end_on a b s mid new ms ns h k = record {
  first = ms ++ k.first;
  message = k.message;
  later = k.later;
  parts = ap (λ (x : List (List ℕ)). ms ++ x) k.parts ∙ sym (append_assoc ms k.first (k.message ∷ k.later));
  idle = k.idle;
  now = k.now;
  more = goes_on a b k.idle s mid k.now ms k.first h k.more;
  last = k.last;
}

pub refusal_on : (a b : ℕ) (s mid : Receiving) (ms ns : List (List ℕ)) (fault : Fault) → HearsMore a s ms b mid → TellRefusal b mid ns fault → TellRefusal a s (ms ++ ns) fault
refusal_on a b s mid ms ns fault h k = record {
  first = ms ++ k.first;
  message = k.message;
  later = k.later;
  parts = ap (λ (x : List (List ℕ)). ms ++ x) k.parts ∙ sym (append_assoc ms k.first (k.message ∷ k.later));
  idle = k.idle;
  now = k.now;
  more = goes_on a b k.idle s mid k.now ms k.first h k.more;
  refused = k.refused;
}

-- The records of messages that are answers.
answers_on : (apex : Labels) (held : Option Zone) (ms ns : List (List ℕ)) (xs ys : List ResourceRecord) → AreAnswersTo apex held ms xs → AreAnswersTo apex held ns ys → AreAnswersTo apex held (ms ++ ns) (xs ++ ys)
answers_on apex held [] ns xs ys h k = subst (λ (zs : List ResourceRecord). AreAnswersTo apex held ns zs) (sym (ap (λ (z : List ResourceRecord). z ++ ys) h)) k
answers_on apex held (m ∷ ms) ns xs ys h k =
    (h.0, h.1, h.2, h.3 ++ ys, ap (λ (z : List ResourceRecord). z ++ ys) h.4 ∙ append_assoc h.0.answers h.3 ys, answers_on apex held ms ns h.3 ys h.5 k)

-- Messages of which more was told are answers, after whose records the answer is at a state.
record HeardTo (apex : Labels) (held : Option Zone) (at : State) (messages : List (List ℕ)) (now : Receiving) : Type 0 where
  records : List ResourceRecord
  next : State
  answers : AreAnswersTo apex held messages records
  reached : Reaches apex held at records next
  is : now ≡ asking_at apex held next

heard_to : (apex : Labels) (held : Option Zone) (at : State) (ms : List (List ℕ)) (now : Receiving) → TellMore (asking_at apex held at) ms now → HeardTo apex held at ms now
heard_to apex held at [] now h = record { records = []; next = at; answers = refl; reached = refl; is = h }
heard_to apex held at (m ∷ ms) now h =
    let feeds = h.1 in
    let from : at ≡ feeds.0 = some_is at feeds.0 feeds.1 in
    let hears = feeds.2 in
    let message = hears.message in
    let tells = hears.tells in
    let rest = heard_to apex held tells.0 ms now (subst (λ (x : Receiving). TellMore x ms now) tells.3 h.2) in
    record {
      records = message.answers ++ rest.records;
      next = rest.next;
      answers = (message, hears.stands, hears.accepted, rest.records, refl, rest.answers);
      reached = reached_on apex held at tells.0 rest.next message.answers rest.records
          (subst (λ (x : State). Reaches apex held x message.answers tells.0) (sym from) tells.1) rest.reached;
      is = rest.is;
    }

-- What `taken_law` says.
abbrev pub IsTakenLaw : Type 0
IsTakenLaw = (apex : Labels) (held : Option Zone) (answer : List ResourceRecord) (set : List Record) → (Taken apex held answer set ↔ Rest apex held Begun answer set)

-- The last message of an answer, whose records mean a set after those of the ones before it.
told_by : IsTakenLaw → (apex : Labels) (held : Option Zone) (first later : List (List ℕ)) (m : List ℕ) (now : Receiving) (message : Message) (set : List Record)
    → (heard : HeardTo apex held Begun first now) → Reads m message → header_fault (asking apex held) message ≡ None → Rest apex held heard.next message.answers set
    → NeverStalls (asking apex held) (first ++ m ∷ [])
    → IsToldBy apex held (first ++ m ∷ later) set
told_by law apex held first later m now message set heard reads accepted rest steady =
    let records = heard.records ++ message.answers in
    record {
      first = first ++ m ∷ [];
      later = later;
      parts = sym (append_assoc first (m ∷ []) later);
      records = records;
      answers = answers_on apex held first (m ∷ []) heard.records message.answers heard.answers (message, reads, accepted, [], sym (append-nil message.answers), refl);
      means = (law apex held records set).1 ((rest_on apex held Begun heard.next heard.records message.answers set heard.reached).1 rest);
      steady = steady;
    }

-- The zone that is held after the answer's end.
pub record IsHeldAfter (apex : Labels) (held : Option Zone) (messages : List (List ℕ)) (new : Receiving) : Type 0 where
  pub zone : Zone
  pub is : new.held ≡ Some zone
  pub told : IsToldBy apex held messages zone.records

current_rest : (apex : Labels) (held : Option Zone) (at : State) (xs : List ResourceRecord) (soa : Record) → Reaches apex held at xs (Led soa) → is_current held soa ≡ true → (zone : Zone) × (held ≡ Some zone) × Rest apex held at xs zone.records
current_rest apex None at xs soa h e = absurd cc
current_rest apex (Some z) at xs soa h e = (z, refl, (rest_of apex (Some z) at (Led soa) xs z.records h).1 (e, refl))

-- A message that ends the answer is not one of which it is reported that more is to come.
not_more : IsReadOnce → (s new : Receiving) (m : List ℕ) → Feeds s m Done new ⊎ Feeds s m UpToDate new → (x : Receiving) → Feeds s m More x → ⊥
not_more once s new m last x more =
    let tells = (more.2).tells in
    elim last [
      | inl end ↦
          (let at : end.0 ≡ more.0 = some_is end.0 more.0 (sym end.1 ∙ more.1) in
          let same : (end.2).message ≡ (more.2).message = once m (end.2).message (more.2).message (end.2).stands (more.2).stands in
          let set = ((end.2).tells).0 in
          let here : Rest s.apex s.held more.0 (end.2).message.answers set = subst (λ (y : State). Rest s.apex s.held y (end.2).message.answers set) at ((end.2).tells).1 in
          tells.5 set (subst (λ (y : Message). Rest s.apex s.held more.0 y.answers set) same here))
      | inr end ↦
          (let at : end.0 ≡ more.0 = some_is end.0 more.0 (sym end.1 ∙ more.1) in
          let same : (end.2).message ≡ (more.2).message = once m (end.2).message (more.2).message (end.2).stands (more.2).stands in
          let current = current_rest s.apex s.held end.0 (end.2).message.answers ((end.2).tells).0 ((end.2).tells).1 ((end.2).tells).2 in
          let set = (current.0).records in
          let here : Rest s.apex s.held more.0 (end.2).message.answers set = subst (λ (y : State). Rest s.apex s.held y (end.2).message.answers set) at current.2 in
          tells.5 set (subst (λ (y : Message). Rest s.apex s.held more.0 y.answers set) same here))
    ]

held_after : IsTakenLaw → IsReadOnce → (apex : Labels) (held : Option Zone) (ms : List (List ℕ)) (new : Receiving) → (k : TellEnd 0 (asking apex held) ms new) → IsHeldAfter apex held (k.first ++ k.message ∷ k.later) new
held_after law once apex held ms new k =
    let heard = heard_to apex held Begun k.first k.now (goes_more 0 k.idle (asking apex held) k.now k.first k.more) in
    let steady = never_stalls once k.message k.idle (asking apex held) k.now k.first k.more (not_more once k.now new k.message k.last) in
    elim k.last [
      | inl last ↦
          (let feeds = subst (λ (x : Receiving). Feeds x k.message Done new) heard.is last in
          let hears = feeds.2 in
          let tells = hears.tells in
          let rest = subst (λ (x : State). Rest apex held x hears.message.answers tells.0) (sym (some_is heard.next feeds.0 feeds.1)) tells.1 in
          record {
            zone = record { apex = apex; records = tells.0 };
            is = ap (λ (x : Receiving). x.held) tells.3;
            told = told_by law apex held k.first k.later k.message k.now hears.message tells.0 heard hears.stands hears.accepted rest steady;
          })
      | inr last ↦
          (let feeds = subst (λ (x : Receiving). Feeds x k.message UpToDate new) heard.is last in
          let hears = feeds.2 in
          let tells = hears.tells in
          let reached = subst (λ (x : State). Reaches apex held x hears.message.answers (Led tells.0)) (sym (some_is heard.next feeds.0 feeds.1)) tells.1 in
          let current = current_rest apex held heard.next hears.message.answers tells.0 reached tells.2 in
          record {
            zone = current.0;
            is = ap (λ (x : Receiving). x.held) tells.3 ∙ current.1;
            told = told_by law apex held k.first k.later k.message k.now hears.message (current.0).records heard hears.stands hears.accepted current.2 steady;
          })
    ]

pub taken_as : IsTakenLaw → IsReadOnce → (apex : Labels) (held : Option Zone) (ms : List (List ℕ)) (new : Receiving) → TellEnd 0 (asking apex held) ms new → IsHeldAfter apex held ms new
taken_as law once apex held ms new k = subst (λ (x : List (List ℕ)). IsHeldAfter apex held x new) (sym k.parts) (held_after law once apex held ms new k)

pub refused_as : (apex : Labels) (held : Option Zone) (ms : List (List ℕ)) (fault : Fault) → TellRefusal 0 (asking apex held) ms fault → IsRefusedIn apex held ms fault
refused_as apex held ms fault k =
    let heard = heard_to apex held Begun k.first k.now (goes_more 0 k.idle (asking apex held) k.now k.first k.more) in
    record {
      first = k.first;
      message = k.message;
      later = k.later;
      parts = k.parts;
      records = heard.records;
      answers = heard.answers;
      at = heard.next;
      reached = heard.reached;
      refused = elim k.refused [
        | inl given ↦ inl (subst (λ (x : Receiving). IsGivenUp x k.message fault) heard.is given)
        | inr stall ↦
            (let idle = idled k.idle (asking apex held) k.now k.first k.more in
            let more = idled_more k.idle (asking apex held) k.now stall.1 k.first k.message idle stall.2 stall.3 in
            inr (stall.0, stall.1, subst (λ (n : ℕ). HasIdled (asking apex held) (k.first ++ k.message ∷ []) n stall.1) stall.4 more))
      ];
    }

-- One message more is fed.
fed_as : (s new : Receiving) (m octets : List ℕ) (p q : Progress) → octets ≡ m → Feeds s octets p new → p ≡ q → Feeds s m q new
fed_as s new m octets p q is fed to = subst (λ (x : List ℕ). Feeds s x q new) is (subst (λ (r : Progress). Feeds s octets r new) to fed)

-- The message that was fed is counted, from where it was borrowed once more.
pub counted_fed : (b c : ℕ) (s new : Receiving) (m octets other : List ℕ) (p : Progress) → octets ≡ m → other ≡ m → Feeds s octets p new → p ≡ More → (Feeds s other More new → IsIdleCount s other new b c) → IsIdleCount s m new b c
counted_fed b c s new m octets other p is same fed more counted =
    subst (λ (x : List ℕ). IsIdleCount s x new b c) same
    (counted (subst (λ (x : List ℕ). Feeds s x More new) (sym same) (fed_as s new m octets p More is fed more)))

pub more_fed : (a b c : ℕ) (s now new : Receiving) (first next : List (List ℕ)) (m octets : List ℕ) (p : Progress) → HearsMore a s first b now → next ≡ first ++ m ∷ [] → octets ≡ m → Feeds now octets p new → p ≡ More → IsIdleCount now m new b c → c < idle_limit → HearsMore a s next c new
more_fed a b c s now new first next m octets p h parts is fed more counted lt =
    let here : Feeds now m More new = fed_as now new m octets p More is fed more in
    subst (λ (x : List (List ℕ)). HearsMore a s x c new) (sym parts) (goes_on a b c s now new first (m ∷ []) h (new, here, c, counted, lt, (refl, refl)))

pub ended_fed : (a b : ℕ) (s now new : Receiving) (whole first later : List (List ℕ)) (m octets : List ℕ) (p : Progress) → HearsMore a s first b now → whole ≡ first ++ m ∷ later → octets ≡ m → Feeds now octets p new → (p ≡ Done) ⊎ (p ≡ UpToDate) → TellEnd a s whole new
ended_fed a b s now new whole first later m octets p h parts is fed end = record {
  first = first;
  message = m;
  later = later;
  parts = parts;
  idle = b;
  now = now;
  more = h;
  last = elim end [
    | inl done ↦ inl (fed_as now new m octets p Done is fed done)
    | inr current ↦ inr (fed_as now new m octets p UpToDate is fed current)
  ];
}

-- A fault other than want of memory is a refusal.
module _ (P : Fault → Type 0) where
  other_fault : (e : Fault) → (e ≡ OutOfMemory → ⊥) → (e ≡ OutOfMemory) ⊎ P e → P e
  other_fault e none (inl memory) = absurd (none memory)
  other_fault e none (inr p) = p

  pub if_refused : (e : Fault) → (e ≡ OutOfMemory) ⊎ P e → ComesOfAsking (fault_of_answer e) P
  if_refused OutOfMemory h = tt
  if_refused BadMessage h = other_fault BadMessage (λ e. absurd cc) h
  if_refused WrongId h = other_fault WrongId (λ e. absurd cc) h
  if_refused (Refused code) h = other_fault (Refused code) (λ e. absurd cc) h
  if_refused BadSequence h = other_fault BadSequence (λ e. absurd cc) h
  if_refused RemovesAbsent h = other_fault RemovesAbsent (λ e. absurd cc) h
  if_refused AddsPresent h = other_fault AddsPresent (λ e. absurd cc) h
  if_refused InvalidZone h = other_fault InvalidZone (λ e. absurd cc) h
  if_refused AfterEnd h = other_fault AfterEnd (λ e. absurd cc) h

pub refused_fed : (a b : ℕ) (s now : Receiving) (whole first later : List (List ℕ)) (m octets : List ℕ) (e : Fault) → HearsMore a s first b now → whole ≡ first ++ m ∷ later → octets ≡ m → (e ≡ OutOfMemory) ⊎ RefusesFeed now octets e → ComesOfAsking (fault_of_answer e) (TellRefusal a s whole)
refused_fed a b s now whole first later m octets e h parts is why =
    if_refused (TellRefusal a s whole) e
    (elim why [
      | inl memory ↦ inl memory
      | inr refuses ↦ inr (record {
        first = first;
        message = m;
        later = later;
        parts = parts;
        idle = b;
        now = now;
        more = h;
        refused = inl (inl (subst (λ (x : List ℕ). RefusesFeed now x e) is refuses));
      })
    ])

-- With a message more records of a whole zone have come than one may have.
pub beyond_fed : (a b : ℕ) (s now new : Receiving) (whole first later : List (List ℕ)) (m octets : List ℕ) (p : Progress) → HearsMore a s first b now → whole ≡ first ++ m ∷ later → octets ≡ m → Feeds now octets p new → p ≡ More → IsTooMuch new → TellRefusal a s whole InvalidZone
beyond_fed a b s now new whole first later m octets p h parts is fed more many = record {
  first = first;
  message = m;
  later = later;
  parts = parts;
  idle = b;
  now = now;
  more = h;
  refused = inl (inr (refl, new, fed_as now new m octets p More is fed more, many));
}

-- With a message so many in a row bring no record that the answer is given up.
pub stalled_fed : (a b c : ℕ) (s now new : Receiving) (whole first later : List (List ℕ)) (m octets : List ℕ) (p : Progress) → HearsMore a s first b now → whole ≡ first ++ m ∷ later → octets ≡ m → Feeds now octets p new → p ≡ More → IsIdleCount now m new b c → c ≡ idle_limit → TellRefusal a s whole BadSequence
stalled_fed a b c s now new whole first later m octets p h parts is fed more counted full = record {
  first = first;
  message = m;
  later = later;
  parts = parts;
  idle = b;
  now = now;
  more = h;
  refused = elim counted [
    | inl one ↦ inr (refl, new, fed_as now new m octets p More is fed more, one.0, sym one.1 ∙ full)
    | inr none ↦ absurd (let e = none.1 in omega arith)
  ];
}

-- What holds of a refusal holds where it is passed on.
pub if_other : (P Q : Fault → Type 0) (e : FetchFault) → ((fault : Fault) → P fault → Q fault) → ComesOfAsking e P → ComesOfAsking e Q
if_other P Q fetch.OutOfMemory f h = tt
if_other P Q fetch.BadAddress f h = h
if_other P Q fetch.Unavailable f h = tt
if_other P Q fetch.Closed f h = tt
if_other P Q fetch.TimedOut f h = tt
if_other P Q (fetch.Refused fault) f h = f fault h

module _ {T : Type 0} where
  pub passed : (P Q : Fault → Type 0) (r : Result T FetchFault) (e : FetchFault) → IsErrAnd r (λ y. y ≡ e) → ((fault : Fault) → P fault → Q fault) → ComesOfAsking e P → IfErr r (λ y. ComesOfAsking y Q)
  passed P Q (Ok x) e is f h = tt
  passed P Q (Err y) e is f h = subst (λ (x : FetchFault). ComesOfAsking x Q) (sym is) (if_other P Q e f h)

-- A message among those that were framed.
module _ {A : Type 0} (f : A → List ℕ) where
  pub split_at : (xs : List A) (i : ℕ) (x : A) → i < length xs → x ≡ get_or xs i x → map f xs ≡ map f (take i xs) ++ f x ∷ map f (drop (suc i) xs)
  split_at xs i x lt is =
      let here : drop i xs ≡ x ∷ drop (suc i) xs = drop-cons xs i x lt ∙ ap (λ (y : A). y ∷ drop (suc i) xs) (sym is) in
      ap (map f) (sym (take-append-drop i xs) ∙ ap (λ (ys : List A). take i xs ++ ys) here) ∙ map-append f (take i xs) (x ∷ drop (suc i) xs)

  pub next_at : (xs : List A) (i : ℕ) (x : A) → i < length xs → x ≡ get_or xs i x → map f (take (i + 1) xs) ≡ map f (take i xs) ++ f x ∷ []
  next_at xs i x lt is =
      ap (map f) (take_more xs i x lt ∙ ap (λ (y : A). take i xs ++ y ∷ []) (sym is)) ∙ map-append f (take i xs) (x ∷ [])

-- What holds of an error holds of the one that is handed on.
pub err_goes : {T E : Type 0} (P : E → Type 0) (r : Result T E) (e : E) → IsErrAnd r (λ y. y ≡ e) → P e → IfErr r P
err_goes P (Ok x) e is h = tt
err_goes P (Err y) e is h = subst P (sym is) h

-- What was told of messages in a vector.
module _ {A : Type 0} (f : A → List ℕ) where
  pub told_end : (a c : ℕ) (s new : Receiving) (xs ys : List A) (b : Bool) → xs ≡ ys → b ≡ true → Tells a s (map f xs) b c new → TellEnd a s (map f ys) new
  told_end a c s new xs ys b e t h =
      let here : Tells a s (map f ys) b c new = subst (λ (zs : List A). Tells a s (map f zs) b c new) e h in
      subst (λ (q : Bool). Tells a s (map f ys) q c new) t here

  pub told_more : (a c : ℕ) (s new : Receiving) (xs ys : List A) (b : Bool) → xs ≡ ys → b ≡ false → Tells a s (map f xs) b c new → HearsMore a s (map f ys) c new
  told_more a c s new xs ys b e t h =
      let here : Tells a s (map f ys) b c new = subst (λ (zs : List A). Tells a s (map f zs) b c new) e h in
      subst (λ (q : Bool). Tells a s (map f ys) q c new) t here
