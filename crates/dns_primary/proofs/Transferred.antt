-- Transfers that are open, as they are stored and as the machine has them.
use Rattle.std.proofs.Common.{◌≡◌, ℕ, suc, ◌+◌, Bool, true, false, not, cond, List, [], ◌∷◌, ◌++◌, map, Option, Some, None, Result, Ok, Err, inr, refl, sym, ap, subst, ◌∙◌, arith}
use Rattle.std.specs.Prelude.{filter, slice_get, slice_set, ◌==◌, ◌&&◌, ◌||◌, is_none, IsTrue, IfOk, ◌↔◌, if◌then◌else◌}
use Rattle.std.specs.List.{position, position_from}
use Rattle.std.proofs.lemmas.Iterator.Adapters.{position_from-zero}
use Rattle.dns_records.specs.Record.{Record}
use Rattle.dns_changes.specs.Change.{Change}
use Rattle.dns_zone.specs.Zone.{soas}
use Rattle.dns_store.specs.Versions.{Versions}
use Rattle.dns_store.specs.Recovered.{AreLed}
use Rattle.dns_records.specs.Types.{class_in}
use Rattle.dns_records.specs.Record.{serial_of}
use Rattle.dns_wire.specs.Message.{Question, Message}
use Rattle.dns_wire.specs.declared.codes.Rcode.{Rcode}
use Rattle.dns_request.specs.Codes.{rcode_formerr, rcode_notauth, rcode_refused}
use Rattle.dns_request.specs.declared.request.Transport.{Transport}
use Rattle.dns_transfer.specs.Form.{Form, Current, Incremental, Full, form_of}
use Rattle.dns_transfer.specs.Records.{transfer_answer, transfer_from, transfer_of}
use Rattle.dns_transfer.specs.Refusal.{client_serial, is_malformed, refusal, serial_asked}
use Rattle.dns_transfer.specs.Session.{Sending, SendsMessage, Version, Opens}
use Rattle.dns_primary.specs.declared.event.Peer.{Peer}
use Rattle.dns_primary.specs.declared.transfers.OpenTransfer.{OpenTransfer}
use Rattle.dns_primary.specs.declared.event.To.TheVariants as to
use Rattle.dns_primary.specs.Machine.{Machine, Connection, peer_at, sending_at}
use Rattle.dns_primary.specs.Flush.{Replied}
use Rattle.dns_primary.specs.Transfer.{IsSentOn, change_by, changes_along, open_still, set_transfer, with_transfer}
use Rattle.dns_primary.specs.Keeps.{sending_on}
use Rattle.dns_primary.specs.Sending.{SetsOn, EndsOn, SendsOn}
use Rattle.dns_primary.proofs.Judged.{tested, untested}
use Rattle.dns_primary.proofs.Connected.{is_one, test_same, test_other, by_test, without}

-- the transfer of a connection is set
module _ (number : ℕ) (s : Option Sending) where
  set_here : (c : Connection) → (c.number == number) ≡ true → set_transfer number s c ≡ record c { transfer = s }
  set_here c e = tested (c.number == number) (record c { transfer = s }) c e

  set_not : (c : Connection) → (c.number == number) ≡ false → set_transfer number s c ≡ c
  set_not c e = untested (c.number == number) (record c { transfer = s }) c e

  pub peer_with : (n : ℕ) (cs : List Connection) → peer_at n (map (set_transfer number s) cs) ≡ peer_at n cs
  peer_with n [] = refl
  peer_with n (c ∷ rest) = by_test (c.number == number)
      (λ e. ap (λ (x : Connection). peer_at n (x ∷ map (set_transfer number s) rest)) (set_here c e) ∙ ap (λ (o : Option Peer). if c.number == n then Some c.peer else o) (peer_with n rest))
      (λ e. ap (λ (x : Connection). peer_at n (x ∷ map (set_transfer number s) rest)) (set_not c e) ∙ ap (λ (o : Option Peer). if c.number == n then Some c.peer else o) (peer_with n rest))

  pub sending_same : (cs : List Connection) → (peer_at number cs ≡ None → ⊥) → sending_at number (map (set_transfer number s) cs) ≡ s
  sending_same [] there = absurd (there refl)
  sending_same (c ∷ rest) there = by_test (c.number == number)
      (λ e. ap (λ (x : Connection). sending_at number (x ∷ map (set_transfer number s) rest)) (set_here c e) ∙ tested (c.number == number) s (sending_at number (map (set_transfer number s) rest)) e)
      (λ e. ap (λ (x : Connection). sending_at number (x ∷ map (set_transfer number s) rest)) (set_not c e) ∙ untested (c.number == number) c.transfer (sending_at number (map (set_transfer number s) rest)) e
      ∙ sending_same rest (λ none. there (untested (c.number == number) (Some c.peer) (peer_at number rest) e ∙ none)))

  pub sending_other : (n : ℕ) (cs : List Connection) → (number ≡ n → ⊥) → sending_at n (map (set_transfer number s) cs) ≡ sending_at n cs
  sending_other n [] ne = refl
  sending_other n (c ∷ rest) ne = by_test (c.number == number)
      (λ e.
      (let other : (c.number == n) ≡ false = test_other c.number n (λ same. ne (sym (is_one c.number number e) ∙ same)) in
      ap (λ (x : Connection). sending_at n (x ∷ map (set_transfer number s) rest)) (set_here c e)
      ∙ untested (c.number == n) s (sending_at n (map (set_transfer number s) rest)) other
      ∙ sending_other n rest ne ∙ sym (untested (c.number == n) c.transfer (sending_at n rest) other)))
      (λ e. ap (λ (x : Connection). sending_at n (x ∷ map (set_transfer number s) rest)) (set_not c e) ∙ ap (λ (o : Option Sending). if c.number == n then c.transfer else o) (sending_other n rest ne))

  -- what is stored is what the machine has, after a change to one
  pub set_are : {I : Type 0} (olds news : List (OpenTransfer I)) (cs : List Connection) → SetsOn number s olds news → ((n : ℕ) → sending_on n olds ≡ sending_at n cs) → (peer_at number cs ≡ None → ⊥)
      → (n : ℕ) → sending_on n news ≡ sending_at n (map (set_transfer number s) cs)
  set_are olds news cs sets were there n = by_test (number == n)
      (λ e.
      (let same = is_one number n e in
      subst (λ (k : ℕ). sending_on k news ≡ sending_at k (map (set_transfer number s) cs)) same (sets.here ∙ sym (sending_same cs there))))
      (λ e. (let ne : number ≡ n → ⊥ = λ same. (let clash : true ≡ false = sym (test_same number n same) ∙ e in cc) in sets.others n ne ∙ were n ∙ sym (sending_other n cs ne)))

-- one of which records are left is open still
still_open : (left : List Record) (t : Sending) → (left ≡ [] → ⊥) → open_still left t ≡ Some t
still_open [] t more = absurd (more refl)
still_open (r ∷ left) t more = refl

-- a transfer is open on a connection that is there
pub there_open : (number : ℕ) (t : Sending) (cs : List Connection) → sending_at number cs ≡ Some t → peer_at number cs ≡ None → ⊥
there_open number t [] e none = absurd cc
there_open number t (c ∷ rest) e none = by_test {R = ⊥} (c.number == number)
    (λ is. (let clash : Some c.peer ≡ None = sym (tested (c.number == number) (Some c.peer) (peer_at number rest) is) ∙ none in cc))
    (λ is. there_open number t rest (sym (untested (c.number == number) c.transfer (sending_at number rest) is) ∙ e) (sym (untested (c.number == number) (Some c.peer) (peer_at number rest) is) ∙ none))

pub none_sent : (number : ℕ) (cs : List Connection) → peer_at number cs ≡ None → sending_at number cs ≡ None
none_sent number [] e = refl
none_sent number (c ∷ rest) e = by_test (c.number == number)
    (λ is. absurd (let clash : Some c.peer ≡ None = sym (tested (c.number == number) (Some c.peer) (peer_at number rest) is) ∙ e in cc))
    (λ is. untested (c.number == number) c.transfer (sending_at number rest) is ∙ none_sent number rest (sym (untested (c.number == number) (Some c.peer) (peer_at number rest) is) ∙ e))

-- a connection is made, and one is closed
pub made_sending : (number n : ℕ) (peer : Peer) (cs : List Connection) → peer_at number cs ≡ None → sending_at n cs ≡ sending_at n (record { number = number; peer = peer; transfer = None } ∷ cs)
made_sending number n peer cs none = by_test (number == n)
    (λ e. (let same = is_one number n e in none_sent n cs (subst (λ (k : ℕ). peer_at k cs ≡ None) same none) ∙ sym (tested (number == n) None (sending_at n cs) e)))
    (λ e. sym (untested (number == n) None (sending_at n cs) e))

module _ (number : ℕ) where
  pub closed_here : (cs : List Connection) → sending_at number (without number cs) ≡ None
  closed_here [] = refl
  closed_here (c ∷ rest) = by_test (c.number == number)
      (λ e. ap (λ (b : Bool). sending_at number (cond (not b) (c ∷ without number rest) (without number rest))) e ∙ closed_here rest)
      (λ e. ap (λ (b : Bool). sending_at number (cond (not b) (c ∷ without number rest) (without number rest))) e ∙ untested (c.number == number) c.transfer (sending_at number (without number rest)) e ∙ closed_here rest)

  pub closed_other : (n : ℕ) (cs : List Connection) → (number ≡ n → ⊥) → sending_at n (without number cs) ≡ sending_at n cs
  closed_other n [] ne = refl
  closed_other n (c ∷ rest) ne = by_test (c.number == number)
      (λ e.
      (let other : (c.number == n) ≡ false = test_other c.number n (λ same. ne (sym (is_one c.number number e) ∙ same)) in
      ap (λ (b : Bool). sending_at n (cond (not b) (c ∷ without number rest) (without number rest))) e ∙ closed_other n rest ne ∙ sym (untested (c.number == n) c.transfer (sending_at n rest) other)))
      (λ e. ap (λ (b : Bool). sending_at n (cond (not b) (c ∷ without number rest) (without number rest))) e ∙ ap (λ (o : Option Sending). if c.number == n then c.transfer else o) (closed_other n rest ne))

  abbrev pub without_on : {I : Type 0} → List (OpenTransfer I) → List (OpenTransfer I)
  without_on ts = filter (λ t. not (t.number == number)) ts

  forgot_here : {I : Type 0} (ts : List (OpenTransfer I)) → sending_on number (without_on ts) ≡ None
  forgot_here [] = refl
  forgot_here (t ∷ rest) = by_test (t.number == number)
      (λ e. ap (λ (b : Bool). sending_on number (cond (not b) (t ∷ without_on rest) (without_on rest))) e ∙ forgot_here rest)
      (λ e. ap (λ (b : Bool). sending_on number (cond (not b) (t ∷ without_on rest) (without_on rest))) e ∙ untested (t.number == number) (Some t.session) (sending_on number (without_on rest)) e ∙ forgot_here rest)

  forgot_other : {I : Type 0} (n : ℕ) (ts : List (OpenTransfer I)) → (number ≡ n → ⊥) → sending_on n (without_on ts) ≡ sending_on n ts
  forgot_other n [] ne = refl
  forgot_other n (t ∷ rest) ne = by_test (t.number == number)
      (λ e.
      (let other : (t.number == n) ≡ false = test_other t.number n (λ same. ne (sym (is_one t.number number e) ∙ same)) in
      ap (λ (b : Bool). sending_on n (cond (not b) (t ∷ without_on rest) (without_on rest))) e ∙ forgot_other n rest ne ∙ sym (untested (t.number == n) (Some t.session) (sending_on n rest) other)))
      (λ e. ap (λ (b : Bool). sending_on n (cond (not b) (t ∷ without_on rest) (without_on rest))) e ∙ ap (λ (o : Option Sending). if t.number == n then Some t.session else o) (forgot_other n rest ne))

  pub forgot : {I : Type 0} (ts : List (OpenTransfer I)) → SetsOn number None ts (without_on ts)
  forgot ts = record { here = forgot_here ts; others = λ n ne. forgot_other n ts ne }

  pub closed_sending : {I : Type 0} (ts : List (OpenTransfer I)) (cs : List Connection) → ((n : ℕ) → sending_on n ts ≡ sending_at n cs) → (n : ℕ) → sending_on n (without_on ts) ≡ sending_at n (without number cs)
  closed_sending ts cs were n = by_test (number == n)
      (λ e. (let same = is_one number n e in subst (λ (k : ℕ). sending_on k (without_on ts) ≡ sending_at k (without number cs)) same (forgot_here ts ∙ sym (closed_here cs))))
      (λ e. (let ne : number ≡ n → ⊥ = λ same. (let clash : true ≡ false = sym (test_same number n same) ∙ e in cc) in forgot_other n ts ne ∙ were n ∙ sym (closed_other n cs ne)))

  -- one is opened
  pub pushed : {I : Type 0} (ts : List (OpenTransfer I)) (t : OpenTransfer I) → t.number ≡ number → sending_on number ts ≡ None → SetsOn number (Some t.session) ts (ts ++ t ∷ [])
  pushed ts t is free = record { here = here ts free; others = λ n ne. others n ts ne }
    where
      here : (xs : List _) → sending_on number xs ≡ None → sending_on number (xs ++ t ∷ []) ≡ Some t.session
      here [] none = tested (t.number == number) (Some t.session) None (test_same t.number number is)
      here (x ∷ xs) none = by_test (x.number == number)
          (λ e. absurd (let clash : Some x.session ≡ None = sym (tested (x.number == number) (Some x.session) (sending_on number xs) e) ∙ none in cc))
          (λ e. untested (x.number == number) (Some x.session) (sending_on number (xs ++ t ∷ [])) e ∙ here xs (sym (untested (x.number == number) (Some x.session) (sending_on number xs) e) ∙ none))

      others : (n : ℕ) (xs : List _) → (number ≡ n → ⊥) → sending_on n (xs ++ t ∷ []) ≡ sending_on n xs
      others n [] ne = untested (t.number == n) (Some t.session) None (test_other t.number n (λ same. ne (sym is ∙ same)))
      others n (x ∷ xs) ne = ap (λ (o : Option Sending). if x.number == n then Some x.session else o) (others n xs ne)

  -- the first with that number
  module _ {I : Type 0} where
    pub record IsFound (start index : ℕ) (ts : List (OpenTransfer I)) : Type 0 where
      pub at : ℕ
      pub place_is : index ≡ start + at
      pub transfer : OpenTransfer I
      pub stands : slice_get ts at ≡ Some transfer
      pub has : sending_on number ts ≡ Some transfer.session
      pub set : (u : OpenTransfer I) → u.number ≡ transfer.number → SetsOn number (Some u.session) ts (slice_set ts at u)

    found_from : (start index : ℕ) (ts : List (OpenTransfer I)) → position_from (λ t. t.number == number) start ts ≡ Some index → IsFound start index ts
    found_from start index [] e = absurd (cc e)
    found_from start index (t ∷ rest) e = by_test (t.number == number)
        (λ is.
        (let same : Some start ≡ Some index = sym (ap (λ (b : Bool). cond b (Some start) (position_from (λ (t : OpenTransfer I). t.number == number) (start + 1) rest)) is) ∙ e in
        let begins : start ≡ index = cc in
        record {
          at = 0;
          place_is = omega (arith, begins);
          transfer = t;
          stands = refl;
          has = tested (t.number == number) (Some t.session) (sending_on number rest) is;
          set = λ u number_is. record {
            here = tested (u.number == number) (Some u.session) (sending_on number rest) (ap (λ (k : ℕ). k == number) number_is ∙ is);
            others = λ n ne.
                let away = test_other t.number n (λ (h : t.number ≡ n). ne (sym (is_one t.number number is) ∙ h)) in
                untested (u.number == n) (Some u.session) (sending_on n rest) (ap (λ (k : ℕ). k == n) number_is ∙ away) ∙ sym (untested (t.number == n) (Some t.session) (sending_on n rest) away);
          };
        }))
        (λ is.
        (let r = found_from (start + 1) index rest (sym (ap (λ (b : Bool). cond b (Some start) (position_from (λ (t : OpenTransfer I). t.number == number) (start + 1) rest)) is) ∙ e) in
        record {
          at = suc r.at;
          place_is = omega (arith, r.place_is);
          transfer = r.transfer;
          stands = r.stands;
          has = untested (t.number == number) (Some t.session) (sending_on number rest) is ∙ r.has;
          set = λ u number_is. record {
            here = untested (t.number == number) (Some t.session) (sending_on number (slice_set rest r.at u)) is ∙ (r.set u number_is).here;
            others = λ n ne. ap (λ (o : Option Sending). if t.number == n then Some t.session else o) ((r.set u number_is).others n ne);
          };
        }))

    pub found : (index : ℕ) (ts : List (OpenTransfer I)) → position (λ t. t.number == number) ts ≡ Some index → IsFound 0 index ts
    found index ts e = found_from 0 index ts (sym (position_from-zero (λ (t : OpenTransfer I). t.number == number) ts) ∙ e)

    none_from : (start : ℕ) (ts : List (OpenTransfer I)) → position_from (λ t. t.number == number) start ts ≡ None → sending_on number ts ≡ None
    none_from start [] e = refl
    none_from start (t ∷ rest) e = by_test (t.number == number)
        (λ is. absurd (let clash : Some start ≡ None = sym (ap (λ (b : Bool). cond b (Some start) (position_from (λ (t : OpenTransfer I). t.number == number) (start + 1) rest)) is) ∙ e in cc))
        (λ is. untested (t.number == number) (Some t.session) (sending_on number rest) is ∙ none_from (start + 1) rest (sym (ap (λ (b : Bool). cond b (Some start) (position_from (λ (t : OpenTransfer I). t.number == number) (start + 1) rest)) is) ∙ e))

    pub not_found : (ts : List (OpenTransfer I)) → position (λ t. t.number == number) ts ≡ None → sending_on number ts ≡ None
    not_found ts e = none_from 0 ts (sym (position_from-zero (λ (t : OpenTransfer I). t.number == number) ts) ∙ e)

    -- one is changed, and then forgotten
    pub sets_on : (s t : Option Sending) (xs ys zs : List (OpenTransfer I)) → SetsOn number s xs ys → SetsOn number t ys zs → SetsOn number t xs zs
    sets_on s t xs ys zs p q = record { here = q.here; others = λ n ne. q.others n ne ∙ p.others n ne }

    -- the next message of the first with that number
    module _ (index : ℕ) (ts : List (OpenTransfer I)) (one : IsFound 0 index ts) where
      at_place : one.at ≡ index
      at_place = omega (arith, one.place_is)

      pub is_first : slice_get ts index ≡ Some one.transfer
      is_first = subst (λ (p : ℕ). slice_get ts p ≡ Some one.transfer) at_place one.stands

      module _ (u : OpenTransfer I) (number_is : u.number ≡ (one.transfer).number) where
        pub set_at : SetsOn number (Some u.session) ts (slice_set ts index u)
        set_at = subst (λ (p : ℕ). SetsOn number (Some u.session) ts (slice_set ts p u)) at_place (one.set u number_is)

        set_gone : SetsOn number None ts (without_on (slice_set ts index u))
        set_gone = sets_on (Some u.session) None ts (slice_set ts index u) (without_on (slice_set ts index u)) set_at (forgot (slice_set ts index u))

        pub ends : ((one.transfer).session).left ≡ [] → EndsOn number ts (without_on (slice_set ts index u))
        ends none = inr ((one.transfer).session, one.has, none, set_gone)

        pub sends_last : (octets : List ℕ) → (((one.transfer).session).left ≡ [] → ⊥) → SendsMessage (one.transfer).session octets u.session → (u.session).left ≡ []
            → SendsOn number octets ts (without_on (slice_set ts index u))
        sends_last octets some sends none =
            ((one.transfer).session, one.has, some, (u.session, sends, subst (λ (o : Option Sending). SetsOn number o ts (without_on (slice_set ts index u))) (sym (ap (λ (l : List Record). open_still l u.session) none)) set_gone))

        pub sends_on : (octets : List ℕ) → (((one.transfer).session).left ≡ [] → ⊥) → SendsMessage (one.transfer).session octets u.session → ((u.session).left ≡ [] → ⊥)
            → SendsOn number octets ts (slice_set ts index u)
        sends_on octets some sends more =
            ((one.transfer).session, one.has, some, (u.session, sends, subst (λ (o : Option Sending). SetsOn number o ts (slice_set ts index u)) (sym (still_open (u.session).left u.session more)) set_at))

        pub same_on : u.session ≡ (one.transfer).session → (n : ℕ) → sending_on n (slice_set ts index u) ≡ sending_on n ts
        same_on e n = by_test (number == n)
            (λ is.
            (let same = is_one number n is in
            subst (λ (k : ℕ). sending_on k (slice_set ts index u) ≡ sending_on k ts) same (set_at.here ∙ ap (λ (t : Sending). Some t) e ∙ sym one.has)))
            (λ is. set_at.others n (λ same. (let clash : true ≡ false = sym (test_same number n same) ∙ is in cc)))

-- what a pump does
pub sent_on : (m : Machine) (number : ℕ) (s : Sending) (left : List Record) (message : List ℕ) (rest : Sending) → (left ≡ [] → ⊥) → SendsMessage s message rest
    → IsSentOn m number s left (Replied (to.Connection number) message ∷ []) (with_transfer number (open_still rest.left rest) m)
sent_on m number s [] message rest some sends = absurd (some refl)
sent_on m number s (r ∷ left) message rest some sends = (message, rest, sends, refl, refl)

pub sent_none : (m : Machine) (number : ℕ) (s : Sending) (left : List Record) → left ≡ [] → IsSentOn m number s left [] (with_transfer number None m)
sent_none m number s left none = subst (λ (l : List Record). IsSentOn m number s l [] (with_transfer number None m)) (sym none) (refl, refl)

-- a transfer that may be opened
pub none_of : {X : Type 0} (o : Option X) → is_none o ≡ true → o ≡ None
none_of None e = refl
none_of (Some x) e = absurd (cc e)

pub allowed_by : (a b d : Bool) (x y z : ℕ) → (if a then Some x else if b then Some y else if not d then Some z else None) ≡ None → d ≡ true
allowed_by true b d x y z e = absurd (cc e)
allowed_by false true d x y z e = absurd (cc e)
allowed_by false false false x y z e = absurd (cc e)
allowed_by false false true x y z e = refl

pub second_true : (a b : Bool) → (a && b) ≡ true → b ≡ true
second_true true b e = e
second_true false b e = absurd (cc e)

pub same_test : (a b : Bool) (P : Type 0) → IsTrue a ↔ P → IsTrue b ↔ P → a ≡ b
same_test true true P f h = refl
same_test true false P f h = absurd (let no : IsTrue false = h.1 (f.0 refl) in cc)
same_test false true P f h = absurd (let no : IsTrue false = f.1 (h.0 refl) in cc)
same_test false false P f h = refl

-- the changes between versions are the ones that lead from one to the next
pub along_is : (before : List Record) (vs : Versions) (cs : List Change) → AreLed before vs cs → cs ≡ changes_along before vs
along_is before [] [] led = refl
along_is before [] (c ∷ cs) led = absurd led
along_is before (v ∷ vs) [] led = absurd led
along_is before (v ∷ vs) (c ∷ cs) led =
    let first : c ∷ [] ≡ change_by before v (soas before) (soas v) =
    (λ i. record { old_soa = c.old_soa; removed = (led.0).removed i; new_soa = c.new_soa; added = (led.0).added i } ∷ []) ∙ sym (λ i. change_by before v ((led.0).old_soa i) ((led.0).new_soa i)) in
    λ i. first i ++ along_is v vs cs led.1 i

pub allowed_of : (transport : Transport) (q : Question) (client : Option ℕ) (held allowed : Bool) → refusal transport q client held allowed ≡ None → allowed ≡ true
allowed_of transport q client held allowed e = allowed_by (is_malformed transport q client) (not (q.qclass == class_in) || not held) allowed rcode_formerr rcode_notauth rcode_refused e

pub allowed_when : (transport : Transport) (q : Question) (client : Option ℕ) (held may free : Bool) → refusal transport q client held (may && free) ≡ None → free ≡ true
allowed_when transport q client held may free e = second_true may free (allowed_of transport q client held (may && free) e)

pub opens_as : {E : Type 0} (t u : Transport) (octets : List ℕ) (m : Message) (q : Question) (v w : Option Version) (a b : Bool) (r : Result (Result Sending Rcode) E) → t ≡ u → v ≡ w → a ≡ b
    → IfOk r (λ o. Opens t octets m q v a o) → IfOk r (λ o. Opens u octets m q w b o)
opens_as t u octets m q v w a b r e f h is =
    subst (λ x. IfOk r (λ o. Opens u octets m q w x o)) h (subst (λ x. IfOk r (λ o. Opens u octets m q x a o)) f (subst (λ x. IfOk r (λ o. Opens x octets m q v a o)) e is))

answer_some : (soa : Record) (records : List Record) (form : Form) → transfer_answer soa records form ≡ [] → ⊥
answer_some soa records Current e = cc
answer_some soa records (Incremental changes) e = cc
answer_some soa records Full e = cc

left_some : (soa : Record) (records : List Record) (changes : List Change) (client : Option ℕ) → soas records ≡ soa ∷ [] → transfer_of records changes client ≡ [] → ⊥
left_some soa records changes client one e = answer_some soa records (form_of (serial_of soa) changes client) (sym (ap (λ (rs : List Record). transfer_from rs records changes client) one) ∙ e)

opened_by : (transport : Transport) (octets : List ℕ) (m : Message) (q : Question) (v : Option Version) (a : Bool) (r : Result Sending Rcode) → Opens transport octets m q v a r → IfOk r (λ s. s.left ≡ [] → ⊥)
opened_by transport octets m q v a (Ok s) o = λ none. left_some s.soa ((o.1).zone).records (o.1).changes (serial_asked q (client_serial q m.authorities)) (o.3).soa (sym (o.3).left ∙ none)
opened_by transport octets m q v a (Err rcode) o = tt

pub opened_some : {E : Type 0} (transport : Transport) (octets : List ℕ) (m : Message) (q : Question) (v : Option Version) (a : Bool) (r : Result (Result Sending Rcode) E) → IfOk r (λ o. Opens transport octets m q v a o) → IfOk r (λ o. IfOk o (λ s. s.left ≡ [] → ⊥))
opened_some transport octets m q v a (Ok o) is = opened_by transport octets m q v a o is
opened_some transport octets m q v a (Err e) is = tt
