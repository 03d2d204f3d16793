-- Messages in a row that bring no record.
use Rattle.std.proofs.Common.{arith, ◌≡◌, ℕ, ◌+◌, ◌<◌, ◌≤◌, inl, inr, Bool, true, false, List, [], ◌∷◌, ◌++◌, length, Option, Some, refl, sym, ap, subst, ◌∙◌, append_assoc}
use Rattle.std.specs.Prelude.{◌↔◌, ◌⊎◌, ◌-◌, ◌^◌, min}
use Rattle.std.proofs.Math.Nat.{min-le_left}
use Rattle.dns_wire.specs.Message.{Message}
use Rattle.dns_wire.specs.Reads.{Reads}
use Rattle.dns_secondary.specs.Received.{is_incremental, received_count}
use Rattle.dns_secondary.specs.Receiving.{Receiving}
use Rattle.dns_secondary.specs.Rest.{Reaches}
use Rattle.dns_secondary.specs.State.{State}
use Rattle.dns_secondary.specs.Told.{Feeds}
use Rattle.dns_secondary.specs.declared.fault.Progress.TheVariants.{More}
use Rattle.dns_secondary.proofs.Runs.{one_reached}
use Rattle.dns_fetch.specs.TakingIn.{BringNoRecords, HearsMore, HasIdled, IsIdleCount, BringsNoRecord, IsTooMuch, NeverStalls, TellMore, idle_limit}

-- More messages are fed.
pub more_on : (s mid now : Receiving) (ms ns : List (List ℕ)) → TellMore s ms mid → TellMore mid ns now → TellMore s (ms ++ ns) now
more_on s mid now [] ns h k = subst (λ (x : Receiving). TellMore x ns now) h k
more_on s mid now (m ∷ ms) ns h k = (h.0, h.1, more_on h.0 mid now ms ns h.2 k)

pub goes_on : (a b c : ℕ) (s mid now : Receiving) (ms ns : List (List ℕ)) → HearsMore a s ms b mid → HearsMore b mid ns c now → HearsMore a s (ms ++ ns) c now
goes_on a b c s mid now [] ns h k =
    let here : HearsMore a mid ns c now = subst (λ (x : ℕ). HearsMore x mid ns c now) h.0 k in
    subst (λ (x : Receiving). HearsMore a x ns c now) h.1 here
goes_on a b c s mid now (m ∷ ms) ns h k = (h.0, h.1, h.2, h.3, h.4, goes_on h.2 b c h.0 mid now ms ns h.5 k)

pub goes_more : (a b : ℕ) (s now : Receiving) (ms : List (List ℕ)) → HearsMore a s ms b now → TellMore s ms now
goes_more a b s now [] h = h.1
goes_more a b s now (m ∷ ms) h = (h.0, h.1, goes_more h.2 b h.0 now ms h.5)

pub goes_below : (a b : ℕ) (s now : Receiving) (ms : List (List ℕ)) → a < idle_limit → HearsMore a s ms b now → b < idle_limit
goes_below a b s now [] lt h = subst (λ (x : ℕ). x < idle_limit) (sym h.0) lt
goes_below a b s now (m ∷ ms) lt h = goes_below h.2 b h.0 now ms h.4 h.5

-- The count is of the last messages, or of all of them and those before.
has_idled : (a b : ℕ) (s now : Receiving) (ms : List (List ℕ)) → HearsMore a s ms b now → HasIdled s ms b now ⊎ ((b ≡ a + length ms) × BringNoRecords s ms now)
has_idled a b s now [] h = inr (omega (arith, h.0), h.1)
has_idled a b s now (m ∷ ms) h =
    let next = h.0 in
    elim (has_idled h.2 b next now ms h.5) [
      | inl k ↦ inl (record {
        before = m ∷ k.before;
        idle = k.idle;
        parts = ap (λ (x : List (List ℕ)). m ∷ x) k.parts;
        many = k.many;
        from = k.from;
        more = (next, h.1, k.more);
        idles = k.idles;
      })
      | inr k ↦ elim h.3 [
        | inl counted ↦ inr (let e = counted.1 in let f = k.0 in omega arith, (next, h.1, counted.0, k.1))
        | inr counted ↦ inl (record {
          before = m ∷ [];
          idle = ms;
          parts = refl;
          many = (let e = counted.1 in let f = k.0 in omega arith);
          from = next;
          more = (next, h.1, refl);
          idles = k.1;
        })
      ]
    ]

pub idled : (b : ℕ) (s now : Receiving) (ms : List (List ℕ)) → HearsMore 0 s ms b now → HasIdled s ms b now
idled b s now ms h =
    elim (has_idled 0 b s now ms h) [
      | inl k ↦ k
      | inr k ↦ record { before = []; idle = ms; parts = refl; many = (let e = k.0 in omega arith); from = s; more = refl; idles = k.1 }
    ]

idle_on : (s mid now : Receiving) (ms ns : List (List ℕ)) → BringNoRecords s ms mid → BringNoRecords mid ns now → BringNoRecords s (ms ++ ns) now
idle_on s mid now [] ns h k = subst (λ (x : Receiving). BringNoRecords x ns now) h k
idle_on s mid now (m ∷ ms) ns h k = (h.0, h.1, h.2, idle_on h.0 mid now ms ns h.3 k)

length_more : (ms : List (List ℕ)) (m : List ℕ) → length (ms ++ m ∷ []) ≡ length ms + 1
length_more [] m = refl
length_more (x ∷ ms) m = let e = length_more ms m in omega arith

-- One message more brings no record.
pub idled_more : (count : ℕ) (s now next : Receiving) (ms : List (List ℕ)) (m : List ℕ) → HasIdled s ms count now → Feeds now m More next → BringsNoRecord now m next → HasIdled s (ms ++ m ∷ []) (count + 1) next
idled_more count s now next ms m h fed idle = record {
  before = h.before;
  idle = h.idle ++ m ∷ [];
  parts = ap (λ (x : List (List ℕ)). x ++ m ∷ []) h.parts ∙ append_assoc h.before h.idle (m ∷ []);
  many = length_more h.idle m ∙ ap (λ (n : ℕ). n + 1) h.many;
  from = h.from;
  more = h.more;
  idles = idle_on h.from now next h.idle (m ∷ []) h.idles (next, fed, idle, refl);
}

-- What `at_most_one` says.
abbrev pub IsReadOnce : Type 0
IsReadOnce = (octets : List ℕ) (m n : Message) → Reads octets m → Reads octets n → m ≡ n

pub some_is : (a b : State) → ◌≡◌ {A = Option State} (Some a) (Some b) → a ≡ b
some_is a b e = cc

-- A message leads to one state.
pub one_fed : IsReadOnce → (s a b : Receiving) (m : List ℕ) → Feeds s m More a → Feeds s m More b → a ≡ b
one_fed once s a b m h k =
    let at : k.0 ≡ h.0 = some_is k.0 h.0 (sym k.1 ∙ h.1) in
    let same : (k.2).message ≡ (h.2).message = once m (k.2).message (h.2).message (k.2).stands (h.2).stands in
    let one = (h.2).tells in
    let two = (k.2).tells in
    let moved : Reaches s.apex s.held h.0 (k.2).message.answers two.0 = subst (λ (x : State). Reaches s.apex s.held x (k.2).message.answers two.0) at two.1 in
    let reached : Reaches s.apex s.held h.0 (h.2).message.answers two.0 = subst (λ (x : Message). Reaches s.apex s.held h.0 x.answers two.0) same moved in
    let next : one.0 ≡ two.0 = one_reached s.apex s.held h.0 one.0 two.0 (h.2).message.answers one.1 reached in
    one.3 ∙ ap (λ (x : State). record s { state = Some x }) next ∙ sym two.3

cons_is : (m x : List ℕ) (ms xs : List (List ℕ)) → m ∷ ms ≡ x ∷ xs → (m ≡ x) × (ms ≡ xs)
cons_is m x ms xs e = (cc, cc)

no_cons : (x : List ℕ) (xs : List (List ℕ)) → [] ≡ x ∷ xs → ⊥
no_cons x xs e = cc

-- Of messages after which one ends the answer, fewer in a row bring no record than end it.
module _ (once : IsReadOnce) (last : List ℕ) where
  begun : (a b : ℕ) (s now : Receiving) (ms : List (List ℕ)) → a < idle_limit → HearsMore a s ms b now → ((x : Receiving) → Feeds now last More x → ⊥)
      → (idle later : List (List ℕ)) (end : Receiving) → ms ++ last ∷ [] ≡ idle ++ later → BringNoRecords s idle end → a + length idle < idle_limit
  begun a b s now ms lt h stop [] later end parts idles = omega arith
  begun a b s now [] lt h stop (x ∷ idle) later end parts idles =
      let e = cons_is last x [] (idle ++ later) parts in
      absurd (stop idles.0 (subst (λ (y : Receiving). Feeds y last More idles.0) (sym h.1) (subst (λ (y : List ℕ). Feeds s y More idles.0) (sym e.0) idles.1)))
  begun a b s now (m ∷ ms) lt h stop (x ∷ idle) later end parts idles =
      let e = cons_is m x (ms ++ last ∷ []) (idle ++ later) parts in
      let fed : Feeds s m More idles.0 = subst (λ (y : List ℕ). Feeds s y More idles.0) (sym e.0) idles.1 in
      let next : idles.0 ≡ h.0 = one_fed once s idles.0 h.0 m fed h.1 in
      let moved : BringsNoRecord s m idles.0 = subst (λ (y : List ℕ). BringsNoRecord s y idles.0) (sym e.0) idles.2 in
      let idle_here : BringsNoRecord s m h.0 = subst (λ (y : Receiving). BringsNoRecord s m y) next moved in
      let rest : BringNoRecords h.0 idle end = subst (λ (y : Receiving). BringNoRecords y idle end) next idles.3 in
      elim h.3 [
        | inl counted ↦ (let more = begun h.2 b h.0 now ms h.4 h.5 stop idle later end e.1 rest in let is = counted.1 in omega arith)
        | inr counted ↦ absurd (counted.0 idle_here)
      ]

  within : (a b : ℕ) (s now : Receiving) (ms : List (List ℕ)) → a < idle_limit → HearsMore a s ms b now → ((x : Receiving) → Feeds now last More x → ⊥)
      → (before idle later : List (List ℕ)) (from end : Receiving) → ms ++ last ∷ [] ≡ before ++ idle ++ later → TellMore s before from → BringNoRecords from idle end → length idle < idle_limit
  within a b s now ms lt h stop [] idle later from end parts more idles =
      let few = begun a b s now ms lt h stop idle later end parts (subst (λ (y : Receiving). BringNoRecords y idle end) more idles) in omega arith
  within a b s now [] lt h stop (x ∷ before) idle later from end parts more idles =
      let e = cons_is last x [] (before ++ idle ++ later) parts in
      absurd (stop more.0 (subst (λ (y : Receiving). Feeds y last More more.0) (sym h.1) (subst (λ (y : List ℕ). Feeds s y More more.0) (sym e.0) more.1)))
  within a b s now (m ∷ ms) lt h stop (x ∷ before) idle later from end parts more idles =
      let e = cons_is m x (ms ++ last ∷ []) (before ++ idle ++ later) parts in
      let fed : Feeds s m More more.0 = subst (λ (y : List ℕ). Feeds s y More more.0) (sym e.0) more.1 in
      let next : more.0 ≡ h.0 = one_fed once s more.0 h.0 m fed h.1 in
      within h.2 b h.0 now ms h.4 h.5 stop before idle later from end e.1 (subst (λ (y : Receiving). TellMore y before from) next more.2) idles

  pub never_stalls : (b : ℕ) (s now : Receiving) (ms : List (List ℕ)) → HearsMore 0 s ms b now → ((x : Receiving) → Feeds now last More x → ⊥) → NeverStalls s (ms ++ last ∷ [])
  never_stalls b s now ms h stop = λ first later end parts stalls.
      (let whole : ms ++ last ∷ [] ≡ stalls.before ++ stalls.idle ++ later =
      parts ∙ ap (λ (x : List (List ℕ)). x ++ later) stalls.parts in
      let few = within 0 b s now ms (omega arith) h stop stalls.before stalls.idle later stalls.from end whole stalls.more stalls.idles in
      let many = stalls.many in
      absurd (omega arith))

-- One who holds more than can be counted holds too much.
pub too_much : (s : Receiving) (count : ℕ) → is_incremental s.state ≡ false → count ≡ min (received_count s.state) (2 ^ 64 - 1) → 65536 < count → IsTooMuch s
too_much s count whole counted many =
    let few = min-le_left (received_count s.state) (2 ^ 64 - 1) in
    record { whole = whole; many = omega (arith, counted, many, few) }

-- One who counts no more doesn't.
pub not_too_much : (s : Receiving) (count : ℕ) → count ≡ min (received_count s.state) (2 ^ 64 - 1) → count ≤ 65536 → IsTooMuch s → ⊥
not_too_much s count counted few is = let many = is.many in absurd (omega arith)

-- A message is counted: it has no record, or as many records have come as before; or neither is so.
same_count : (a b before : ℕ) → (65536 < a → ⊥) → min a (2 ^ 64 - 1) ≡ before → before ≡ min b (2 ^ 64 - 1) → a ≡ b
same_count a b before few here there = omega arith

module _ (s next : Receiving) (octets : List ℕ) (count before : ℕ) (none : Bool) (says : (m : Message) → Reads octets m → ((none ≡ true) ↔ (m.answers ≡ []))) (fed : Feeds s octets More next) where
  pub counted_none : none ≡ true → IsIdleCount s octets next count (count + 1)
  counted_none is = inl (inl ((fed.2).message, (fed.2).stands, (says (fed.2).message (fed.2).stands).0 is), refl)

  module _ (same : Bool) (whole : (same ≡ true) ↔ ((is_incremental next.state ≡ false) × (min (received_count next.state) (2 ^ 64 - 1) ≡ before))) (was : before ≡ min (received_count s.state) (2 ^ 64 - 1)) where
    pub counted_same : (IsTooMuch next → ⊥) → same ≡ true → IsIdleCount s octets next count (count + 1)
    counted_same few is =
        let h = whole.0 is in
        inl (inr (h.0, same_count (received_count next.state) (received_count s.state) before (λ many. few (record { whole = h.0; many = many })) h.1 was), refl)

    pub counted_new : none ≡ false → same ≡ false → IsIdleCount s octets next count 0
    counted_new some more = inr (
      λ idle. elim idle [
        | inl h ↦ (let is : none ≡ true = (says h.0 h.1).1 h.2 in absurd cc)
        | inr h ↦ (let is : same ≡ true = whole.1 (h.0, ap (λ (n : ℕ). min n (2 ^ 64 - 1)) h.1 ∙ sym was) in absurd cc)
      ],
      refl,
    )

pub counted_below : (s next : Receiving) (m : List ℕ) (b c : ℕ) → IsIdleCount s m next b c → b < idle_limit → (c ≡ idle_limit → ⊥) → c < idle_limit
counted_below s next m b c counted lt other = elim counted [
  | inl one ↦ (let e = one.1 in omega arith)
  | inr none ↦ (let e = none.1 in omega arith)
]
