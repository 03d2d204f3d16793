-- What pumps give out is all that a transfer sends.
use Rattle.std.proofs.Common.{◌≡◌, ◌⊎◌, inl, inr, ℕ, Bool, true, false, List, [], ◌∷◌, ◌++◌, Option, Some, None, refl, sym, ap, subst, ◌∙◌}
use Rattle.std.specs.Prelude.{◌==◌, if◌then◌else◌}
use Rattle.std.specs.List.{flat_map}
use Rattle.dns_records.specs.Record.{Record}
use Rattle.dns_zone.specs.Order.{number_itself}
use Rattle.dns_zone.proofs.Kept.{numbers_same}
use Rattle.dns_transfer.specs.Session.{Sending}
use Rattle.dns_theorem.specs.Copies.{SendsAll}
use Rattle.dns_primary.specs.Machine.{sending_at}
use Rattle.dns_primary.specs.Flush.{Sent}
use Rattle.dns_primary.specs.Transfer.{open_still}
use Rattle.dns_primary.specs.Step.{Event, Datagram, Arrives, Connect, Flush, Checkpoint, Pump, Closed, Effects}
use Rattle.dns_primary.specs.Runs.{Moment, Took, Stopped, Configured}
use Rattle.dns_primary.specs.Continues.{Continues}
use Rattle.dns_theorem.specs.Headline.{IsGivenOut, octets_sent, pumped, pumped_in}

-- the event pumps the connection, or it gives nothing out
abbrev IsPump : ℕ → Event → Effects → Type 0
IsPump number event effects = (event ≡ Pump number) ⊎ ((event ≡ Pump number → ⊥) × (pumped number event effects ≡ []))

of_pump : (number other : ℕ) (effects : Effects) (b : Bool) → (other == number) ≡ b → IsPump number (Pump other) effects
of_pump number other effects true e = inl (ap Pump (numbers_same other number e))
of_pump number other effects false e = inr (
  λ is. (let same : other ≡ number = cc in let itself = number_itself number in let clash : true ≡ false = sym itself ∙ sym (ap (λ n. n == number) same) ∙ e in absurd cc),
  ap (λ b. if b then flat_map octets_sent effects.sent else []) e,
)

is_pump : (number : ℕ) (event : Event) (effects : Effects) → IsPump number event effects
is_pump number (Pump other) effects = of_pump number other effects (other == number) refl
is_pump number (Datagram peer octets) effects = inr (λ e. absurd cc, refl)
is_pump number (Arrives other octets) effects = inr (λ e. absurd cc, refl)
is_pump number (Connect peer) effects = inr (λ e. absurd cc, refl)
is_pump number Flush effects = inr (λ e. absurd cc, refl)
is_pump number (Checkpoint index) effects = inr (λ e. absurd cc, refl)
is_pump number (Closed other) effects = inr (λ e. absurd cc, refl)

pumped_is : (number : ℕ) (event : Event) (effects : Effects) (sent : List Sent) → event ≡ Pump number → effects.sent ≡ sent → pumped number event effects ≡ flat_map octets_sent sent
pumped_is number event effects sent e f =
    ap (λ (x : Event). pumped number x effects) e ∙ ap (λ b. if b then flat_map octets_sent effects.sent else []) (number_itself number) ∙ ap (flat_map octets_sent) f

some_left : (r : Record) (rest : List Record) → r ∷ rest ≡ [] → ⊥
some_left r rest e = absurd cc

-- what the rest of a run gives out of a transfer that is open then
abbrev Rest : ℕ → List Moment → Type 0
Rest number rest = (s : Sending) → (s.left ≡ [] → ⊥) → Continues number rest (Some s) → IsGivenOut number (Some s) rest → SendsAll s (pumped_in number rest)

same_on : (number : ℕ) (rest : List Moment) → Rest number rest → (s : Sending) (o : Option Sending) → (s.left ≡ [] → ⊥) → o ≡ Some s → Continues number rest o → IsGivenOut number o rest
    → SendsAll s (pumped_in number rest)
same_on number rest again s o some e c g =
    again s some (subst (λ (x : Option Sending). Continues number rest x) e c) (subst (λ (x : Option Sending). IsGivenOut number x rest) e g)

after_one : (number : ℕ) (rest : List Moment) → Rest number rest → (next : Sending) (o : Option Sending) (left : List Record) → next.left ≡ left → o ≡ open_still next.left next
    → Continues number rest o → IsGivenOut number o rest → SendsAll next (pumped_in number rest)
after_one number rest again next o [] e is c g =
    let none : o ≡ None = is ∙ ap (λ (xs : List Record). open_still xs next) e in
    let over : rest ≡ [] = subst (λ (x : Option Sending). IsGivenOut number x rest) none g in
    subst (λ (ts : List Moment). SendsAll next (pumped_in number ts)) (sym over) e
after_one number rest again next o (r ∷ left) e is c g =
    same_on number rest again next o (λ f. some_left r left (sym e ∙ f)) (is ∙ ap (λ (xs : List Record). open_still xs next) e) c g

pub given_all : (number : ℕ) (later : List Moment) (s : Sending) → (s.left ≡ [] → ⊥) → Continues number later (Some s) → IsGivenOut number (Some s) later → SendsAll s (pumped_in number later)
given_all number [] s some c g = absurd g
given_all number (Stopped event tries new ∷ rest) s some c g = absurd g
given_all number (Configured new ∷ rest) s some c g = absurd g
given_all number (Took event fails effects new ∷ rest) s some c g =
    let again : Rest number rest = λ t some_more d h. given_all number rest t some_more d h in
    let o = sending_at number new.connections in
    elim (is_pump number event effects) [
      | inr other ↦
          (let more = same_on number rest again s o some ((c.0).others other.0 g.0) c.1 g.1 in
          subst (λ (ms : List (List ℕ)). SendsAll s (ms ++ pumped_in number rest)) (sym other.1) more)
      | inl is ↦ elim ((c.0).pumped is) [
        | inl next ↦
            (let one = pumped_is number event effects _ is next.3 in
            subst (λ (ms : List (List ℕ)). SendsAll s (ms ++ pumped_in number rest)) (sym one)
            (some, next.1, next.2, after_one number rest again next.1 o (next.1).left refl next.4 c.1 g.1))
        | inr lacks ↦ elim lacks [
          | inl none ↦
              (let one = pumped_is number event effects [] is none.1 in
              subst (λ (ms : List (List ℕ)). SendsAll s (ms ++ pumped_in number rest)) (sym one) (same_on number rest again s o some none.2 c.1 g.1))
          | inr ended ↦ absurd (some ended.0)
        ]
      ]
    ]
