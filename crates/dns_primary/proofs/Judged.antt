-- What a judgement says of its verdict, and how an update ends by it.
use Rattle.std.proofs.Common.{◌≡◌, Bool, true, false, List, refl, sym, ap, subst, ◌∙◌, arith}
use Rattle.std.specs.Prelude.{Err, if◌then◌else◌}
use Rattle.dns_records.specs.Record.{Record}
use Rattle.dns_changes.specs.Change.{Change, IsChange}
use Rattle.dns_wire.specs.declared.codes.Rcode.{Rcode}
use Rattle.dns_wire.specs.declared.codes.Rcode.TheVariants.{NoError, ServFail}
use Rattle.dns_update.specs.Verdict.{Verdict, Refuses, Keeps, Leaves, IsVerdict}
use Rattle.dns_update.specs.declared.Judged.TheVariants as judged
use Rattle.dns_store.specs.Versions.{Kept, staged_with}
use Rattle.dns_journal.specs.declared.journal.StageError.{StageError}
use Rattle.dns_journal.specs.declared.journal.StageError.TheVariants as refusal
use Rattle.dns_versions.specs.Staging.{HasRoomBy, has_room}
use Rattle.dns_primary.specs.declared.update.Outcome.{Outcome}
use Rattle.dns_primary.specs.declared.update.Outcome.TheVariants.{Waits}
use Rattle.dns_primary.specs.Outcome.{ChangesNothing, Ends, HasLeft, end_of, IsDone, refused_as}

pub refused_is : {X : Type 0} (records : X → List Record) (before : List Record) (v : Verdict) (rcode : Rcode) → IsVerdict records before v (judged.Refused rcode) → v ≡ Refuses rcode
refused_is records before (Refuses r) rcode e = let same : r ≡ rcode = cc e in ap (λ x. Refuses x) same
refused_is records before Keeps rcode e = absurd (cc e)
refused_is records before (Leaves after) rcode e = absurd (let is = e.2 in cc is)

pub kept_is : {X : Type 0} (records : X → List Record) (before : List Record) (v : Verdict) → IsVerdict records before v judged.NoChange → v ≡ Keeps
kept_is records before (Refuses r) e = absurd (cc e)
kept_is records before Keeps e = refl
kept_is records before (Leaves after) e = absurd (let is = e.2 in cc is)

pub record IsLeaving {X : Type 0} (records : X → List Record) (before : List Record) (v : Verdict) (c : Change) (next : X) : Type 0 where
  pub is : v ≡ Leaves (records next)
  pub change : IsChange before (records next) c

pub leaving : {X : Type 0} (records : X → List Record) (before : List Record) (v : Verdict) (c : Change) (next : X) → IsVerdict records before v (judged.Accepted c next) → IsLeaving records before v c next
leaving records before (Refuses r) c next e = absurd (cc e)
leaving records before Keeps c next e = absurd (cc e)
leaving {X} records before (Leaves after) c next e =
    let is = e.2 in
    let change : e.0 ≡ c = cc is in
    let set : e.1 ≡ next = cc is in
    let records_are : after ≡ records next = sym e.3 ∙ ap records set in
    record { is = ap (λ xs. Leaves xs) records_are; change = subst (λ (x : Change). IsChange before (records next) x) change (subst (λ (xs : List Record). IsChange before xs e.0) records_are e.4) }

pub tested : {A : Type 0} (b : Bool) (x y : A) → b ≡ true → (if b then x else y) ≡ x
tested true x y e = refl
tested false x y e = absurd (cc e)

pub untested : {A : Type 0} (b : Bool) (x y : A) → b ≡ false → (if b then x else y) ≡ y
untested true x y e = absurd (cc e)
untested false x y e = refl

pub ends_without_room : (k : Kept) (after : List Record) → has_room k after ≡ false → end_of k (Leaves after) ≡ record { outcome = Waits ServFail; versions = k }
ends_without_room k after none = untested (has_room k after) _ _ none

pub ends_staged : (k : Kept) (after : List Record) → has_room k after ≡ true → end_of k (Leaves after) ≡ record { outcome = Waits NoError; versions = staged_with after k }
ends_staged k after room = tested (has_room k after) _ _ room

module _ (held : Kept → Type 0) (k : Kept) where
  pub done_unchanged : (v : Verdict) (rcode : Rcode) → ChangesNothing k v rcode → held k → IsDone held k v (Waits rcode)
  done_unchanged (Refuses code) rcode e h = (ap (λ (r : Rcode). Waits r) e, h)
  done_unchanged Keeps rcode e h = (ap (λ (r : Rcode). Waits r) e, h)
  done_unchanged (Leaves after) rcode e h =
      let is = ends_without_room k after e.0 in
      (ap (λ (r : Rcode). Waits r) e.1 ∙ sym (ap (λ (d : Ends). d.outcome) is), subst (λ (d : Ends). held d.versions) (sym is) h)

  -- where the end is this one
  ended : (v : Verdict) (after : List Record) (o : Outcome) (kept : Kept) → v ≡ Leaves after → end_of k (Leaves after) ≡ record { outcome = o; versions = kept } → held kept → (o ≡ (end_of k v).outcome) × held (end_of k v).versions
  ended v after o kept e is h =
      subst (λ (x : Verdict). (o ≡ (end_of k x).outcome) × held (end_of k x).versions) (sym e) (sym (ap (λ (d : Ends). d.outcome) is), subst (λ (d : Ends). held d.versions) (sym is) h)

  pub done_staged : (v : Verdict) (after : List Record) → v ≡ Leaves after → has_room k after ≡ true → held (staged_with after k) → IsDone held k v (Waits NoError)
  done_staged v after e room h = ended v after (Waits NoError) (staged_with after k) e (ends_staged k after room) h

  pub done_unstaged : (v : Verdict) (after : List Record) (error : StageError) → v ≡ Leaves after → HasLeft k v → has_room k after ≡ true → HasRoomBy {T = Unit {0}} k after (Err error) → k.closed ≡ false → held k → IsDone held k v (refused_as error)
  done_unstaged v after refusal.Full e left has room opened h = absurd (omega (arith, room, left after e has))
  done_unstaged v after refusal.Closed e left has room opened h = absurd (let clash : true ≡ false = sym room ∙ opened in cc clash)
  done_unstaged v after refusal.OutOfMemory e left has room opened h = h
