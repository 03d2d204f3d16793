-- The versions of a zone: changes lead from each to the next.
use Rattle.std.proofs.Common.{◌≡◌, ◌≤◌, inl, inr, ℕ, zero, suc, Bool, true, false, not, List, [], ◌∷◌, ◌++◌, length, take, drop, Option, Some, None, refl, sym, ap, subst, ◌∙◌, arith, cond, append_assoc}
use Rattle.std.specs.Prelude.{◌&&◌, ◌||◌, ◌==◌, filter, nat_lt, if◌then◌else◌}
use Rattle.std.specs.List.{AllByRecursion}
use Rattle.std.proofs.lemmas.Bool.Decides.{nat_tests}
use Rattle.dns_names.specs.Name.{Labels}
use Rattle.dns_records.specs.Types.{type_soa}
use Rattle.dns_records.specs.Record.{Record, IsRecord, serial_of}
use Rattle.dns_zone.specs.Zone.{IsZone, soas, zone_fault}
use Rattle.dns_zone.specs.declared.ZoneError.TheVariants.{TooMany}
use Rattle.dns_zone.proofs.OneSoa.{zone_soa}
use Rattle.dns_changes.specs.Change.{Change, is_lone, only_in, is_soa}
use Rattle.dns_changes.specs.Version.{serial_in}
use Rattle.dns_serial.specs.Serial.{greater}
use Rattle.dns_transfer.specs.Form.{Form, Current, Incremental, Full, is_journalled, since, form_since, form_of}
use Rattle.dns_transfer.specs.Records.{sequence, sequences, all_but_soa, transfer_answer, transfer_from, transfer_of}
use Rattle.dns_update.proofs.Accepted.{IsSent, IsLeft, accepted}
use Rattle.dns_theorem.specs.Versions.{IsStep, LeadTo, EndAlike}
use Rattle.dns_store.specs.Versions.{Shape, Versions, newest_after}
use Rattle.dns_primary.specs.Machine.{Made, versions_of}
use Rattle.dns_primary.specs.Transfer.{change_by, changes_along}
use Rattle.dns_primary.specs.Runs.{IsAccepted, IsHistory}
use Rattle.dns_theorem.specs.Headline.{IsSoundZone}
use Rattle.dns_theorem.specs.Followed.{AreSoundVersions}

-- ---- records that a zone can have
valid_filter : (p : Record → Bool) (xs : List Record) → AllByRecursion IsRecord xs → AllByRecursion IsRecord (filter p xs)
valid_filter p [] h = tt
valid_filter p (x ∷ xs) h =
    elim (p x) as (λ b. AllByRecursion IsRecord (cond b (x ∷ filter p xs) (filter p xs))) [ true ↦ (h.0, valid_filter p xs h.1) | false ↦ valid_filter p xs h.1 ]

valid_joined : (xs ys : List Record) → AllByRecursion IsRecord xs → AllByRecursion IsRecord ys → AllByRecursion IsRecord (xs ++ ys)
valid_joined [] ys g h = h
valid_joined (x ∷ xs) ys g h = (g.0, valid_joined xs ys g.1 h)

-- A change of such records.
pub record IsValidChange (c : Change) : Type 0 where
  pub old_soa : IsRecord c.old_soa
  pub removed : AllByRecursion IsRecord c.removed
  pub new_soa : IsRecord c.new_soa
  pub added : AllByRecursion IsRecord c.added

sequences_valid : (cs : List Change) → AllByRecursion IsValidChange cs → AllByRecursion IsRecord (sequences cs)
sequences_valid [] h = tt
sequences_valid (c ∷ cs) h =
    valid_joined (sequence c) (sequences cs) ((h.0).old_soa, valid_joined c.removed (c.new_soa ∷ c.added) (h.0).removed ((h.0).new_soa, (h.0).added)) (sequences_valid cs h.1)

abbrev AreFound : Option (List Change) → Type 0
AreFound None = Unit {0}
AreFound (Some cs) = AllByRecursion IsValidChange cs

since_valid : (serial : ℕ) (cs : List Change) → AllByRecursion IsValidChange cs → AreFound (since serial cs)
since_valid serial [] h = tt
since_valid serial (c ∷ cs) h =
    elim (is_journalled (c ∷ cs) && serial_of c.old_soa == serial) as (λ b. AreFound (if b then Some (c ∷ cs) else since serial cs)) [ true ↦ h | false ↦ since_valid serial cs h.1 ]

abbrev HasValid : Form → Type 0
HasValid Current = Unit {0}
HasValid (Incremental cs) = AllByRecursion IsValidChange cs
HasValid Full = Unit {0}

found_valid : (o : Option (List Change)) → AreFound o → HasValid (form_since o)
found_valid None h = tt
found_valid (Some cs) h = h

form_valid : (current : ℕ) (cs : List Change) (client : Option ℕ) → AllByRecursion IsValidChange cs → HasValid (form_of current cs client)
form_valid current cs None h = tt
form_valid current cs (Some serial) h =
    elim (current == serial || greater serial current) as (λ b. HasValid (if b then Current else if not (greater current serial) then Full else form_since (since serial cs))) [
      | true ↦ tt
      | false ↦ elim (not (greater current serial)) as (λ b. HasValid (if b then Full else form_since (since serial cs))) [
        | true ↦ tt
        | false ↦ found_valid (since serial cs) (since_valid serial cs h)
      ]
    ]

answer_valid : (soa : Record) (records : List Record) (form : Form) → IsRecord soa → AllByRecursion IsRecord records → HasValid form → AllByRecursion IsRecord (transfer_answer soa records form)
answer_valid soa records Current s h f = (s, tt)
answer_valid soa records (Incremental cs) s h f = (s, valid_joined (sequences cs) (soa ∷ []) (sequences_valid cs f) (s, tt))
answer_valid soa records Full s h f = (s, valid_joined (all_but_soa records) (soa ∷ []) (valid_filter (λ r. not (is_soa r)) records h) (s, tt))

from_valid : (soas : List Record) (records : List Record) (cs : List Change) (client : Option ℕ) → AllByRecursion IsRecord soas → AllByRecursion IsRecord records → AllByRecursion IsValidChange cs
    → AllByRecursion IsRecord (transfer_from soas records cs client)
from_valid [] records cs client s h c = tt
from_valid (soa ∷ rest) records cs client s h c = answer_valid soa records (form_of (serial_of soa) cs client) s.0 h (form_valid (serial_of soa) cs client c)

pub soas_valid : (records : List Record) → AllByRecursion IsRecord records → AllByRecursion IsRecord (soas records)
soas_valid records h = valid_filter (λ r. r.rtype == type_soa) records h

-- what a transfer sends
pub transfer_valid : (records : List Record) (cs : List Change) (client : Option ℕ) → AllByRecursion IsRecord records → AllByRecursion IsValidChange cs → AllByRecursion IsRecord (transfer_of records cs client)
transfer_valid records cs client h c = from_valid (soas records) records cs client (soas_valid records h) h c

-- ---- the versions of a zone
-- each update came as octets
abbrev pub AreSent : List Made → Type 0
AreSent made = AllByRecursion (λ u. AllByRecursion IsSent (u.update).authorities) made

-- Changes lead from one version to another, all of valid records.
pub record Leads (apex : Labels) (from : List Record) (vs : Versions) : Type 0 where
  pub leads : LeadTo apex from (changes_along from vs) (newest_after from vs)
  pub changes : AllByRecursion IsValidChange (changes_along from vs)
  pub each : AllByRecursion IsRecord (newest_after from vs)

few_valid : (apex : Labels) (records : List Record) → length records ≤ 65536 → zone_fault apex records ≡ (if nat_lt 65536 (length records) then Some TooMany else None) → zone_fault apex records ≡ None
few_valid apex records few e =
    let none : nat_lt 65536 (length records) ≡ false = grind (arith, nat_tests) in
    e ∙ ap (λ b. if b then Some TooMany else None) none

module _ (apex : Labels) (before after : List Record) (valid : IsZone (record { apex = apex; records = before })) (each : AllByRecursion IsRecord before)
    (sound : IsSoundZone (record { apex = apex; records = after })) (raised : greater (serial_in (soas after)) (serial_in (soas before)) ≡ true) where
  abbrev old_soa : Record
  old_soa = (zone_soa (record { apex = apex; records = before }) valid).soa

  old_one : soas before ≡ old_soa ∷ []
  old_one = (zone_soa (record { apex = apex; records = before }) valid).one

  abbrev new_soa : Record
  new_soa = (zone_soa (record { apex = apex; records = after }) sound.valid).soa

  new_one : soas after ≡ new_soa ∷ []
  new_one = (zone_soa (record { apex = apex; records = after }) sound.valid).one

  abbrev change : Change
  change = record { old_soa = old_soa; removed = only_in before after; new_soa = new_soa; added = only_in after before }

  change_is : change_by before after (soas before) (soas after) ≡ change ∷ []
  change_is = λ i. change_by before after (old_one i) (new_one i)

  step : IsStep before after change
  step = record {
    change = record { old_soa = old_one; new_soa = new_one; removed = refl; added = refl };
    serial = (λ i. greater (serial_in (sym new_one i)) (serial_in (sym old_one i))) ∙ raised;
  }

  change_valid : IsValidChange change
  change_valid = record {
    old_soa = (subst (AllByRecursion IsRecord) old_one (soas_valid before each)).0;
    removed = valid_filter (is_lone after) before each;
    new_soa = (subst (AllByRecursion IsRecord) new_one (soas_valid after sound.each)).0;
    added = valid_filter (is_lone before) after sound.each;
  }

-- changes lead along sound versions
pub leads_on : (apex : Labels) (before : List Record) (vs : Versions) → IsZone (record { apex = apex; records = before }) → AllByRecursion IsRecord before → AreSoundVersions apex before vs
    → Leads apex before vs
leads_on apex before [] valid each h = record { leads = (valid, refl); changes = tt; each = each }
leads_on apex before (v ∷ later) valid each h =
    let rest = leads_on apex v later (h.0).valid (h.0).each h.2 in
    let c = change apex before v valid each h.0 h.1 in
    let is = sym (change_is apex before v valid each h.0 h.1) in
    let cs = changes_along v later in
    record {
      leads = subst (λ (first : List Change). LeadTo apex before (first ++ cs) (newest_after v later)) is (valid, v, step apex before v valid each h.0 h.1, rest.leads);
      changes = subst (λ (first : List Change). AllByRecursion IsValidChange (first ++ cs)) is (change_valid apex before v valid each h.0 h.1, rest.changes);
      each = rest.each;
    }

-- what an update leaves that came as octets
pub accepted_sound : (s : Shape) (n : ℕ) (before : List Record) (m : Made) → IsZone (record { apex = s.apex; records = before }) → AllByRecursion IsRecord before
    → IsAccepted s n before m → AllByRecursion IsSent (m.update).authorities
    → IsSoundZone (record { apex = s.apex; records = m.records }) × (greater (serial_in (soas m.records)) (serial_in (soas before)) ≡ true)
accepted_sound s n before m valid each a sent =
    let left : IsLeft (record { apex = s.apex; records = before }) m.records =
    accepted (record { apex = s.apex; records = before }) valid each (m.update).answers (m.update).authorities sent m.records a.judged in (
      record {
        valid = record { ordered = (left.version).ordered; each = (left.version).each; valid = few_valid s.apex m.records a.few (left.version).valid };
        each = left.each;
      },
      (left.version).serial,
    )

-- the versions that accepted updates left
pub history_sound : (s : Shape) (n : ℕ) (before : List Record) (made : List Made) → IsZone (record { apex = s.apex; records = before }) → AllByRecursion IsRecord before
    → IsHistory s n before made → AreSent made → AreSoundVersions s.apex before (versions_of made)
history_sound s n before [] valid each h sent = tt
history_sound s n before (m ∷ later) valid each h sent =
    let one = accepted_sound s n before m valid each h.0 sent.0 in
    (one.0, one.1, history_sound s (suc n) m.records later (one.0).valid (one.0).each h.1 sent.1)

-- ---- parts of sound versions
pub sound_front : (apex : Labels) (before : List Record) (xs ys : Versions) → AreSoundVersions apex before (xs ++ ys) → AreSoundVersions apex before xs
sound_front apex before [] ys h = tt
sound_front apex before (x ∷ xs) ys h = (h.0, h.1, sound_front apex x xs ys h.2)

pub sound_pending : (apex : Labels) (before : List Record) (xs ys : Versions) → AreSoundVersions apex before (xs ++ ys) → AreSoundVersions apex (newest_after before xs) ys
sound_pending apex before [] ys h = h
sound_pending apex before (x ∷ xs) ys h = sound_pending apex x xs ys h.2

pub sound_joined : (apex : Labels) (before : List Record) (xs ys : Versions) → AreSoundVersions apex before xs → AreSoundVersions apex (newest_after before xs) ys → AreSoundVersions apex before (xs ++ ys)
sound_joined apex before [] ys g h = h
sound_joined apex before (x ∷ xs) ys g h = (g.0, g.1, sound_joined apex x xs ys g.2 h)

pub newest_joined : (from : List Record) (xs ys : Versions) → newest_after from (xs ++ ys) ≡ newest_after (newest_after from xs) ys
newest_joined from [] ys = refl
newest_joined from (x ∷ xs) ys = newest_joined x xs ys

-- the changes from a number on are the last of all
pub record Front (from : List Record) (vs : Versions) (k : ℕ) : Type 0 where
  pub front : List Change
  pub is : changes_along from vs ≡ front ++ changes_along (newest_after from (take k vs)) (drop k vs)

pub from_number : (from : List Record) (vs : Versions) (k : ℕ) → Front from vs k
from_number from vs zero = record { front = []; is = refl }
from_number from [] (suc k) = record { front = []; is = refl }
from_number from (v ∷ vs) (suc k) =
    let rest = from_number v vs k in
    let first = change_by from v (soas from) (soas v) in
    record { front = first ++ rest.front; is = ap (λ (cs : List Change). first ++ cs) rest.is ∙ sym (append_assoc first rest.front _) }

-- two ends of one list
pub ends_alike : (xs ys us vs : List Change) → xs ++ us ≡ ys ++ vs → EndAlike us vs
ends_alike [] ys us vs e = inl (ys, e)
ends_alike (x ∷ xs) [] us vs e = inr (x ∷ xs, sym e)
ends_alike (x ∷ xs) (y ∷ ys) us vs e = ends_alike xs ys us vs (tails x y (xs ++ us) (ys ++ vs) e)
  where
    tails : (x y : Change) (as' bs : List Change) → x ∷ as' ≡ y ∷ bs → as' ≡ bs
    tails x y as' bs e = cc

pub valid_pending : (front cs : List Change) → AllByRecursion IsValidChange (front ++ cs) → AllByRecursion IsValidChange cs
valid_pending [] cs h = h
valid_pending (f ∷ front) cs h = valid_pending front cs h.1
