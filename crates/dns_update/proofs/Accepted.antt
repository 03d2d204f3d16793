-- An update whose message was read from octets, and is accepted, leaves the next version, of records that a zone can have.
use Rattle.std.proofs.Common.{◌≡◌, ℕ, zero, suc, ◌+◌, ◌*◌, ◌-◌, ◌<◌, ◌≤◌, ◌^◌, Bool, true, false, ◌&&◌, ◌||◌, List, [], ◌∷◌, ◌++◌, length, take, drop, Option, Some, None, refl, sym, subst, ◌∙◌, arith, cond}
use Rattle.std.specs.Prelude.{◌==◌, filter, slice_range, MatchOption, if◌then◌else◌}
use Rattle.std.specs.List.{AllByRecursion}
use Rattle.std.proofs.lemmas.List.{length-take, length-drop}
use Rattle.dns_names.specs.Name.{Labels, IsName}
use Rattle.dns_names.specs.PlainOctets.{octets-append, wire_octets}
use Rattle.dns_names.specs.Lower.{AreOctets}
use Rattle.dns_records.specs.Types.{Field, Values, Name, UncompressedName, Strings, form, type_soa, type_cname, class_in, class_any}
use Rattle.dns_records.specs.Record.{Record, IsRecord, number_of}
use Rattle.dns_zone.specs.Records.{put, owns_type}
use Rattle.dns_zone.specs.Zone.{Zone, IsZone, soas}
use Rattle.dns_zone.proofs.Kept.{numbers_same}
use Rattle.dns_zone.proofs.Listed.{put_valid, without_valid}
use Rattle.dns_wire.specs.Message.{ResourceRecord, Message}
use Rattle.dns_wire.specs.Reads.{NumberAt, FieldAt, FieldsAt, RDataAt, ResourceRecordAt, ResourceRecordsAt, Reads}
use Rattle.dns_wire.proofs.Formed.{data_formed}
use Rattle.dns_serial.specs.Serial.{greater}
use Rattle.dns_wire.specs.declared.codes.Rcode.{Rcode}
use Rattle.dns_wire.specs.declared.codes.Rcode.TheVariants as code
use Rattle.dns_changes.specs.Version.{IsVersion, serial_in}
use Rattle.dns_update.specs.ResourceRecord.{HasForm, as_record, first_fault, otherwise}
use Rattle.dns_update.specs.Prerequisites.{prerequisites_fault}
use Rattle.dns_update.specs.Prescan.{prescan_fault}
use Rattle.dns_update.specs.Effect.{replaced, owns_other, added, deleted_set, is_spared, deleted, effect, effects}
use Rattle.dns_update.specs.Verdict.{Refuses, Keeps, Leaves, same_set, with_next_serial, versioned, unless, verdict}
use Rattle.dns_update.proofs.Forms.{fit}
use Rattle.dns_update.proofs.ResourceRecords.{no_fault}
use Rattle.dns_update.proofs.Sound.{IsSound}
use Rattle.dns_update.proofs.Versions.{each_next, sound_after, version_of}

abbrev pub Octal : List ℕ → Type 0
Octal xs = AllByRecursion (λ octet. octet < 256) xs

pub as_octets : (xs : List ℕ) → Octal xs → AreOctets xs
as_octets [] h zero = omega arith
as_octets [] h (suc i) = omega arith
as_octets (x ∷ xs) h zero = h.0
as_octets (x ∷ xs) h (suc i) = as_octets xs h.1 i

taken : (n : ℕ) (xs : List ℕ) → Octal xs → Octal (take n xs)
taken zero xs h = tt
taken (suc n) [] h = tt
taken (suc n) (x ∷ xs) h = (h.0, taken n xs h.1)

dropped : (n : ℕ) (xs : List ℕ) → Octal xs → Octal (drop n xs)
dropped zero xs h = h
dropped (suc n) [] h = tt
dropped (suc n) (x ∷ xs) h = dropped n xs h.1

part : (m : List ℕ) (from to : ℕ) → Octal m → Octal (slice_range m from to)
part m from to h = taken (to - from) (drop from m) (dropped from m h)

-- ---- the records of a message
small : (xs : List ℕ) → Octal xs → length xs ≡ 4 → number_of xs < 2 ^ 32
small [] h e = absurd (omega (arith, e))
small (a ∷ []) h e = absurd (omega (arith, e))
small (a ∷ b ∷ []) h e = absurd (omega (arith, e))
small (a ∷ b ∷ c ∷ []) h e = absurd (omega (arith, e))
small (a ∷ b ∷ c ∷ d ∷ []) h e = (let one = h.0 in let two = h.1.0 in let three = h.1.1.0 in let four = h.1.1.1.0 in omega (arith, one, two, three, four))
small (a ∷ b ∷ c ∷ d ∷ x ∷ xs) h e = absurd (omega (arith, e))

four_small : (m : List ℕ) (at value : ℕ) → Octal m → NumberAt m at 4 value → value < 2 ^ 32
four_small m at value h n =
    let inside = n.inside in
    let left = length-drop at m in
    let long = length-take (at + 4 - at) (drop at m) in
    subst (λ (k : ℕ). k < 2 ^ 32) (sym n.read) (small (slice_range m at (at + 4)) (part m at (at + 4) h) (omega (arith, inside, left, long)))

field_octal : (m : List ℕ) (at : ℕ) (field : Field) (plain : List ℕ) (stop : ℕ) → Octal m → FieldAt m at field plain stop → Octal plain
field_octal m at (Values vs) plain stop h f = subst Octal (sym f.2) (part m at stop h)
field_octal m at Name plain stop h f = subst Octal (sym f.2) (wire_octets f.0 ((f.1).valid).labels)
field_octal m at UncompressedName plain stop h f = subst Octal (sym f.2) (wire_octets f.0 ((f.1).valid).labels)
field_octal m at Strings plain stop h f = subst Octal (sym f.1) (part m at stop h)

fields_octal : (m : List ℕ) (at : ℕ) (fields : List Field) (plain : List ℕ) (stop : ℕ) → Octal m → FieldsAt m at fields plain stop → Octal plain
fields_octal m at [] plain stop h f = subst Octal (sym f.1) tt
fields_octal m at (field ∷ fields) plain stop h (front, rest, mid, is, first, more) =
    subst Octal (sym is) (octets-append front rest (field_octal m at field front mid h first) (fields_octal m mid fields rest stop h more))

data_octal : (m : List ℕ) (at rtype n : ℕ) (plain : List ℕ) → Octal m → RDataAt m at rtype n plain → Octal plain
data_octal m at rtype zero plain h d = subst Octal (sym d) tt
data_octal m at rtype (suc n) plain h d = go (form rtype) d.1
  where
    go : (o : Option (List Field)) → MatchOption o (plain ≡ slice_range m at (at + suc n)) (λ fields. FieldsAt m at fields plain (at + suc n)) → Octal plain
    go None e = subst Octal (sym e) (part m at (at + suc n) h)
    go (Some fields) f = fields_octal m at fields plain (at + suc n) h f

-- A record of a message that was read from octets.
pub record IsSent (i : ResourceRecord) : Type 0 where
  pub owner : IsName i.owner
  pub ttl : i.ttl < 2 ^ 32
  pub octets : Octal i.rdata
  pub form : HasForm i

sent : (m : List ℕ) (at : ℕ) (i : ResourceRecord) (stop : ℕ) → Octal m → ResourceRecordAt m at i stop → IsSent i
sent m at i stop h r = record {
  owner = (r.owner).valid;
  ttl = four_small m (r.mid + 4) i.ttl h r.ttl;
  octets = data_octal m (r.mid + 10) i.rtype r.rdlength i.rdata h r.rdata;
  form = data_formed m (r.mid + 10) i.rtype r.rdlength i.rdata r.rdata;
}

all_sent : (m : List ℕ) (at : ℕ) (items : List ResourceRecord) (stop : ℕ) → Octal m → ResourceRecordsAt m at items stop → AllByRecursion IsSent items
all_sent m at [] stop h r = tt
all_sent m at (i ∷ items) stop h (mid, first, more) = (sent m at i mid h first, all_sent m mid items stop h more)

pub updates_sent : (octets : List ℕ) (m : Message) → Octal octets → Reads octets m → AllByRecursion IsSent m.authorities
updates_sent octets m h r = all_sent octets r.second m.authorities r.third h r.authorities

forms : (items : List ResourceRecord) → AllByRecursion IsSent items → AllByRecursion HasForm items
forms [] h = tt
forms (i ∷ items) h = ((h.0).form, forms items h.1)

-- ---- what the items leave
kept_valid : (p : Record → Bool) (xs : List Record) → AllByRecursion IsRecord xs → AllByRecursion IsRecord (filter p xs)
kept_valid p [] h = tt
kept_valid p (x ∷ xs) h =
    elim (p x) as (λ b. AllByRecursion IsRecord (cond b (x ∷ filter p xs) (filter p xs))) [ true ↦ (h.0, kept_valid p xs h.1) | false ↦ kept_valid p xs h.1 ]

chosen : (b : Bool) (xs ys : List Record) → AllByRecursion IsRecord xs → AllByRecursion IsRecord ys → AllByRecursion IsRecord (if b then xs else ys)
chosen true xs ys g h = g
chosen false xs ys g h = h

replaced_valid : (records : List Record) (r : Record) → IsRecord r → AllByRecursion IsRecord records → AllByRecursion IsRecord (replaced records r)
replaced_valid records r v h = put_valid r _ v (kept_valid _ records h)

added_valid : (records : List Record) (r : Record) → IsRecord r → AllByRecursion IsRecord records → AllByRecursion IsRecord (added records r)
added_valid records r v h =
    chosen (r.rtype == type_cname) _ _ (chosen (owns_other records r.owner type_cname) records _ h (replaced_valid records r v h))
    (chosen (owns_type records r.owner type_cname) records _ h
    (chosen (r.rtype == type_soa) _ (put r records) (chosen _ _ records (replaced_valid records r v h) h) (put_valid r records v h)))

effect_valid : (apex : Labels) (records : List Record) (i : ResourceRecord) → (i.class ≡ class_in → IsRecord (as_record i)) → AllByRecursion IsRecord records → AllByRecursion IsRecord (effect apex records i)
effect_valid apex records i v h = go (i.class == class_in) refl
  where
    go : (b : Bool) → (i.class == class_in) ≡ b
        → AllByRecursion IsRecord (if b then added records (as_record i) else if i.class == class_any then deleted_set apex records i.owner i.rtype else deleted apex records (as_record i))
    go true e = added_valid records (as_record i) (v (numbers_same i.class class_in e)) h
    go false e = chosen (i.class == class_any) _ _ (kept_valid _ records h)
        (chosen (is_spared apex records (as_record i)) records _ h (without_valid (as_record i) records h))

as_valid : (apex : Labels) (i : ResourceRecord) → IsSent i → prescan_fault apex i ≡ None → i.class ≡ class_in → IsRecord (as_record i)
as_valid apex i s e c =
    let f = fit apex i c e s.form in
    record { owner = s.owner; rtype = f.rtype; ttl = s.ttl; octets = s.octets; short = f.short; rdata = f.form }

effects_valid : (apex : Labels) (records : List Record) (items : List ResourceRecord) → first_fault (prescan_fault apex) items ≡ None → AllByRecursion IsSent items
    → AllByRecursion IsRecord records → AllByRecursion IsRecord (effects apex records items)
effects_valid apex records [] e s h = h
effects_valid apex records (i ∷ rest) e s h =
    let both = no_fault (prescan_fault apex i) (first_fault (prescan_fault apex) rest) e in
    effects_valid apex (effect apex records i) rest both.1 s.1 (effect_valid apex records i (as_valid apex i s.0 both.0) h)

-- The next version of a zone, of records that a zone can have.
pub record IsLeft (z : Zone) (after : List Record) : Type 0 where
  pub version : IsVersion z after
  pub each : AllByRecursion IsRecord after

module _ (z : Zone) (valid : IsZone z) (each : AllByRecursion IsRecord z.records) (items : List ResourceRecord) (s : AllByRecursion IsSent items)
    (passes : first_fault (prescan_fault z.apex) items ≡ None) where
  abbrev found : List Record
  found = effects z.apex z.records items

  sound : IsSound z.apex found
  sound = sound_after z valid items passes (forms items s)

  found_valid : AllByRecursion IsRecord found
  found_valid = effects_valid z.apex z.records items passes s each

  left_valid : (xs : List Record) → versioned z.records found ≡ Leaves xs → AllByRecursion IsRecord xs
  left_valid xs = at (same_set z.records found) (serial_in (soas found) == serial_in (soas z.records)) (greater (serial_in (soas found)) (serial_in (soas z.records)))
    where
      at : (a b d : Bool) → (if a then Keeps else if b then Leaves (with_next_serial (soas found) found) else if d then Leaves found else Refuses code.Refused) ≡ Leaves xs
          → AllByRecursion IsRecord xs
      at true b d e = absurd cc
      at false true d e = (let is : with_next_serial (soas found) found ≡ xs = cc in subst (AllByRecursion IsRecord) is (each_next z.apex found sound.soa found_valid))
      at false false true e = (let is : found ≡ xs = cc in subst (AllByRecursion IsRecord) is found_valid)
      at false false false e = absurd cc

  left_is : (xs : List Record) → versioned z.records found ≡ Leaves xs → IsLeft z xs
  left_is xs e = record { version = version_of z found sound ∣ found_valid ∣₁ xs e; each = left_valid xs e }

pub accepted : (z : Zone) → IsZone z → AllByRecursion IsRecord z.records → (prerequisites items : List ResourceRecord) → AllByRecursion IsSent items → (after : List Record)
    → verdict z prerequisites items ≡ Leaves after → IsLeft z after
accepted z valid each prerequisites items s after = at (prerequisites_fault z prerequisites) (first_fault (prescan_fault z.apex) items) refl
  where
    at : (p f : Option Rcode) → first_fault (prescan_fault z.apex) items ≡ f → unless (otherwise p f) (versioned z.records (effects z.apex z.records items)) ≡ Leaves after → IsLeft z after
    at (Some rcode) f e is = absurd cc
    at None (Some rcode) e is = absurd cc
    at None None e is = left_is z valid each items s e after is
