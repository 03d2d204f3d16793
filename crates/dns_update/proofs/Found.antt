-- What is found of a set, by what a name owns.
use Rattle.std.proofs.Common.{◌≡◌, ℕ, Bool, true, false, not, ◌&&◌, List, Option, Ok, Err, refl, subst, ◌∙◌}
use Rattle.std.specs.Prelude.{◌==◌, Result, IfOk, OnOk}
use Rattle.std.specs.List.{list_any}
use Rattle.dns_names.specs.Name.{Labels, names_eq}
use Rattle.dns_records.specs.Types.{type_soa}
use Rattle.dns_records.specs.Record.{Record, serial_of}
use Rattle.dns_serial.specs.Serial.{greater}
use Rattle.dns_zone.specs.Records.{records_at, rrset}
use Rattle.dns_zone.specs.Twice.{any_by}
use Rattle.dns_update.specs.Effect.{owns_other, succeeds}
use Rattle.dns_zone.proofs.Kept.{any_kept}

pub other_here : (name : Labels) (t : ℕ) (xs : List Record) → list_any (λ r. not (r.rtype == t)) (records_at xs name) ≡ owns_other xs name t
other_here name t xs = any_kept (λ r. not (r.rtype == t)) (λ r. names_eq r.owner name) xs

once_more : (a b d : Bool) → ((a && b) && (b && d)) ≡ ((a && b) && d)
once_more true true d = refl
once_more true false d = refl
once_more false b d = refl

pub older_here : (r : Record) (xs : List Record) → list_any (λ s. s.rtype == type_soa && greater (serial_of r) (serial_of s)) (rrset xs r.owner type_soa) ≡ list_any (succeeds r) xs
older_here r xs =
    any_kept (λ s. s.rtype == type_soa && greater (serial_of r) (serial_of s)) (λ s. names_eq s.owner r.owner && s.rtype == type_soa) xs
    ∙ any_by (λ s. (names_eq s.owner r.owner && s.rtype == type_soa) && (s.rtype == type_soa && greater (serial_of r) (serial_of s))) (succeeds r)
    (λ s. once_more (names_eq s.owner r.owner) (s.rtype == type_soa) (greater (serial_of r) (serial_of s))) xs

pub ok_at : {E : Type 0} (r : Result (Option Record) E) (a b : Option Record) → IfOk r (λ x. x ≡ a) → a ≡ b → IfOk r (λ x. x ≡ b)
ok_at r a b h e = subst (λ (y : Option Record). IfOk r (λ x. x ≡ y)) e h

pub done_at : {E : Type 0} (r : Result (Unit {0}) E) (a b c : List Record) → OnOk r (a ≡ b) → b ≡ c → OnOk r (a ≡ c)
done_at (Ok t) a b c h e = h ∙ e
done_at (Err x) a b c h e = h

-- what holds where it succeeds, by what it tells
pub ok_by : {R E : Type 0} (r : Result R E) (P Q : Type 0) → (P → Q) → OnOk r P → OnOk r Q
ok_by (Ok t) P Q f h = f h
ok_by (Err x) P Q f h = h
