-- No verdict refuses an update with SERVFAIL.
use Rattle.std.proofs.Common.{◌≡◌, Bool, true, false, List, [], ◌∷◌, Option, Some, None, arith}
use Rattle.std.specs.Prelude.{not, ◌&&◌, ◌||◌, ◌==◌, nat_lt, length, if◌then◌else◌}
use Rattle.dns_names.specs.Name.{Labels, under}
use Rattle.dns_records.specs.Types.{type_any, type_ns, class_in, class_none, class_any, is_known, is_data_type}
use Rattle.dns_records.specs.Record.{Record}
use Rattle.dns_zone.specs.Records.{owns, owns_type}
use Rattle.dns_zone.specs.Zone.{Zone, soas, is_wildcard}
use Rattle.dns_serial.specs.Serial.{greater}
use Rattle.dns_changes.specs.Version.{serial_in}
use Rattle.dns_wire.specs.Message.{ResourceRecord}
use Rattle.dns_wire.specs.Codes.{number_of_rcode}
use Rattle.dns_wire.specs.declared.codes.Rcode.{Rcode}
use Rattle.dns_wire.specs.declared.codes.Rcode.TheVariants.{FormErr, NxDomain, YxDomain, YxRrset, NxRrset, NotZone, Refused}
use Rattle.dns_update.specs.ResourceRecord.{is_empty, is_meta, first_fault, otherwise}
use Rattle.dns_update.specs.Prerequisites.{in_use_fault, unused_fault, prerequisite_fault, are_rrsets, prerequisites_fault}
use Rattle.dns_update.specs.Prescan.{addition_fault, prescan_fault}
use Rattle.dns_update.specs.Effect.{effects}
use Rattle.dns_update.specs.Verdict.{Verdict, Refuses, Keeps, Leaves, same_set, versioned, unless, verdict}

-- a case of two
pub either : {A : Type 0} (P : A → Type 0) (b : Bool) (x y : A) → P x → P y → P (if b then x else y)
either P true x y p q = p
either P false x y p q = q

abbrev pub IsOther : Rcode → Type 0
IsOther rcode = number_of_rcode rcode ≡ 2 → ⊥

abbrev Other : Option Rcode → Type 0
Other None = Unit {0}
Other (Some rcode) = IsOther rcode

abbrev pub OtherVerdict : Verdict → Type 0
OtherVerdict (Refuses rcode) = IsOther rcode
OtherVerdict Keeps = Unit {0}
OtherVerdict (Leaves records) = Unit {0}

formerr : IsOther FormErr
formerr e = omega (arith, e)

nxdomain : IsOther NxDomain
nxdomain e = omega (arith, e)

yxdomain : IsOther YxDomain
yxdomain e = omega (arith, e)

yxrrset : IsOther YxRrset
yxrrset e = omega (arith, e)

nxrrset : IsOther NxRrset
nxrrset e = omega (arith, e)

notzone : IsOther NotZone
notzone e = omega (arith, e)

refused : IsOther Refused
refused e = omega (arith, e)

or_other : (a b : Option Rcode) → Other a → Other b → Other (otherwise a b)
or_other None b p q = q
or_other (Some rcode) b p q = p

all_other : (fault : ResourceRecord → Option Rcode) → ((i : ResourceRecord) → Other (fault i)) → (items : List ResourceRecord) → Other (first_fault fault items)
all_other fault each [] = tt
all_other fault each (i ∷ items) = or_other (fault i) (first_fault fault items) (each i) (all_other fault each items)

in_use : (records : List Record) (i : ResourceRecord) → Other (in_use_fault records i)
in_use records i =
    either Other (not (is_empty i)) _ _ formerr
    (either Other (i.rtype == type_any) _ _ (either Other (owns records i.owner) _ _ tt nxdomain)
    (either Other (owns_type records i.owner i.rtype) _ _ tt nxrrset))

unused : (records : List Record) (i : ResourceRecord) → Other (unused_fault records i)
unused records i =
    either Other (not (is_empty i)) _ _ formerr
    (either Other (i.rtype == type_any) _ _ (either Other (owns records i.owner) _ _ yxdomain tt)
    (either Other (owns_type records i.owner i.rtype) _ _ yxrrset tt))

prerequisite : (z : Zone) (i : ResourceRecord) → Other (prerequisite_fault z i)
prerequisite z i =
    either Other (not (i.ttl == 0)) _ _ formerr
    (either Other (not (under i.owner z.apex)) _ _ notzone
    (either Other (i.class == class_any) _ _ (in_use z.records i)
    (either Other (i.class == class_none) _ _ (unused z.records i)
    (either Other (i.class == class_in) _ _ (either Other (is_known i.rtype && is_empty i) _ _ formerr tt) formerr))))

addition : (i : ResourceRecord) → Other (addition_fault i)
addition i =
    either Other (i.rtype == type_any || is_meta i.rtype || is_known i.rtype && is_empty i) _ _ formerr
    (either Other (not (is_data_type i.rtype) || nat_lt 4096 (length i.rdata) || i.rtype == type_ns && is_wildcard i.owner) _ _ refused tt)

prescan : (apex : Labels) (i : ResourceRecord) → Other (prescan_fault apex i)
prescan apex i =
    either Other (not (under i.owner apex)) _ _ notzone
    (either Other (i.class == class_in) _ _ (addition i)
    (either Other (i.class == class_any) _ _
    (either Other (not (i.ttl == 0) || not (is_empty i) || is_meta i.rtype) _ _ formerr tt)
    (either Other (i.class == class_none) _ _
    (either Other (not (i.ttl == 0) || i.rtype == type_any || is_meta i.rtype || is_known i.rtype && is_empty i) _ _ formerr tt) formerr)))

after_faults : (o : Option Rcode) (v : Verdict) → Other o → OtherVerdict v → OtherVerdict (unless o v)
after_faults None v p q = q
after_faults (Some rcode) v p q = p

version : (before after : List Record) → OtherVerdict (versioned before after)
version before after =
    either OtherVerdict (same_set before after) _ _ tt
    (either OtherVerdict (serial_in (soas after) == serial_in (soas before)) _ _ tt
    (either OtherVerdict (greater (serial_in (soas after)) (serial_in (soas before))) _ _ tt refused))

pub other_verdict : (z : Zone) (prerequisites items : List ResourceRecord) → OtherVerdict (verdict z prerequisites items)
other_verdict z prerequisites items =
    after_faults (otherwise (prerequisites_fault z prerequisites) (first_fault (prescan_fault z.apex) items)) (versioned z.records (effects z.apex z.records items))
    (or_other (prerequisites_fault z prerequisites) (first_fault (prescan_fault z.apex) items)
    (or_other (first_fault (prerequisite_fault z) prerequisites) _ (all_other (prerequisite_fault z) (prerequisite z) prerequisites) (either Other (are_rrsets z.records prerequisites) _ _ tt nxrrset))
    (all_other (prescan_fault z.apex) (prescan z.apex) items))
    (version z.records (effects z.apex z.records items))
