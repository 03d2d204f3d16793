use Rattle.std.proofs.Common.{sym, ap}
use Rattle.std.proofs.lemmas.List.{take_rest}
use Rattle.dns_records.specs.Types.{Values, Name, UncompressedName, Strings}
use Rattle.dns_records.specs.Fields.{stated_field, stated_fields, stated_values}
use Rattle.dns_records.proofs.Forms.{octets_first, octets_none, name_first, target_first, strings_alone, strings_end, first_is}
use Rattle.dns_records.proofs.fields.+fit.Goals as goal

pub returns-in-Some-count_within : goal.returns-in-Some-count_within
returns-in-Some-count_within t c =
    let more = rw take_rest at c.fit.ensures in
    let values = stated_values c.in-Values.values.now in
    let within = c.in-Some-count_within.ensures in
    let first = octets_first values c.in-Some-count_within.count (stated_fields c.in-Some.more.now) c.args.octets.now (sym within.0) within.1 in
    rw (first_is _ _ _ (Values values) c.in-Some.ensures.cases.0 (ap stated_field c.in-Values.is)) (λ h. first.0 (more.0 h), λ h. more.1 (first.1 h))

pub returns-in-None : goal.returns-in-None
returns-in-None t c =
    let values = stated_values c.in-Values.values.now in
    rw (first_is _ _ _ (Values values) c.in-Some.ensures.cases.0 (ap stated_field c.in-Values.is)) (λ h. absurd (cc h), λ h. absurd (octets_none values (stated_fields c.in-Some.more.now) c.args.octets.now c.in-None.ensures h))

pub returns-in-Some-first : goal.returns-in-Some-first
returns-in-Some-first t c =
    let found = c.in-Some-first.ensures.found in
    let first = name_first (stated_fields c.in-Some.more.now) c.args.octets.now c.in-Some-first.field-0-0 c.in-Some-first.rest.now found.0 found.1 in
    rw (first_is _ _ _ Name c.in-Some.ensures.cases.0 (ap stated_field c.in-Name.is)) (λ h. first.0 (c.fit-in-Some-first.ensures.0 h), λ h. c.fit-in-Some-first.ensures.1 (first.1 h))

pub returns-in-Some-first-2 : goal.returns-in-Some-first-2
returns-in-Some-first-2 t c =
    let found = c.in-Some-first-2.ensures.found in
    let first = target_first (stated_fields c.in-Some.more.now) c.args.octets.now c.in-Some-first-2.field-0-0 c.in-Some-first-2.rest.now found.0 found.1 in
    rw (first_is _ _ _ UncompressedName c.in-Some.ensures.cases.0 (ap stated_field c.in-UncompressedName.is)) (λ h. first.0 (c.fit-in-Some-first-2.ensures.0 h), λ h. c.fit-in-Some-first-2.ensures.1 (first.1 h))

pub returns-in-Strings : goal.returns-in-Strings
returns-in-Strings t c =
    let fields = first_is _ _ _ Strings c.in-Some.ensures.cases.0 (ap stated_field c.in-Strings.is) in
    let none = strings_end (stated_fields c.in-Some.more.now) (rw fields at c.requires) in
    let alone = strings_alone c.args.octets.now in
    rw (fields, none) (λ h. alone.0 (c.are_strings.ensures.0 h), λ h. c.are_strings.ensures.1 (alone.1 h))
