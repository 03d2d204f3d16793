-- What each name puts into the sections.
use Rattle.std.proofs.Common.{◌≡◌, ℕ, zero, suc, ◌+◌, ◌-◌, ◌<◌, ◌≤◌, Bool, true, false, List, [], ◌∷◌, ◌++◌, length, get_or, take, map, refl, sym, ap, subst, ◌∙◌, arith, cond}
use Rattle.std.specs.Prelude.{Some, None, ◌==◌, min, slice_get}
use Rattle.std.proofs.lemmas.Option.{get_or_from_slice_get, slice_get_within, slice_get-get_or}
use Rattle.std.specs.List.{flat_map}
use Rattle.std.proofs.lemmas.List.{append-nil, map-append, take_all}
use Rattle.std.proofs.lemmas.Grind.{flat_map-append}
use Rattle.std.proofs.lemmas.Bool.Decides.{nat_tests}
use Rattle.dns_names.specs.Name.{Labels}
use Rattle.dns_records.specs.Types.{type_soa}
use Rattle.dns_records.specs.Record.{Record, host_of, minimum_of}
use Rattle.dns_zone.specs.Zone.{Zone, soas}
use Rattle.dns_lookup.specs.Represented.{Represents, RepresentAll}
use Rattle.dns_lookup.specs.Lent.{records_found, Lends, AllLend}
use Rattle.dns_lookup.specs.RepresentedLaws.{outcome_of, represented_is, represented_at, represented_length}
use Rattle.dns_lookup.specs.declared.chain.Found.{Found as Represented}
use Rattle.dns_lookup.specs.declared.outcome.Kind.{Kind}
use Rattle.dns_lookup.specs.declared.outcome.Kind.TheVariants as kinds
use Rattle.dns_lookup.specs.Lookup.{Outcome, Found}
use Rattle.dns_answer.specs.Sections.{Shown, from_zone, records_of, as_owner, answers_of, answer_of, authority_of, negative_soa, authority_at, addresses_for, is_name_error}

-- the parts of what was found, by its outcome
abbrev pub answers_at : Zone → Labels → ℕ → Outcome → List Shown
answers_at z name t o = answers_of t (record { zone = z; name = name; outcome = o })

abbrev pub authority_by : Zone → Outcome → List Shown
authority_by z o = authority_at (record { zone = z; name = []; outcome = o })

pub records_back : (z : Zone) (rs : List Record) → records_of (from_zone z rs) ≡ rs
records_back z [] = refl
records_back z (r ∷ rs) = ap (λ (xs : List Record). r ∷ xs) (records_back z rs)

-- the records that go into the answer section, or as servers into the authority section, by the kind
abbrev pub answering : Kind → List Record → List Record
answering kinds.Alias rs = rs
answering kinds.Answers rs = rs
answering kinds.Referral rs = []
answering kinds.NoData rs = []
answering kinds.NameError rs = []

answers_kind : (z : Zone) (name : Labels) (t : ℕ) (kind : Kind) (at : Labels) (rs : List Record) → rs ≡ records_found z.records kind at t → answers_at z name t (outcome_of kind at) ≡ from_zone z (as_owner name (answering kind rs))
answers_kind z name t kinds.Alias at rs e = ap (λ (xs : List Record). from_zone z (as_owner name xs)) (sym e)
answers_kind z name t kinds.Answers at rs e = ap (λ (xs : List Record). from_zone z (as_owner name xs)) (sym e)
answers_kind z name t kinds.Referral at rs e = refl
answers_kind z name t kinds.NoData at rs e = refl
answers_kind z name t kinds.NameError at rs e = refl

-- what is returned puts into the answer section what it holds
pub answers_represented : (zones : List Zone) (t : ℕ) (f : Found) (one : Represented) → Represents zones f one → Lends zones t one → answers_of t f ≡ from_zone f.zone (as_owner f.name (answering one.kind one.records.now))
answers_represented zones t f one is holds =
    ap (answers_at f.zone f.name t) (represented_is f.outcome f.name one.kind one.node is.kind) ∙ answers_kind f.zone f.name t one.kind one.node one.records.now (holds f.zone is.zone)

-- those of one of all
pub lent_one : (zones : List Zone) (t : ℕ) (returned : List Represented) (i : ℕ) (one : Represented) → AllLend zones t returned → i < length returned → one ≡ get_or returned i one → Lends zones t one
lent_one zones t [] i one h inside e = absurd (omega (arith, inside))
lent_one zones t (x ∷ returned) zero one h inside e = subst (λ (o : Represented). Lends zones t o) (sym e) h.0
lent_one zones t (x ∷ returned) (suc i) one h inside e = lent_one zones t returned i one h.1 (omega (arith, inside)) e

-- one name more in the answer section
pub next_answers : (t : ℕ) (fs : List Found) (i : ℕ) (f : Found) (rs : List Record) → take (i + 1) fs ≡ take i fs ++ f ∷ [] → answers_of t f ≡ from_zone f.zone (as_owner f.name rs) → records_of (answer_of t (take (i + 1) fs)) ≡ records_of (answer_of t (take i fs)) ++ as_owner f.name rs
next_answers t fs i f rs more is =
    ap (λ (xs : List Found). records_of (answer_of t xs)) more
    ∙ ap records_of (flat_map-append (answers_of t) (take i fs) (f ∷ []) ∙ ap (λ (xs : List Shown). answer_of t (take i fs) ++ xs) (append-nil (answers_of t f) ∙ is))
    ∙ map-append (λ (s : Shown). s.shown) (answer_of t (take i fs)) (from_zone f.zone (as_owner f.name rs))
    ∙ ap (λ (xs : List Record). records_of (answer_of t (take i fs)) ++ xs) (records_back f.zone (as_owner f.name rs))

-- a SOA has no host, and so no addresses with it
no_host_of_soa : (r : Record) → r.rtype ≡ type_soa → host_of r ≡ None
no_host_of_soa r e = ap (λ (t : ℕ). host_of (record r { rtype = t })) e

abbrev lesser : Record → Record
lesser r = record r { ttl = min r.ttl (minimum_of r) }

no_addresses : (s : Shown) → host_of s.shown ≡ None → addresses_for s ≡ []
no_addresses s e = rw (e, addresses_for) refl

soa_step : (z : Zone) (r : Record) (rs : List Record) (b : Bool) → (r.rtype == type_soa) ≡ b → flat_map addresses_for (from_zone z (map lesser rs)) ≡ [] → flat_map addresses_for (from_zone z (map lesser (cond b (r ∷ rs) rs))) ≡ []
soa_step z r rs true e rest =
    let typed : r.rtype ≡ type_soa = grind (arith, nat_tests) in
    ap (λ (xs : List Record). xs ++ flat_map addresses_for (from_zone z (map lesser rs))) (no_addresses (record { zone = z; shown = lesser r }) (no_host_of_soa (lesser r) typed)) ∙ rest
soa_step z r rs false e rest = rest

soas_alone : (z : Zone) (records : List Record) → flat_map addresses_for (from_zone z (map lesser (soas records))) ≡ []
soas_alone z [] = refl
soas_alone z (r ∷ records) = soa_step z r (soas records) (r.rtype == type_soa) refl (soas_alone z records)

-- but a referral, nothing in the authority section has addresses with it
pub no_servers : (z : Zone) (at : Labels) (kind : Kind) → (kind ≡ kinds.Referral → ⊥) → flat_map addresses_for (authority_by z (outcome_of kind at)) ≡ []
no_servers z at kinds.Referral other = absurd (other refl)
no_servers z at kinds.Alias other = refl
no_servers z at kinds.Answers other = refl
no_servers z at kinds.NoData other = soas_alone z z.records
no_servers z at kinds.NameError other = soas_alone z z.records

-- but for a referral, an alias and answers, it is the SOA
pub negative_authority : (z : Zone) (at : Labels) (kind : Kind) → (kind ≡ kinds.Referral → ⊥) → (kind ≡ kinds.Alias → ⊥) → (kind ≡ kinds.Answers → ⊥) → records_of (authority_by z (outcome_of kind at)) ≡ negative_soa z
negative_authority z at kinds.Referral no_cut no_alias no_data = absurd (no_cut refl)
negative_authority z at kinds.Alias no_cut no_alias no_data = absurd (no_alias refl)
negative_authority z at kinds.Answers no_cut no_alias no_data = absurd (no_data refl)
negative_authority z at kinds.NoData no_cut no_alias no_data = records_back z (negative_soa z)
negative_authority z at kinds.NameError no_cut no_alias no_data = records_back z (negative_soa z)

-- the zone at a position
pub lent_at : (zones : List Zone) (i : ℕ) (z stored : Zone) → stored ≡ get_or zones i stored → slice_get zones i ≡ Some z → stored ≡ z
lent_at zones i z stored is e = is ∙ get_or_from_slice_get zones i z stored e

-- the owner that goes out does not count
pub same_addresses : (z : Zone) (name : Labels) (rs : List Record) → flat_map addresses_for (from_zone z (as_owner name rs)) ≡ flat_map addresses_for (from_zone z rs)
same_addresses z name [] = refl
same_addresses z name (r ∷ rs) = ap (λ (xs : List Record). addresses_for (record { zone = z; shown = r }) ++ xs) (same_addresses z name rs)

-- the addresses of one name more
pub next_hosts : (t : ℕ) (fs : List Found) (i : ℕ) (f : Found) (rs : List Record) → take (i + 1) fs ≡ take i fs ++ f ∷ [] → answers_of t f ≡ from_zone f.zone (as_owner f.name rs)
    → flat_map addresses_for (answer_of t (take (i + 1) fs)) ≡ flat_map addresses_for (answer_of t (take i fs)) ++ flat_map addresses_for (from_zone f.zone rs)
next_hosts t fs i f rs more is =
    ap (λ (xs : List Found). flat_map addresses_for (answer_of t xs)) more
    ∙ ap (flat_map addresses_for) (flat_map-append (answers_of t) (take i fs) (f ∷ []) ∙ ap (λ (xs : List Shown). answer_of t (take i fs) ++ xs) (append-nil (answers_of t f) ∙ is))
    ∙ flat_map-append addresses_for (answer_of t (take i fs)) (from_zone f.zone (as_owner f.name rs))
    ∙ ap (λ (xs : List Record). flat_map addresses_for (answer_of t (take i fs)) ++ xs) (same_addresses f.zone f.name rs)

-- the last name decides
pub authority_last : (fs : List Found) (f : Found) → authority_of (fs ++ f ∷ []) ≡ authority_at f
authority_last [] f = refl
authority_last (g ∷ []) f = refl
authority_last (g ∷ h ∷ fs) f = authority_last (h ∷ fs) f

pub last_one : (returned : List Represented) (one : Represented) → Some one ≡ slice_get returned (length returned - 1) → (length returned - 1 < length returned) × (one ≡ get_or returned (length returned - 1) one)
last_one returned one e =
    let inside = slice_get_within returned (length returned - 1) one (sym e) in
    (inside, sym (get_or_from_slice_get returned (length returned - 1) one one (sym e)))

pub last_represented : (zones : List Zone) (fs : List Found) (returned : List Represented) (one : Represented) → RepresentAll zones fs returned → Some one ≡ slice_get returned (length returned - 1) → (f : Found) × Represents zones f one × (authority_of fs ≡ authority_at f)
last_represented zones fs returned one are e =
    let at_end = last_one returned one e in
    let at = represented_at zones fs returned (length returned - 1) one are at_end.0 at_end.1 in
    let size : length fs ≤ length returned - 1 + 1 = omega (arith, represented_length zones fs returned are, at_end.0) in
    let whole : fs ≡ take (length returned - 1) fs ++ at.found ∷ [] = sym (take_all (length returned - 1 + 1) fs size) ∙ at.next in
    (at.found, at.is, ap authority_of whole ∙ authority_last (take (length returned - 1) fs) at.found)

pub lent_last : (zones : List Zone) (t : ℕ) (returned : List Represented) (one : Represented) → AllLend zones t returned → Some one ≡ slice_get returned (length returned - 1) → Lends zones t one
lent_last zones t returned one holds e = let at_end = last_one returned one e in lent_one zones t returned (length returned - 1) one holds at_end.0 at_end.1

pub none_represented : (zones : List Zone) (fs : List Found) (returned : List Represented) → RepresentAll zones fs returned → None ≡ slice_get returned (length returned - 1) → fs ≡ []
none_represented zones [] returned are e = refl
none_represented zones (f ∷ fs) [] are e = absurd are
none_represented zones (f ∷ fs) (one ∷ returned) are e =
    let within : suc (length returned) - 1 < suc (length returned) = omega arith in
    absurd (let some = slice_get-get_or (one ∷ returned) (suc (length returned) - 1) one within in cc)

-- the response code and AA
abbrev pub error_by : Outcome → Bool
error_by o = is_name_error ((record { zone = record { apex = []; records = [] }; name = []; outcome = o }) ∷ [])

error_last : (fs : List Found) (f : Found) → is_name_error (fs ++ f ∷ []) ≡ error_by f.outcome
error_last [] f = refl
error_last (g ∷ []) f = refl
error_last (g ∷ h ∷ fs) f = error_last (h ∷ fs) f

pub last_error : (zones : List Zone) (fs : List Found) (returned : List Represented) (one : Represented) → RepresentAll zones fs returned → Some one ≡ slice_get returned (length returned - 1) → is_name_error fs ≡ error_by (outcome_of one.kind one.node)
last_error zones fs returned one are e =
    let at_end = last_one returned one e in
    let at = represented_at zones fs returned (length returned - 1) one are at_end.0 at_end.1 in
    let size : length fs ≤ length returned - 1 + 1 = omega (arith, represented_length zones fs returned are, at_end.0) in
    let whole : fs ≡ take (length returned - 1) fs ++ at.found ∷ [] = sym (take_all (length returned - 1 + 1) fs size) ∙ at.next in
    ap is_name_error whole ∙ error_last (take (length returned - 1) fs) at.found ∙ ap error_by (represented_is at.found.outcome at.found.name one.kind one.node at.is.kind)

pub no_error : (kind : Kind) (at : Labels) → (kind ≡ kinds.NameError → ⊥) → error_by (outcome_of kind at) ≡ false
no_error kinds.Referral at other = refl
no_error kinds.Alias at other = refl
no_error kinds.Answers at other = refl
no_error kinds.NoData at other = refl
no_error kinds.NameError at other = absurd (other refl)
