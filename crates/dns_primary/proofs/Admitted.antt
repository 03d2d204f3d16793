-- The zone that an update is for.
use Rattle.std.proofs.Common.{◌≡◌, ◌<◌, ◌+◌, ℕ, zero, suc, Bool, true, false, not, List, [], ◌∷◌, length, map, refl, sym, ap, subst, ◌∙◌, arith}
use Rattle.std.specs.Prelude.{Option, Some, None, cond, option_map, slice_get, slice_index_or, ◌==◌, ◌↔◌, IsTrue, if◌then◌else◌}
use Rattle.std.specs.List.{position, position_from}
use Rattle.std.proofs.lemmas.Iterator.Adapters.{position_from-zero}
use Rattle.dns_names.specs.Name.{Labels, names_eq}
use Rattle.dns_zone.specs.Zone.{Zone}
use Rattle.dns_store.specs.Versions.{Kept}
use Rattle.dns_versions.specs.declared.zone_versions.ZoneVersions.{ZoneVersions}
use Rattle.dns_primary.specs.Machine.{ZoneState, kept_of}
use Rattle.dns_versions.specs.Each.{Each2}
use Rattle.dns_versions.specs.Held.{HasVersions}
use Rattle.dns_versions.proofs.Lists.{get3}
use Rattle.dns_records.specs.Types.{type_soa, class_in}
use Rattle.dns_request.specs.Codes.{rcode_formerr, rcode_notauth}
use Rattle.dns_primary.specs.Update.{Asked, Rejects, admission, admission_at, zone_position}
use Rattle.dns_primary.specs.Keeps.{HaveVersions, IsSet}
use Rattle.dns_primary.specs.declared.primary.ZoneSpec.{ZoneSpec}
use Rattle.dns_primary.proofs.Flushed.{mapped}

pub same_test : (a b : Bool) (P : Type 0) → IsTrue a ↔ P → IsTrue b ↔ P → a ≡ b
same_test true true P f g = refl
same_test true false P f g = sym (g.1 (f.0 refl))
same_test false true P f g = f.1 (g.0 refl)
same_test false false P f g = refl

moved : (i : ℕ) (o : Option ℕ) → option_map (λ n. (i + 1) + n) o ≡ option_map (λ n. i + n) (option_map suc o)
moved i None = refl
moved i (Some n) = let e : (i + 1) + n ≡ i + suc n = omega arith in ap (λ (m : ℕ). Some m) e

from_zero : (o : Option ℕ) → option_map (λ n. 0 + n) o ≡ o
from_zero None = refl
from_zero (Some n) = let e : 0 + n ≡ n = omega arith in ap (λ (m : ℕ). Some m) e

chosen : (b c : Bool) (i : ℕ) (x y : Option ℕ) → b ≡ c → x ≡ option_map (λ n. i + n) (option_map suc y) → cond b (Some i) x ≡ option_map (λ n. i + n) (if c then Some 0 else option_map suc y)
chosen true true i x y e f = let z : i ≡ i + 0 = omega arith in ap (λ (m : ℕ). Some m) z
chosen true false i x y e f = absurd (cc e)
chosen false true i x y e f = absurd (cc e)
chosen false false i x y e f = f

from_place : {I S : Type 0} (keeps : S → Kept → Type 0) (apex : Labels) (i : ℕ) (zones : List Zone) (pending : List (ZoneVersions I S)) (states : List ZoneState) → HaveVersions keeps zones pending states
    → position_from (λ z. names_eq z.apex apex) i zones ≡ option_map (λ n. i + n) (zone_position apex states)
from_place keeps apex i [] [] [] each = refl
from_place keeps apex i (z ∷ zones) (b ∷ pending) (s ∷ states) each =
    chosen (names_eq z.apex apex) (names_eq s.setting.shape.apex apex) i (position_from (λ z. names_eq z.apex apex) (i + 1) zones) (zone_position apex states)
    (ap (λ (x : Zone). names_eq x.apex apex) each.0.zone_is) (from_place keeps apex (i + 1) zones pending states each.1 ∙ moved i (zone_position apex states))
from_place keeps apex i _ _ _ each = absurd each

pub same_place : {I S : Type 0} (keeps : S → Kept → Type 0) (apex : Labels) (zones : List Zone) (pending : List (ZoneVersions I S)) (states : List ZoneState) → HaveVersions keeps zones pending states
    → position (λ z. names_eq z.apex apex) zones ≡ zone_position apex states
same_place keeps apex zones pending states each = position_from-zero (λ (z : Zone). names_eq z.apex apex) zones ∙ from_place keeps apex 0 zones pending states each ∙ from_zero (zone_position apex states)

-- past the tests of type and class
pub asked_at : (states : List ZoneState) (a : Asked) (o : Option ℕ) → a.zone.qtype ≡ type_soa → a.zone.qclass ≡ class_in → zone_position a.zone.name states ≡ o → admission states a ≡ admission_at states a.address o
asked_at states a o t c p = λ i. if not (t i == type_soa) then Rejects rcode_formerr else if not (c i == class_in) then Rejects rcode_notauth else admission_at states a.address (p i)

pub get2 : {A B : Type 0} (R : A → B → Type 0) (xs : List A) (ys : List B) (i : ℕ) (d : A) (y : B) → Each2 R xs ys → slice_get ys i ≡ Some y → R (slice_index_or xs i d) y
get2 R [] [] i d y each e = absurd (cc e)
get2 {A} {B} R (x ∷ xs) (z ∷ ys) zero d y each e = let is : z ≡ y = cc e in subst (λ (v : B). R x v) is each.0
get2 R (x ∷ xs) (z ∷ ys) (suc i) d y each e = get2 R xs ys i d y each.1 e
get2 R _ _ i d y each e = absurd each

-- the zone at a position that was found
pub record At {I S : Type 0} (keeps : S → Kept → Type 0) (zones : List Zone) (pending : List (ZoneVersions I S)) (settings : List ZoneSpec) (states : List ZoneState) (index : ℕ) (b : ZoneVersions I S) (s : ZoneSpec) : Type 0 where
  pub zone : Zone
  pub state : ZoneState
  pub there : slice_get states index ≡ Some state
  pub held : HasVersions keeps zone (slice_index_or pending index b) (kept_of state)
  pub set : IsSet (slice_index_or settings index s) state

pub at_place : {I S : Type 0} (keeps : S → Kept → Type 0) (zones : List Zone) (pending : List (ZoneVersions I S)) (settings : List ZoneSpec) (states : List ZoneState) (index : ℕ) (b : ZoneVersions I S) (s : ZoneSpec)
    → HaveVersions keeps zones pending states → Each2 IsSet settings states → index < length pending → At keeps zones pending settings states index b s
at_place {I} {S} keeps zones pending settings states index b s held set lt =
    let k = get3 (λ (z : Zone) (b : ZoneVersions I S) (k : Kept). HasVersions keeps z b k) zones pending (map kept_of states) index (record { apex = []; records = [] }) b held lt in
    let z = mapped states index k.0 k.1 in
    record {
      zone = slice_index_or zones index (record { apex = []; records = [] });
      state = z.0;
      there = z.1;
      held = subst (λ (k : Kept). HasVersions keeps (slice_index_or zones index (record { apex = []; records = [] })) (slice_index_or pending index b) k) (sym z.2) k.2;
      set = get2 IsSet settings states index s z.0 set z.1;
    }
