-- What is left of a store that was loaded or migrated is opened as a zone of a life.
use Rattle.std.proofs.Common.{◌≡◌, ◌+◌, ◌≤◌, ◌⊎◌, ℕ, inl, inr, List, [], ◌∷◌, ◌++◌, length, Some, None, refl, sym, ap, ◌∙◌, arith, append-nil}
use Rattle.std.specs.Prelude.{Option, false}
use Rattle.std.proofs.lemmas.List.{length-append, length-map}
use Rattle.dns_records.specs.Record.{Record}
use Rattle.dns_wire.specs.Message.{empty_message}
use Rattle.dns_store.specs.Versions.{Kept, Opened, Versions, IsLeftOf, made_durable, moved_to, shown_of, staged_with}
use Rattle.dns_store.specs.Migrating.{IsMigrated}
use Rattle.dns_primary.specs.Machine.{Made, ZoneState, kept_of, versions_of}
use Rattle.dns_primary.proofs.Zonewise.{versions_joined}
use Rattle.dns_theorem.specs.Lives.{HasLoaded, IsFiled, IsReopenedAs, IsOpenedWith}

-- the zone that is opened then
abbrev opened_zone : ZoneState → List Made → Opened → ZoneState
opened_zone z more o = record {
  setting = z.setting;
  loaded = o.loaded;
  shown = z.shown ++ more;
  staged = [];
  base = o.base;
  second = None;
  openings = o.openings + 1;
  altered = o.altered;
  closed = false;
}

record IsOpenedSo (z : ZoneState) (more : List Made) (o : Opened) : Type 0 where
  zone : ZoneState
  becomes : IsOpenedWith more z zone
  opened : IsReopenedAs zone o

opened_so : (z : ZoneState) (more : List Made) (o : Opened) → z.staged ≡ [] → o.loaded ≡ z.loaded → o.versions ≡ versions_of z.shown ++ versions_of more → o.base ≤ length z.shown → o.openings ≡ z.openings → (o.altered ≡ z.altered) ⊎ (o.altered ≡ [])
    → IsOpenedSo z more o
opened_so z more o rests loaded versions so_far openings altered =
    let long = length-append z.shown more in
    let is : versions_of (z.shown ++ more) ≡ o.versions = versions_joined z.shown more ∙ sym versions in
    let within : o.base ≤ length (z.shown ++ more) = omega (arith, long, so_far) in
    let up : z.openings ≤ o.openings + 1 = omega (arith, openings) in
    let once : o.openings + 1 ≤ z.openings + 1 = omega (arith, openings) in
    record {
      zone = opened_zone z more o;
      becomes = record {
        rests = rests;
        setting = refl;
        loaded = loaded;
        shown = refl;
        staged = refl;
        so_far = within;
        second = refl;
        altered = altered;
        opened = refl;
        at_least = up;
        at_most = once;
      };
      opened = λ i. record {
        shape = z.setting.shape;
        loaded = o.loaded;
        shown = is i;
        staged = [];
        base = o.base;
        second = None;
        openings = o.openings + 1;
        altered = o.altered;
        closed = false;
      };
    }

one_base : (k : Kept) (o : Opened) (most : ℕ) → k.second ≡ None → k.base ≤ most → (o.base ≡ k.base) ⊎ (k.second ≡ Some o.base) → o.base ≤ most
one_base k o most none within (inl e) = omega (arith, e, within)
one_base k o most none within (inr e) = (let clash : ◌≡◌ {A = Option ℕ} None (Some o.base) = sym none ∙ e in absurd cc)

abbrev BecomesEither : List Record → ZoneState → Opened → Type 0
BecomesEither file z o = (w : ZoneState) × (HasLoaded file z w ⊎ IsOpenedWith [] z w) × IsReopenedAs w o

module _ (z : ZoneState) (file : List Record) (base : ℕ) (o : Opened) (rests : z.staged ≡ []) (none : z.second ≡ None) (within : base ≤ length z.shown)
    (filed : IsFiled z.setting.shape (length z.shown) (shown_of (kept_of z)) file) (left : IsLeftOf (staged_with file (moved_to base (kept_of z))) o) where
  so_far : o.base ≤ length z.shown
  so_far = one_base (staged_with file (moved_to base (kept_of z))) o (length z.shown) none within left.base

  whole : file ∷ [] ≡ left.kept ++ left.lost
  whole = sym (ap (λ (made : List Made). versions_of made ++ file ∷ []) rests) ∙ left.front

  kept_one : (kept lost : Versions) → file ∷ [] ≡ kept ++ lost → o.versions ≡ versions_of z.shown ++ kept → BecomesEither file z o
  kept_one [] lost e versions =
      let so = opened_so z [] o rests left.loaded versions so_far left.openings (inl left.altered) in
      (so.zone, inr so.becomes, so.opened)
  kept_one (x ∷ []) lost e versions =
      let same : file ≡ x = cc in
      let made : Made = record { update = empty_message; records = file } in
      let so = opened_so z (made ∷ []) o rests left.loaded (versions ∙ ap (λ (v : List Record). versions_of z.shown ++ v ∷ []) (sym same)) so_far left.openings (inl left.altered) in
      (so.zone, inl (record { filed = filed; made = made; records = refl; opened = so.becomes }), so.opened)
  kept_one (x ∷ y ∷ kept) lost e versions = absurd cc

  pub loaded_becomes : BecomesEither file z o
  loaded_becomes = kept_one left.kept left.lost whole left.versions

no_more : (kept lost : Versions) → [] ≡ kept ++ lost → kept ≡ []
no_more [] lost e = refl
no_more (x ∷ kept) lost e = absurd cc

-- the version is durable
pub durable_becomes : (z : ZoneState) (file : List Record) (base : ℕ) (o : Opened) → z.staged ≡ [] → z.second ≡ None → base ≤ length z.shown
    → IsFiled z.setting.shape (length z.shown) (shown_of (kept_of z)) file → IsLeftOf (made_durable (staged_with file (moved_to base (kept_of z)))) o
    → (w : ZoneState) × HasLoaded file z w × IsReopenedAs w o
durable_becomes z file base o rests none within filed left =
    let kept : left.kept ≡ [] = no_more left.kept left.lost left.front in
    let made : Made = record { update = empty_message; records = file } in
    let staged : versions_of z.staged ++ file ∷ [] ≡ file ∷ [] = ap (λ (ms : List Made). versions_of ms ++ file ∷ []) rests in
    let versions : o.versions ≡ versions_of z.shown ++ file ∷ [] =
    left.versions
    ∙ ap (λ (vs : Versions). (versions_of z.shown ++ (versions_of z.staged ++ file ∷ [])) ++ vs) kept
    ∙ append-nil (versions_of z.shown ++ (versions_of z.staged ++ file ∷ []))
    ∙ ap (λ (vs : Versions). versions_of z.shown ++ vs) staged in
    let so = opened_so z (made ∷ []) o rests left.loaded versions (one_base (made_durable (staged_with file (moved_to base (kept_of z)))) o (length z.shown) none within left.base) left.openings (inl left.altered) in
    (so.zone, record { filed = filed; made = made; records = refl; opened = so.becomes }, so.opened)

pub reopened_becomes : (z : ZoneState) (base : ℕ) (o : Opened) → z.staged ≡ [] → z.second ≡ None → base ≤ length z.shown → IsLeftOf (moved_to base (kept_of z)) o
    → (w : ZoneState) × IsOpenedWith [] z w × IsReopenedAs w o
reopened_becomes z base o rests none within left =
    let whole : [] ≡ left.kept ++ left.lost = sym (ap versions_of rests) ∙ left.front in
    let kept = no_more left.kept left.lost whole in
    let so = opened_so z [] o rests left.loaded (left.versions ∙ ap (λ (vs : Versions). versions_of z.shown ++ vs) kept)
    (one_base (moved_to base (kept_of z)) o (length z.shown) none within left.base) left.openings (inl left.altered) in
    (so.zone, so.becomes, so.opened)

none_made : (made : List Made) → versions_of made ≡ [] → made ≡ []
none_made [] e = refl
none_made (m ∷ made) e = absurd cc

pub migrated_becomes : (z : ZoneState) (before after : Opened) → IsReopenedAs z before → IsMigrated z.setting.shape before after → (w : ZoneState) × IsOpenedWith [] z w × IsReopenedAs w after
migrated_becomes z before after is m =
    let versions : versions_of z.shown ≡ before.versions = ap (λ (k : Kept). k.shown) is in
    let rests : z.staged ≡ [] = none_made z.staged (ap (λ (k : Kept). k.staged) is) in
    let loaded : z.loaded ≡ before.loaded = ap (λ (k : Kept). k.loaded) is in
    let openings : z.openings ≡ before.openings + 1 = ap (λ (k : Kept). k.openings) is in
    let many : length (versions_of z.shown) ≡ length z.shown = length-map z.shown (λ (x : Made). x.records) in
    let as_many : length (versions_of z.shown) ≡ length before.versions = ap length versions in
    let base = m.base in
    let so = opened_so z [] after rests (m.loaded ∙ sym loaded) (m.versions ∙ sym versions ∙ sym (append-nil (versions_of z.shown))) (omega (arith, many, as_many, base)) (m.openings ∙ sym openings) (inr m.altered) in
    (so.zone, so.becomes, so.opened)
