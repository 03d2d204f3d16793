-- What a crash leaves of a device, as a zone of the machine that is opened again.
use Rattle.std.proofs.Common.{◌≡◌, ◌⊎◌, ℕ, false, ◌||◌, inl, inr, ⊎_elim, List, [], ◌∷◌, ◌++◌, length, Some, None, refl, sym, ap, subst, ◌∙◌, arith, append-nil}
use Rattle.std.proofs.lemmas.List.{length-map}
use Rattle.dns_sectors.specs.Device.{Content}
use Rattle.dns_store.specs.Versions.{Versions, Kept, Opened, OpensAsLeft, made_durable, moved_to}
use Rattle.dns_store.specs.Opens.{opens}
use Rattle.dns_versions.specs.Flush.{kept_after_flush, is_none_staged}
use Rattle.dns_versions.specs.Checkpoint.{OpensAsCheckpointed}
use Rattle.dns_primary.specs.Machine.{Made, ZoneState, Machine, kept_of, versions_of}
use Rattle.dns_primary.specs.Step.{Event}
use Rattle.dns_primary.specs.Stop.{Checkpoints, IsMaking, OpensAsRecovered, reopened_as}
use Rattle.dns_primary.proofs.Zonewise.{tested, versions_joined}

-- the updates whose versions are the first of some
split_made : (ms : List Made) (kept lost : Versions) → versions_of ms ≡ kept ++ lost → (front : List Made) × (back : List Made) × (ms ≡ front ++ back) × (versions_of front ≡ kept)
split_made ms [] lost e = ([], ms, refl, refl)
split_made [] (v ∷ kept) lost e = absurd cc
split_made (m ∷ ms) (v ∷ kept) lost e =
    let tail : versions_of ms ≡ kept ++ lost = cc in
    let head : m.records ≡ v = cc in
    let rest = split_made ms kept lost tail in
    (m ∷ rest.0, rest.1, ap (λ (l : List Made). m ∷ l) rest.2, λ i. head i ∷ rest.3 i)

-- the versions shown and the first of those staged, with one of these bases
recovered_as : (making : ℕ → Type 0) (z : ZoneState) (o : Opened) (kept lost : Versions) (c : Content)
    → o.loaded ≡ z.loaded
    → o.openings ≡ z.openings
    → o.altered ≡ z.altered
    → versions_of z.staged ≡ kept ++ lost
    → o.versions ≡ versions_of z.shown ++ kept
    → (o.base ≡ z.base) ⊎ ((z.second ≡ Some o.base) ⊎ making o.base)
    → opens z.setting.shape o c
    → OpensAsRecovered opens 0 making z c
recovered_as making z o kept lost c loaded openings altered front versions base is =
    let split = split_made z.staged kept lost front in
    let w : ZoneState = record { setting = z.setting; loaded = z.loaded; shown = z.shown ++ split.0; staged = []; base = o.base; second = None; openings = o.openings; altered = z.altered; closed = false } in
    let joined : o.versions ≡ versions_of (z.shown ++ split.0) = versions ∙ ap (λ (vs : Versions). versions_of z.shown ++ vs) (sym split.3) ∙ sym (versions_joined z.shown split.0) in
    let same : o ≡ reopened_as w = λ i. record { loaded = loaded i; versions = joined i; base = o.base; openings = o.openings; altered = altered i } in
    let long : length o.versions ≡ length (z.shown ++ split.0) = ap (λ (vs : Versions). length vs) joined ∙ length-map (z.shown ++ split.0) (λ (m : Made). m.records) in (
      w,
      record {
        setting = refl;
        loaded = refl;
        kept = split.0;
        lost = split.1;
        front = split.2;
        shown = refl;
        staged = refl;
        base = base;
        so_far = omega (arith, is.1.2.3.so_far, long);
        second = refl;
        altered = refl;
        opened = refl;
        at_least = omega (arith, openings);
        at_most = omega (arith, openings);
      },
      subst (λ (p : Opened). opens z.setting.shape p c) same is,
    )

pub left_recovered : (making : ℕ → Type 0) (z : ZoneState) (c : Content) → OpensAsLeft opens (kept_of z) c → OpensAsRecovered opens 0 making z c
left_recovered making z c (o, left, is) =
    recovered_as making z o left.kept left.lost c left.loaded left.openings left.altered left.front left.versions (⊎_elim (λ e. inl e) (λ e. inr (inl e)) left.base) is

none_first : (kept lost : Versions) → [] ≡ kept ++ lost → kept ≡ []
none_first [] lost e = refl
none_first (v ∷ kept) lost e = absurd cc

moved_recovered : (z : ZoneState) (making : ℕ → Type 0) (base : ℕ) (c : Content) → making base → OpensAsLeft opens (moved_to base (kept_after_flush false (kept_of z))) c → OpensAsRecovered opens 0 making z c
moved_recovered z making base c made =
    let k = kept_of z in
    let choice : (b : ℕ) → (b ≡ base) ⊎ (z.second ≡ Some b) → (b ≡ z.base) ⊎ ((z.second ≡ Some b) ⊎ making b) =
    λ b which. ⊎_elim (λ e. inr (inr (subst making (sym e) made))) (λ e. inr (inl e)) which in
    tested (λ (y : Kept). OpensAsLeft opens (moved_to base y) c → OpensAsRecovered opens 0 making z c) (k.closed || is_none_staged k) k (made_durable k)
    (λ stays there. recovered_as making z there.0 there.1.kept there.1.lost c there.1.loaded there.1.openings there.1.altered there.1.front there.1.versions (choice there.0.base there.1.base) there.2)
    (λ goes there.
    (let o = there.0 in
    let left = there.1 in
    let none = none_first left.kept left.lost left.front in
    let versions : o.versions ≡ versions_of z.shown ++ versions_of z.staged = left.versions ∙ ap (λ (vs : Versions). (versions_of z.shown ++ versions_of z.staged) ++ vs) none ∙ append-nil (versions_of z.shown ++ versions_of z.staged) in
    recovered_as making z o (versions_of z.staged) [] c left.loaded left.openings left.altered (sym (append-nil (versions_of z.staged))) versions (choice o.base left.base) there.2))

pub checkpoint_recovered : (m : Machine) (event : Event) (index room : ℕ) (z : ZoneState) (c : Content) → Checkpoints m event index room → OpensAsCheckpointed opens z.setting.keep room (kept_of z) c → OpensAsRecovered opens 0 (IsMaking m event index z) z c
checkpoint_recovered m event index room z c makes (inl left) = left_recovered (IsMaking m event index z) z c left
checkpoint_recovered m event index room z c makes (inr (opened, (base, next, left))) = moved_recovered z (IsMaking m event index z) base c (opened, (room, makes, next)) left
