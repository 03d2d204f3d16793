-- Lists of what is written and what is read.
use Rattle.std.proofs.Common.{◌≡◌, ℕ, zero, suc, ◌<◌, Bool, false, List, [], ◌∷◌, ◌++◌, length, length-append, take, get_or, codes, arith}
use Rattle.std.specs.Prelude.{◌≢◌, map, All}
use Rattle.std.specs.List.{AllZip, list_any}
use Rattle.std.proofs.lemmas.List.Quantifiers.{all_pairs_push}
use Rattle.dns_configuration.specs.declared.configuration.ZoneSettings.{ZoneSettings}
use Rattle.dns_configuration.specs.declared.configuration.Configuration.{Configuration}
use Rattle.toml.specs.Data.{Data}
use Rattle.toml.specs.View.{view}
use Rattle.toml.specs.declared.value.Value.{Value}
use Rattle.dns_configuration.specs.Settings.{AreApart, AreSettings, Describes, HasCounts, IsConfiguration, IsSettings, are_alike}
use Rattle.dns_zone.proofs.Alone.{neither}
use Rattle.dns_configuration.proofs.Listened.{valid_listeners}

-- one more of each
pub zipped_more : {A B C : Type 0} (f : A → B) (R : B → C → Type 0) (xs : List A) (i : ℕ) (d : A) (ys : List C) (y : C) → i < length xs → AllZip R (map f (take i xs)) ys → R (f (get_or xs i d)) y → AllZip R (map f (take (suc i) xs)) (ys ++ y ∷ [])
zipped_more f R [] i d ys y small h r = absurd (omega (arith, small))
zipped_more f R (x ∷ xs) zero d [] y small h r = (r, tt)
zipped_more f R (x ∷ xs) zero d (z ∷ ys) y small h r = absurd h
zipped_more f R (x ∷ xs) (suc i) d [] y small h r = absurd h
zipped_more f R (x ∷ xs) (suc i) d (z ∷ ys) y small h r = (h.0, zipped_more f R xs i d ys y (omega (arith, small)) h.1 r)

-- None passes the test.
pub none_passes : {A : Type 0} (p : A → Bool) (xs : List A) → list_any p xs ≡ false → (k : ℕ) (d : A) → k < length xs → p (get_or xs k d) ≡ false
none_passes p [] e k d small = absurd (omega (arith, small))
none_passes p (x ∷ xs) e zero d small = (neither (p x) (list_any p xs) e).0
none_passes p (x ∷ xs) e (suc k) d small = none_passes p xs (neither (p x) (list_any p xs) e).1 k d (omega (arith, small))

-- What is read is what a configuration may have.
counts_of : (ds : List Data) (zs : List ZoneSettings) → AllZip IsSettings ds zs → All HasCounts zs
counts_of [] [] h k d small = absurd (omega (arith, small))
counts_of [] (z ∷ zs) h k d small = absurd h
counts_of (w ∷ ws) [] h k d small = absurd h
counts_of (w ∷ ws) (z ∷ zs) h zero d small = h.0.counts
counts_of (w ∷ ws) (z ∷ zs) h (suc k) d small = counts_of ws zs h.1 k d (omega (arith, small))

pub described_valid : (d : Data) (c : Configuration) → Describes d c → IsConfiguration c
described_valid d c h = (let there = valid_listeners (codes "listen") d c.listen h.listen in record {
  listens = there.0;
  somewhere = there.1;
  at_few = there.2;
  some = h.some;
  few = h.zones.2.few;
  counts = counts_of h.zones.0 c.zones.items h.zones.2.each;
  apart = h.zones.2.apart;
})

-- One more zone that is apart from those before it.
pub settings_more : (tables : List Value) (i : ℕ) (table : Value) (zs : List ZoneSettings) (z : ZoneSettings) → i < length tables → AreSettings (map view (take i tables)) zs → IsSettings (view (get_or tables i table)) z → length zs ≢ 16 → list_any (λ other. are_alike other z) zs ≡ false → AreSettings (map view (take (suc i) tables)) (zs ++ z ∷ [])
settings_more tables i table zs z inside h is room apart = record {
  each = zipped_more view IsSettings tables i table zs z inside h.each is;
  few = (let few = h.few in omega (arith, few, room, length-append zs (z ∷ [])));
  apart = all_pairs_push AreApart zs z h.apart (none_passes (λ other. are_alike other z) zs apart);
}
