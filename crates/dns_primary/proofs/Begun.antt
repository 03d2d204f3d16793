-- Zones and settings of one length have a machine to which nothing has happened.
use Rattle.std.proofs.Common.{◌≡◌, ℕ, Bool, false, List, [], ◌∷◌, length, take, refl, arith}
use Rattle.std.specs.Prelude.{IsTrue, None, ◌↔◌}
use Rattle.std.specs.Bool.{Decides}
use Rattle.std.specs.List.{list_any}
use Rattle.std.specs.Str.{bytes_eq}
use Rattle.std.specs.Net.Addr.{ipv4_octets, ipv6_octets}
use Rattle.std.proofs.lemmas.List.Folds.{Any-from_list_any, list_any-from_Any}
use Rattle.std.proofs.lemmas.Slice.Eq.{bytes_eq-Decides}
use Rattle.std.specs.declared.net.ip_addr.IpAddr.{IpAddr}
use Rattle.std.specs.declared.net.ip_addr.IpAddr.TheVariants.{V4, V6}
use Rattle.dns_zone.specs.Zone.{Zone}
use Rattle.dns_policy.specs.Prefix.{bits_of, Covers, IsAllowed}
use Rattle.dns_store.specs.Versions.{Shape, opened_again}
use Rattle.dns_store.specs.Opens.{fresh}
use Rattle.dns_store.specs.Formatting.{first_of}
use Rattle.dns_versions.specs.Each.{Each3}
use Rattle.dns_primary.specs.declared.primary.ZoneSpec.{ZoneSpec}
use Rattle.dns_primary.specs.Machine.{Setting, ZoneState, Machine, kept_of, versions_of}
use Rattle.dns_primary.specs.Open.{shape_of}
use Rattle.dns_primary.specs.Fresh.{IsLoaded, IsFresh}

-- whether a prefix covers an address
abbrev pub covers : IpAddr × ℕ → IpAddr → Bool
covers (V4 p, n) (V4 a) = bytes_eq (take n (bits_of (ipv4_octets p))) (take n (bits_of (ipv4_octets a)))
covers (V6 p, n) (V6 a) = bytes_eq (take n (bits_of (ipv6_octets p))) (take n (bits_of (ipv6_octets a)))
covers (V4 p, n) (V6 a) = false
covers (V6 p, n) (V4 a) = false

covers_is : (p : IpAddr × ℕ) (a : IpAddr) → Decides (covers p a) (Covers p a)
covers_is (V4 p, n) (V4 a) = bytes_eq-Decides _ _
covers_is (V6 p, n) (V6 a) = bytes_eq-Decides _ _
covers_is (V4 p, n) (V6 a) = (λ e. absurd (cc e), λ h. absurd h)
covers_is (V6 p, n) (V4 a) = (λ e. absurd (cc e), λ h. absurd h)

abbrev pub allows : List (IpAddr × ℕ) → IpAddr → Bool
allows prefixes a = list_any (λ p. covers p a) prefixes

pub allows_is : (prefixes : List (IpAddr × ℕ)) (a : IpAddr) → IsTrue (allows prefixes a) ↔ IsAllowed prefixes a
allows_is prefixes a = (
  λ e. (let some = Any-from_list_any (λ p. covers p a) prefixes e in
      (some.0, some.1, some.2, some.3, (covers_is some.1 a).0 some.4)),
  λ h. list_any-from_Any (λ p. covers p a) prefixes (h.0, h.1, h.2, h.3, (covers_is h.1 a).1 h.4),
)

-- the settings that are configured so
abbrev pub setting_of : Shape → ZoneSpec → Setting
setting_of shape settings = record {
  shape = shape;
  keep = settings.keep;
  may_update = allows settings.update.items;
  may_transfer = allows settings.transfer.items;
}

abbrev begun : Zone → ZoneSpec → ZoneState
begun zone settings = record {
  setting = setting_of (record { apex = zone.apex; snapshot = settings.snapshot; journal = settings.journal }) settings;
  loaded = zone.records;
  shown = [];
  staged = [];
  base = 0;
  second = None;
  openings = 1;
  altered = [];
  closed = false;
}

all_begun : (zones : List Zone) (settings : List ZoneSpec) → length zones ≡ length settings → (states : List ZoneState) × Each3 IsLoaded zones settings states
all_begun [] [] e = ([], tt)
all_begun [] (s ∷ settings) e = absurd (omega (arith, e))
all_begun (z ∷ zones) [] e = absurd (omega (arith, e))
all_begun (z ∷ zones) (s ∷ settings) e =
    let rest = all_begun zones settings (omega (arith, e)) in (
      begun z s ∷ rest.0,
      (
        record {
          shape = refl;
          set = record { keep = refl; update = allows_is s.update.items; transfer = allows_is s.transfer.items };
          loaded = refl;
          shown = refl;
          staged = refl;
          base = refl;
          second = refl;
          openings = refl;
          altered = refl;
          opened = refl;
        },
        rest.1,
      ),
    )

pub fresh_machine : (zones : List Zone) (settings : List ZoneSpec) → length zones ≡ length settings → (m : Machine) × IsFresh zones settings m
fresh_machine zones settings e =
    let all = all_begun zones settings e in
    (record { zones = all.0; waiting = []; connections = [] }, record { zones_are = all.1; waiting = refl; connections = refl })

-- a zone that was just loaded is what its store is opened as
pub loaded_opened : (zone : Zone) (settings : ZoneSpec) (z : ZoneState) → IsLoaded zone settings z → kept_of z ≡ fresh (shape_of zone.apex settings) (opened_again (first_of zone.records))
loaded_opened zone settings z h =
    let shape = h.shape in
    let loaded = h.loaded in
    let shown = h.shown in
    let staged = h.staged in
    let base = h.base in
    let second = h.second in
    let openings = h.openings in
    let altered = h.altered in
    let opened = h.opened in
    λ i. record {
      shape = shape i;
      loaded = loaded i;
      shown = versions_of (shown i);
      staged = versions_of (staged i);
      base = base i;
      second = second i;
      openings = openings i;
      altered = altered i;
      closed = opened i;
    }
