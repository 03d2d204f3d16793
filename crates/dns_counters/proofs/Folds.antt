-- Counts of replies, one after the other, and lines of zones.
use Rattle.std.proofs.Common.{◌≡◌, ◌<◌, ◌+◌, ℕ, List, [], ◌∷◌, ◌++◌, length, refl, ap, sym, subst, ◌∙◌, arith, append_assoc, append-nil}
use Rattle.std.proofs.lemmas.List.{length-take-le, take_more}
use Rattle.std.specs.Prelude.{Option, None, Some, get_or, slice_get, take}
use Rattle.std.specs.Io.KnownBytes.{Appends}
use Rattle.std.proofs.KnownBytes.{Appends-nil, Appends-trans}
use Rattle.dns_names.specs.Name.{Labels}
use Rattle.dns_primary.specs.declared.event.HeaderTo.{HeaderTo}
use Rattle.dns_zone.specs.Zone.{Zone}
use Rattle.dns_versions.specs.Held.{shown_zone}
use Rattle.dns_primary.specs.declared.fullness.Fullness.{Fullness}
use Rattle.dns_primary.specs.Fresh.{IsShown}
use Rattle.dns_primary.specs.Fullness.{IsFullness}
use Rattle.dns_primary.specs.Machine.{ZoneState, kept_of}
use Rattle.dns_counters.specs.declared.counters.Counters.{Counters}
use Rattle.dns_counters.specs.Counters.{with_headers, with_reply}
use Rattle.dns_counters.specs.Lines.{counts_line, zone_told, zones_told}

headers_push : (c : Counters) (hs : List HeaderTo) (h : HeaderTo) → with_headers c (hs ++ h ∷ []) ≡ with_reply (with_headers c hs) h.octets
headers_push c [] h = refl
headers_push c (x ∷ xs) h = headers_push (with_reply c x.octets) xs h

-- One more is counted.
pub headers_more : (c s after : Counters) (hs : List HeaderTo) (i : ℕ) (other : HeaderTo) → i < length hs → s ≡ with_headers c (take i hs)
    → after ≡ with_reply s (get_or hs i other).octets → after ≡ with_headers c (take (i + 1) hs)
headers_more c s after hs i other lt before one =
    one ∙ ap (λ (x : Counters). with_reply x (get_or hs i other).octets) before
    ∙ sym (ap (with_headers c) (take_more hs i other lt) ∙ headers_push c (take i hs) (get_or hs i other))

zones_push : (origins : List Labels) (origin : Labels) (zones : List ZoneState) → zones_told (origins ++ origin ∷ []) zones ≡ zones_told origins zones ++ zone_told origin (slice_get zones (length origins))
zones_push [] origin [] = refl
zones_push [] origin (z ∷ zones) = append-nil (zone_told origin (Some z))
zones_push (o ∷ origins) origin [] = refl
zones_push (o ∷ origins) origin (z ∷ zones) =
    let here = zone_told o (Some z) in
    ap (λ (x : List ℕ). here ++ x) (zones_push origins origin zones) ∙ sym (append_assoc here (zones_told origins zones) (zone_told origin (slice_get zones (length origins))))

-- The line of one zone more was written.
pub told_more : (origins : List Labels) (other : Labels) (zones : List ZoneState) (index : ℕ) (out between out_after : Option (List ℕ)) → index < length origins
    → Appends out between (zones_told (take index origins) zones) → Appends between out_after (zone_told (get_or origins index other) (slice_get zones index))
    → Appends out out_after (zones_told (take (index + 1) origins) zones)
told_more origins other zones index out between out_after lt first more =
    let here = get_or origins index other in
    let long : length (take index origins) ≡ index = length-take-le index origins (omega (arith, lt)) in
    let line = zone_told here (slice_get zones index) in
    let is : zones_told (take (index + 1) origins) zones ≡ zones_told (take index origins) zones ++ line =
    ap (λ (x : List Labels). zones_told x zones) (take_more origins index other lt) ∙ zones_push (take index origins) here zones
    ∙ ap (λ (x : ℕ). zones_told (take index origins) zones ++ zone_told here (slice_get zones x)) long in
    subst (λ (x : List ℕ). Appends out out_after x) (sym is) (Appends-trans out between out_after (zones_told (take index origins) zones) line first more)

-- The line of a zone was written, or there is no such zone.
pub no_zone : (origin : Labels) (z : Option ZoneState) (out : Option (List ℕ)) → z ≡ None → Appends out out (zone_told origin z)
no_zone origin z out none = subst (λ (x : Option ZoneState). Appends out out (zone_told origin x)) (sym none) (Appends-nil out)

pub one_zone : (origin : Labels) (z : Option ZoneState) (number : ℕ) (zone : Zone) (f : Fullness) (out out_after : Option (List ℕ)) → IsShown number zone z → IsFullness f z
    → Appends out out_after (counts_line origin number zone f) → Appends out out_after (zone_told origin z)
one_zone origin None number zone f out out_after shown full said = absurd shown
one_zone origin (Some z) number zone f out out_after shown full said =
    subst (λ (x : Fullness). Appends out out_after (counts_line origin (length z.shown) (shown_zone (kept_of z)) x)) full
    (subst (λ (x : Zone). Appends out out_after (counts_line origin (length z.shown) x f)) shown.1
    (subst (λ (x : ℕ). Appends out out_after (counts_line origin x zone f)) shown.0 said))
