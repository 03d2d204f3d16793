-- The comments of zones, one more of them.
use Rattle.std.proofs.Common.{◌≡◌, ◌<◌, ◌+◌, ℕ, List, [], ◌∷◌, ◌++◌, length, refl, ap, sym, subst, ◌∙◌, arith, append_assoc, append-nil}
use Rattle.std.proofs.lemmas.List.{length-take-le, take_more}
use Rattle.std.specs.Prelude.{Option, None, Some, get_or, slice_get, take}
use Rattle.std.specs.Io.KnownBytes.{Appends}
use Rattle.std.proofs.KnownBytes.{Appends-nil, Appends-trans}
use Rattle.dns_names.specs.Name.{Labels}
use Rattle.dns_zone.specs.Zone.{Zone}
use Rattle.dns_versions.specs.Held.{shown_zone}
use Rattle.dns_primary.specs.Fresh.{IsShown}
use Rattle.dns_primary.specs.Machine.{ZoneState, kept_of}
use Rattle.dns_recording.specs.Script.{zone_comment, zone_comments}

-- That of the zone at an index, if there is one.
abbrev pub comment_at : Labels → Option ZoneState → List ℕ
comment_at origin None = []
comment_at origin (Some z) = zone_comment origin (length z.shown) (shown_zone (kept_of z))

comments_push : (origins : List Labels) (origin : Labels) (zones : List ZoneState) → zone_comments (origins ++ origin ∷ []) zones ≡ zone_comments origins zones ++ comment_at origin (slice_get zones (length origins))
comments_push [] origin [] = refl
comments_push [] origin (z ∷ zones) = append-nil (zone_comment origin (length z.shown) (shown_zone (kept_of z)))
comments_push (o ∷ origins) origin [] = refl
comments_push (o ∷ origins) origin (z ∷ zones) =
    let here = zone_comment o (length z.shown) (shown_zone (kept_of z)) in
    ap (λ (x : List ℕ). here ++ x) (comments_push origins origin zones) ∙ sym (append_assoc here (zone_comments origins zones) (comment_at origin (slice_get zones (length origins))))

comments_more : (origins : List Labels) (other : Labels) (zones : List ZoneState) (index : ℕ) → index < length origins
    → zone_comments (take (index + 1) origins) zones ≡ zone_comments (take index origins) zones ++ comment_at (get_or origins index other) (slice_get zones index)
comments_more origins other zones index lt =
    let here = get_or origins index other in
    ap (λ (x : List Labels). zone_comments x zones) (take_more origins index other lt) ∙ comments_push (take index origins) here zones
    ∙ ap (λ (x : ℕ). zone_comments (take index origins) zones ++ comment_at here (slice_get zones x)) (length-take-le index origins (omega (arith, lt)))

-- The comment of one zone more was written.
pub told_more : (origins : List Labels) (other : Labels) (zones : List ZoneState) (index : ℕ) (out between out_after : Option (List ℕ)) → index < length origins
    → Appends out between (zone_comments (take index origins) zones) → Appends between out_after (comment_at (get_or origins index other) (slice_get zones index))
    → Appends out out_after (zone_comments (take (index + 1) origins) zones)
told_more origins other zones index out between out_after lt first more =
    let here = comment_at (get_or origins index other) (slice_get zones index) in
    subst (λ (x : List ℕ). Appends out out_after x) (sym (comments_more origins other zones index lt)) (Appends-trans out between out_after (zone_comments (take index origins) zones) here first more)

pub no_zone : (origin : Labels) (z : Option ZoneState) (out out_after : Option (List ℕ)) → z ≡ None → out_after ≡ out → Appends out out_after (comment_at origin z)
no_zone origin z out out_after none same =
    subst (λ (x : Option ZoneState). Appends out out_after (comment_at origin x)) (sym none) (subst (λ (x : Option (List ℕ)). Appends out x []) (sym same) (Appends-nil out))

pub one_zone : (origin : Labels) (z : Option ZoneState) (number : ℕ) (zone : Zone) (out out_after : Option (List ℕ)) → IsShown number zone z → Appends out out_after (zone_comment origin number zone) → Appends out out_after (comment_at origin z)
one_zone origin None number zone out out_after shown said = absurd shown
one_zone origin (Some z) number zone out out_after shown said =
    subst (λ (x : Zone). Appends out out_after (zone_comment origin (length z.shown) x)) shown.1 (subst (λ (x : ℕ). Appends out out_after (zone_comment origin x zone)) shown.0 said)
