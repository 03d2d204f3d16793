-- Texts one after another.
use Rattle.std.proofs.Common.{◌≡◌, ℕ, None, Some, Option, Result, Ok, Err, OnOk, List, [], ◌∷◌, ◌++◌, flat_map, sym, ap, subst, ◌∙◌, append-nil, append_assoc}
use Rattle.std.specs.Io.KnownBytes.{Appends}
use Rattle.std.proofs.lemmas.Grind.{flat_map-append}
use Rattle.dns_primary.specs.declared.event.To.{To}
use Rattle.dns_replay.specs.Scripts.{printed_reply}

pub nothing_more : (out : Option (List ℕ)) → Appends out out []
nothing_more None = tt
nothing_more (Some xs) = sym (append-nil xs)

pub appends_more : (a b c : Option (List ℕ)) (x y : List ℕ) → Appends a b x → Appends b c y → Appends a c (x ++ y)
appends_more None b c x y p q = tt
appends_more (Some u) None c x y p q = absurd p
appends_more (Some u) (Some v) None x y p q = absurd q
appends_more (Some u) (Some v) (Some w) x y p q = q ∙ ap (λ (t : List ℕ). t ++ y) p ∙ append_assoc u x y

-- One reply after others.
pub prints_both : {E : Type 0} (a b c : Option (List ℕ)) (before : List (To × List ℕ)) (one : To × List ℕ) (r : Result (Unit {0}) E) → Appends a b (flat_map printed_reply before) → OnOk r (Appends b c (printed_reply one)) → OnOk r (Appends a c (flat_map printed_reply (before ++ one ∷ [])))
prints_both a b c before one (Err e) h k = tt
prints_both a b c before one (Ok v) h k =
    let both : flat_map printed_reply (before ++ one ∷ []) ≡ flat_map printed_reply before ++ printed_reply one = flat_map-append printed_reply before (one ∷ []) ∙ ap (λ (t : List ℕ). flat_map printed_reply before ++ t) (append-nil (printed_reply one)) in
    subst (λ (t : List ℕ). Appends a c t) (sym both) (appends_more a b c (flat_map printed_reply before) (printed_reply one) h k)
