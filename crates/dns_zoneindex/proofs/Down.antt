-- One label further down from a name.
use Rattle.std.proofs.Common.{◌≡◌, ℕ, List, [], ◌∷◌, ◌++◌, reverse, refl, sym, ap, ◌∙◌}
use Rattle.std.proofs.lemmas.List.{reverse-append}
use Rattle.dns_names.specs.Name.{Labels}
use Rattle.dns_zoneindex.specs.Entries.{PathRecord, under_label, below}

below_last : (p : Labels) (l : List ℕ) (es : List PathRecord) → below (p ++ l ∷ []) es ≡ under_label l (below p es)
below_last [] l es = refl
below_last (m ∷ p) l es = below_last p l (under_label m es)

pub below_down : (l : List ℕ) (n : Labels) (es : List PathRecord) → below (reverse (l ∷ n)) es ≡ under_label l (below (reverse n) es)
below_down l n es = ap (λ p. below p es) (reverse-append (l ∷ []) n) ∙ below_last (reverse n) l es

-- one label further
pub down : (name above : Labels) (l : List ℕ) (es own child : List PathRecord) → name ≡ l ∷ above → own ≡ below (reverse above) es → child ≡ under_label l own → child ≡ below (reverse name) es
down name above l es own child is own_is child_is = child_is ∙ ap (under_label l) own_is ∙ sym (below_down l above es) ∙ ap (λ n. below (reverse n) es) (sym is)
