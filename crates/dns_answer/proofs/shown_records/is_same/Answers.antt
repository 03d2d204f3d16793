use Rattle.std.proofs.Common.{◌≡◌, ℕ, Bool, List, [], ◌∷◌, refl, ap, ◌∙◌}
use Rattle.std.specs.Prelude.{◌&&◌, nat_eq}
use Rattle.std.specs.Str.{bytes_eq}
use Rattle.std.specs.Cmp.Lexicographic.{pointwise}
use Rattle.dns_names.specs.Name.{names_eq}
use Rattle.dns_zone.specs.Ancestry.{tied_same}
use Rattle.dns_answer.proofs.shown_records.is_same.Goals as goal

same_bytes : (xs ys : List ℕ) → pointwise nat_eq xs ys ≡ bytes_eq xs ys
same_bytes [] [] = refl
same_bytes [] (y ∷ ys) = refl
same_bytes (x ∷ xs) [] = refl
same_bytes (x ∷ xs) (y ∷ ys) = ap (λ (b : Bool). nat_eq x y && b) (same_bytes xs ys)

pub returns : goal.returns
returns c =
    let stored = c.args.stored.now in
    let shown = c.args.shown.now in
    let owner : c.is.result ≡ names_eq stored.owner shown.owner =
    tied_same c.is.result c.lend.result c.owner-2.result c.is.ensures.0 c.is.ensures.1 ∙ (λ i. names_eq ((c.lend.ensures ∙ c.owner.ensures) i) (c.owner-2.ensures i)) in
    let rdata : c.eq.result ≡ bytes_eq stored.rdata shown.rdata = c.eq.ensures ∙ same_bytes c.rdata.result.now c.rdata-2.result.now ∙ (λ i. bytes_eq (c.rdata.ensures.octets i) (c.rdata-2.ensures.octets i)) in
    λ i. ((owner i && nat_eq (c.rtype.ensures i) (c.rtype-2.ensures i)) && rdata i) && nat_eq (c.ttl.ensures i) (c.ttl-2.ensures i)
