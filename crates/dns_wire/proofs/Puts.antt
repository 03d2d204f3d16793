-- Octets that are written piece by piece.
use Rattle.std.proofs.Common.{◌≡◌, ℕ, ◌+◌, ◌≤◌, List, [], ◌++◌, length, Option, refl, sym, ap, subst, ◌∙◌, arith, append_assoc}
use Rattle.std.proofs.lemmas.List.{length-append, append-nil}
use Rattle.dns_wire.specs.Compress.{Place, Compressing}
use Rattle.dns_wire.specs.Puts.{Wrote, WroteLabels, RefusesUpTo, name_end}
use Rattle.dns_wire.specs.declared.WriteError.{WriteError}
use Rattle.dns_wire.specs.declared.WriteError.TheVariants.{OutOfMemory, DoesNotFit}

-- after what is there now these octets are still to come, and then the table is as said
pub record Leaves (before : List ℕ) (whole : Compressing) (octets rest : List ℕ) (places : List Place) : Type 0 where
  pub octets-are : before ++ whole.octets ≡ octets ++ rest
  pub places-are : whole.places ≡ places

pub leaves_first : (before : List ℕ) (whole : Compressing) → Leaves before whole before whole.octets whole.places
leaves_first before whole = record { octets-are = refl; places-are = refl }

pub leaves_next : (before : List ℕ) (whole : Compressing) (octets rest : List ℕ) (places : List Place) (more tail after : List ℕ) → rest ≡ more ++ tail → after ≡ octets ++ more → Leaves before whole octets rest places → Leaves before whole after tail places
leaves_next before whole octets rest places more tail after e grown h = record {
  octets-are = h.octets-are ∙ ap (λ (xs : List ℕ). octets ++ xs) e ∙ sym (append_assoc octets more tail) ∙ ap (λ (xs : List ℕ). xs ++ tail) (sym grown);
  places-are = h.places-are;
}

-- the same octets and table, otherwise written
pub leaves_as : (before : List ℕ) (whole : Compressing) (octets rest rest' : List ℕ) (places places' : List Place) → rest ≡ rest' → places ≡ places' → Leaves before whole octets rest places → Leaves before whole octets rest' places'
leaves_as before whole octets rest rest' places places' e f h = record { octets-are = h.octets-are ∙ ap (λ (xs : List ℕ). octets ++ xs) e; places-are = h.places-are ∙ f }

-- the end of a name is to come after its labels
pub labels_leave : (limit : ℕ) (before octets : List ℕ) (now : ℕ) (places : List Place) (whole : Compressing) (found : Option ℕ) → WroteLabels limit before octets now places whole found → Leaves before whole octets (name_end found) places
labels_leave limit before octets now places whole found h = record { octets-are = h.octets; places-are = sym h.places }

-- what was to come was written
pub wrote_last : (limit : ℕ) (before : List ℕ) (whole : Compressing) (octets rest : List ℕ) (places : List Place) (now : ℕ) (after : List ℕ) (limit' : ℕ) (places' : List Place) (last : Compressing) → last.octets ≡ rest → last.places ≡ places → now ≡ limit
    → Leaves before whole octets rest places → Wrote now octets after limit' places' last → Wrote limit before after limit' places' whole
wrote_last limit before whole octets rest places now after limit' places' last e f same h w = record {
  octets = w.octets ∙ ap (λ (xs : List ℕ). octets ++ xs) e ∙ sym h.octets-are;
  places = w.places ∙ f ∙ sym h.places-are;
  fits = subst (λ (k : ℕ). length after ≤ k) same w.fits;
  same = w.same ∙ same;
}

pub refuses_more : (limit a b : ℕ) (e : WriteError) → a ≤ b → RefusesUpTo limit a e → RefusesUpTo limit b e
refuses_more limit a b OutOfMemory up h = h
refuses_more limit a b DoesNotFit up h = omega arith

-- what was to come was refused, or its first part was
pub refuses_part : (limit : ℕ) (before : List ℕ) (whole : Compressing) (octets rest : List ℕ) (places : List Place) (now : ℕ) (more tail : List ℕ) (e : WriteError) → rest ≡ more ++ tail → now ≡ limit
    → Leaves before whole octets rest places → RefusesUpTo now (length octets + length more) e → RefusesUpTo limit (length before + length whole.octets) e
refuses_part limit before whole octets rest places now more tail e is same h r =
    let size : length before + length whole.octets ≡ length octets + length rest = sym (length-append before whole.octets) ∙ ap length h.octets-are ∙ length-append octets rest in
    let part : length rest ≡ length more + length tail = ap length is ∙ length-append more tail in
    refuses_more limit (length octets + length more) (length before + length whole.octets) e (omega (arith, size, part)) (subst (λ (k : ℕ). RefusesUpTo k (length octets + length more) e) same r)

pub refuses_last : (limit : ℕ) (before : List ℕ) (whole : Compressing) (octets rest : List ℕ) (places : List Place) (now : ℕ) (e : WriteError) → now ≡ limit
    → Leaves before whole octets rest places → RefusesUpTo now (length octets + length rest) e → RefusesUpTo limit (length before + length whole.octets) e
refuses_last limit before whole octets rest places now e same h r = refuses_part limit before whole octets rest places now rest [] e (sym (append-nil rest)) same h r
