-- A name that is being made from text.
use Rattle.std.proofs.Common.{◌≡◌, ℕ, suc, ◌+◌, ◌-◌, ◌<◌, ◌≤◌, min, Bool, true, false, ◌⊎◌, inl, inr, List, [], ◌∷◌, ◌++◌, length, Option, Some, None, Ok, Err, refl, sym, ap, ◌∙◌, arith, append-nil, append_assoc, length-append}
use Rattle.std.specs.Prelude.{◌==◌, ◌||◌, nat_lt, bytes_eq, codes, slice_set, if◌then◌else◌}
use Rattle.std.specs.List.{list_any, AllByRecursion}
use Rattle.std.specs.Char.{to_ascii_lowercase}
use Rattle.std.proofs.Math.Seq.{set-append_seam}
use Rattle.std.proofs.lemmas.Bool.Decides.{nat_tests}
use Rattle.std.proofs.lemmas.List.{map-append}
use Rattle.std.proofs.lemmas.List.Folds.{list_any-append}
use Rattle.dns_names.specs.Name.{Labels, IsLabel, wire}
use Rattle.dns_names.specs.PlainOctets.{octets-append}
use Rattle.dns_names.specs.Text.{Letter, Itself, Escaped, letters, name_of_text, onto, is_dot, octet_of, before_label, dotted, parts_of, with_origin, limited}
use Rattle.dns_names.specs.Built.{framed, IsLower, IsBuilt, joined_labels, parts_after, TakesLetter}
use Rattle.dns_names.specs.declared.builder.Builder.{Builder}
use Rattle.dns_names.specs.declared.NameError.TheVariants.{LabelTooLong, NameTooLong}
use Rattle.dns_names.specs.Lower.{labels_with}

abbrev none_of : List ℕ → Bool
none_of label = length label == 0

abbrev long_of : List ℕ → Bool
long_of label = nat_lt 63 (length label)

-- one more octet
pub lower_more : (tail : List ℕ) (octet : ℕ) → IsLower tail → to_ascii_lowercase octet ≡ octet → octet < 256 → IsLower (tail ++ octet ∷ [])
lower_more tail octet h low small = record {
  lower = map-append to_ascii_lowercase tail (octet ∷ []) ∙ ap (λ (x : List ℕ). x ++ to_ascii_lowercase octet ∷ []) h.lower ∙ ap (λ (x : ℕ). tail ++ x ∷ []) low;
  fit = octets-append tail (octet ∷ []) h.fit (small, tt);
}

pub built_more : (b b' : Builder) (octet : ℕ) (done : Labels) (tail : List ℕ) → IsBuilt b done tail → to_ascii_lowercase octet ≡ octet → octet < 256 → b'.octets.items ≡ b.octets.items ++ octet ∷ [] → b'.start ≡ b.start → b'.empty ≡ b.empty → b'.long ≡ b.long → IsBuilt b' done (tail ++ octet ∷ [])
built_more b b' octet done tail h low small e s t l = record {
  octets = e ∙ ap (λ (x : List ℕ). x ++ octet ∷ []) h.octets ∙ append_assoc (framed done) (0 ∷ tail) (octet ∷ []);
  start = s ∙ h.start;
  empty = t ∙ h.empty;
  long = l ∙ h.long;
  labels = h.labels;
  last = lower_more tail octet h.last low small;
}

-- one more label
lowers_more : (done : Labels) (tail : List ℕ) → AllByRecursion IsLower done → IsLower tail → AllByRecursion IsLower (done ++ tail ∷ [])
lowers_more [] tail h k = (k, tt)
lowers_more (l ∷ ls) tail h k = (h.0, lowers_more ls tail h.1 k)

abbrev capped : ℕ → ℕ
capped n = if nat_lt 63 n then 63 else n

capped_is : (n : ℕ) → min n 63 ≡ capped n
capped_is n = grind (arith, nat_tests)

framed_more : (done : Labels) (tail : List ℕ) → framed (done ++ tail ∷ []) ≡ framed done ++ capped (length tail) ∷ tail
framed_more [] tail = ap (λ (x : List ℕ). capped (length tail) ∷ x) (append-nil tail)
framed_more (l ∷ ls) tail = ap (λ (x : List ℕ). capped (length l) ∷ x) (ap (λ (x : List ℕ). l ++ x) (framed_more ls tail) ∙ sym (append_assoc l (framed ls) (capped (length tail) ∷ tail)))

or_none : (b : Bool) → (b || false) ≡ b
or_none true = refl
or_none false = refl

any_more : (p : List ℕ → Bool) (done : Labels) (tail : List ℕ) → list_any p (done ++ tail ∷ []) ≡ (list_any p done || p tail)
any_more p done tail = list_any-append p done (tail ∷ []) ∙ ap (λ (x : Bool). list_any p done || x) (or_none (p tail))

pub built_size : (b : Builder) (done : Labels) (tail : List ℕ) → IsBuilt b done tail → length b.octets.items ≡ b.start + 1 + length tail
built_size b done tail h = omega (arith, ap length h.octets, length-append (framed done) (0 ∷ tail), h.start)

pub built_end : (b b' : Builder) (n v : ℕ) (done : Labels) (tail items : List ℕ) → IsBuilt b done tail → n ≡ length b.octets.items → v ≡ min (n - b.start - 1) 63 → items ≡ slice_set b.octets.items b.start v → b'.octets.items ≡ items ++ 0 ∷ [] → b'.start ≡ length items → b'.empty ≡ (b.empty || (n - b.start - 1 == 0)) → b'.long ≡ (b.long || nat_lt 63 (n - b.start - 1)) → IsBuilt b' (done ++ tail ∷ []) []
built_end b b' n v done tail items h len val is e s t l =
    let size : n - b.start - 1 ≡ length tail = omega (arith, built_size b done tail h) in
    let cap : v ≡ capped (length tail) = val ∙ ap (λ (k : ℕ). min k 63) size ∙ capped_is (length tail) in
    let whole : items ≡ framed (done ++ tail ∷ []) =
    is ∙ ap (λ (k : ℕ). slice_set b.octets.items k v) h.start ∙ ap (λ (x : List ℕ). slice_set x (length (framed done)) v) h.octets
    ∙ set-append_seam (framed done) 0 tail v ∙ ap (λ (k : ℕ). framed done ++ k ∷ tail) cap ∙ sym (framed_more done tail) in
    record {
      octets = e ∙ ap (λ (x : List ℕ). x ++ 0 ∷ []) whole;
      start = s ∙ ap length whole;
      empty = t ∙ ap (λ (x : Bool). x || (n - b.start - 1 == 0)) h.empty ∙ ap (λ (k : ℕ). list_any none_of done || (k == 0)) size ∙ sym (any_more none_of done tail);
      long = l ∙ ap (λ (x : Bool). x || nat_lt 63 (n - b.start - 1)) h.long ∙ ap (λ (k : ℕ). list_any long_of done || nat_lt 63 k) size ∙ sym (any_more long_of done tail);
      labels = lowers_more done tail h.labels h.last;
      last = record { lower = refl; fit = tt };
    }

abbrev some_parts : Labels × List ℕ → Option (Labels × List ℕ)
some_parts p = Some p

joined_octet : (done : Labels) (tail : List ℕ) (c : ℕ) (p : Labels × List ℕ) → joined_labels done tail (before_label c p) ≡ joined_labels done (tail ++ c ∷ []) p
joined_octet done tail c ([], rest) = ap (λ (x : List ℕ). (done, x)) (sym (append_assoc tail (c ∷ []) rest))
joined_octet done tail c (label ∷ labels, rest) = ap (λ (x : List ℕ). (done ++ x ∷ labels, rest)) (sym (append_assoc tail (c ∷ []) label))

dotted_octet : (l : Letter) (ls : List Letter) → is_dot l ≡ false → dotted (l ∷ ls) ≡ before_label (to_ascii_lowercase (octet_of l)) (dotted ls)
dotted_octet l ls h = rw (h, dotted) refl

pub after_octet : (done : Labels) (tail : List ℕ) (l : Letter) (o : Option (List Letter)) → is_dot l ≡ false → parts_after done tail (parts_of (onto l o)) ≡ parts_after done (tail ++ to_ascii_lowercase (octet_of l) ∷ []) (parts_of o)
after_octet done tail l None h = refl
after_octet done tail l (Some ls) h = ap (λ (p : Labels × List ℕ). some_parts (joined_labels done tail p)) (dotted_octet l ls h) ∙ ap (some_parts) (joined_octet done tail (to_ascii_lowercase (octet_of l)) (dotted ls))

pub after_all : (done : Labels) (tail : List ℕ) → parts_after done tail (parts_of (Some [])) ≡ Some (done, tail)
after_all done tail = ap (λ (x : List ℕ). some_parts (done, x)) (append-nil tail)

-- the whole is read: what refuses it
no_empty : (name : Labels) → AllByRecursion IsLabel name → list_any none_of name ≡ false
no_empty [] h = refl
no_empty (label ∷ rest) h =
    let some : 0 < length label = h.0.some in
    let one : (length label == 0) ≡ false = grind (arith, nat_tests) in
    rw one (no_empty rest h.1)

no_long : (name : Labels) → AllByRecursion IsLabel name → list_any long_of name ≡ false
no_long [] h = refl
no_long (label ∷ rest) h =
    let short : length label ≤ 63 = h.0.short in
    let one : nat_lt 63 (length label) ≡ false = grind (arith, nat_tests) in
    rw one (no_long rest h.1)

pub any_empty : (done : Labels) (tail : List ℕ) (origin : Labels) → AllByRecursion IsLabel origin → list_any none_of (with_origin origin (done, tail)) ≡ list_any none_of done
any_empty done [] origin h = refl
any_empty done (c ∷ tail) origin h =
    let some : (suc (length tail) == 0) ≡ false = grind (arith, nat_tests) in
    list_any-append none_of done ((c ∷ tail) ∷ origin) ∙ ap (λ (x : Bool). list_any none_of done || (x || list_any none_of origin)) some ∙ ap (λ (x : Bool). list_any none_of done || x) (no_empty origin h) ∙ or_none (list_any none_of done)

pub any_long : (done : Labels) (tail : List ℕ) (origin : Labels) → AllByRecursion IsLabel origin → list_any long_of (with_origin origin (done, tail)) ≡ (list_any long_of done || nat_lt 63 (length tail))
any_long done [] origin h = sym (ap (λ (x : Bool). list_any long_of done || x) (grind (arith, nat_tests)) ∙ or_none (list_any long_of done))
any_long done (c ∷ tail) origin h =
    list_any-append long_of done ((c ∷ tail) ∷ origin) ∙ ap (λ (x : Bool). list_any long_of done || (nat_lt 63 (suc (length tail)) || x)) (no_long origin h) ∙ ap (λ (x : Bool). list_any long_of done || x) (or_none (nat_lt 63 (suc (length tail))))

pub refused_long : (name : Labels) → list_any none_of name ≡ false → list_any long_of name ≡ true → limited name ≡ Err LabelTooLong
refused_long name e l = rw (e, l) refl

pub refused_size : (name : Labels) → list_any none_of name ≡ false → list_any long_of name ≡ false → 255 < length (wire name) → limited name ≡ Err NameTooLong
refused_size name e l big = (let over : nat_lt 255 (length (wire name)) ≡ true = grind (arith, nat_tests) in rw (e, l, over) refl)

pub limited_is : (name : Labels) → list_any none_of name ≡ false → list_any long_of name ≡ false → length (wire name) ≤ 255 → limited name ≡ Ok name
limited_is name e l small = (let over : nat_lt 255 (length (wire name)) ≡ false = grind (arith, nat_tests) in rw (e, l, over) refl)

or_both : (a b : Bool) → (a || b) ≡ false → (a ≡ false) × (b ≡ false)
or_both true b h = absurd (cc)
or_both false b h = (refl, h)

label_is : (label : List ℕ) → IsLower label → (length label == 0) ≡ false → nat_lt 63 (length label) ≡ false → IsLabel label
label_is label low e l = record { some = grind (arith, nat_tests); short = grind (arith, nat_tests); lower = low.lower; octets = low.fit }

labels_are : (done : Labels) → AllByRecursion IsLower done → list_any none_of done ≡ false → list_any long_of done ≡ false → AllByRecursion IsLabel done
labels_are [] h e l = tt
labels_are (x ∷ xs) h e l =
    let some = or_both (length x == 0) (list_any none_of xs) e in
    let short = or_both (nat_lt 63 (length x)) (list_any long_of xs) l in
    (label_is x h.0 some.0 short.0, labels_are xs h.1 some.1 short.1)

framed_is : (done rest : Labels) → AllByRecursion IsLabel done → framed done ++ wire rest ≡ wire (done ++ rest)
framed_is [] rest h = refl
framed_is (l ∷ ls) rest h =
    let short : length l ≤ 63 = h.0.short in
    let cap : capped (length l) ≡ length l = grind (arith, nat_tests) in
    ap (λ (k : ℕ). k ∷ ((l ++ framed ls) ++ wire rest)) cap ∙ ap (λ (x : List ℕ). length l ∷ x) (append_assoc l (framed ls) (wire rest) ∙ ap (λ (x : List ℕ). l ++ x) (framed_is ls rest h.1))

-- the octets that the builder makes of its labels
pub record Made (name : Labels) (octets : List ℕ) : Type 0 where
  pub whole : octets ≡ wire name
  pub labels : AllByRecursion IsLabel name

pub made_absolute : (b : Builder) (done : Labels) (tail : List ℕ) (origin : Labels) → IsBuilt b done tail → length tail ≡ 0 → b.empty ≡ false → b.long ≡ false → Made (with_origin origin (done, tail)) b.octets.items
made_absolute b done [] origin h none e l =
    let labels = labels_are done h.labels (sym h.empty ∙ e) (sym h.long ∙ l) in
    record { whole = h.octets ∙ framed_is done [] labels ∙ ap wire (append-nil done); labels = labels }
made_absolute b done (c ∷ tail) origin h none e l = absurd (omega (arith, none))

pub made_relative : (b : Builder) (done : Labels) (tail : List ℕ) (origin : Labels) (n v : ℕ) (items octets : List ℕ) → IsBuilt b done tail → AllByRecursion IsLabel origin → n ≡ length tail → v ≡ n → 0 < n → b.empty ≡ false → (b.long || nat_lt 63 n) ≡ false → items ≡ slice_set b.octets.items b.start v → octets ≡ items ++ wire origin → Made (with_origin origin (done, tail)) octets
made_relative b done [] origin n v items octets h named size same some e l is made = absurd (omega (arith, size, some))
made_relative b done (c ∷ tail) origin n v items octets h named size same some e l is made =
    let limits = or_both b.long (nat_lt 63 n) l in
    let label = c ∷ tail in
    let ended = labels_are done h.labels (sym h.empty ∙ e) (sym h.long ∙ limits.0) in
    let long : nat_lt 63 (length label) ≡ false = ap (nat_lt 63) (sym size) ∙ limits.1 in
    let last : IsLabel label = label_is label h.last (grind (arith, nat_tests)) long in
    let written : items ≡ framed done ++ length label ∷ label =
    is ∙ ap (λ (k : ℕ). slice_set b.octets.items k v) h.start ∙ ap (λ (x : List ℕ). slice_set x (length (framed done)) v) h.octets
    ∙ set-append_seam (framed done) 0 label v ∙ ap (λ (k : ℕ). framed done ++ k ∷ label) (same ∙ size) in
    record {
      whole = made ∙ ap (λ (x : List ℕ). x ++ wire origin) written ∙ append_assoc (framed done) (length label ∷ label) (wire origin) ∙ framed_is done (label ∷ origin) ended;
      labels = labels_with done (label ∷ origin) ended (last, named);
    }

-- a letter is taken
pub octet_taken : (b : Builder) (done : Labels) (tail : List ℕ) (behind : Option (List Letter)) (octet low : ℕ) (escaped : Bool) → low ≡ to_ascii_lowercase octet → (escaped ≡ false → octet ≡ 46 → ⊥) → IsBuilt b done (tail ++ low ∷ []) → TakesLetter b done tail (if escaped then Escaped octet else Itself octet) behind
octet_taken b done tail behind octet low true e other h =
    (done, tail ++ low ∷ [], h, after_octet done tail (Escaped octet) behind refl ∙ ap (λ (x : ℕ). parts_after done (tail ++ x ∷ []) (parts_of behind)) (sym e))
octet_taken b done tail behind octet low false e other h =
    let apart : octet ≡ 46 → ⊥ = other refl in
    let dot : (octet == 46) ≡ false = grind (arith, nat_tests) in
    (done, tail ++ low ∷ [], h, after_octet done tail (Itself octet) behind dot ∙ ap (λ (x : ℕ). parts_after done (tail ++ x ∷ []) (parts_of behind)) (sym e))

-- the limits of the code and those of the name
pub both_small : (b : Bool) (n : ℕ) → b ≡ false → n ≤ 63 → (b || nat_lt 63 n) ≡ false
both_small b n e small = (let short : nat_lt 63 n ≡ false = grind (arith, nat_tests) in ap (λ (x : Bool). x || nat_lt 63 n) e ∙ short)

pub one_long : (b : Bool) (n : ℕ) → (b ≡ true) ⊎ ((b ≡ false) × (63 < n)) → (b || nat_lt 63 n) ≡ true
one_long b n (inl e) = ap (λ (x : Bool). x || nat_lt 63 n) e
one_long b n (inr e) = (let long : nat_lt 63 n ≡ true = above n e.1 in ap (λ (x : Bool). x || nat_lt 63 n) e.0 ∙ long)
  where
    above : (n : ℕ) → 63 < n → nat_lt 63 n ≡ true
    above n h = grind (arith, nat_tests)

pub none_empty : (b : Builder) (done : Labels) (tail : List ℕ) (origin : Labels) → IsBuilt b done tail → AllByRecursion IsLabel origin → b.empty ≡ false → list_any none_of (with_origin origin (done, tail)) ≡ false
none_empty b done tail origin h named e = any_empty done tail origin named ∙ sym h.empty ∙ e

pub longs_are : (b : Builder) (done : Labels) (tail : List ℕ) (origin : Labels) (n : ℕ) → IsBuilt b done tail → AllByRecursion IsLabel origin → n ≡ length tail → list_any long_of (with_origin origin (done, tail)) ≡ (b.long || nat_lt 63 n)
longs_are b done tail origin n h named size =
    any_long done tail origin named ∙ ap (λ (x : Bool). x || nat_lt 63 (length tail)) (sym h.long) ∙ ap (λ (k : ℕ). b.long || nat_lt 63 k) (sym size)

-- the whole text
pub after_nothing : (p : Option (Labels × List ℕ)) → p ≡ parts_after [] [] p
after_nothing None = refl
after_nothing (Some ([], rest)) = refl
after_nothing (Some (label ∷ labels, rest)) = refl

pub text_name : (origin : Labels) (text rest : List ℕ) (done : Labels) (tail : List ℕ) → bytes_eq text (codes "@") ≡ false → bytes_eq text (codes ".") ≡ false → (length text == 0) ≡ false → length rest ≡ 0 → parts_of (letters text) ≡ parts_after done tail (parts_of (letters rest)) → name_of_text origin text ≡ limited (with_origin origin (done, tail))
text_name origin text [] done tail a d n none e =
    let parts : parts_of (letters text) ≡ Some (done, tail) = e ∙ after_all done tail in
    rw (a, d, n, parts) refl
text_name origin text (x ∷ rest) done tail a d n none e = absurd (omega (arith, none))
