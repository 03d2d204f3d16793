use Rattle.std.proofs.Common.{◌≡◌, ℕ, ◌<◌, ◌≤◌, ◌+◌, List, [], ◌∷◌, ◌++◌, drop, map, length, get_or, refl, ap, ◌∙◌, arith, Bor}
use Rattle.std.specs.List.{flat_map}
use Rattle.std.proofs.lemmas.List.{drop_more, drop_all}
use Rattle.std.proofs.lemmas.Result.{IfOk-weaker, IfErr-weaker}
use Rattle.dns_records.specs.Types.{type_txt}
use Rattle.dns_records.specs.Record.{Data, IsData, string}
use Rattle.dns_records.specs.Refusals.{RefusesData}
use Rattle.dns_records.proofs.Joined.{AreShort, joined_none, joined_more, joined_all, joined_long, txt_found, txt_refused}
use Rattle.dns_records.proofs.rdata.RData.txt.Goals as goal

abbrev text : Bor (List ℕ) → List ℕ
text s = s.now

abbrev none : Bor (List ℕ)
none = record { ref_ptr = (0, 0); now = [] }

abbrev at : List (Bor (List ℕ)) → ℕ → Bor (List ℕ)
at strings i = get_or strings i none

abbrev data_at : List ℕ → Data
data_at x = record { rtype = type_txt; octets = x }

pub loop-string-init : goal.loop-string-init
loop-string-init c = joined_none _ _ _ _ c.new-octets.ensures.items refl

pub returns-in_default-clause-refused : goal.returns-in_default-clause-refused
returns-in_default-clause-refused c =
    let strings = c.args.strings.now in
    let i = c.loop-string.string-index in
    let inside : i < length strings = omega arith in
    joined_long text c.loop-string.octets.items (at strings i) (drop i strings) (drop (i + 1) strings) strings c.loop-string.invariant (drop_more strings i none inside) c.in_default.ensures

pub loop-string-preserved : goal.loop-string-preserved
loop-string-preserved c =
    let strings = c.args.strings.now in
    let i = c.loop-string.string-index in
    let inside : i < length strings = omega arith in
    joined_more text c.loop-string.octets.items c.extend_from_slice.new.self.items c.extend_from_slice-in-loop-string.new.self.items (at strings i) (drop i strings) (drop (i + 1) strings) strings c.loop-string.invariant
    (drop_more strings i none inside) c.in-Ok.ensures.0 (c.in_ok-extend_from_slice.ensures.ok ∙ ap (λ (n : ℕ). c.loop-string.octets.items ++ n ∷ []) c.in-Ok.ensures.1) c.in_ok-extend_from_slice-2.ensures.ok

all : (c : goal.Joined-octets-4) → (c.as_slice.result.now ≡ flat_map string (map text c.args.strings.now)) × AreShort (map text c.args.strings.now)
all c =
    let over : length c.args.strings.now ≤ c.loop-string.string-index = omega arith in
    let both = joined_all text c.loop-string.octets.items (drop c.loop-string.string-index c.args.strings.now) c.args.strings.now c.loop-string.invariant (drop_all c.loop-string.string-index c.args.strings.now over) in
    (c.as_slice.ensures ∙ both.0, both.1)

pub returns-clause-found : goal.returns-clause-found
returns-clause-found c =
    let both = all c in
    IfOk-weaker c.new.result (λ d. (d ≡ data_at c.as_slice.result.now) × IsData d) _ (λ d h. txt_found d c.as_slice.result.now (map text c.args.strings.now) h.0 h.1 both.0 both.1) c.new.ensures.found

pub returns-clause-refused : goal.returns-clause-refused
returns-clause-refused c = IfErr-weaker c.new.result (RefusesData (data_at c.as_slice.result.now)) _ (λ e h. txt_refused c.as_slice.result.now (map text c.args.strings.now) e (all c).0 (all c).1 h) c.new.ensures.refused
