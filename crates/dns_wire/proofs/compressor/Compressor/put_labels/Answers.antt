use Rattle.std.proofs.Common.{◌≡◌, ◌+◌, ◌∷◌, ◌++◌, List, [], ℕ, Option, Some, None, MatchOption, length, take, drop, get_or, refl, sym, ap, subst, ◌∙◌, arith}
use Rattle.std.specs.Option.{option_map}
use Rattle.dns_names.specs.Name.{Labels, labels_of}
use Rattle.dns_names.specs.Plain.{IsPlain}
use Rattle.dns_wire.specs.Compress.{Place, place_of, pointer, compress_name, new_places, compressed_name}
use Rattle.dns_wire.specs.Puts.{RefusesUpTo, noted}
use Rattle.dns_wire.proofs.Exits.{err_exit}
use Rattle.std.proofs.lemmas.List.{append-nil}
use Rattle.dns_wire.proofs.Suffixes.{FirstLabel, first_label, no_label}
use Rattle.dns_wire.proofs.Puts.{refuses_part}
use Rattle.dns_wire.specs.Indexed.{offset_at}
use Rattle.dns_wire.proofs.Indexed.{StillKnown, still_next}
use Rattle.dns_wire.proofs.NamePut.{NameLeft, name_known, name_next, not_known, compressed_label}
use Rattle.dns_wire.proofs.compressor.Compressor.put_labels.Goals as goal
use Rattle.dns_wire.proofs.compressor.Compressor.put_labels.Goals.{After-split_at}

-- what is kept where the suffix was found, and where it was not
at_some : (found : Option ℕ) (offset : ℕ) (now kept : List Place) (more : List Place) → found ≡ Some offset → MatchOption found (kept ≡ now ++ more) (λ _. kept ≡ now) → kept ≡ now
at_some found offset now kept more is h = subst (λ (o : Option ℕ). MatchOption o (kept ≡ now ++ more) (λ _. kept ≡ now)) is h

at_none : (found : Option ℕ) (now kept : List Place) (more : List Place) → found ≡ None → MatchOption found (kept ≡ now ++ more) (λ _. kept ≡ now) → kept ≡ now ++ more
at_none found now kept more is h = subst (λ (o : Option ℕ). MatchOption o (kept ≡ now ++ more) (λ _. kept ≡ now)) is h

pub returns-in-Some-clause-written : goal.returns-in-Some-clause-written
returns-in-Some-clause-written c =
    let s = c.args.self.now in
    let before = s.octets.items in
    let known = s.places in
    let now = c.labels.self in
    let all = compressed_name known (length before) (labels_of c.args.name.now) in
    let f = first_label c.labels.rest.now c.labels.invariant.plain c.labels-test.true in
    let position : Some c.in-Some.offset ≡ option_map (λ p. p.offset) (place_of known (f.label ∷ f.rest)) =
    sym c.in-Some.is ∙ c.in_ok-offset.ensures.position ∙ c.labels.invariant.still (labels_of c.labels.rest.now) (omega (arith)) ∙ ap (offset_at known) f.is in
    let left : NameLeft before all known now.octets.items now.places (f.label ∷ f.rest) = subst (λ (n : Labels). NameLeft before all known now.octets.items now.places n) f.is c.labels.invariant.left in
    let end = name_known before all known now.octets.items now.places f.label f.rest c.in-Some.offset (pointer c.in-Some.offset) position refl left in
    let same = at_some c.in_ok-offset.field-0 c.in-Some.offset now.places c.find_or_keep.new.self (noted c.len-at.result (labels_of c.labels.rest.now)) c.in-Some.is c.in_ok-offset.ensures.kept in
    record { octets = end.octets-are; places = same ∙ sym end.places-are; fits = omega (arith, c.labels.invariant.room, c.labels.invariant.same); same = c.labels.invariant.same }

pub returns-clause-written : goal.returns-clause-written
returns-clause-written c =
    let s = c.args.self.now in
    let before = s.octets.items in
    let now = c.labels.self in
    let all = compressed_name s.places (length before) (labels_of c.args.name.now) in
    let end : NameLeft before all s.places now.octets.items now.places [] = subst (λ (n : Labels). NameLeft before all s.places now.octets.items now.places n) (no_label c.labels.rest.now c.labels.invariant.plain (omega (arith, c.labels-test.false))) c.labels.invariant.left in
    record { octets = end.octets-are; places = sym (append-nil now.places) ∙ sym end.places-are; fits = omega (arith, c.labels.invariant.room, c.labels.invariant.same); same = c.labels.invariant.same }

-- the label that is written next
record Next (rest front back : List ℕ) (known : List Place) : Type 0 where
  first : FirstLabel rest
  unknown : place_of known (first.label ∷ first.rest) ≡ None
  front-is : front ≡ length first.label ∷ first.label
  back-is : labels_of back ≡ first.rest
  plain : IsPlain back

next : (c : After-split_at) → Next c.labels.rest.now c.split_at.result.0.now c.split_at.result.1.now c.args.self.now.places
next c =
    let rest = c.labels.rest.now in
    let known = c.args.self.now.places in
    let f = first_label rest c.labels.invariant.plain c.labels-test.true in
    let none = sym c.in_default.is ∙ c.in_ok-offset.ensures.position in
    let width : 1 + get_or rest 0 0 ≡ 1 + length f.label = ap (λ (k : ℕ). 1 + k) f.count in
    let back : c.split_at.result.1.now ≡ drop (1 + length f.label) rest = c.split_at.ensures.back ∙ ap (λ (k : ℕ). drop k rest) width in
    record {
      first = f;
      unknown = not_known known (f.label ∷ f.rest) (none ∙ c.labels.invariant.still (labels_of rest) (omega (arith)) ∙ ap (offset_at known) f.is);
      front-is = c.split_at.ensures.front ∙ ap (λ (k : ℕ). take k rest) width ∙ f.front;
      back-is = ap labels_of back ∙ f.back;
      plain = subst IsPlain (sym back) f.plain;
    }

pub returns-in_err-put-clause-refused : goal.returns-in_err-put-clause-refused
returns-in_err-put-clause-refused c =
    let s = c.args.self.now in
    let now = c.labels.self in
    let all = compressed_name s.places (length s.octets.items) (labels_of c.args.name.now) in
    let n = next (goal.at.returns-in_err-put-clause-refused c).After-split_at in
    let left : NameLeft s.octets.items all s.places now.octets.items now.places (n.first.label ∷ n.first.rest) = subst (λ (x : Labels). NameLeft s.octets.items all s.places now.octets.items now.places x) n.first.is c.labels.invariant.left in
    let front = c.split_at.result.0.now in
    let tail = compress_name s.places n.first.rest in
    let split : compress_name s.places (n.first.label ∷ n.first.rest) ≡ front ++ tail = compressed_label s.places n.first.label n.first.rest n.unknown ∙ ap (λ (xs : List ℕ). xs ++ tail) (sym n.front-is) in
    let refused : RefusesUpTo now.limit (length now.octets.items + length front) c.in_err-put.field-0.0 = c.in_err-put.ensures.refused in
    err_exit c.from_residual-in_err-put.result _ (RefusesUpTo s.limit (length s.octets.items + length all.octets)) c.from_residual-in_err-put.ensures.1
    (λ y same. subst (RefusesUpTo s.limit (length s.octets.items + length all.octets)) (sym same)
    (refuses_part s.limit s.octets.items all now.octets.items (compress_name s.places (n.first.label ∷ n.first.rest)) (now.places ++ new_places s.places (length now.octets.items) (n.first.label ∷ n.first.rest)) now.limit front tail c.in_err-put.field-0.0 split c.labels.invariant.same left refused))

pub labels-preserved : goal.labels-preserved
labels-preserved c =
    let s = c.args.self.now in
    let now = c.labels.self in
    let new = c.put.new.self in
    let all = compressed_name s.places (length s.octets.items) (labels_of c.args.name.now) in
    let n = next (goal.at.labels-preserved c).After-split_at in
    let left : NameLeft s.octets.items all s.places now.octets.items now.places (n.first.label ∷ n.first.rest) = subst (λ (x : Labels). NameLeft s.octets.items all s.places now.octets.items now.places x) n.first.is c.labels.invariant.left in
    let w = c.in_ok-put.ensures.written in
    let grown : new.octets.items ≡ now.octets.items ++ (length n.first.label ∷ n.first.label) = w.octets ∙ ap (λ (xs : List ℕ). now.octets.items ++ xs) n.front-is in
    let len : c.len-at.result ≡ length now.octets.items = omega (arith, c.len-at.ensures) in
    let more = noted (length now.octets.items) (n.first.label ∷ n.first.rest) in
    let kept : new.places ≡ now.places ++ more = w.places ∙ at_none c.in_ok-offset.field-0 now.places c.find_or_keep.new.self (noted c.len-at.result (labels_of c.labels.rest.now)) c.in_default.is c.in_ok-offset.ensures.kept ∙ ap (λ (k : ℕ). now.places ++ noted k (labels_of c.labels.rest.now)) len ∙ ap (λ (x : Labels). now.places ++ noted (length now.octets.items) x) n.first.is in
    let still : StillKnown s.places now.places (n.first.label ∷ n.first.rest) = subst (StillKnown s.places now.places) n.first.is c.labels.invariant.still in
    let still' : StillKnown s.places new.places n.first.rest = subst (λ (ps : List Place). StillKnown s.places ps n.first.rest) (sym kept) (still_next s.places now.places (length now.octets.items) n.first.label n.first.rest still) in
    let after : NameLeft s.octets.items all s.places new.octets.items new.places n.first.rest = name_next s.octets.items all s.places now.octets.items now.places n.first.label n.first.rest new.octets.items new.places n.unknown grown kept left in
    record {
      room = omega (arith, w.fits, w.same);
      same = w.same ∙ c.labels.invariant.same;
      plain = n.plain;
      still = subst (StillKnown s.places new.places) (sym n.back-is) still';
      left = subst (λ (x : Labels). NameLeft s.octets.items all s.places new.octets.items new.places x) (sym n.back-is) after;
    }
