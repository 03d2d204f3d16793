use Rattle.std.proofs.Common.{◌≡◌, ℕ, ◌+◌, List, ◌∷◌, ◌++◌, length, drop, get_or, inr, sym, ap, ◌∙◌, append_assoc}
use Rattle.std.specs.Prelude.{Some}
use Rattle.std.proofs.lemmas.Result.{err_from_is_err_and}
use Rattle.dns_records.specs.declared.parts.Value.{Value as Part}
use Rattle.dns_records.specs.declared.parts.Value.TheVariants as part
use Rattle.dns_masterfile.specs.Pieces.{Word, text_of}
use Rattle.dns_masterfile.specs.Data.{octets_of_text}
use Rattle.dns_masterfile.specs.Left.{Left}
use Rattle.dns_masterfile.specs.Reading.{TakenValue, take_values}
use Rattle.dns_masterfile.specs.Scan.{stated_word}
use Rattle.dns_masterfile.specs.Taking.{PutsValue}
use Rattle.dns_masterfile.proofs.Joins.{drop_next, joined, fixed_more, fixed_missing, length_both}
use Rattle.dns_masterfile.proofs.scanner.Scanner.take_values.Goals as goal
use Rattle.dns_records.specs.Types.{Value, octet_count}
use Rattle.dns_records.specs.Fields.{stated_value, stated_values}

pub returns-in_err-word : goal.returns-in_err-word
returns-in_err-word c =
    let items : List Part = c.args.values.now in
    let i : ℕ = c.parts.value-index in
    let f : Value = stated_value (get_or items i part.U16) in
    let fs : List Value = stated_values (drop (i + 1) items) in
    let at : stated_values (drop i items) ≡ f ∷ fs = ap stated_values (drop_next items i part.U16 c.parts-test.true) in
    let so_far = c.parts.invariant.so_far in
    let words : List Word = c.parts.self.words in
    let all : take_values (stated_values items) c.args.self.now.words ≡ joined so_far.0 (take_values (f ∷ fs) words) =
    so_far.1 ∙ ap (λ (fs : List Value). joined so_far.0 (take_values fs words)) at in
    let p = err_from_is_err_and c.from_residual.result c.from_residual.ensures.1 in
    rw (p.1, p.2) (inr (fixed_missing f fs (take_values (stated_values items) c.args.self.now.words) so_far.0 words c.in_err-word.field-0.0 all c.in_err-word.ensures))

pub parts-preserved : goal.parts-preserved
parts-preserved c =
    let items : List Part = c.args.values.now in
    let i : ℕ = c.parts.value-index in
    let f : Value = stated_value (get_or items i part.U16) in
    let fs : List Value = stated_values (drop (i + 1) items) in
    let at : stated_values (drop i items) ≡ f ∷ fs = ap stated_values (drop_next items i part.U16 c.parts-test.true) in
    let so_far = c.parts.invariant.so_far in
    let words : List Word = c.parts.self.words in
    let rest : List Word = c.take_word.new.self.words in
    let w : Word = stated_word c.in_ok-word.word in
    let took = c.in_ok-word.ensures in
    let put : PutsValue f c.text.result.now c.parts.octets.items c.put_value.new.octets.items = c.in_ok-put_value.ensures in
    let text : octets_of_text f (text_of w) ≡ Some put.0 = ap (octets_of_text f) (sym c.text.ensures) ∙ put.1 in
    let whole : TakenValue (List ℕ) = take_values (stated_values items) c.args.self.now.words in
    let all : whole ≡ joined so_far.0 (take_values (f ∷ fs) words) = so_far.1 ∙ ap (λ (fs : List Value). joined so_far.0 (take_values fs words)) at in
    let sizes : octet_count (stated_values (drop i items)) ≡ octet_count (f ∷ fs) = ap octet_count at in
    let long : length put.0 ≡ _ = put.3 in
    record {
      so_far = (
        so_far.0 ++ put.0,
        fixed_more f fs whole so_far.0 put.0 words rest w all took.0 text,
        put.2 ∙ ap (λ (octets : List ℕ). octets ++ put.0) so_far.2 ∙ append_assoc c.args.octets.now.items so_far.0 put.0,
        length_both so_far.0 put.0 _ _ _ _ long (so_far.3) sizes,
      );
      stays = took.1 ∙ ap (λ (left : Left). record left { words = rest }) c.parts.invariant.stays;
    }
