use Rattle.std.proofs.Common.{◌≡◌, ℕ, ◌+◌, List, [], ◌∷◌, ◌++◌, length, sym, ap, ◌∙◌, arith, append_assoc, length-append}
use Rattle.std.specs.Prelude.{flat_map, Ok}
use Rattle.std.proofs.lemmas.Result.{err_from_is_err_and}
use Rattle.dns_records.specs.Record.{string}
use Rattle.dns_masterfile.specs.Pieces.{Word, text_of}
use Rattle.dns_masterfile.specs.Left.{Left}
use Rattle.dns_masterfile.specs.Reading.{take_strings}
use Rattle.dns_masterfile.specs.Scan.{stated_word}
use Rattle.dns_masterfile.specs.Taking.{PutsString, string_at}
use Rattle.dns_masterfile.proofs.Joins.{strung, strings_more, strings_push, short_push, refused_string}
use Rattle.dns_masterfile.proofs.scanner.Scanner.take_strings.Goals as goal

pub returns-in_err-size : goal.returns-in_err-size
returns-in_err-size c =
    let so_far = c.strings.invariant.so_far in
    let w : Word = stated_word c.in-Some-first_word.word in
    let at : c.strings.self.words ≡ w ∷ c.in-Some-first_word.behind.words = ap (λ (left : Left). left.words) c.in-Some-first_word.ensures in
    let p = err_from_is_err_and c.from_residual.result c.from_residual.ensures.1 in
    rw (p.1, p.2) (refused_string c.args.self.now.words c.strings.self.words c.in-Some-first_word.behind.words c.strings.size (flat_map string so_far.0) c.text.result.now w c.in_err-size.field-0.0 c.strings.invariant.some so_far.1 at c.text.ensures c.in_err-size.ensures)

pub strings-preserved : goal.strings-preserved
strings-preserved c =
    let so_far = c.strings.invariant.so_far in
    let strings : List (List ℕ) = so_far.0 in
    let front : List ℕ = flat_map string strings in
    let w : Word = stated_word c.in-Some-first_word.word in
    let behind : Left = c.in-Some-first_word.behind in
    let at : c.strings.self.words ≡ w ∷ behind.words = ap (λ (left : Left). left.words) c.in-Some-first_word.ensures in
    let put : PutsString c.text.result.now c.strings.size c.strings.octets.items c.put_string.new.octets.items c.in_ok-size.size = c.in_ok-size.ensures in
    let s : List ℕ = put.0 in
    let read : string_at c.strings.size (text_of w) ≡ Ok s = ap (string_at c.strings.size) (sym c.text.ensures) ∙ put.1 in
    let pushed : flat_map string (strings ++ s ∷ []) ≡ front ++ string s = strings_push strings s in
    let here = so_far.1 ∙ ap (λ (ws : List Word). strung front (take_strings c.strings.size ws)) at in
    let more = strings_more (take_strings 0 c.args.self.now.words) c.strings.size c.in_ok-size.size front s w behind.words here read put.3 in
    let long : c.in_ok-size.size ≡ c.strings.size + 1 + length s = put.3 in
    let was : c.strings.size ≡ length front = so_far.4 in
    record {
      some = c.strings.invariant.some;
      so_far = (
        strings ++ s ∷ [],
        more ∙ ap (λ (octets : List ℕ). strung octets (take_strings c.in_ok-size.size behind.words)) (sym pushed),
        put.2 ∙ ap (λ (octets : List ℕ). octets ++ string s) so_far.2 ∙ append_assoc c.args.octets.now.items front (string s) ∙ ap (λ (octets : List ℕ). c.args.octets.now.items ++ octets) (sym pushed),
        short_push strings s so_far.3 put.5,
        omega (arith, long, was, ap length pushed, length-append front (string s)),
        omega (arith, length-append strings (s ∷ [])),
      );
      room = put.4;
      stays = ap (λ (left : Left). record left { words = behind.words }) (sym c.in-Some-first_word.ensures ∙ c.strings.invariant.stays);
    }
