-- What is left of sequences, one record further.
use Rattle.std.proofs.Common.{◌≡◌, ℕ, ◌+◌, ◌-◌, true, not, cond, List, [], ◌∷◌, ◌++◌, Some, None, length, drop, sym, ap, ◌∙◌, arith}
use Rattle.std.specs.Prelude.{slice_get}
use Rattle.std.proofs.lemmas.Bool.Decides.{nat_tests}
use Rattle.dns_records.specs.Types.{type_soa}
use Rattle.dns_records.specs.Record.{Record}
use Rattle.dns_changes.specs.Change.{Change, is_soa}
use Rattle.dns_transfer.specs.Records.{all_but_soa, sequence, sequences}
use Rattle.dns_transfer.specs.Left.{left_in}
use Rattle.dns_transfer.proofs.Lists.{get_left, within, past, drop_get, drop_past, drop_right}

-- the changes from one on
sequences_from : (changes : List Change) (number : ℕ) (c : Change) → slice_get changes number ≡ Some c → sequences (drop number changes) ≡ sequence c ++ sequences (drop (number + 1) changes)
sequences_from changes number c e = ap sequences (drop_get changes number c e)

-- a record that is left in the sequence of a change
pub next_within : (changes : List Change) (number behind : ℕ) (c : Change) (r : Record) → slice_get changes number ≡ Some c → slice_get (sequence c) behind ≡ Some r → left_in changes number behind ≡ r ∷ left_in changes number (behind + 1)
next_within changes number behind c r e f =
    let more = sequences (drop (number + 1) changes) in
    let all = sequences_from changes number c e in
    let here = get_left (sequence c) more behind (within (sequence c) behind r f) ∙ f in
    ap (drop behind) all ∙ drop_get (sequence c ++ more) behind r here ∙ ap (λ (rs : List Record). r ∷ drop (behind + 1) rs) (sym all)

-- none is left in it
pub next_behind : (changes : List Change) (number behind : ℕ) (c : Change) → slice_get changes number ≡ Some c → slice_get (sequence c) behind ≡ None → left_in changes number behind ≡ left_in changes (number + 1) (behind - length (sequence c))
next_behind changes number behind c e f =
    ap (drop behind) (sequences_from changes number c e)
    ∙ drop_right (sequence c) (sequences (drop (number + 1) changes)) behind (past (sequence c) behind f)

-- no change is left
pub no_more : (changes : List Change) (number behind : ℕ) → slice_get changes number ≡ None → left_in changes number behind ≡ []
no_more changes number behind e =
    ap (λ (cs : List Change). drop behind (sequences cs)) (drop_past changes number (past changes number e)) ∙ drop_past [] behind (omega arith)

-- a SOA is none of the others
pub not_other : (r : Record) (rs : List Record) → r.rtype ≡ type_soa → all_but_soa (r ∷ rs) ≡ all_but_soa rs
not_other r rs e =
    let is : is_soa r ≡ true = grind (arith, nat_tests) in ap (λ b. cond (not b) (r ∷ all_but_soa rs) (all_but_soa rs)) is
