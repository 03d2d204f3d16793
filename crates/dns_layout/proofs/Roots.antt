-- What the root of a store says.
use Rattle.std.proofs.Common.{◌≡◌, ℕ, ◌^◌, ◌<◌, ◌+◌, ◌-◌, ◌≤◌, List, [], ◌∷◌, ◌++◌, take, drop, length, replicate, refl, sym, ◌∙◌, ap, arith, Bool, true, false, length-append, length-drop, append_assoc}
use Rattle.std.proofs.Math.Seq.{take-append_seam, take-append-add}
use Rattle.std.proofs.lemmas.List.{take-replicate, replicate-append-replicate}
use Rattle.byteorder.specs.Endian.{big_bytes, big_number}
use Rattle.byteorder.specs.Numbers.{big_number-reads_back}
use Rattle.dns_layout.specs.Apex.{IsPlainApex, apex_octets}
use Rattle.dns_layout.specs.Sector.{HasNumbers, sector_of, open_count, bank_open, snapshot_length, snapshot_room, journal_room, clear, apex_field, root_tag, root_tag_in}
use Rattle.dns_layout.specs.Forms.{SaysRoot, SaysRootIn, root_front, bank_number, clear_number}
use Rattle.dns_layout.specs.declared.format.Format.{Format}
use Rattle.dns_layout.specs.declared.root.Root.{Root}
use Rattle.dns_layout.specs.declared.root.Bank.{Bank}
use Rattle.dns_layout.specs.declared.root.Bank.TheVariants.{Zero, One}

same_bank : (b k : Bank) → bank_number b ≡ bank_number k → b ≡ k
same_bank Zero Zero is = refl
same_bank Zero One is = absurd (omega (arith, is))
same_bank One Zero is = absurd (omega (arith, is))
same_bank One One is = refl

same_clear : (b k : Bool) → clear_number b ≡ clear_number k → b ≡ k
same_clear true true is = refl
same_clear true false is = absurd (omega (arith, is))
same_clear false true is = absurd (omega (arith, is))
same_clear false false is = refl

-- two roots that a sector says are one, where their names are
pub same_root : (f : Format) (x : List ℕ) (r k : Root) → SaysRootIn f x r → SaysRootIn f x k → r.apex ≡ k.apex → r ≡ k
same_root f x r k a b name = λ i. record {
  open_count = (sym a.opened_is ∙ b.opened_is) i;
  base = (sym a.base_is ∙ b.base_is) i;
  bank = same_bank r.bank k.bank (sym a.bank_is ∙ b.bank_is) i;
  bank_open = (sym a.bank_open_is ∙ b.bank_open_is) i;
  snapshot_length = (sym a.snapshot_length_is ∙ b.snapshot_length_is) i;
  snapshot_room = (sym a.snapshot_room_is ∙ b.snapshot_room_is) i;
  journal_room = (sym a.journal_room_is ∙ b.journal_room_is) i;
  is_clear = same_clear r.is_clear k.is_clear (sym a.clear_is ∙ b.clear_is) i;
  apex = name i;
}

-- a name's field is its first 455 octets and nine zeros, since no name has more than 255
pub field_front : (apex : List ℕ) → IsPlainApex apex → take 455 (apex_octets apex) ++ replicate 9 0 ≡ apex_octets apex
field_front apex plain =
    let n = length apex in
    let position : 455 ≡ n + (455 - n) = omega (arith, plain.short) in
    let room : (455 - n) + 9 ≡ 464 - n = omega (arith, plain.short) in
    let le : 455 - n ≤ 464 - n = omega (arith, plain.short) in
    ap (λ (k : ℕ). take k (apex_octets apex) ++ replicate 9 0) position
    ∙ ap (λ (l : List ℕ). l ++ replicate 9 0) (take-append-add apex (replicate (464 - n) 0) (455 - n))
    ∙ ap (λ (l : List ℕ). (apex ++ l) ++ replicate 9 0) (take-replicate (455 - n) (464 - n) 0 le)
    ∙ append_assoc apex (replicate (455 - n) 0) (replicate 9 0)
    ∙ ap (λ (l : List ℕ). apex ++ l) (replicate-append-replicate (455 - n) 9 0)
    ∙ ap (λ (k : ℕ). apex ++ replicate k 0) room

-- the root that a sector of this form says
pub root_said : (r : Root) (x part tail : List ℕ) → HasNumbers x root_tag r.open_count r.base (bank_number r.bank)
    → r.bank_open < 2 ^ 64 → r.snapshot_length < 2 ^ 64 → r.snapshot_room < 2 ^ 32 → r.journal_room < 2 ^ 32
    → length part ≡ 455 → part ++ replicate 9 0 ≡ apex_octets r.apex → IsPlainApex r.apex
    → x ≡ sector_of root_tag r.open_count r.base (bank_number r.bank) (root_front r ++ part) ++ tail → SaysRoot x r
unfolding bank_open snapshot_length snapshot_room journal_room clear apex_field root_tag_in
root_said r x part tail says b l s j size field plain is = record {
  tagged = says.tagged;
  opened_is = says.opened_is;
  base_is = says.version_is;
  bank_is = says.count_is;
  bank_open_is = ap (λ (y : List ℕ). big_number 8 (drop 24 y)) is ∙ big_number-reads_back 8 r.bank_open (((big_bytes 8 r.snapshot_length ++ (big_bytes 4 r.snapshot_room ++ (big_bytes 4 r.journal_room ++ clear_number r.is_clear ∷ []))) ++ part) ++ tail) b;
  snapshot_length_is = ap (λ (y : List ℕ). big_number 8 (drop 32 y)) is ∙ big_number-reads_back 8 r.snapshot_length (((big_bytes 4 r.snapshot_room ++ (big_bytes 4 r.journal_room ++ clear_number r.is_clear ∷ [])) ++ part) ++ tail) l;
  snapshot_room_is = ap (λ (y : List ℕ). big_number 4 (drop 40 y)) is ∙ big_number-reads_back 4 r.snapshot_room (((big_bytes 4 r.journal_room ++ clear_number r.is_clear ∷ []) ++ part) ++ tail) s;
  journal_room_is = ap (λ (y : List ℕ). big_number 4 (drop 44 y)) is ∙ big_number-reads_back 4 r.journal_room (((clear_number r.is_clear ∷ []) ++ part) ++ tail) j;
  clear_is = ap (λ (y : List ℕ). clear y) is;
  apex_is = ap (λ (y : List ℕ). apex_field y) is ∙ ap (λ (k : ℕ). take k (part ++ tail) ++ replicate 9 0) (sym size) ∙ ap (λ (y : List ℕ). y ++ replicate 9 0) (take-append_seam part tail) ∙ field;
  plain = plain;
}
