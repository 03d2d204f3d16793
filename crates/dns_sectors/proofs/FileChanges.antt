-- One more change joins the record of a file in memory.
use Rattle.std.proofs.Common.{◌≡◌, ◌⊎◌, inl, inr, ⊎_elim, ℕ, zero, suc, ◌+◌, ◌-◌, ◌≤◌, List, [], ◌∷◌, ◌++◌, length, take, drop, replicate, refl, sym, ◌∙◌, ap, subst, arith, length-append}
use Rattle.std.proofs.lemmas.List.{take_all, take-append-le}
use Rattle.dns_sectors.specs.FileOctets.{padded, written}
use Rattle.dns_sectors.specs.File.{MayChange, FollowsBy, Passes}
use Rattle.dns_sectors.specs.MemoryFile.{file_after, file_after_all, HeldSince}
use Rattle.dns_sectors.specs.declared.memory_file.Change.{Change}
use Rattle.dns_sectors.proofs.SectorsInFile.{padded_zeros}

pub after-push : (octets : List ℕ) (changes : List Change) (change : Change) → file_after_all octets (changes ++ change ∷ []) ≡ file_after (file_after_all octets changes) change
after-push octets [] change = refl
after-push octets (x ∷ changes) change = after-push (file_after octets x) changes change

-- before the new change, or after it
last_or_earlier : (k n : ℕ) → k ≤ n + 1 → (k ≤ n) ⊎ (n + 1 ≤ k)
last_or_earlier zero n le = inl (omega arith)
last_or_earlier (suc k) zero le = inr (omega arith)
last_or_earlier (suc k) (suc n) le = ⊎_elim (λ h. inl (omega (arith, h))) (λ h. inr (omega (arith, h))) (last_or_earlier k n (omega (arith, le)))

passes : (start : List ℕ) (changes : List Change) (change : Change)
    → Passes (length changes) (length (changes ++ change ∷ [])) (HeldSince start changes) (HeldSince start (changes ++ change ∷ [])) (λ c. c ≡ file_after_all start (changes ++ change ∷ []))
passes start changes change = record {
  later = omega (arith, size);
  nothing_else = λ t c le held. was t c held;
  keeps = λ t c le past. (past.0, past.1, omega (arith, size, past.2), past.3 ∙ ap (file_after_all start) (sym (take-append-le past.0 changes (change ∷ []) past.2)));
}
  where
    size : length (changes ++ change ∷ []) ≡ length changes + 1
    size = length-append changes (change ∷ [])

    was : (t : ℕ) (c : List ℕ) → HeldSince start (changes ++ change ∷ []) t c → HeldSince start changes t c ⊎ (c ≡ file_after_all start (changes ++ change ∷ []))
    was t c (k, from, to, is) =
        ⊎_elim
        (λ earlier. inl (k, from, earlier, is ∙ ap (file_after_all start) (take-append-le k changes (change ∷ []) earlier)))
        (λ last. inr (is ∙ ap (file_after_all start) (take_all k (changes ++ change ∷ []) (omega (arith, last, size)))))
        (last_or_earlier k (length changes) (omega (arith, to, size)))

-- What holds once the change is in the record.
module _ (start : List ℕ) (changes changes' : List Change) (change : Change) (pushed : changes' ≡ changes ++ change ∷ []) where
  pub changed : file_after_all start changes' ≡ file_after (file_after_all start changes) change
  changed = ap (file_after_all start) pushed ∙ after-push start changes change

  pub may_change : MayChange (λ octets. file_after octets change) (file_after_all start changes) (file_after_all start changes')
  may_change = inr changed

  pub follows : FollowsBy (λ octets. file_after octets change) (λ c. c ≡ file_after_all start changes) (λ c. c ≡ file_after_all start changes')
  follows c is = (file_after_all start changes, refl, inr (is ∙ changed))

  pub passes_by : Passes (length changes) (length changes') (HeldSince start changes) (HeldSince start changes') (λ c. c ≡ file_after_all start changes')
  passes_by = subst (λ (l : List Change). Passes (length changes) (length l) (HeldSince start changes) (HeldSince start l) (λ c. c ≡ file_after_all start l)) (sym pushed) (passes start changes change)

-- octets that were cut to a length, or filled up to it
pub resized : (n : ℕ) (o : List ℕ) → take n o ++ replicate (n - length o) 0 ≡ padded n o
resized zero o = ap (λ (k : ℕ). replicate k 0) (let e : 0 - length o ≡ 0 = omega arith in e)
resized (suc n) [] = ap (λ (k : ℕ). replicate k 0) (let e : suc n - 0 ≡ suc n = omega arith in e) ∙ sym (padded_zeros (suc n))
resized (suc n) (x ∷ o) =
    ap (λ (k : ℕ). x ∷ (take n o ++ replicate k 0)) (let e : suc n - length (x ∷ o) ≡ n - length o = omega arith in e)
    ∙ ap (λ (l : List ℕ). x ∷ l) (resized n o)

-- octets in front of which all are there
padded_take : (n : ℕ) (o : List ℕ) → n ≤ length o → padded n o ≡ take n o
padded_take zero o le = refl
padded_take (suc n) [] le = absurd (omega (arith, le))
padded_take (suc n) (x ∷ o) le = ap (λ (l : List ℕ). x ∷ l) (padded_take n o (omega (arith, le)))

pub overwritten : (at : ℕ) (x o o' : List ℕ) → length x ≡ 512 → at + 512 ≤ length o → o' ≡ take at o ++ (x ++ drop (at + 512) o) → o' ≡ written at x o
overwritten at x o o' size within is =
    is ∙ ap (λ (l : List ℕ). l ++ (x ++ drop (at + 512) o)) (sym (padded_take at o (omega (arith, within))))
    ∙ ap (λ (k : ℕ). padded at o ++ (x ++ drop k o)) (let e : at + 512 ≡ at + length x = omega (arith, size) in e)
