-- The words of the data of each type, by its parts.
use Rattle.std.proofs.Common.{◌≡◌, ℕ, zero, suc, ◌^◌, ◌<◌, List, [], ◌∷◌, ◌++◌, length, take, drop, decimal, refl, ap, ◌∙◌, arith, length-append, append_assoc}
use Rattle.std.specs.Int.{w32, to_be_bytes}
use Rattle.std.specs.List.{AllByRecursion}
use Rattle.std.proofs.lemmas.List.{take_at, drop_at, take_all}
use Rattle.dns_names.specs.Name.{Labels, IsName, IsLabel, wire, labels_of, labels_within}
use Rattle.dns_names.specs.PlainLaws.{fewer_labels}
use Rattle.dns_names.specs.Text.{printed_name}
use Rattle.dns_records.specs.Record.{number_of}
use Rattle.dns_records.specs.Typed.{aaaa_data, soa_data, soa_numbers}
use Rattle.dns_records.specs.declared.typed.Soa.{Soa}
use Rattle.dns_records.specs.Types.{Field, Name, Values, U32}
use Rattle.dns_masterfile.specs.Text.{printed_ipv6}
use Rattle.dns_masterfile.specs.Printed.{spaced, data_words, printed_data}

pub number_4 : (n : ℕ) → n < 2 ^ 32 → number_of (to_be_bytes w32 n) ≡ n
number_4 n h = omega arith

-- the name at the front of octets
front_within : (labels : Labels) (rest : List ℕ) (more : ℕ) → AllByRecursion IsLabel labels → length labels < more → labels_within more (wire labels ++ rest) ≡ labels
front_within [] rest zero valid lt = absurd (omega arith)
front_within [] rest (suc more) valid lt = refl
front_within (l ∷ ls) rest zero valid lt = absurd (omega arith)
front_within ([] ∷ ls) rest (suc more) valid lt = let some : 0 < 0 = valid.0.some in absurd (omega arith)
front_within ((c ∷ l) ∷ ls) rest (suc more) valid lt =
    let tail : ((c ∷ l) ++ wire ls) ++ rest ≡ (c ∷ l) ++ (wire ls ++ rest) = append_assoc (c ∷ l) (wire ls) rest in
    let front : take (length (c ∷ l)) (((c ∷ l) ++ wire ls) ++ rest) ≡ c ∷ l = ap (take (length (c ∷ l))) tail ∙ take_at (c ∷ l) (wire ls ++ rest) (length (c ∷ l)) refl in
    let back : drop (length (c ∷ l)) (((c ∷ l) ++ wire ls) ++ rest) ≡ wire ls ++ rest = ap (drop (length (c ∷ l))) tail ∙ drop_at (c ∷ l) (wire ls ++ rest) (length (c ∷ l)) refl in
    let later : labels_within more (wire ls ++ rest) ≡ ls = front_within ls rest more valid.1 (omega arith) in
    ap (λ (x : List ℕ). x ∷ labels_within more (drop (length (c ∷ l)) (((c ∷ l) ++ wire ls) ++ rest))) front
    ∙ ap (λ (x : List ℕ). (c ∷ l) ∷ labels_within more x) back
    ∙ ap (λ (xs : Labels). (c ∷ l) ∷ xs) later

pub labels_of-front : (name : Labels) (rest : List ℕ) → IsName name → labels_of (wire name ++ rest) ≡ name
labels_of-front name rest valid = front_within name rest (length (wire name ++ rest)) valid.labels (omega (arith, fewer_labels name, length-append (wire name) rest))

name_step : (fields : List Field) (name : Labels) (rest : List ℕ) → IsName name → data_words (Name ∷ fields) (wire name ++ rest) ≡ printed_name name ∷ data_words fields rest
name_step fields name rest valid =
    ap (λ (n : Labels). printed_name n ∷ data_words fields (drop (length (wire n)) (wire name ++ rest))) (labels_of-front name rest valid)
    ∙ ap (λ (x : List ℕ). printed_name name ∷ data_words fields x) (drop_at (wire name) rest (length (wire name)) refl)

pub record FitNumbers (s : Soa) : Type 0 where
  pub serial : s.serial < 2 ^ 32
  pub refresh : s.refresh < 2 ^ 32
  pub retry : s.retry < 2 ^ 32
  pub expire : s.expire < 2 ^ 32
  pub minimum : s.minimum < 2 ^ 32

soa_number_words : (s : Soa) → FitNumbers s → data_words (Values (U32 ∷ U32 ∷ U32 ∷ U32 ∷ U32 ∷ []) ∷ []) (soa_numbers s) ≡ decimal s.serial ∷ decimal s.refresh ∷ decimal s.retry ∷ decimal s.expire ∷ decimal s.minimum ∷ []
soa_number_words s fit = rw (number_4 s.serial fit.serial, number_4 s.refresh fit.refresh, number_4 s.retry fit.retry, number_4 s.expire fit.expire, number_4 s.minimum fit.minimum) refl

pub soa_words : (s : Soa) → IsName s.mname → IsName s.rname → FitNumbers s → printed_data (soa_data s) ≡ spaced (printed_name s.mname ∷ printed_name s.rname ∷ decimal s.serial ∷ decimal s.refresh ∷ decimal s.retry ∷ decimal s.expire ∷ decimal s.minimum ∷ [])
soa_words s m r fit =
    ap (λ (x : List ℕ). spaced (data_words (Name ∷ Name ∷ Values (U32 ∷ U32 ∷ U32 ∷ U32 ∷ U32 ∷ []) ∷ []) x)) (append_assoc (wire s.mname) (wire s.rname) (soa_numbers s))
    ∙ ap spaced (name_step (Name ∷ Values (U32 ∷ U32 ∷ U32 ∷ U32 ∷ U32 ∷ []) ∷ []) s.mname (wire s.rname ++ soa_numbers s) m
    ∙ ap (λ (ws : List (List ℕ)). printed_name s.mname ∷ ws) (name_step (Values (U32 ∷ U32 ∷ U32 ∷ U32 ∷ U32 ∷ []) ∷ []) s.rname (soa_numbers s) r
    ∙ ap (λ (ws : List (List ℕ)). printed_name s.rname ∷ ws) (soa_number_words s fit)))

pub aaaa_words : (o : List ℕ) → length o ≡ 16 → printed_data (aaaa_data o) ≡ spaced (printed_ipv6 o ∷ [])
aaaa_words o long = let all : take 16 o ≡ o = take_all 16 o (omega arith) in ap (λ (x : List ℕ). spaced (printed_ipv6 x ∷ [])) (ap (take 16) all ∙ all)
