-- What is said of updates that were answered, one after the other.
use Rattle.std.proofs.Common.{◌≡◌, ℕ, ◌+◌, ◌<◌, List, [], ◌∷◌, ◌++◌, length, take, get_or, ap, sym, subst, ◌∙◌, append_assoc, append-nil}
use Rattle.std.proofs.lemmas.List.{take_more}
use Rattle.dns_names.specs.Name.{Labels}
use Rattle.dns_primary.specs.declared.event.HeaderTo.{HeaderTo}
use Rattle.dns_service.specs.declared.log.Counts.{Counts}
use Rattle.dns_service.specs.Log.{IsAdded}
use Rattle.dns_service.specs.UpdateLines.{header_said, headers_said}

module _ (origins : List Labels) where
  abbrev both : List ℕ × Counts → List ℕ × Counts → List ℕ × Counts
  both first later = (first.0 ++ later.0, later.1)

  -- one more
  headers_said-append : (counts : Counts) (xs : List HeaderTo) (x : HeaderTo)
      → headers_said origins counts (xs ++ x ∷ []) ≡ both (headers_said origins counts xs) (header_said origins (headers_said origins counts xs).1 x)
  headers_said-append counts [] x = let one = header_said origins counts x in λ i. (append-nil one.0 i, one.1)
  headers_said-append counts (y ∷ xs) x =
      let first = header_said origins counts y in
      let rest = headers_said origins first.1 xs in
      let last = header_said origins rest.1 x in
      ap (both first) (headers_said-append first.1 xs x) ∙ (λ i. (sym (append_assoc first.0 rest.0 last.0) i, last.1))

  pub headers_more : (counts : Counts) (headers : List HeaderTo) (n : ℕ) (other : HeaderTo) (before between after : List ℕ) (mid last : Counts) → n < length headers
      → IsAdded (headers_said origins counts (take n headers)) before between mid → IsAdded (header_said origins mid (get_or headers n other)) between after last
      → IsAdded (headers_said origins counts (take (n + 1) headers)) before after last
  headers_more counts headers n other before between after mid last lt first more =
      let here = get_or headers n other in
      let said = headers_said origins counts (take n headers) in
      let next : headers_said origins counts (take (n + 1) headers) ≡ both said (header_said origins said.1 here) =
      ap (headers_said origins counts) (take_more headers n other lt) ∙ headers_said-append counts (take n headers) here in
      let same : header_said origins mid here ≡ header_said origins said.1 here = ap (λ (c : Counts). header_said origins c here) first.counts_are in
      subst (λ (s : List ℕ × Counts). IsAdded s before after last) (sym next) (record {
        lines_are = more.lines_are ∙ ap (λ (t : List ℕ). t ++ (header_said origins mid here).0) first.lines_are ∙ append_assoc before said.0 (header_said origins mid here).0 ∙ ap (λ (s : List ℕ × Counts). before ++ (said.0 ++ s.0)) same;
        counts_are = more.counts_are ∙ ap (λ (s : List ℕ × Counts). s.1) same;
      })
