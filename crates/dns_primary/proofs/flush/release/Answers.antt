use Rattle.std.proofs.Common.{◌≡◌, true, false, List, ◌++◌, ◌∷◌, [], map, sym, ap, subst, ◌∙◌, append-nil}
use Rattle.std.proofs.lemmas.List.{map-append}
use Rattle.dns_primary.specs.declared.event.To.{To}
use Rattle.dns_primary.specs.declared.event.HeaderTo.{HeaderTo}
use Rattle.dns_primary.specs.Flush.{released, goes_out, out_to}
use Rattle.dns_versions.specs.Each.{Each2}
use Rattle.dns_primary.specs.To.{is_nowhere}
use Rattle.dns_primary.specs.Machine.{Waits}
use Rattle.dns_primary.specs.Keeps.{IsWaiting, header_out}
use Rattle.dns_primary.proofs.Places.{push2}
use Rattle.dns_primary.proofs.Waited.{out_somewhere, answered_somewhere, answered_nowhere}
use Rattle.dns_primary.proofs.flush.release.Goals as goal

pub returns-clause-sent : goal.returns-clause-sent
returns-clause-sent g c shown zones w each waits =
    let one : HeaderTo = record { waited = c.args.waiting.now; octets = c.released_octets.result } in
    let octets = c.released_octets.ensures shown zones w each waits in
    let goes : out_to w.to c.released_octets.result ≡ (c.args.waiting.now.to, c.released_octets.result) ∷ [] = ap (λ (t : To). out_to t c.released_octets.result) (sym waits.to) ∙ out_somewhere c.args.waiting.now.to c.released_octets.result (sym c.is_nowhere.ensures ∙ c.if-is_nowhere.false) in
    let last : header_out one ∷ [] ≡ goes_out (released zones w) = sym goes ∙ ap (out_to w.to) octets in
    (λ i. map header_out (c.push_reserved.ensures.items i)) ∙ map-append header_out c.args.headers.now.items (one ∷ []) ∙ ap (λ l. map header_out c.args.headers.now.items ++ l) last

pub returns-then-is_nowhere-clause-told : goal.returns-then-is_nowhere-clause-told
returns-then-is_nowhere-clause-told g c zones w before waits told =
    let none : is_nowhere w.to ≡ true = ap is_nowhere (sym waits.to) ∙ sym c.is_nowhere.ensures ∙ c.if-is_nowhere.true in
    subst (λ (l : List Waits). Each2 (λ h w. IsWaiting h.waited w) c.args.headers.now.items l) (sym (ap (λ l. before ++ l) (answered_nowhere zones w none) ∙ append-nil before)) told

pub returns-clause-told : goal.returns-clause-told
returns-clause-told g c zones w before waits told =
    let one : HeaderTo = record { waited = c.args.waiting.now; octets = c.released_octets.result } in
    let some : is_nowhere w.to ≡ false = ap is_nowhere (sym waits.to) ∙ sym c.is_nowhere.ensures ∙ c.if-is_nowhere.false in
    let all : Each2 (λ h w. IsWaiting h.waited w) (c.args.headers.now.items ++ one ∷ []) (before ++ w ∷ []) = push2 (λ h w. IsWaiting h.waited w) c.args.headers.now.items before one w told waits in
    subst (λ (l : List Waits). Each2 (λ h w. IsWaiting h.waited w) c.push_reserved.new.self.items l) (sym (ap (λ l. before ++ l) (answered_somewhere zones w some)))
    (subst (λ (l : List HeaderTo). Each2 (λ h w. IsWaiting h.waited w) l (before ++ w ∷ [])) (sym c.push_reserved.ensures.items) all)
