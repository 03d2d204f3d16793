use Rattle.std.proofs.Common.{◌≡◌, ℕ, ◌+◌, List, ◌∷◌, [], ◌++◌, take, drop, sym, ap, subst, ◌∙◌, arith, append-nil, take-add, drop-drop}
use Rattle.std.proofs.lemmas.List.{length-drop}
use Rattle.dns_masterfile.specs.declared.words.Step.TheVariants.{Take, End, Stop}
use Rattle.dns_masterfile.specs.Pieces.{InWord, Text, Bare, pieces_from, pieces_of}
use Rattle.dns_masterfile.specs.Steps.{grown_by, IsWordStep}
use Rattle.dns_masterfile.proofs.Scanning.{rest_of, grown_bare, grown_fault, grown_more}
use Rattle.dns_masterfile.proofs.words.bare_len.Goals as goal

pub steps-preserved : goal.steps-preserved
steps-preserved c =
    let octets : List ℕ = c.args.octets.now in
    let len : ℕ = c.steps.len in
    let more : ℕ = c.in-Take.more in
    let step : IsWordStep (drop len octets) (Take more) = subst (λ (rest : List ℕ). IsWordStep rest (Take more)) (rest_of octets len) c.in-Take.ensures in
    let front : take len octets ++ take more (drop len octets) ≡ take (len + more) octets = sym (take-add len more octets) in
    let back : drop more (drop len octets) ≡ drop (len + more) octets = drop-drop more len octets in
    record {
      within = omega (arith, step.1, length-drop len octets);
      so_far = c.steps.invariant.so_far ∙ ap (grown_by (take len octets)) step.2
          ∙ sym (grown_more (take len octets) (take more (drop len octets)) (pieces_from InWord (drop more (drop len octets))))
          ∙ ap (λ (front : List ℕ). grown_by front (pieces_from InWord (drop more (drop len octets)))) front
          ∙ ap (λ (rest : List ℕ). grown_by (take (len + more) octets) (pieces_from InWord rest)) back;
    }

pub returns-in-End-clause-word : goal.returns-in-End-clause-word
returns-in-End-clause-word c =
    let octets : List ℕ = c.args.octets.now in
    let len : ℕ = c.steps.len in
    let step : IsWordStep (drop len octets) End = subst (λ (rest : List ℕ). IsWordStep rest End) (rest_of octets len) c.in-End.ensures in
    c.steps.invariant.so_far ∙ ap (grown_by (take len octets)) step ∙ grown_bare (take len octets) [] (pieces_of (drop len octets))
    ∙ ap (λ (text : List ℕ). Text (Bare text) ∷ pieces_of (drop len octets)) (append-nil (take len octets))

pub returns-in-Stop-clause-word : goal.returns-in-Stop-clause-word
returns-in-Stop-clause-word c =
    let octets : List ℕ = c.args.octets.now in
    let len : ℕ = c.steps.len in
    let step : IsWordStep (drop len octets) Stop = subst (λ (rest : List ℕ). IsWordStep rest Stop) (rest_of octets len) c.in-Stop.ensures in
    c.steps.invariant.so_far ∙ ap (grown_by (take len octets)) step ∙ grown_fault (take len octets)
