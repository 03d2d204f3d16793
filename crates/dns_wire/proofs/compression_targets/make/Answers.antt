use Rattle.std.proofs.Common.{◌≡◌, ◌-◌, ◌≤◌, ℕ, Bool, true, false, List, ◌++◌, get_or, length, take, replicate, vec_len, if◌then◌else◌, arith, ap, ◌∙◌}
use Rattle.std.specs.Result.{is_ok}
use Rattle.std.proofs.lemmas.List.{take_all}
use Rattle.dns_wire.proofs.Linked.{heads_more}
use Rattle.dns_wire.proofs.compression_targets.make.Goals as goal

grown : (b : Bool) (old new : List ℕ) (size more : ℕ) → length old ≤ size → new ≡ (if b then take size old ++ replicate more 0 else old) → (head : ℕ) → get_or new head 0 ≡ get_or old head 0
grown false old new size more short is head = ap (λ (xs : List ℕ). get_or xs head 0) is
grown true old new size more short is head =
    ap (λ (xs : List ℕ). get_or xs head 0) is
    ∙ ap (λ (xs : List ℕ). get_or (xs ++ replicate more 0) head 0) (take_all size old short)
    ∙ heads_more old more head

pub returns-clause-same : goal.returns-clause-same
returns-clause-same c = grown (is_ok c.resize.result) c.args.heads.now.items c.resize.new.self.items 1024 (1024 - vec_len c.args.heads.now) (omega (arith, c.requires)) c.resize.ensures.items
