-- The records of an answer one after another.
use Rattle.std.proofs.Common.{◌≡◌, ◌≢◌, inl, inr, List, [], ◌∷◌, ◌++◌, Option, None, sym, subst, ◌∙◌}
use Rattle.std.specs.Prelude.{◌↔◌}
use Rattle.dns_names.specs.Name.{Labels}
use Rattle.dns_records.specs.Record.{Record}
use Rattle.dns_zone.specs.Zone.{Zone, zone_fault}
use Rattle.dns_wire.specs.Message.{ResourceRecord}
use Rattle.dns_secondary.specs.State.{State, Ended}
use Rattle.dns_secondary.specs.Step.{TakesRecord, RefusesRecord}
use Rattle.dns_secondary.specs.Rest.{Means, Rest, Reaches, FailsBy}
use Rattle.dns_secondary.specs.declared.fault.Fault.{Fault}

module _ (apex : Labels) (held : Option Zone) where
  -- a record leads to one state, or is a fault
  pub one_next : (at a b : State) (i : ResourceRecord) → TakesRecord apex held at i a → TakesRecord apex held at i b → a ≡ b
  one_next at a b i h g = let one = h.steps in let two = g.steps in cc

  pub not_both : (at a : State) (i : ResourceRecord) (fault : Fault) → TakesRecord apex held at i a → RefusesRecord apex held at i fault → ⊥
  not_both at a i fault h (inl wrong) = wrong.0 h.fit
  not_both at a i fault h (inr wrong) = let one = h.steps in let two = wrong.1 in absurd cc

  pub one_reached : (at a b : State) (xs : List ResourceRecord) → Reaches apex held at xs a → Reaches apex held at xs b → a ≡ b
  one_reached at a b [] h g = h ∙ sym g
  one_reached at a b (x ∷ xs) h g =
      one_reached h.0 a b xs h.2 (subst (λ s. Reaches apex held s xs b) (one_next at g.0 h.0 x g.1 h.1) g.2)

  pub reached_on : (at mid next : State) (xs ys : List ResourceRecord)
      → Reaches apex held at xs mid
      → Reaches apex held mid ys next
      → Reaches apex held at (xs ++ ys) next
  reached_on at mid next [] ys h g = subst (λ s. Reaches apex held s ys next) h g
  reached_on at mid next (x ∷ xs) ys h g = (h.0, h.1, reached_on h.0 mid next xs ys h.2 g)

  pub reached_from : (at mid next : State) (xs ys : List ResourceRecord)
      → Reaches apex held at xs mid
      → Reaches apex held at (xs ++ ys) next
      → Reaches apex held mid ys next
  reached_from at mid next [] ys h g = subst (λ s. Reaches apex held s ys next) (sym h) g
  reached_from at mid next (x ∷ xs) ys h g =
      reached_from h.0 mid next xs ys h.2 (subst (λ s. Reaches apex held s (xs ++ ys) next) (one_next at g.0 h.0 x g.1 h.1) g.2)

  -- what follows means from the state after the records what it means after them
  pub rest_on : (at next : State) (xs more : List ResourceRecord) (set : List Record)
      → Reaches apex held at xs next
      → (Rest apex held at (xs ++ more) set ↔ Rest apex held next more set)
  rest_on at next [] more set h = (
    λ r. subst (λ s. Rest apex held s more set) (sym h) r,
    λ r. subst (λ s. Rest apex held s more set) h r,
  )
  rest_on at next (x ∷ xs) more set h =
      let on = rest_on h.0 next xs more set h.2 in
      (λ r. on.0 (subst (λ s. Rest apex held s (xs ++ more) set) (one_next at r.0 h.0 x r.1 h.1) r.2), λ r. (h.0, h.1, on.1 r))

  pub rest_of : (at next : State) (xs : List ResourceRecord) (set : List Record)
      → Reaches apex held at xs next
      → (Rest apex held at xs set ↔ Means apex held next set)
  rest_of at next [] set h = (
    λ r. subst (λ s. Means apex held s set) (sym h) r,
    λ r. subst (λ s. Means apex held s set) h r,
  )
  rest_of at next (x ∷ xs) set h =
      let of = rest_of h.0 next xs set h.2 in
      (λ r. of.0 (subst (λ s. Rest apex held s xs set) (one_next at r.0 h.0 x r.1 h.1) r.2), λ r. (h.0, h.1, of.1 r))

  -- after a fault nothing has a meaning
  pub fails_lost : (at : State) (xs more : List ResourceRecord) (fault : Fault) (set : List Record)
      → FailsBy apex held at xs fault
      → Rest apex held at (xs ++ more) set
      → ⊥
  fails_lost at [] more fault set h r = h
  fails_lost at (x ∷ xs) more fault set (inl wrong) r = not_both at r.0 x fault r.1 wrong
  fails_lost at (x ∷ xs) more fault set (inr go) r =
      fails_lost go.0 xs more fault set go.2
      (subst (λ s. Rest apex held s (xs ++ more) set) (one_next at r.0 go.0 x r.1 go.1) r.2)

  -- a set that is no zone
  pub ended_lost : (ended : List Record) (more : List ResourceRecord) (set : List Record)
      → zone_fault apex ended ≢ None
      → Rest apex held (Ended ended) more set
      → ⊥
  ended_lost ended [] set bad r = bad r.1.valid
  ended_lost ended (x ∷ more) set bad r = let one = r.1.steps in absurd cc
