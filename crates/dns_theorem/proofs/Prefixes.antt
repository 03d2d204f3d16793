-- No answer that has a meaning begins another, but the SOA of what is current.
use Rattle.std.proofs.Common.{◌≡◌, true, List, [], ◌∷◌, ◌++◌, map, Option, refl, subst}
use Rattle.dns_names.specs.Name.{Labels}
use Rattle.dns_records.specs.Record.{Record}
use Rattle.dns_zone.specs.Zone.{Zone}
use Rattle.dns_wire.specs.Message.{ResourceRecord, record_of_item}
use Rattle.dns_secondary.specs.State.{State, Begun, Led, Whole, Removing, Adding, Ended}
use Rattle.dns_secondary.specs.Rest.{Means, Rest, Reaches, is_current}
use Rattle.dns_secondary.proofs.Ends.{end_of}
use Rattle.dns_secondary.proofs.Forms.{goes_of}
use Rattle.dns_secondary.proofs.Runs.{rest_on}
use Rattle.dns_secondary.proofs.Shapes.{lone_form}

module _ (apex : Labels) (held : Option Zone) where
  -- where more follows what has a meaning
  pub record IsOne (xs : List ResourceRecord) : Type 0 where
    pub x : ResourceRecord
    pub alone : xs ≡ x ∷ []
    pub current : is_current held (record_of_item x) ≡ true

  one_of : (xs : List ResourceRecord) (soa : Record) → map record_of_item xs ≡ soa ∷ [] → is_current held soa ≡ true → IsOne xs
  one_of [] soa e h = absurd cc
  one_of (x ∷ []) soa e h =
      let is : soa ≡ record_of_item x = cc in
      record { x = x; alone = refl; current = subst (λ (r : Record). is_current held r ≡ true) is h }
  one_of (x ∷ y ∷ xs) soa e h = absurd cc

  pub only_current : (xs : List ResourceRecord) (y : ResourceRecord) (ys : List ResourceRecord) (set other : List Record)
      → Rest apex held Begun (xs ++ y ∷ ys) set → Rest apex held Begun xs other → IsOne xs
  only_current xs y ys set other h k = (let e = end_of apex held Begun xs other k in at e.end e.reaches e.means)
    where
      at : (end : State) → Reaches apex held Begun xs end → Means apex held end other → IsOne xs
      at Begun go m = absurd m
      at (Whole soa so_far) go m = absurd m
      at (Removing soa so_far) go m = absurd m
      at (Adding soa so_far reached) go m = absurd m
      at (Ended so_far) go m =
          let on : Rest apex held (Ended so_far) (y ∷ ys) set = (rest_on apex held Begun (Ended so_far) xs (y ∷ ys) set go).0 h in
          let steps = (on.1).steps in absurd cc
      at (Led soa) go m =
          let lone = lone_form apex held (map record_of_item xs) soa (goes_of apex held Begun xs (Led soa) go).1 in
          one_of xs soa lone.alone m.0
