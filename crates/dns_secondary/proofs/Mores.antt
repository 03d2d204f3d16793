-- What is told of a message is More exactly where the records so far begin a longer list.
use Rattle.std.proofs.Common.{◌≡◌, Bool, true, false, List, [], ◌∷◌, ◌++◌, map, Option, Some, None, refl, subst}
use Rattle.std.specs.Prelude.{IfSome}
use Rattle.dns_records.specs.Record.{Record}
use Rattle.dns_zone.specs.Zone.{Zone, IsZone}
use Rattle.dns_wire.specs.Message.{ResourceRecord, record_of_item}
use Rattle.dns_request.specs.declared.request.Transport.TheVariants.{Tcp}
use Rattle.dns_secondary.specs.State.{State, Begun, Led, Whole, Removing, Adding, Ended, IsUnfinished}
use Rattle.dns_secondary.specs.Rest.{Means, Reaches, AreHeld, is_current}
use Rattle.dns_secondary.specs.Receiving.{Receiving}
use Rattle.dns_secondary.specs.Told.{TellsProgress, IsMore, IsAlone}
use Rattle.dns_secondary.specs.declared.fault.Progress.TheVariants.{More}
use Rattle.dns_secondary.proofs.Beginnings.{go_on, beginning}
use Rattle.dns_secondary.proofs.Forms.{Goes, goes_of}
use Rattle.dns_secondary.proofs.Runs.{reached_on, reached_from, rest_on, rest_of}
use Rattle.dns_secondary.proofs.Shapes.{led_at, lone_form}

-- what is current is held
pub record IsHeld (held : Option Zone) : Type 0 where
  pub set : List Record
  pub is : AreHeld held set

pub held_of : (held : Option Zone) (soa : Record) → is_current held soa ≡ true → IsHeld held
held_of None soa e = absurd cc
held_of (Some z) soa e = record { set = z.records; is = refl }

module _ (s : Receiving) (before records : List ResourceRecord) (at : State) (so_far : Reaches s.apex s.held Begun before at) where
  alone_at : (next : State) (soa : Record) → map record_of_item (before ++ records) ≡ soa ∷ [] → Reaches s.apex s.held at records next → next ≡ Led soa
  alone_at next soa e reaches =
      led_at s.apex s.held soa next (subst (λ (rs : List Record). Goes s.apex s.held Begun rs next) e
      (goes_of s.apex s.held Begun (before ++ records) next (reached_on s.apex s.held Begun at next before records so_far reaches)).1)

  newer_of : (new : Receiving) → TellsProgress s at records More new → (soa : Record) → map record_of_item (before ++ records) ≡ soa ∷ []
      → (is_current s.held soa ≡ false) × (s.transport ≡ Tcp)
  newer_of new told soa e = (older (is_current s.held soa) refl, told.6 soa alone)
    where
      alone : IsAlone s at records soa
      alone = subst (λ n. Reaches s.apex s.held at records n) (alone_at told.0 soa e told.1) told.1

      older : (b : Bool) → is_current s.held soa ≡ b → b ≡ false
      older false c = refl
      older true c =
          let h = held_of s.held soa c in
          absurd (told.5 h.set ((rest_of s.apex s.held at (Led soa) records h.set alone).1 (c, h.is)))

  pub more_of : (new : Receiving) → IfSome s.held IsZone → TellsProgress s at records More new → IsMore s (before ++ records)
  more_of new valid told = record {
    begins = beginning s.apex s.held (before ++ records) told.0 valid
        (reached_on s.apex s.held Begun at told.0 before records so_far told.1) told.2;
    newer = newer_of new told;
  }

  lone_of : (soa : Record) → IsAlone s at records soa → map record_of_item (before ++ records) ≡ soa ∷ []
  lone_of soa alone =
      (lone_form s.apex s.held (map record_of_item (before ++ records)) soa
      (goes_of s.apex s.held Begun (before ++ records) (Led soa) (reached_on s.apex s.held Begun at (Led soa) before records so_far alone)).1).alone

  -- no meaning yet
  open_means : (next : State) (set : List Record) → IsMore s (before ++ records) → IsUnfinished next → Reaches s.apex s.held at records next
      → Means s.apex s.held next set → ⊥
  open_means Begun set m on reaches h = h
  open_means (Led soa) set m on reaches h = (let older = (m.newer soa (lone_of soa reaches)).0 in let current = h.0 in absurd cc)
  open_means (Whole soa so_far) set m on reaches h = h
  open_means (Removing soa so_far) set m on reaches h = h
  open_means (Adding soa so_far reached) set m on reaches h = h
  open_means (Ended ended) set m on reaches h = on

  pub tells_of : IsMore s (before ++ records) → (new : Receiving) × TellsProgress s at records More new
  tells_of m =
      let g = go_on s.apex s.held (before ++ records) m.begins in
      let reaches = reached_from s.apex s.held Begun at g.next before records so_far g.reaches in (
        record s { state = Some g.next },
        (
          g.next,
          reaches,
          g.on,
          refl,
          λ more set. rest_on s.apex s.held at g.next records more set reaches,
          λ set h. open_means g.next set m g.on reaches ((rest_of s.apex s.held at g.next records set reaches).0 h),
          λ soa alone. (m.newer soa (lone_of soa alone)).1,
        ),
      )
