-- No more waits for a flush than may, in any life: each act keeps that of whichever machine.
use Rattle.std.proofs.Common.{◌≡◌, ℕ, List, [], ◌∷◌, length, sym, ap, subst, ◌∙◌}
use Rattle.std.specs.List.{AllByRecursion}
use Rattle.dns_primary.specs.Machine.{ZoneState, Waits, Machine}
use Rattle.dns_primary.specs.Bounds.{IsBounded}
use Rattle.dns_primary.proofs.Bounded.{AllFit, Fits, bounded, moment_fits, none_fit, nothing_fits}
use Rattle.dns_primary.proofs.Zonewise.{all_set}
use Rattle.dns_theorem.specs.Lives.{Act, Ran, Loaded, Reopened, machine_after_act, HasLoaded, IsMachineAtRest, IsOpenedWith, IsTended, MayFollow, Life, end_of_life}

-- a file, and a store that is opened
tended_fits : (R : ZoneState → ZoneState → Type 0) (index : ℕ) (old new : Machine) (t : IsTended R index old new) → (t.next).staged ≡ [] → AllFit old → AllFit new
tended_fits R index old new t none h =
    let each : AllByRecursion (Fits 0) old.zones = subst (λ (ws : List Waits). AllByRecursion (Fits (length ws)) old.zones) t.waiting h.each in
    nothing_fits new (ap (λ (m : Machine). m.waiting) t.is ∙ t.waiting)
    (subst (λ (m : Machine). AllByRecursion (Fits 0) m.zones) (sym t.is) (all_set (Fits 0) old.zones index t.next each (none_fit 0 t.next none)))

act_fits : (old : Machine) (act : Act) → MayFollow old act → AllFit old → AllFit (machine_after_act act)
act_fits old (Ran moment) g h = moment_fits old moment g h
act_fits old (Loaded index file new) g h = tended_fits (HasLoaded file) index old new g (g.made).opened.staged h
act_fits old (Reopened index new) g h = tended_fits (IsOpenedWith []) index old new g (g.made).staged h

life_fits : (start : Machine) (life : List Act) → Life start life → AllFit start → AllFit (end_of_life start life)
life_fits start [] l h = h
life_fits start (act ∷ rest) l h = life_fits (machine_after_act act) rest l.1 (act_fits start act l.0 h)

rest_fits : (zones : List ZoneState) → AllByRecursion (λ z. z.staged ≡ []) zones → AllByRecursion (Fits 0) zones
rest_fits [] h = tt
rest_fits (z ∷ zones) h = (none_fit 0 z h.0, rest_fits zones h.1)

pub life_bounded : (start : Machine) (life : List Act) → IsMachineAtRest start → Life start life → IsBounded (end_of_life start life)
life_bounded start life rest l = bounded (end_of_life start life) (life_fits start life l (nothing_fits start rest.waiting (rest_fits start.zones rest.staged)))
