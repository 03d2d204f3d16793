use Rattle.std.proofs.Common.{refl, [], List, sym, ◌∙◌, subst, drop, arith}
use Rattle.std.proofs.lemmas.List.{append-nil}
use Rattle.dns_records.specs.Record.{Record}
use Rattle.dns_sectors.specs.Crash.{Write}
use Rattle.dns_layout.specs.Own.{NoneIntact}
use Rattle.dns_store.specs.Recovered.{AreLed}
use Rattle.dns_store.specs.Opens.{IsKeptBy, sizes_of, base_of, fresh}
use Rattle.dns_store.specs.Checkpoint.{AllZones, AllFit}
use Rattle.dns_store.proofs.Lent.{memory_of}
use Rattle.dns_store.proofs.kept_store.KeptStore.over.Goals as goal

pub returns-clause-keeps : goal.returns-clause-keeps
returns-clause-keeps g c shape o s x parts content honest only spoilt altered opens says bank behind part until at version opened again base led =
    let kept : IsKeptBy c.over.result (fresh shape o) s [] = record {
      keeps = c.over.ensures.keeps (sizes_of shape) s x parts content honest only altered opens says bank behind until at version opened;
      opened = c.over.ensures.opened ∙ sym says.opened_is ∙ again;
      spoilt = subst (λ (ws : List Write). NoneIntact ws) part.altered spoilt;
      part = part;
      changes = tt;
    } in
    record {
      memory = memory_of c.over.result c.args.base c.args.changes.items (fresh shape o) s [] kept refl base (subst (λ (vs : List (List Record)). AreLed (base_of o) (drop o.base vs) c.args.changes.items) (sym (append-nil o.versions)) led);
      keeps = λ _. (s, [], kept);
    }

pub returns-clause-memory : goal.returns-clause-memory
returns-clause-memory g c shape o found =
    let whole = append-nil o.versions in
    record {
      closed_is = c.over.ensures.open;
      number_is = omega (arith, c.over.ensures.newest, found.number_is);
      left_is = c.over.ensures.left ∙ found.left_is;
      snapshot_room_is = c.over.ensures.snapshot_room ∙ found.snapshot_room_is;
      journal_room_is = c.over.ensures.journal_room ∙ found.journal_room_is;
      idle = λ _ _. c.over.ensures.idle;
      so_far = found.so_far;
      base_is = found.base_is;
      base_fits = found.base_fits;
      led = subst (λ (vs : List (List Record)). AreLed (base_of o) (drop o.base vs) c.args.changes.items) (sym whole) found.led;
      zones = subst (λ (vs : List (List Record)). AllZones shape.apex (drop o.base vs)) (sym whole) found.zones;
      fit = subst (λ (vs : List (List Record)). AllFit shape.snapshot (drop o.base vs)) (sym whole) found.fit;
    }
