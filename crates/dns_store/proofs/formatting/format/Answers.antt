use Rattle.std.proofs.Common.{◌≡◌, ◌≤◌, true, length, refl, sym, ◌∙◌, ap, subst, arith}
use Rattle.dns_names.specs.Name.{wire}
use Rattle.dns_sectors.proofs.Moments.{weaker}
use Rattle.dns_layout.specs.Sector.{snapshot_sectors}
use Rattle.dns_layout.specs.declared.root.Root.{Root}
use Rattle.dns_layout.specs.declared.root.Bank.TheVariants.{Zero}
use Rattle.dns_store.specs.Versions.{Shape}
use Rattle.dns_store.specs.Opens.{sizes_of}
use Rattle.dns_store.specs.Formatting.{IsGeometry, LeftByFormat, LeftByMaking}
use Rattle.dns_store.proofs.Making.{IsNewRoot, made_in_versions, left_in_versions}
use Rattle.dns_store.proofs.formatting.format.Goals as goal

pub returns-in_err-make-clause-any_moment : goal.returns-in_err-make-clause-any_moment
returns-in_err-make-clause-any_moment g c honest =
    let shape : Shape = record { apex = c.args.zone.now.apex; snapshot = c.args.snapshot; journal = c.args.journal } in
    let root : Root = record { open_count = 0; base = 0; bank = Zero; bank_open = 0; snapshot_length = c.snapshot_len-len.result; snapshot_room = c.args.snapshot; journal_room = c.args.journal; is_clear = true; apex = c.apex_of-apex.result } in
    let octets = c.in_ok-octets.octets.items in
    let geometry : IsGeometry c.args.snapshot c.args.journal (g.D.Sectors.count c.args.device.now) = subst (λ n. IsGeometry c.args.snapshot c.args.journal n) c.len.ensures (c.if-not-is_geometry.ensures.0 refl) in
    let same : length c.in_ok-octets.octets.items ≡ c.snapshot_len-len.result = ap length c.in_ok-octets.ensures ∙ sym c.snapshot_len-len.ensures in
    let fits : snapshot_sectors (length c.in_ok-octets.octets.items) ≤ c.args.snapshot = omega (arith, c.if-snapshot_sectors-snapshot.false, c.snapshot_sectors.ensures, ap snapshot_sectors same) in
    let new : IsNewRoot (sizes_of shape) c.in_ok-octets.octets.items root = record { opened = refl; base = refl; bank = refl; bank_open = refl; length = sym same; snapshot = refl; journal = refl; clear = refl; apex = c.apex_of-apex.ensures.octets ∙ ap wire c.apex.ensures.name } in
    weaker g.D.Sectors.moment g.D.Sectors.left_since c.args.device.now c.make.new.device (LeftByMaking g.D.Sectors root c.deref.result.now (g.D.Sectors.count c.args.device.now) c.args.device.now) (LeftByFormat g.D.Sectors shape c.args.zone.now.records c.args.device.now) (c.make.ensures.any_moment honest)
    (left_in_versions shape c.args.zone.now.records octets c.deref.result.now root (g.D.Sectors.count c.args.device.now) c.apex.ensures.valid c.in_ok-octets.ensures c.deref.ensures.value new geometry fits g.D.Sectors c.args.device.now)

pub returns-clause-any_moment : goal.returns-clause-any_moment
returns-clause-any_moment g c honest =
    let shape : Shape = record { apex = c.args.zone.now.apex; snapshot = c.args.snapshot; journal = c.args.journal } in
    let root : Root = record { open_count = 0; base = 0; bank = Zero; bank_open = 0; snapshot_length = c.snapshot_len-len.result; snapshot_room = c.args.snapshot; journal_room = c.args.journal; is_clear = true; apex = c.apex_of-apex.result } in
    let octets = c.in_ok-octets.octets.items in
    let geometry : IsGeometry c.args.snapshot c.args.journal (g.D.Sectors.count c.args.device.now) = subst (λ n. IsGeometry c.args.snapshot c.args.journal n) c.len.ensures (c.if-not-is_geometry.ensures.0 refl) in
    let same : length c.in_ok-octets.octets.items ≡ c.snapshot_len-len.result = ap length c.in_ok-octets.ensures ∙ sym c.snapshot_len-len.ensures in
    let fits : snapshot_sectors (length c.in_ok-octets.octets.items) ≤ c.args.snapshot = omega (arith, c.if-snapshot_sectors-snapshot.false, c.snapshot_sectors.ensures, ap snapshot_sectors same) in
    let new : IsNewRoot (sizes_of shape) c.in_ok-octets.octets.items root = record { opened = refl; base = refl; bank = refl; bank_open = refl; length = sym same; snapshot = refl; journal = refl; clear = refl; apex = c.apex_of-apex.ensures.octets ∙ ap wire c.apex.ensures.name } in
    weaker g.D.Sectors.moment g.D.Sectors.left_since c.args.device.now c.make.new.device (LeftByMaking g.D.Sectors root c.deref.result.now (g.D.Sectors.count c.args.device.now) c.args.device.now) (LeftByFormat g.D.Sectors shape c.args.zone.now.records c.args.device.now) (c.make.ensures.any_moment honest)
    (left_in_versions shape c.args.zone.now.records octets c.deref.result.now root (g.D.Sectors.count c.args.device.now) c.apex.ensures.valid c.in_ok-octets.ensures c.deref.ensures.value new geometry fits g.D.Sectors c.args.device.now)

pub returns-clause-made : goal.returns-clause-made
returns-clause-made g c honest =
    let shape : Shape = record { apex = c.args.zone.now.apex; snapshot = c.args.snapshot; journal = c.args.journal } in
    let root : Root = record { open_count = 0; base = 0; bank = Zero; bank_open = 0; snapshot_length = c.snapshot_len-len.result; snapshot_room = c.args.snapshot; journal_room = c.args.journal; is_clear = true; apex = c.apex_of-apex.result } in
    let octets = c.in_ok-octets.octets.items in
    let geometry : IsGeometry c.args.snapshot c.args.journal (g.D.Sectors.count c.args.device.now) = subst (λ n. IsGeometry c.args.snapshot c.args.journal n) c.len.ensures (c.if-not-is_geometry.ensures.0 refl) in
    let same : length c.in_ok-octets.octets.items ≡ c.snapshot_len-len.result = ap length c.in_ok-octets.ensures ∙ sym c.snapshot_len-len.ensures in
    let fits : snapshot_sectors (length c.in_ok-octets.octets.items) ≤ c.args.snapshot = omega (arith, c.if-snapshot_sectors-snapshot.false, c.snapshot_sectors.ensures, ap snapshot_sectors same) in
    let new : IsNewRoot (sizes_of shape) c.in_ok-octets.octets.items root = record { opened = refl; base = refl; bank = refl; bank_open = refl; length = sym same; snapshot = refl; journal = refl; clear = refl; apex = c.apex_of-apex.ensures.octets ∙ ap wire c.apex.ensures.name } in
    λ x left. made_in_versions shape c.args.zone.now.records octets c.deref.result.now root (g.D.Sectors.count c.args.device.now) c.apex.ensures.valid c.in_ok-octets.ensures c.deref.ensures.value new geometry fits x (c.in_ok-make.ensures.made honest x left)
