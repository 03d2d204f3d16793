use Rattle.std.proofs.Common.{◌≡◌, ◌+◌, List, [], ◌∷◌, length, take, drop, refl, ◌∙◌, ap, arith}
use Rattle.dns_sectors.specs.Device.{Content}
use Rattle.dns_sectors.specs.Crash.{CrashOf}
use Rattle.dns_sectors.specs.Phase.{pairs}
use Rattle.dns_sectors.specs.declared.phase.SectorWrite.{SectorWrite}
use Rattle.dns_sectors.proofs.Moments.{joined, weaker}
use Rattle.dns_layout.specs.Sector.{snapshot_sectors}
use Rattle.dns_layout.specs.Forms.{bank_number}
use Rattle.dns_layout.specs.Store.{other_of}
use Rattle.dns_journal.specs.Bank.{LaysBank}
use Rattle.dns_journal.specs.Clearing.{StaysUncleared}
use Rattle.dns_journal.specs.Converting.{LeavesConverted, StaysOrConverts}
use Rattle.dns_journal.proofs.Turned.{rooms_of}
use Rattle.dns_journal.proofs.Converted.{intact, steps, are_places, still_converted, opens_cleared, enough_writes, entries_end, entries_len}
use Rattle.dns_journal.proofs.conversion.convert.Goals as goal

pub split_at-requires : goal.split_at-requires
split_at-requires g c =
    let r = c.args.root in
    let few = enough_writes r (other_of (bank_number r.bank)) (r.open_count + 1) c.args.base c.args.octets.now c.args.changes.now c.in_ok-writes.writes.items c.in_ok-writes._next c.in_ok-writes.ensures.laid in
    omega (arith, few, c.snapshot_sectors.ensures, ap (λ (l : List SectorWrite). length l) c.deref.ensures.value)

pub write_whole-requires-clause-until : goal.write_whole-requires-clause-until
write_whole-requires-clause-until g c =
    let n = snapshot_sectors (length c.args.octets.now) in
    let r = c.args.root in
    let new = are_places r c.places_of-new.result (bank_number c.other_bank.result) (other_of (bank_number r.bank)) c.other_bank.ensures c.places_of-new.ensures.first c.places_of-new.ensures.journal c.places_of-new.ensures.until in
    let back : c.split_at.result.1.now ≡ drop n c.in_ok-writes.writes.items = c.split_at.ensures.back ∙ (λ i. drop (c.snapshot_sectors.ensures i) (c.deref.ensures.value i)) in
    let size = entries_len r (other_of (bank_number r.bank)) (r.open_count + 1) c.args.base c.args.octets.now c.args.changes.now c.in_ok-writes.writes.items c.in_ok-writes._next c.in_ok-writes.ensures.laid in
    let end = entries_end r (other_of (bank_number r.bank)) (r.open_count + 1) c.args.base c.args.octets.now c.args.changes.now c.in_ok-writes.writes.items c.in_ok-writes._next c.in_ok-writes.ensures.laid in
    omega (arith, end, size, new.journal, new.until, ap (λ (l : List SectorWrite). length l) back)

pub returns-in_err-write_whole-clause-any_moment : goal.returns-in_err-write_whole-clause-any_moment
returns-in_err-write_whole-clause-any_moment g c honest only =
    let n = snapshot_sectors (length c.args.octets.now) in
    let r = c.args.root in
    let lays : LaysBank (rooms_of r) (other_of (bank_number r.bank)) (r.open_count + 1) c.args.base c.args.octets.now c.args.changes.now (pairs c.in_ok-writes.writes.items) c.in_ok-writes._next = c.in_ok-writes.ensures.laid in
    let old = are_places r c.places_of-old.result (bank_number r.bank) (bank_number r.bank) refl c.places_of-old.ensures.first c.places_of-old.ensures.journal c.places_of-old.ensures.until in
    let new = are_places r c.places_of-new.result (bank_number c.other_bank.result) (other_of (bank_number r.bank)) c.other_bank.ensures c.places_of-new.ensures.first c.places_of-new.ensures.journal c.places_of-new.ensures.until in
    let front : c.split_at.result.0.now ≡ take n c.in_ok-writes.writes.items = c.split_at.ensures.front ∙ (λ i. take (c.snapshot_sectors.ensures i) (c.deref.ensures.value i)) in
    let back : c.split_at.result.1.now ≡ drop n c.in_ok-writes.writes.items = c.split_at.ensures.back ∙ (λ i. drop (c.snapshot_sectors.ensures i) (c.deref.ensures.value i)) in
    let P : Content → Type 0 = λ e. StaysOrConverts r c.args.base c.args.octets.now c.args.changes.now (g.D.Sectors.seen c.args.device.now) e in
    let first = weaker g.D.Sectors.moment g.D.Sectors.left_since c.args.device.now c.write_whole.new.device _ P (c.write_whole.ensures.any_moment honest) (λ e left s k x parts opens says base_is.
    let st = steps s k (g.D.Sectors.seen c.args.device.now) x parts opens r says c.args.base c.args.octets.now c.args.changes.now base_is c.requires.fits c.in_ok-writes.writes.items c.in_ok-writes._next lays c.other_bank-root.result c.other_bank-root.ensures
    c.encode.result c.encode.ensures.says c.encode.ensures.own c.encode-cleared.result c.encode-cleared.ensures.says c.encode-cleared.ensures.own c.places_of-old.result old c.places_of-new.result new c.split_at.result.0.now c.split_at.result.1.now front back in
    st.first (g.D.Sectors.may_leave c.args.device.now) only e left) in
    first

pub returns-in_err-write_phase-clause-any_moment : goal.returns-in_err-write_phase-clause-any_moment
returns-in_err-write_phase-clause-any_moment g c honest only =
    let n = snapshot_sectors (length c.args.octets.now) in
    let r = c.args.root in
    let lays : LaysBank (rooms_of r) (other_of (bank_number r.bank)) (r.open_count + 1) c.args.base c.args.octets.now c.args.changes.now (pairs c.in_ok-writes.writes.items) c.in_ok-writes._next = c.in_ok-writes.ensures.laid in
    let old = are_places r c.places_of-old.result (bank_number r.bank) (bank_number r.bank) refl c.places_of-old.ensures.first c.places_of-old.ensures.journal c.places_of-old.ensures.until in
    let new = are_places r c.places_of-new.result (bank_number c.other_bank.result) (other_of (bank_number r.bank)) c.other_bank.ensures c.places_of-new.ensures.first c.places_of-new.ensures.journal c.places_of-new.ensures.until in
    let front : c.split_at.result.0.now ≡ take n c.in_ok-writes.writes.items = c.split_at.ensures.front ∙ (λ i. take (c.snapshot_sectors.ensures i) (c.deref.ensures.value i)) in
    let back : c.split_at.result.1.now ≡ drop n c.in_ok-writes.writes.items = c.split_at.ensures.back ∙ (λ i. drop (c.snapshot_sectors.ensures i) (c.deref.ensures.value i)) in
    let P : Content → Type 0 = λ e. StaysOrConverts r c.args.base c.args.octets.now c.args.changes.now (g.D.Sectors.seen c.args.device.now) e in
    let first = weaker g.D.Sectors.moment g.D.Sectors.left_since c.args.device.now c.write_whole.new.device _ P (c.write_whole.ensures.any_moment honest) (λ e left s k x parts opens says base_is.
    let st = steps s k (g.D.Sectors.seen c.args.device.now) x parts opens r says c.args.base c.args.octets.now c.args.changes.now base_is c.requires.fits c.in_ok-writes.writes.items c.in_ok-writes._next lays c.other_bank-root.result c.other_bank-root.ensures
    c.encode.result c.encode.ensures.says c.encode.ensures.own c.encode-cleared.result c.encode-cleared.ensures.says c.encode-cleared.ensures.own c.places_of-old.result old c.places_of-new.result new c.split_at.result.0.now c.split_at.result.1.now front back in
    st.first (g.D.Sectors.may_leave c.args.device.now) only e left) in
    let one = c.write_whole.ensures.honest.1 honest in
    let written = c.in_ok-write_whole.ensures.written honest in
    let second = joined g.D.Sectors.moment g.D.Sectors.left_since c.args.device.now c.write_whole.new.device c.write_phase.new.device P (CrashOf (g.D.Sectors.may_leave c.write_whole.new.device) ((0, c.encode.result) ∷ [])) first
    (c.write_phase.ensures.any_moment one) (λ e left s k x parts opens says base_is.
    let st = steps s k (g.D.Sectors.seen c.args.device.now) x parts opens r says c.args.base c.args.octets.now c.args.changes.now base_is c.requires.fits c.in_ok-writes.writes.items c.in_ok-writes._next lays c.other_bank-root.result c.other_bank-root.ensures
    c.encode.result c.encode.ensures.says c.encode.ensures.own c.encode-cleared.result c.encode-cleared.ensures.says c.encode-cleared.ensures.own c.places_of-old.result old c.places_of-new.result new c.split_at.result.0.now c.split_at.result.1.now front back in
    st.second (g.D.Sectors.seen c.write_whole.new.device) (g.D.Sectors.may_leave c.write_whole.new.device) written (c.in_ok-write_whole.ensures.durable honest) e left) in
    second

pub returns-in_err-clear_bank-clause-any_moment : goal.returns-in_err-clear_bank-clause-any_moment
returns-in_err-clear_bank-clause-any_moment g c honest only =
    let n = snapshot_sectors (length c.args.octets.now) in
    let r = c.args.root in
    let lays : LaysBank (rooms_of r) (other_of (bank_number r.bank)) (r.open_count + 1) c.args.base c.args.octets.now c.args.changes.now (pairs c.in_ok-writes.writes.items) c.in_ok-writes._next = c.in_ok-writes.ensures.laid in
    let old = are_places r c.places_of-old.result (bank_number r.bank) (bank_number r.bank) refl c.places_of-old.ensures.first c.places_of-old.ensures.journal c.places_of-old.ensures.until in
    let new = are_places r c.places_of-new.result (bank_number c.other_bank.result) (other_of (bank_number r.bank)) c.other_bank.ensures c.places_of-new.ensures.first c.places_of-new.ensures.journal c.places_of-new.ensures.until in
    let front : c.split_at.result.0.now ≡ take n c.in_ok-writes.writes.items = c.split_at.ensures.front ∙ (λ i. take (c.snapshot_sectors.ensures i) (c.deref.ensures.value i)) in
    let back : c.split_at.result.1.now ≡ drop n c.in_ok-writes.writes.items = c.split_at.ensures.back ∙ (λ i. drop (c.snapshot_sectors.ensures i) (c.deref.ensures.value i)) in
    let P : Content → Type 0 = λ e. StaysOrConverts r c.args.base c.args.octets.now c.args.changes.now (g.D.Sectors.seen c.args.device.now) e in
    let first = weaker g.D.Sectors.moment g.D.Sectors.left_since c.args.device.now c.write_whole.new.device _ P (c.write_whole.ensures.any_moment honest) (λ e left s k x parts opens says base_is.
    let st = steps s k (g.D.Sectors.seen c.args.device.now) x parts opens r says c.args.base c.args.octets.now c.args.changes.now base_is c.requires.fits c.in_ok-writes.writes.items c.in_ok-writes._next lays c.other_bank-root.result c.other_bank-root.ensures
    c.encode.result c.encode.ensures.says c.encode.ensures.own c.encode-cleared.result c.encode-cleared.ensures.says c.encode-cleared.ensures.own c.places_of-old.result old c.places_of-new.result new c.split_at.result.0.now c.split_at.result.1.now front back in
    st.first (g.D.Sectors.may_leave c.args.device.now) only e left) in
    let one = c.write_whole.ensures.honest.1 honest in
    let written = c.in_ok-write_whole.ensures.written honest in
    let second = joined g.D.Sectors.moment g.D.Sectors.left_since c.args.device.now c.write_whole.new.device c.write_phase.new.device P (CrashOf (g.D.Sectors.may_leave c.write_whole.new.device) ((0, c.encode.result) ∷ [])) first
    (c.write_phase.ensures.any_moment one) (λ e left s k x parts opens says base_is.
    let st = steps s k (g.D.Sectors.seen c.args.device.now) x parts opens r says c.args.base c.args.octets.now c.args.changes.now base_is c.requires.fits c.in_ok-writes.writes.items c.in_ok-writes._next lays c.other_bank-root.result c.other_bank-root.ensures
    c.encode.result c.encode.ensures.says c.encode.ensures.own c.encode-cleared.result c.encode-cleared.ensures.says c.encode-cleared.ensures.own c.places_of-old.result old c.places_of-new.result new c.split_at.result.0.now c.split_at.result.1.now front back in
    st.second (g.D.Sectors.seen c.write_whole.new.device) (g.D.Sectors.may_leave c.write_whole.new.device) written (c.in_ok-write_whole.ensures.durable honest) e left) in
    let two = c.write_phase.ensures.honest.1 one in
    joined g.D.Sectors.moment g.D.Sectors.left_since c.args.device.now c.write_phase.new.device c.clear_bank.new.device P (StaysUncleared c.places_of-old.result.first c.places_of-old.result.until c.encode-cleared.result (g.D.Sectors.seen c.write_phase.new.device)) second
    (c.clear_bank.ensures.any_moment two (c.in_ok-write_phase.ensures.durable one)) (λ e left s k x parts opens says base_is.
    let st = steps s k (g.D.Sectors.seen c.args.device.now) x parts opens r says c.args.base c.args.octets.now c.args.changes.now base_is c.requires.fits c.in_ok-writes.writes.items c.in_ok-writes._next lays c.other_bank-root.result c.other_bank-root.ensures
    c.encode.result c.encode.ensures.says c.encode.ensures.own c.encode-cleared.result c.encode-cleared.ensures.says c.encode-cleared.ensures.own c.places_of-old.result old c.places_of-new.result new c.split_at.result.0.now c.split_at.result.1.now front back in
    let begun = st.to_clear (g.D.Sectors.seen c.write_whole.new.device) (g.D.Sectors.seen c.write_phase.new.device) written (c.in_ok-write_phase.ensures.written one) in
    still_converted s k st.new c.args.octets.now c.args.changes.now r.open_count c.encode.result c.encode-cleared.result e st.turned
    c.encode.ensures.says.opened_is st.counted
    (left s (intact st.new) c.encode.result st.parts (g.D.Sectors.seen c.write_phase.new.device, refl, begun)))

pub returns-clause-any_moment : goal.returns-clause-any_moment
returns-clause-any_moment g c honest only =
    let n = snapshot_sectors (length c.args.octets.now) in
    let r = c.args.root in
    let lays : LaysBank (rooms_of r) (other_of (bank_number r.bank)) (r.open_count + 1) c.args.base c.args.octets.now c.args.changes.now (pairs c.in_ok-writes.writes.items) c.in_ok-writes._next = c.in_ok-writes.ensures.laid in
    let old = are_places r c.places_of-old.result (bank_number r.bank) (bank_number r.bank) refl c.places_of-old.ensures.first c.places_of-old.ensures.journal c.places_of-old.ensures.until in
    let new = are_places r c.places_of-new.result (bank_number c.other_bank.result) (other_of (bank_number r.bank)) c.other_bank.ensures c.places_of-new.ensures.first c.places_of-new.ensures.journal c.places_of-new.ensures.until in
    let front : c.split_at.result.0.now ≡ take n c.in_ok-writes.writes.items = c.split_at.ensures.front ∙ (λ i. take (c.snapshot_sectors.ensures i) (c.deref.ensures.value i)) in
    let back : c.split_at.result.1.now ≡ drop n c.in_ok-writes.writes.items = c.split_at.ensures.back ∙ (λ i. drop (c.snapshot_sectors.ensures i) (c.deref.ensures.value i)) in
    let P : Content → Type 0 = λ e. StaysOrConverts r c.args.base c.args.octets.now c.args.changes.now (g.D.Sectors.seen c.args.device.now) e in
    let first = weaker g.D.Sectors.moment g.D.Sectors.left_since c.args.device.now c.write_whole.new.device _ P (c.write_whole.ensures.any_moment honest) (λ e left s k x parts opens says base_is.
    let st = steps s k (g.D.Sectors.seen c.args.device.now) x parts opens r says c.args.base c.args.octets.now c.args.changes.now base_is c.requires.fits c.in_ok-writes.writes.items c.in_ok-writes._next lays c.other_bank-root.result c.other_bank-root.ensures
    c.encode.result c.encode.ensures.says c.encode.ensures.own c.encode-cleared.result c.encode-cleared.ensures.says c.encode-cleared.ensures.own c.places_of-old.result old c.places_of-new.result new c.split_at.result.0.now c.split_at.result.1.now front back in
    st.first (g.D.Sectors.may_leave c.args.device.now) only e left) in
    let one = c.write_whole.ensures.honest.1 honest in
    let written = c.in_ok-write_whole.ensures.written honest in
    let second = joined g.D.Sectors.moment g.D.Sectors.left_since c.args.device.now c.write_whole.new.device c.write_phase.new.device P (CrashOf (g.D.Sectors.may_leave c.write_whole.new.device) ((0, c.encode.result) ∷ [])) first
    (c.write_phase.ensures.any_moment one) (λ e left s k x parts opens says base_is.
    let st = steps s k (g.D.Sectors.seen c.args.device.now) x parts opens r says c.args.base c.args.octets.now c.args.changes.now base_is c.requires.fits c.in_ok-writes.writes.items c.in_ok-writes._next lays c.other_bank-root.result c.other_bank-root.ensures
    c.encode.result c.encode.ensures.says c.encode.ensures.own c.encode-cleared.result c.encode-cleared.ensures.says c.encode-cleared.ensures.own c.places_of-old.result old c.places_of-new.result new c.split_at.result.0.now c.split_at.result.1.now front back in
    st.second (g.D.Sectors.seen c.write_whole.new.device) (g.D.Sectors.may_leave c.write_whole.new.device) written (c.in_ok-write_whole.ensures.durable honest) e left) in
    let two = c.write_phase.ensures.honest.1 one in
    joined g.D.Sectors.moment g.D.Sectors.left_since c.args.device.now c.write_phase.new.device c.clear_bank.new.device P (StaysUncleared c.places_of-old.result.first c.places_of-old.result.until c.encode-cleared.result (g.D.Sectors.seen c.write_phase.new.device)) second
    (c.clear_bank.ensures.any_moment two (c.in_ok-write_phase.ensures.durable one)) (λ e left s k x parts opens says base_is.
    let st = steps s k (g.D.Sectors.seen c.args.device.now) x parts opens r says c.args.base c.args.octets.now c.args.changes.now base_is c.requires.fits c.in_ok-writes.writes.items c.in_ok-writes._next lays c.other_bank-root.result c.other_bank-root.ensures
    c.encode.result c.encode.ensures.says c.encode.ensures.own c.encode-cleared.result c.encode-cleared.ensures.says c.encode-cleared.ensures.own c.places_of-old.result old c.places_of-new.result new c.split_at.result.0.now c.split_at.result.1.now front back in
    let begun = st.to_clear (g.D.Sectors.seen c.write_whole.new.device) (g.D.Sectors.seen c.write_phase.new.device) written (c.in_ok-write_phase.ensures.written one) in
    still_converted s k st.new c.args.octets.now c.args.changes.now r.open_count c.encode.result c.encode-cleared.result e st.turned
    c.encode.ensures.says.opened_is st.counted
    (left s (intact st.new) c.encode.result st.parts (g.D.Sectors.seen c.write_phase.new.device, refl, begun)))

pub returns-clause-converted : goal.returns-clause-converted
returns-clause-converted g c s k x parts honest only opens says base_is =
    let n = snapshot_sectors (length c.args.octets.now) in
    let r = c.args.root in
    let lays : LaysBank (rooms_of r) (other_of (bank_number r.bank)) (r.open_count + 1) c.args.base c.args.octets.now c.args.changes.now (pairs c.in_ok-writes.writes.items) c.in_ok-writes._next = c.in_ok-writes.ensures.laid in
    let old = are_places r c.places_of-old.result (bank_number r.bank) (bank_number r.bank) refl c.places_of-old.ensures.first c.places_of-old.ensures.journal c.places_of-old.ensures.until in
    let new = are_places r c.places_of-new.result (bank_number c.other_bank.result) (other_of (bank_number r.bank)) c.other_bank.ensures c.places_of-new.ensures.first c.places_of-new.ensures.journal c.places_of-new.ensures.until in
    let front : c.split_at.result.0.now ≡ take n c.in_ok-writes.writes.items = c.split_at.ensures.front ∙ (λ i. take (c.snapshot_sectors.ensures i) (c.deref.ensures.value i)) in
    let back : c.split_at.result.1.now ≡ drop n c.in_ok-writes.writes.items = c.split_at.ensures.back ∙ (λ i. drop (c.snapshot_sectors.ensures i) (c.deref.ensures.value i)) in
    let st = steps s k (g.D.Sectors.seen c.args.device.now) x parts opens r says c.args.base c.args.octets.now c.args.changes.now base_is c.requires.fits c.in_ok-writes.writes.items c.in_ok-writes._next lays c.other_bank-root.result c.other_bank-root.ensures
    c.encode.result c.encode.ensures.says c.encode.ensures.own c.encode-cleared.result c.encode-cleared.ensures.says c.encode-cleared.ensures.own c.places_of-old.result old c.places_of-new.result new c.split_at.result.0.now c.split_at.result.1.now front back in
    let P : Content → Type 0 = λ e. LeavesConverted s k c.args.octets.now c.args.changes.now r.open_count e in
    let one = c.write_whole.ensures.honest.1 honest in
    let written = c.in_ok-write_whole.ensures.written honest in
    let two = c.write_phase.ensures.honest.1 one in
    let begun = st.to_clear (g.D.Sectors.seen c.write_whole.new.device) (g.D.Sectors.seen c.write_phase.new.device) written (c.in_ok-write_phase.ensures.written one) in
    let left = c.in_ok-clear_bank.ensures.cleared s (intact st.new) c.encode.result st.parts two (g.D.Sectors.seen c.write_phase.new.device, refl, begun) in (
      st.new,
      st.turned,
      λ e may. opens_cleared s st.new c.encode.result c.encode-cleared.result st.parts (c.args.root.open_count + 1)
          (g.D.Sectors.seen c.clear_bank.new.device) e left st.cleared st.counted (c.in_ok-clear_bank.ensures.durable two e may),
    )
