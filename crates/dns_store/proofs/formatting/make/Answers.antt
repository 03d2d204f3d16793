use Rattle.std.proofs.Common.{◌≡◌, ◌<◌, length, ◌∙◌, subst, arith}
use Rattle.dns_store.specs.Formatting.{IsLaidTo}
use Rattle.dns_store.proofs.Making.{blank_there, first_run, second_run, third_run, all_made}
use Rattle.dns_store.proofs.formatting.make.Goals as goal

pub returns-in_err-write_phase-clause-any_moment : goal.returns-in_err-write_phase-clause-any_moment
returns-in_err-write_phase-clause-any_moment g c honest =
    first_run g.D.Sectors c.args.root.now c.args.octets.now c.args.device.now c.write_phase.new.device (g.D.Sectors.count c.args.device.now) (c.write_phase.ensures.any_moment honest)

pub returns-in_err-write_behind_root-clause-any_moment : goal.returns-in_err-write_behind_root-clause-any_moment
returns-in_err-write_behind_root-clause-any_moment g c honest =
    let some : 0 < length (g.D.Sectors.seen c.args.device.now) = omega (arith, c.requires.some, g.met.D.Sectors.all_seen c.args.device.now honest) in
    let none = blank_there (g.D.Sectors.seen c.args.device.now) (g.D.Sectors.seen c.write_phase.new.device) (g.D.Sectors.may_leave c.write_phase.new.device) some (c.in_ok-write_phase.ensures.written honest) (c.in_ok-write_phase.ensures.durable honest) in
    second_run g.D.Sectors c.args.root.now c.args.octets.now c.args.device.now c.write_phase.new.device (g.D.Sectors.count c.args.device.now) (c.write_phase.ensures.any_moment honest) c.write_behind_root.new.device
    (c.write_behind_root.ensures.any_moment (c.write_phase.ensures.honest.1 honest) none)

pub returns-in_err-write_phase-2-clause-any_moment : goal.returns-in_err-write_phase-2-clause-any_moment
returns-in_err-write_phase-2-clause-any_moment g c honest =
    let one = c.write_phase.ensures.honest.1 honest in
    let two = c.write_behind_root.ensures.honest.1 one in
    let some : 0 < length (g.D.Sectors.seen c.args.device.now) = omega (arith, c.requires.some, g.met.D.Sectors.all_seen c.args.device.now honest) in
    let none = blank_there (g.D.Sectors.seen c.args.device.now) (g.D.Sectors.seen c.write_phase.new.device) (g.D.Sectors.may_leave c.write_phase.new.device) some (c.in_ok-write_phase.ensures.written honest) (c.in_ok-write_phase.ensures.durable honest) in
    let blank = c.in_ok-write_behind_root.ensures.root one ∙ none (g.D.Sectors.seen c.write_phase.new.device) (g.met.D.Sectors.seen_may_stay c.write_phase.new.device one) in
    let size : length (g.D.Sectors.seen c.write_behind_root.new.device) ≡ g.D.Sectors.count c.args.device.now = g.met.D.Sectors.all_seen c.write_behind_root.new.device two ∙ c.write_behind_root.ensures.count ∙ c.write_phase.ensures.count in
    let laid = subst (λ n. IsLaidTo c.args.octets.now n (g.D.Sectors.seen c.write_behind_root.new.device)) c.write_phase.ensures.count (c.in_ok-write_behind_root.ensures.laid one) in
    third_run g.D.Sectors c.args.root.now c.args.octets.now c.args.device.now c.write_phase.new.device (g.D.Sectors.count c.args.device.now) (c.write_phase.ensures.any_moment honest) c.write_behind_root.new.device
    (c.write_behind_root.ensures.any_moment one none) c.encode.result c.encode.ensures.says c.encode.ensures.own c.requires.some size laid (c.in_ok-write_behind_root.ensures.durable one) blank c.write_phase-2.new.device (c.write_phase-2.ensures.any_moment two)

pub returns-clause-any_moment : goal.returns-clause-any_moment
returns-clause-any_moment g c honest =
    let one = c.write_phase.ensures.honest.1 honest in
    let two = c.write_behind_root.ensures.honest.1 one in
    let some : 0 < length (g.D.Sectors.seen c.args.device.now) = omega (arith, c.requires.some, g.met.D.Sectors.all_seen c.args.device.now honest) in
    let none = blank_there (g.D.Sectors.seen c.args.device.now) (g.D.Sectors.seen c.write_phase.new.device) (g.D.Sectors.may_leave c.write_phase.new.device) some (c.in_ok-write_phase.ensures.written honest) (c.in_ok-write_phase.ensures.durable honest) in
    let blank = c.in_ok-write_behind_root.ensures.root one ∙ none (g.D.Sectors.seen c.write_phase.new.device) (g.met.D.Sectors.seen_may_stay c.write_phase.new.device one) in
    let size : length (g.D.Sectors.seen c.write_behind_root.new.device) ≡ g.D.Sectors.count c.args.device.now = g.met.D.Sectors.all_seen c.write_behind_root.new.device two ∙ c.write_behind_root.ensures.count ∙ c.write_phase.ensures.count in
    let laid = subst (λ n. IsLaidTo c.args.octets.now n (g.D.Sectors.seen c.write_behind_root.new.device)) c.write_phase.ensures.count (c.in_ok-write_behind_root.ensures.laid one) in
    third_run g.D.Sectors c.args.root.now c.args.octets.now c.args.device.now c.write_phase.new.device (g.D.Sectors.count c.args.device.now) (c.write_phase.ensures.any_moment honest) c.write_behind_root.new.device
    (c.write_behind_root.ensures.any_moment one none) c.encode.result c.encode.ensures.says c.encode.ensures.own c.requires.some size laid (c.in_ok-write_behind_root.ensures.durable one) blank c.write_phase-2.new.device (c.write_phase-2.ensures.any_moment two)

pub returns-clause-made : goal.returns-clause-made
returns-clause-made g c honest =
    let one = c.write_phase.ensures.honest.1 honest in
    let two = c.write_behind_root.ensures.honest.1 one in
    let some : 0 < length (g.D.Sectors.seen c.args.device.now) = omega (arith, c.requires.some, g.met.D.Sectors.all_seen c.args.device.now honest) in
    let none = blank_there (g.D.Sectors.seen c.args.device.now) (g.D.Sectors.seen c.write_phase.new.device) (g.D.Sectors.may_leave c.write_phase.new.device) some (c.in_ok-write_phase.ensures.written honest) (c.in_ok-write_phase.ensures.durable honest) in
    let size : length (g.D.Sectors.seen c.write_behind_root.new.device) ≡ g.D.Sectors.count c.args.device.now = g.met.D.Sectors.all_seen c.write_behind_root.new.device two ∙ c.write_behind_root.ensures.count ∙ c.write_phase.ensures.count in
    let laid = subst (λ n. IsLaidTo c.args.octets.now n (g.D.Sectors.seen c.write_behind_root.new.device)) c.write_phase.ensures.count (c.in_ok-write_behind_root.ensures.laid one) in
    all_made g.D.Sectors c.args.root.now c.args.octets.now c.args.device.now c.write_phase.new.device (g.D.Sectors.count c.args.device.now) (c.write_phase.ensures.any_moment honest) c.write_behind_root.new.device
    (c.write_behind_root.ensures.any_moment one none) c.encode.result c.encode.ensures.says c.encode.ensures.own c.requires.some size laid (c.in_ok-write_behind_root.ensures.durable one) c.write_phase-2.new.device (c.in_ok-write_phase-2.ensures.durable two) (c.in_ok-write_phase-2.ensures.written two)
