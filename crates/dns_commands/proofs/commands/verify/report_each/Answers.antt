use Rattle.std.proofs.Common.{◌≡◌, ◌++◌, ◌∷◌, ◌+◌, [], List, ℕ, get_or, take, append-nil, ap, sym, subst, ◌∙◌, arith}
use Rattle.std.specs.Prelude.{flat_map}
use Rattle.std.specs.String.{string_bytes}
use Rattle.std.specs.Io.KnownBytes.{Appends}
use Rattle.std.proofs.KnownBytes.{Appends-trans}
use Rattle.std.proofs.lemmas.List.{take_more}
use Rattle.std.proofs.lemmas.List.Concat.{flat_map-append}
use Rattle.dns_devices.specs.declared.device_faults.DeviceFault.TheVariants.{Damaged}
use Rattle.dns_devices.specs.DeviceFaults.{device_text}
use Rattle.dns_configuration.specs.Faults.{line}
use Rattle.dns_commands.specs.Verify.{spoilt_text}
use Rattle.dns_commands.proofs.commands.verify.report_each.Goals as goal

pub loop-position-preserved : goal.loop-position-preserved
loop-position-preserved g c =
    let xs = c.args.places.now in
    let i = c.loop-position.position-index in
    let x = get_or xs i 0 in
    let path = string_bytes c.args.own.now.device in
    let text : ℕ → List ℕ = spoilt_text path c.args.explain in
    let more : flat_map text (take (i + 1) xs) ≡ flat_map text (take i xs) ++ text x =
    ap (λ (ps : List ℕ). flat_map text ps) (take_more xs i 0 (omega (arith, c.loop-position-test.true))) ∙ flat_map-append text (take i xs) (x ∷ []) ∙ ap (λ (t : List ℕ). flat_map text (take i xs) ++ t) (append-nil (text x)) in
    let err = g.E.Write.contents c.args.err.now in
    let before = g.E.Write.contents c.loop-position.err in
    let after = g.E.Write.contents c.tell_device.new.err in
    let said : Appends before after (text x) = subst (λ (p : List ℕ). Appends before after (line (device_text p (Damaged x) c.args.explain))) c.deref.ensures c.in_ok-tell_device.ensures.1 in
    subst (λ (t : List ℕ). Appends err after t) (sym more) (Appends-trans err before after (flat_map text (take i xs)) (text x) c.loop-position.invariant said)
