use Rattle.std.proofs.Common.{rules, ◌≡◌, ◌++◌, ◌∷◌, [], true, false, add-one, ap, ◌∙◌}
use Rattle.std.proofs.lemmas.Grind.{common_steps}
use Rattle.std.proofs.Common.{arith}
use Rattle.dns_journal.proofs.Looking.{reads_then}
use Rattle.dns_commands.proofs.Verified.{spoilt_more, spoilt_no_more, tested_behind}
use Rattle.dns_commands.proofs.commands.verify.spoilt_sectors.Goals as goal
use Rattle.dns_commands.proofs.commands.verify.spoilt_sectors.Goals.{else-not-is_well-via-then-not-is_well+else-is_err, else-not-is_well-via-else-not-is_well}

pub loop-position-preserved : goal.loop-position-preserved
loop-position-preserved g c =
    let before = c.loop-position.invariant in
    let old = c.args.device.now in
    let mid = c.loop-position.device in
    let seen = g.D.Sectors.seen old in
    let n = c.loop-position.position in
    let is_well = c.in_ok-is_well.is_well in
    let places = c.loop-position.places.items in
    let after = c.else-not-is_well.places.items in
    let told = λ (honest : g.D.Sectors.is_honest old). tested_behind {D = g.row.D.Denot} {g = g.D.Sectors} old mid n is_well before.reads honest c.in_ok-is_well.ensures.intact in
    record {
      end = before.end;
      spoilt = λ honest. rw add-one (elim c.else-not-is_well.branch [
        | else-not-is_well-via-then-not-is_well+else-is_err w ↦
            let same : after ≡ places ++ n ∷ [] = grind (arith, common_steps, w.places-is, w.push.ensures.items, w.is_err.ensures, w.if-is_err.false) in
            let not : is_well ≡ false = search (rules, w.if-not-is_well.true) in
            spoilt_more seen n is_well places after (told honest) not (before.spoilt honest) same
        | else-not-is_well-via-else-not-is_well w ↦
            let same : after ≡ places = ap (λ v. v.items) w.places-is in
            let yes : is_well ≡ true = search (rules, w.if-not-is_well.false) in
            spoilt_no_more seen n is_well places after (told honest) yes (before.spoilt honest) same
      ]);
      quiet = c.in_ok-is_well.ensures.quiet ∙ before.quiet;
      reads = reads_then old mid c.is_intact_at.new.device before.reads c.is_intact_at.ensures.reads;
    }
