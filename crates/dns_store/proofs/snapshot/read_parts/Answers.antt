use Rattle.std.proofs.Common.{arith, rules, refl, inr, ⊎_elim, ◌++◌, ◌+◌, ℕ, List, sym, ◌∙◌, ap, subst, append_assoc}
use Rattle.std.specs.Prelude.{◌<◌}
use Rattle.std.specs.List.{flat_map}
use Rattle.std.proofs.lemmas.Bool.{cases_lt}
use Rattle.dns_layout.specs.Own.{IsAltered, IsIntactIn}
use Rattle.dns_layout.specs.Sector.{payload_in, snapshot_sectors_in}
use Rattle.dns_layout.specs.Store.{IsPartIn}
use Rattle.dns_journal.specs.Reads.{sectors_from}
use Rattle.dns_journal.proofs.Looking.{reads_then, flat_from}
use Rattle.dns_journal.proofs.Heads.{rooms_more}
use Rattle.dns_journal.proofs.Altered.{altered_itself, one_more_intact}
use Rattle.dns_store.proofs.Parts.{are_from, are_at}
use Rattle.dns_store.proofs.snapshot.read_parts.Goals as goal

pub returns-then-not-is_part-clause-damaged : goal.returns-then-not-is_part-clause-damaged
returns-then-not-is_part-clause-damaged g c honest k altered x says =
    let f = c.args.format in
    let still = subst (λ d. IsAltered f k d) (sym (c.loop-i.invariant.reads.seen honest)) altered in
    let got = c.in_ok-sector.ensures.octets (c.loop-i.invariant.reads.honest.1 honest) k still in
    inr
    (record {
      index = c.loop-i.i;
      place_is = refl;
      within = omega (arith, c.loop-i-test.true, c.snapshot_sectors_in-i-end.ensures, ap (snapshot_sectors_in f) says.snapshot_length_is);
      before = c.loop-i.invariant.parts honest k altered x says;
      wrong = λ is. (let there = subst (λ y. IsPartIn f x c.loop-i.i y) got is in let told = c.is_part.ensures x says in search (rules, told, c.if-not-is_part.true, there));
    })

pub loop-i-preserved : goal.loop-i-preserved
loop-i-preserved g c = record {
  reads = reads_then _ _ _ c.loop-i.invariant.reads c.read_sector.ensures.reads;
  quiet = c.in_ok-sector.ensures.quiet ∙ c.loop-i.invariant.quiet;
  parts = λ honest k altered x says.
      let f = c.args.format in
      let still = subst (λ d. IsAltered f k d) (sym (c.loop-i.invariant.reads.seen honest)) altered in
      let got = c.in_ok-sector.ensures.octets (c.loop-i.invariant.reads.honest.1 honest) k still in
      let told = c.is_part.ensures x says in
      are_from f x k c.args.at c.loop-i.i (c.loop-i.invariant.parts honest k altered x says)
      (subst (λ y. IsPartIn f x c.loop-i.i y) (sym got) (search (rules, told, c.if-not-is_part.false)));
  passed = λ honest.
      let d = g.D.Sectors.seen c.args.device.now in
      let got = c.in_ok-sector.ensures.octets (c.loop-i.invariant.reads.honest.1 honest) d (subst (λ e. IsAltered c.args.format d e) (sym (c.loop-i.invariant.reads.seen honest)) (altered_itself c.args.format d)) in
      one_more_intact c.args.format d c.args.at c.loop-i.i (c.loop-i.invariant.passed honest) (subst (λ y. IsIntactIn c.args.format (c.args.at + c.loop-i.i) y) (sym got) c.in_ok-sector.ensures.own);
  size = rooms_more c.args.format _ c.loop-i.i _ _ c.loop-i.invariant.size (omega (arith, c.in_ok-extend_from_slice.ensures.len, c.payload.ensures.len));
  octets = λ honest k altered.
      let still = subst (λ d. IsAltered c.args.format k d) (sym (c.loop-i.invariant.reads.seen honest)) altered in
      let got = c.in_ok-sector.ensures.octets (c.loop-i.invariant.reads.honest.1 honest) k still in
      let old = c.args.octets.now.items in
      let new = c.payload.result.now in
      c.in_ok-extend_from_slice.ensures.items
      ∙ ap (λ (l : List ℕ). l ++ new) (c.loop-i.invariant.octets honest k altered)
      ∙ append_assoc old (flat_map (payload_in c.args.format) (sectors_from k c.args.at c.loop-i.i)) new
      ∙ ap (λ (l : List ℕ). old ++ (flat_map (payload_in c.args.format) (sectors_from k c.args.at c.loop-i.i) ++ l)) (c.payload.ensures.octets ∙ ap (λ (l : List ℕ). payload_in c.args.format l) (sym got))
      ∙ ap (λ (l : List ℕ). old ++ l) (sym (flat_from c.args.format k c.args.at c.loop-i.i));
}

pub returns-then-not-is_part-clause-not_own : goal.returns-then-not-is_part-clause-not_own
returns-then-not-is_part-clause-not_own g c honest x says index reached not =
    let f = c.args.format in
    let d = g.D.Sectors.seen c.args.device.now in
    let i = c.loop-i.i in
    let got = c.in_ok-sector.ensures.octets (c.loop-i.invariant.reads.honest.1 honest) d (subst (λ e. IsAltered f d e) (sym (c.loop-i.invariant.reads.seen honest)) (altered_itself f d)) in
    let own = subst (λ y. IsIntactIn f (c.args.at + i) y) (sym got) c.in_ok-sector.ensures.own in
    let told = c.is_part.ensures x says in
    ⊎_elim
    (λ (less : i < index). (let there = subst (λ y. IsPartIn f x i y) got (are_at f index x d c.args.at i reached.before less) in absurd (search (rules, told, c.if-not-is_part.true, there))))
    (λ more. absurd (not (one_more_intact f d c.args.at i (c.loop-i.invariant.passed honest) own index (omega (arith, more)))))
    (cases_lt i index)

pub returns-clause-not_own : goal.returns-clause-not_own
returns-clause-not_own g c honest x says index reached not =
    not (c.loop-i.invariant.passed honest index (omega (arith, reached.within, ap (snapshot_sectors_in c.args.format) says.snapshot_length_is, c.snapshot_sectors_in-i-end.ensures, c.loop-i-test.false)))
