use Rattle.std.proofs.Common.{◌≡◌, ◌+◌, List, [], ◌∷◌, ◌++◌, map, take, sym, subst, ap, ◌∙◌, arith}
use Rattle.std.proofs.lemmas.List.{map-append, take_all}
use Rattle.dns_versions.specs.Each.{Each2}
use Rattle.dns_primary.specs.Machine.{Waits}
use Rattle.dns_primary.specs.Flush.{all_out, answered_in, answered_of, goes_out, released}
use Rattle.dns_primary.specs.Keeps.{IsWaiting, header_out}
use Rattle.dns_primary.specs.declared.event.To.TheVariants.{Address}
use Rattle.std.specs.declared.net.ip_addr.IpAddr.TheVariants.{V4}
use Rattle.dns_primary.specs.declared.event.Waiting.{Waiting}
use Rattle.dns_wire.specs.declared.codes.Rcode.TheVariants.{NoError}
use Rattle.dns_primary.proofs.Waited.{next, long2, grown, answered_more}
use Rattle.dns_primary.proofs.flush.release_all.Goals as goal

pub loop-one-preserved : goal.loop-one-preserved
loop-one-preserved g c =
    let i = c.loop-one.one-index in
    let items = c.as_slice-waiting.result.now in
    let none : Waiting = record { to = Address (record { address = V4 (record { octets = [] }); port = 0; local = 0 }); address = V4 (record { octets = [] }); request = []; rcode = NoError; zone = 0; version = 0; serial = 0 } in
    record {
      few = omega (arith, c.release.ensures.few, c.loop-one.invariant.few);
      most = c.loop-one.invariant.most;
      places = omega (arith, c.release.ensures.capacity, c.loop-one.invariant.places);
      sent = λ shown zones ws each waits.
          let n = next items ws i none waits c.loop-one-test.true in
          let more : map (released zones) (take (i + 1) ws) ≡ map (released zones) (take i ws) ++ released zones n.one ∷ [] = (λ j. map (released zones) (n.more j)) ∙ map-append (released zones) (take i ws) (n.one ∷ []) in
          grown header_out goes_out c.loop-one.headers.items c.release.new.headers.items (map (released zones) (take i ws)) (map (released zones) (take (i + 1) ws)) (released zones n.one) more
          (c.loop-one.invariant.sent shown zones ws each waits) (c.release.ensures.sent shown zones n.one each n.is);
      told = λ zones ws waits.
          let n = next items ws i none waits c.loop-one-test.true in
          let more : map (released zones) (take (i + 1) ws) ≡ map (released zones) (take i ws) ++ released zones n.one ∷ [] = (λ j. map (released zones) (n.more j)) ∙ map-append (released zones) (take i ws) (n.one ∷ []) in
          let so_far = map (released zones) (take i ws) in
          let whole : answered_of so_far ++ answered_in (released zones n.one) ≡ answered_of (map (released zones) (take (i + 1) ws)) = answered_more so_far (released zones n.one) ∙ sym (ap answered_of more) in
          subst (λ (l : List Waits). Each2 (λ h w. IsWaiting h.waited w) c.release.new.headers.items l) whole
          (c.release.ensures.told zones n.one (answered_of so_far) n.is (c.loop-one.invariant.told zones ws waits));
    }

pub returns-clause-sent : goal.returns-clause-sent
returns-clause-sent g c shown zones ws each waits =
    let same = c.as_slice-waiting.ensures.value in
    let there : Each2 IsWaiting c.as_slice-waiting.result.now ws = subst (λ (l : List Waiting). Each2 IsWaiting l ws) (sym same) waits in
    let whole : take c.loop-one.one-index ws ≡ ws = take_all c.loop-one.one-index ws (let e = long2 c.as_slice-waiting.result.now ws there in omega (arith, e, c.loop-one-test.false)) in
    c.loop-one.invariant.sent shown zones ws each there ∙ ap (λ (l : List Waits). all_out (map (released zones) l)) whole

pub returns-clause-told : goal.returns-clause-told
returns-clause-told g c zones ws waits =
    let same = c.as_slice-waiting.ensures.value in
    let there : Each2 IsWaiting c.as_slice-waiting.result.now ws = subst (λ (l : List Waiting). Each2 IsWaiting l ws) (sym same) waits in
    let whole : take c.loop-one.one-index ws ≡ ws = take_all c.loop-one.one-index ws (let e = long2 c.as_slice-waiting.result.now ws there in omega (arith, e, c.loop-one-test.false)) in
    subst (λ (l : List Waits). Each2 (λ h w. IsWaiting h.waited w) c.loop-one.headers.items (answered_of (map (released zones) l))) whole (c.loop-one.invariant.told zones ws there)
