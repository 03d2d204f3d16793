use Rattle.std.proofs.Common.{◌≡◌, ◌<◌, ℕ, List, [], ◌∷◌, ◌++◌, length, map, sym, ap, subst, ◌∙◌}
use Rattle.std.proofs.lemmas.List.{map-append}
use Rattle.std.proofs.lemmas.List.Elements.{All-push}
use Rattle.dns_network.proofs.Framed.{Short, joined, one_more}
use Rattle.dns_network.proofs.framing.take_messages.Goals as goal

pub messages-preserved : goal.messages-preserved
messages-preserved c =
    let old : List (List ℕ) = map (λ m. m.items) c.messages.messages.items in
    let one : List ℕ = c.in-Some.message.now in
    let copied : c.extend_from_slice.new.self.items ≡ one = c.in_ok-extend_from_slice.ensures.items ∙ ap (λ (xs : List ℕ). xs ++ one) c.in_ok-octets.ensures.items in
    let more : map (λ m. m.items) c.push.new.self.items ≡ old ++ one ∷ [] =
    ap (map (λ m. m.items)) c.in_ok-push.ensures.items ∙ map-append (λ m. m.items) c.messages.messages.items (c.extend_from_slice.new.self ∷ []) ∙ ap (λ (x : List ℕ). old ++ x ∷ []) copied in
    record {
      short = subst Short (sym more) (All-push (λ message. length message < 65536) old one c.messages.invariant.short c.in-Some.ensures.found.0);
      whole = subst (λ (ms : List (List ℕ)). c.args.stream.now ≡ joined ms ++ c.in-Some.pending.now) (sym more)
          (one_more c.args.stream.now old one c.messages.rest.now c.in-Some.pending.now c.messages.invariant.whole c.in-Some.ensures.found.1);
    }
