use Rattle.std.proofs.Common.{◌≡◌, ◌++◌, sym, ap, ◌∙◌, List, refl}
use Rattle.dns_records.specs.Record.{Record}
use Rattle.dns_zone.specs.Records.{put}
use Rattle.dns_zone.proofs.Listed.{ordered_parts}
use Rattle.dns_update.proofs.Found.{ok_by}
use Rattle.dns_update.proofs.Halved.{put_front, put_back}
use Rattle.dns_update.proofs.held.HalvesHeld.put.Goals as goal

pub are_above-requires : goal.are_above-requires
are_above-requires g c =
    let xs = g.H.Held.records c.args.self.now.front in
    let ys = g.H.Held.records c.args.self.now.back in
    (ordered_parts (xs ++ ys) xs ys refl c.requires).1

pub put-requires : goal.put-requires
put-requires g c =
    let xs = g.H.Held.records c.args.self.now.front in
    let ys = g.H.Held.records c.args.self.now.back in
    (ordered_parts (xs ++ ys) xs ys refl c.requires).0

pub put-requires-2 : goal.put-requires-2
put-requires-2 g c =
    let xs = g.H.Held.records c.args.self.now.front in
    let ys = g.H.Held.records c.args.self.now.back in
    (ordered_parts (xs ++ ys) xs ys refl c.requires).1

pub returns-then-are_above : goal.returns-then-are_above
returns-then-are_above g c =
    let xs = g.H.Held.records c.args.self.now.front in
    let ys = g.H.Held.records c.args.self.now.back in
    let r = c.args.come in
    let left = g.H.Held.records c.put.new.self in
    ok_by c.put.result (left ≡ put r xs) (left ++ ys ≡ put r (xs ++ ys)) (λ e. ap (λ (zs : List Record). zs ++ ys) e ∙ put_front r xs ys (sym c.are_above.ensures ∙ c.if-are_above.true)) c.put.ensures

pub returns : goal.returns
returns g c =
    let xs = g.H.Held.records c.args.self.now.front in
    let ys = g.H.Held.records c.args.self.now.back in
    let r = c.args.come in
    let left = g.H.Held.records c.put-2.new.self in
    ok_by c.put-2.result (left ≡ put r ys) (xs ++ left ≡ put r (xs ++ ys)) (λ e. ap (λ (zs : List Record). xs ++ zs) e ∙ put_back r xs ys c.requires (sym c.are_above.ensures ∙ c.if-are_above.false)) c.put-2.ensures
