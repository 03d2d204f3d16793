use Rattle.std.proofs.Common.{◌≡◌, ◌+◌, ◌<◌, ◌++◌, ◌∷◌, [], List, length, take, drop, sym, ap, subst, ◌∙◌, arith}
use Rattle.std.proofs.lemmas.List.{take_more, take-append-drop}
use Rattle.dns_records.specs.Record.{Record}
use Rattle.dns_answer.specs.Added.{AddsUpTo, record_count}
use Rattle.dns_answer.proofs.UpTo.{up_to_all, up_to_more, up_to_then}
use Rattle.dns_answer.proofs.sections.Sections.push_records.Goals as goal

pub loop-stored-preserved : goal.loop-stored-preserved
loop-stored-preserved c =
    let records = c.args.records.now in
    let i = c.loop-stored.stored-index in
    let r = c.stored-item.result in
    let inside : i < length records = omega arith in
    let more : take i records ++ r ∷ [] ≡ take (i + 1) records = ap (λ (x : Record). take i records ++ x ∷ []) c.stored-item.is ∙ sym (take_more records i r inside) in
    let room : c.args.most < record_count c.loop-stored.self → ⊥ = λ over. (let yes' = c.has_more.ensures.1 over in let no' = c.if-has_more.false in cc) in
    let both = up_to_then c.args.most c.args.self.now c.loop-stored.self c.push_record.new.self (take i records) (r ∷ []) c.loop-stored.invariant (up_to_all c.args.most c.loop-stored.self c.push_record.new.self (r ∷ []) room c.in_ok-push_record.ensures) in
    subst (λ (rs : List Record). AddsUpTo c.args.most c.args.self.now c.push_record.new.self rs) more both

pub returns-then-has_more : goal.returns-then-has_more
returns-then-has_more c =
    let records = c.args.records.now in
    let i = c.loop-stored.stored-index in
    subst (λ (rs : List Record). AddsUpTo c.args.most c.args.self.now c.loop-stored.self rs) (take-append-drop i records) (up_to_more c.args.most c.args.self.now c.loop-stored.self (take i records) (drop i records) (c.has_more.ensures.0 c.if-has_more.true) c.loop-stored.invariant)
