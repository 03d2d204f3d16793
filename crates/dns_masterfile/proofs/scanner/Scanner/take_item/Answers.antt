use Rattle.std.proofs.Common.{◌≡◌, ℕ, Bool, false, List, inl, inr, sym, ap, subst, ◌∙◌, ◌⊎◌}
use Rattle.std.specs.Prelude.{Ok, Err}
use Rattle.std.proofs.lemmas.Result.{err_from_is_err_and}
use Rattle.dns_masterfile.specs.declared.FileError.{FileError}
use Rattle.dns_masterfile.specs.declared.FileError.TheVariants.{OutOfMemory}
use Rattle.dns_masterfile.specs.Pieces.{Word}
use Rattle.dns_masterfile.specs.Left.{Left, entry_at}
use Rattle.dns_masterfile.specs.Meaning.{Context}
use Rattle.dns_masterfile.specs.Reading.{TakenValue, item_in, take_rdata}
use Rattle.dns_masterfile.specs.Contexts.{ended_at, stated_context}
use Rattle.dns_masterfile.specs.Taking.{RefusesFor}
use Rattle.dns_masterfile.proofs.Items.{item_data, data_refused, data_left}
use Rattle.dns_masterfile.proofs.scanner.Scanner.take_item.Goals as goal

refuses : (taken : TakenValue (List ℕ)) (read : ℕ → FileError → Type 0) (e : FileError) → (taken ≡ Err e → (line : ℕ) → read line e) → RefusesFor taken e → (e ≡ OutOfMemory) ⊎ ((line : ℕ) → read line e)
refuses taken read e f (inl oom) = inl oom
refuses taken read e f (inr h) = inr (f h)

pub returns-in_err-rdata : goal.returns-in_err-rdata
returns-in_err-rdata c =
    let ctx : Context = stated_context c.args.context.now in
    let old : Left = c.args.self.now in
    let blank : Bool = c.args.blank in
    let rtype : ℕ = c.in_ok-rtype.rtype in
    let words : List Word = c.take_type.new.self.words in
    let e : FileError = c.in_err-rdata.field-0.0 in
    let whole_of : Left → Bool = λ left. left.whole in
    let whole : c.take_type.new.self.whole ≡ old.whole = ap whole_of c.in_ok-rtype.ensures.taken.1 ∙ ap whole_of c.in_ok-written.ensures.1 ∙ ap whole_of c.in_ok-owner.ensures.1 in
    let p = err_from_is_err_and c.from_residual-in_err-rdata.result c.from_residual-in_err-rdata.ensures.1 in
    rw (p.1, p.2) (refuses (take_rdata ctx.origin old.whole rtype words) (λ line fault. item_in ctx (entry_at line blank old) old.words ≡ Err fault) e
    (λ refused line. data_refused ctx (entry_at line blank old) words (item_in ctx (entry_at line blank old) old.words) c.in_ok-owner.owner c.in_ok-written.written rtype c.in-Some.ttl e
    (item_data ctx (entry_at line blank old) old.words c.take_owner.new.self.words c.take_middle.new.self.words words c.in_ok-owner.owner c.in_ok-written.written rtype c.in-Some.ttl c.in_ok-owner.ensures.0 c.in_ok-written.ensures.0 c.in_ok-rtype.ensures.taken.0 (sym c.in-Some.ensures)) refused)
    (subst (λ (b : Bool). RefusesFor (take_rdata ctx.origin b rtype words) e) whole c.in_err-rdata.ensures))

pub returns-in_err-end : goal.returns-in_err-end
returns-in_err-end c =
    let ctx : Context = stated_context c.args.context.now in
    let old : Left = c.args.self.now in
    let blank : Bool = c.args.blank in
    let rtype : ℕ = c.in_ok-rtype.rtype in
    let words : List Word = c.take_type.new.self.words in
    let rest : List Word = c.take_rdata.new.self.words in
    let octets : List ℕ = c.in_ok-rdata.rdata.octets in
    let e : FileError = c.in_err-end.field-0.0 in
    let whole_of : Left → Bool = λ left. left.whole in
    let before : c.take_type.new.self.whole ≡ old.whole = ap whole_of c.in_ok-rtype.ensures.taken.1 ∙ ap whole_of c.in_ok-written.ensures.1 ∙ ap whole_of c.in_ok-owner.ensures.1 in
    let whole : c.take_rdata.new.self.whole ≡ old.whole = ap whole_of c.in_ok-rdata.ensures.1.1 ∙ before in
    let left : ended_at old.whole rest ≡ false = ap (λ (b : Bool). ended_at b rest) (sym whole) ∙ c.in_err-end.ensures.0 in
    let read : take_rdata ctx.origin old.whole rtype words ≡ Ok (octets, rest) = ap (λ (b : Bool). take_rdata ctx.origin b rtype words) (sym before) ∙ c.in_ok-rdata.ensures.1.0 in
    let p = err_from_is_err_and c.from_residual-in_err-end.result c.from_residual-in_err-end.ensures.1 in
    rw (p.1, p.2) (inr (λ line. data_left ctx (entry_at line blank old) words rest (item_in ctx (entry_at line blank old) old.words) c.in_ok-owner.owner c.in_ok-written.written rtype c.in-Some.ttl octets e
    (item_data ctx (entry_at line blank old) old.words c.take_owner.new.self.words c.take_middle.new.self.words words c.in_ok-owner.owner c.in_ok-written.written rtype c.in-Some.ttl c.in_ok-owner.ensures.0 c.in_ok-written.ensures.0 c.in_ok-rtype.ensures.taken.0 (sym c.in-Some.ensures))
    read left c.in_err-end.ensures.1))
