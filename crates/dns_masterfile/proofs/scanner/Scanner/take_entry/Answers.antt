use Rattle.std.proofs.Common.{◌≡◌, ℕ, Bool, true, false, ◌∷◌, inl, inr, sym, ap, ◌∙◌, ◌⊎◌}
use Rattle.std.specs.Prelude.{Err}
use Rattle.std.proofs.lemmas.Result.{MatchResult-weaker}
use Rattle.dns_masterfile.specs.declared.FileError.{FileError}
use Rattle.dns_masterfile.specs.declared.FileError.TheVariants.{OutOfMemory}
use Rattle.dns_masterfile.specs.Pieces.{Word}
use Rattle.dns_masterfile.specs.Left.{Left, entry_at, no_words}
use Rattle.dns_masterfile.specs.Meaning.{Context, Said}
use Rattle.dns_masterfile.specs.Reading.{ReadResult, said_by, directive_in}
use Rattle.dns_masterfile.specs.Scan.{stated_word}
use Rattle.dns_masterfile.specs.Contexts.{stated_context}
use Rattle.dns_masterfile.proofs.Items.{directive_said}
use Rattle.dns_masterfile.proofs.scanner.Scanner.take_entry.Goals as goal

faults : (f g : ℕ → ReadResult Said) (e : FileError) → ((line : ℕ) → g line ≡ f line) → (e ≡ OutOfMemory) ⊎ ((line : ℕ) → f line ≡ Err e) → (e ≡ OutOfMemory) ⊎ ((line : ℕ) → g line ≡ Err e)
faults f g e same (inl oom) = inl oom
faults f g e same (inr h) = inr (λ line. same line ∙ h line)

pub returns : goal.returns
returns c =
    let ctx : Context = stated_context c.args.context.now in
    let old : Left = c.args.self.now in
    let behind : Left = c.in-Some.behind in
    let w : Word = stated_word c.in-Some.word in
    let blank : Bool = c.args.blank in
    let at = c.in-Some.ensures in
    let words : old.words ≡ w ∷ behind.words = ap (λ (l : Left). l.words) at in
    let whole : old.whole ≡ behind.whole = ap (λ (l : Left). l.whole) at in
    let rest : behind.behind ≡ old.behind = sym (ap (λ (l : Left). l.behind) at) in
    let dollar = sym c.begins_with_dollar.ensures ∙ c.if-not-begins_with_dollar.false in
    let same : (line : ℕ) → said_by ctx (entry_at line blank old) old.words ≡ directive_in ctx (entry_at line false behind) w behind.words =
    λ line. directive_said ctx (entry_at line blank old) (entry_at line false behind) w old.words behind.words words dollar whole in
    MatchResult-weaker c.take_directive.result c.take_directive.ensures
    (λ said says. ((λ line. same line ∙ says.0 line), says.1 ∙ ap (no_words true) rest))
    (λ e fault. faults (λ line. directive_in ctx (entry_at line false behind) w behind.words) (λ line. said_by ctx (entry_at line blank old) old.words) e same fault)
