use Rattle.std.proofs.Common.{⊎_elim}
use Rattle.dns_store.specs.Formatting.{first_of}
use Rattle.dns_store.specs.Laws.{kept_opens}
use Rattle.dns_store.specs.Versions.{opened_again}
use Rattle.dns_store.proofs.laws.opens_law.Goals as goal

pub returns : goal.returns
returns g c = record {
  formatted = λ shape records device made content left. (first_of records, made content left);
  migrated = λ shape before after answer may takes content left.
      (let held = may takes.0 takes.1 in (held.0, (takes.2 held.0 held.1).0 content left));
  opening = λ shape device content may possible.
      (let held = may possible.0 possible.1 in
      ⊎_elim (λ same. (held.0, same)) (λ again. (opened_again held.0, again)) (possible.2 held.0 held.1));
  kept = λ store k kept honest content left.
      (let opened = kept_opens store.journal k k.closed (kept.keeps honest) content left in (opened.0, opened.2));
  migrating = λ shape device content may possible.
      (let held = may possible.0 possible.1 in (held.0, possible.2 held.0 held.1));
}
