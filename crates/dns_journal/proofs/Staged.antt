-- What a staged entry adds to what a journal keeps.
use Rattle.std.proofs.Common.{◌≡◌, ℕ, ◌+◌, List, [], ◌∷◌, ◌++◌, refl, sym, ◌∙◌, ap, subst, append_assoc}
use Rattle.std.proofs.lemmas.List.{append-nil}
use Rattle.std.specs.Prelude.{Result, Ok, Err, OnErr}
use Rattle.dns_sectors.specs.Crash.{Write, SomeApplied}
use Rattle.dns_sectors.specs.Phase.{pairs}
use Rattle.dns_sectors.specs.declared.device.Sectors.{Ghosts}
use Rattle.dns_layout.specs.Sector.{open_count, number}
use Rattle.dns_layout.specs.Forms.{SaysRoot}
use Rattle.dns_layout.specs.Own.{AreOwn}
use Rattle.dns_layout.specs.declared.root.Root.{Root}
use Rattle.dns_journal.proofs.Altered.{own_append}
use Rattle.dns_layout.specs.Journal.{Entry, entry_size, IsNextEntry, IsBatch, writes_from, body_writes, head_writes, place_behind, version_behind}
use Rattle.dns_journal.specs.declared.read.Cursor.{Cursor}
use Rattle.dns_layout.specs.Store.{Sizes, Stored, journal_place, bank_end, version_of}
use Rattle.dns_journal.specs.State.{Keeps}
use Rattle.dns_journal.specs.Staging.{Stages}
use Rattle.dns_journal.specs.declared.journal.Journal.{Journal}

pub batch_more : (es : List Entry) (e : Entry) (until at version opened : ℕ) → IsBatch until at version opened es → IsNextEntry until (place_behind at es) (version_behind version es) opened e → open_count e.head ≡ opened → IsBatch until at version opened (es ++ e ∷ [])
batch_more [] e until at version opened batch next same = (next, same, tt)
batch_more (f ∷ es) e until at version opened batch next same = (batch.0, batch.1, batch_more es e until (at + entry_size f) (version + 1) opened batch.2 next same)

bodies_more : (es : List Entry) (e : Entry) (at : ℕ) → body_writes at (es ++ e ∷ []) ≡ body_writes at es ++ writes_from (place_behind at es + 1) e.bodies
bodies_more [] e at = append-nil (writes_from (at + 1) e.bodies)
bodies_more (f ∷ es) e at =
    ap (λ (ws : List Write). writes_from (at + 1) f.bodies ++ ws) (bodies_more es e (at + entry_size f))
    ∙ sym (append_assoc (writes_from (at + 1) f.bodies) (body_writes (at + entry_size f) es) (writes_from (place_behind (at + entry_size f) es + 1) e.bodies))

heads_more : (es : List Entry) (e : Entry) (at : ℕ) → head_writes at (es ++ e ∷ []) ≡ head_writes at es ++ (place_behind at es, e.head) ∷ []
heads_more [] e at = refl
heads_more (f ∷ es) e at = ap (λ (ws : List Write). (at, f.head) ∷ ws) (heads_more es e (at + entry_size f))

place_more : (es : List Entry) (e : Entry) (at : ℕ) → place_behind at (es ++ e ∷ []) ≡ place_behind at es + entry_size e
place_more [] e at = refl
place_more (f ∷ es) e at = place_more es e (at + entry_size f)

version_more : (es : List Entry) (e : Entry) (version : ℕ) → version_behind version (es ++ e ∷ []) ≡ version_behind version es + 1
version_more [] e version = refl
version_more (f ∷ es) e version = version_more es e (version + 1)

pub on_err : {T E P : Type 0} (r : Result T E) → P → OnErr r P
on_err (Ok x) p = tt
on_err (Err e) p = p

module _ {D : Type 0} {g : Ghosts D} (shape : Sizes) (old new : Journal D g) (k : Stored) (staged : List Entry) (keeps : Keeps shape old k staged) (device : new.device ≡ old.device) (closed : new.is_closed ≡ old.is_closed) (same_root : new.root ≡ old.root) where
  abbrev root : List ℕ
  root = keeps.0

  abbrev first : ℕ
  first = place_behind (journal_place shape (number keeps.0)) k.entries

  pub keeps_staged : (octets : List ℕ) (stages : Stages old.next new.next old.bodies.items new.bodies.items old.heads.items new.heads.items octets) → Keeps shape new k (staged ++ stages.entry ∷ [])
  keeps_staged octets stages =
      let e = stages.entry in
      let next : IsNextEntry (bank_end shape (number root)) (place_behind first staged) (version_behind (version_of k) staged) (open_count root) e =
      subst (λ u. IsNextEntry u (place_behind first staged) (version_behind (version_of k) staged) (open_count root) e) keeps.2.until_is
      (subst (λ a. IsNextEntry old.next.until a (version_behind (version_of k) staged) (open_count root) e) keeps.2.at_is
      (subst (λ v. IsNextEntry old.next.until old.next.at v (open_count root) e) keeps.2.version_is
      (subst (λ o. IsNextEntry old.next.until old.next.at old.next.version o e) keeps.2.opened_is stages.next))) in (
        root,
        keeps.1,
        record {
          is_open = closed ∙ keeps.2.is_open;
          honest = subst (λ d. g.is_honest d) (sym device) keeps.2.honest;
          durable = subst (λ d. (c : List (List ℕ)) → g.may_leave d c → c ≡ g.seen d) (sym device) keeps.2.durable;
          content = keeps.2.content;
          altered = subst (λ d. SomeApplied k.altered keeps.2.content (g.seen d)) (sym device) keeps.2.altered;
          opens = keeps.2.opens;
          says = subst (λ r. SaysRoot root r) (sym same_root) keeps.2.says;
          cleared = ap (λ (r : Root). r.is_clear) same_root ∙ keeps.2.cleared;
          bodies_own = subst (λ (ws : List Write). AreOwn ws) (sym stages.bodies_are) (own_append (pairs old.bodies.items) (writes_from (old.next.at + 1) e.bodies) keeps.2.bodies_own stages.bodies_own);
          heads_own = subst (λ (ws : List Write). AreOwn ws) (sym stages.heads_are) (own_append (pairs old.heads.items) ((old.next.at, e.head) ∷ []) keeps.2.heads_own ((λ _. stages.head_own), tt));
          bank = keeps.2.bank;
          behind = keeps.2.behind;
          batch = batch_more staged e (bank_end shape (number root)) first (version_of k) (open_count root) keeps.2.batch next (stages.opened ∙ keeps.2.opened_is);
          bodies = stages.bodies_are ∙ ap (λ (ws : List Write). ws ++ writes_from (old.next.at + 1) e.bodies) keeps.2.bodies ∙ ap (λ n. body_writes first staged ++ writes_from (n + 1) e.bodies) keeps.2.at_is ∙ sym (bodies_more staged e first);
          until_is = stages.until_stays ∙ keeps.2.until_is;
          at_is = stages.position ∙ ap (λ n. n + entry_size e) keeps.2.at_is ∙ sym (place_more staged e first);
          version_is = stages.version_is ∙ ap (λ n. n + 1) keeps.2.version_is ∙ sym (version_more staged e (version_of k));
          opened_is = stages.opened_stays ∙ keeps.2.opened_is;
          heads = stages.heads_are ∙ ap (λ (ws : List Write). ws ++ (old.next.at, e.head) ∷ []) keeps.2.heads ∙ ap (λ n. head_writes first staged ++ (n, e.head) ∷ []) keeps.2.at_is ∙ sym (heads_more staged e first);
        },
      )

  -- nothing was staged
  pub keeps_still : new.next ≡ old.next → new.bodies.items ≡ old.bodies.items → new.heads.items ≡ old.heads.items → Keeps shape new k staged
  keeps_still same bodies heads = (
    root,
    keeps.1,
    record {
      is_open = closed ∙ keeps.2.is_open;
      honest = subst (λ d. g.is_honest d) (sym device) keeps.2.honest;
      durable = subst (λ d. (c : List (List ℕ)) → g.may_leave d c → c ≡ g.seen d) (sym device) keeps.2.durable;
      content = keeps.2.content;
      altered = subst (λ d. SomeApplied k.altered keeps.2.content (g.seen d)) (sym device) keeps.2.altered;
      opens = keeps.2.opens;
      says = subst (λ r. SaysRoot root r) (sym same_root) keeps.2.says;
      cleared = ap (λ (r : Root). r.is_clear) same_root ∙ keeps.2.cleared;
      bodies_own = subst (λ (ws : List Write). AreOwn ws) (sym (ap pairs bodies)) keeps.2.bodies_own;
      heads_own = subst (λ (ws : List Write). AreOwn ws) (sym (ap pairs heads)) keeps.2.heads_own;
      bank = keeps.2.bank;
      behind = keeps.2.behind;
      batch = keeps.2.batch;
      bodies = ap pairs bodies ∙ keeps.2.bodies;
      until_is = ap (λ (n : Cursor). n.until) same ∙ keeps.2.until_is;
      at_is = ap (λ (n : Cursor). n.at) same ∙ keeps.2.at_is;
      version_is = ap (λ (n : Cursor). n.version) same ∙ keeps.2.version_is;
      opened_is = ap (λ (n : Cursor). n.opened) same ∙ keeps.2.opened_is;
      heads = ap pairs heads ∙ keeps.2.heads;
    },
  )
