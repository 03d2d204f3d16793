-- What a journal keeps when the root was turned, from what it kept.
use Rattle.std.proofs.Common.{◌≡◌, inl, inr, ℕ, ◌+◌, ◌*◌, ◌≤◌, false, List, [], ◌++◌, length, refl, sym, ◌∙◌, ap, subst, arith}
use Rattle.dns_sectors.specs.Device.{Content, Only}
use Rattle.dns_sectors.specs.Crash.{Write}
use Rattle.dns_sectors.specs.Phase.{pairs}
use Rattle.dns_sectors.specs.declared.device.Sectors.{Ghosts}
use Rattle.dns_layout.specs.Sector.{open_count, number, snapshot_sectors}
use Rattle.dns_layout.specs.Forms.{SaysRoot, bank_number, clear_number}
use Rattle.dns_layout.specs.Journal.{IsBatch, writes_from, place_behind}
use Rattle.dns_layout.specs.Store.{Sizes, Stored, snapshot_place, journal_place, bank_end, version_of, other_of}
use Rattle.dns_layout.specs.Own.{AreOwn, Altered}
use Rattle.dns_layout.specs.declared.root.Root.{Root}
use Rattle.dns_layout.specs.declared.root.Bank.{Bank}
use Rattle.dns_changes.specs.Change.{Change}
use Rattle.dns_journal.specs.declared.read.Cursor.{Cursor}
use Rattle.dns_journal.specs.declared.journal.Journal.{Journal}
use Rattle.dns_journal.specs.State.{Keeps, OpensAsOneOf, opened_of}
use Rattle.dns_journal.specs.Bank.{sectors_of_entries, LaysBank, Turns, IsTurned, IsTurnedTo, LeavesEither}
use Rattle.dns_journal.proofs.Bank.{tidy_from}
use Rattle.dns_journal.proofs.Laying.{entries_count, versions_count}

abbrev pub rooms_of : Root → Sizes
rooms_of r = record { snapshot = r.snapshot_room; journal = r.journal_room; apex = r.apex }

abbrev pub root_turned : Root → Bank → ℕ → ℕ → Root
root_turned r bank base len = record r { bank = bank; bank_open = r.open_count; base = base; snapshot_length = len }

-- nothing was done
pub still_stored : {D : Type 0} {g : Ghosts D} (shape : Sizes) (old : Journal D g) (k : Stored) (keeps : Keeps shape old k []) (octets : List ℕ) (changes : List Change) (c : Content)
    → c ≡ g.seen old.device → LeavesEither shape k octets changes (opened_of old) c
still_stored {D} {g} shape old k keeps octets changes c is =
    subst (λ (d : Content). LeavesEither shape k octets changes (opened_of old) d) (sym is) (
      keeps.2.content,
      keeps.2.altered,
      (
        inl (keeps.0, keeps.1, keeps.2.opens),
        tidy_from shape keeps.2.content keeps.0 (version_of k) keeps.2.opens.stands keeps.2.bank keeps.2.behind,
        ap open_count keeps.2.opens.stands ∙ keeps.2.says.opened_is,
      ),
    )

-- the positions of a bank depend on the two rooms alone
module _ {D : Type 0} {g : Ghosts D} (shape : Sizes) (old : Journal D g) (k : Stored) (keeps : Keeps shape old k []) (octets : List ℕ) (changes : List Change) (bank : Bank) (base : ℕ) (ws : List Write) (next : Cursor)
    (bank_is : bank_number bank ≡ other_of (bank_number old.root.bank)) (base_is : base + length changes ≡ old.next.version) (fits : snapshot_sectors (length octets) ≤ old.root.snapshot_room)
    (lays : LaysBank (rooms_of old.root) (other_of (bank_number old.root.bank)) old.root.open_count base octets changes ws next) where
  abbrev x : List ℕ
  x = keeps.0

  abbrev pub stored : Stored
  stored = record { base = base; snapshot = octets; entries = lays.entries; altered = k.altered }

  snapshot_is : old.root.snapshot_room ≡ shape.snapshot
  snapshot_is = sym keeps.2.says.snapshot_room_is ∙ keeps.2.opens.valid.snapshot

  journal_is : old.root.journal_room ≡ shape.journal
  journal_is = sym keeps.2.says.journal_room_is ∙ keeps.2.opens.valid.journal

  other_is : other_of (bank_number old.root.bank) ≡ other_of (number keeps.0)
  other_is = ap other_of (sym keeps.2.says.bank_is)

  first_is : snapshot_place (rooms_of old.root) (other_of (bank_number old.root.bank)) ≡ snapshot_place shape (other_of (number keeps.0))
  first_is = λ i. 1 + other_is i * (snapshot_is i + journal_is i)

  start_is : journal_place (rooms_of old.root) (other_of (bank_number old.root.bank)) ≡ journal_place shape (other_of (number keeps.0))
  start_is = λ i. first_is i + snapshot_is i

  end_is : bank_end (rooms_of old.root) (other_of (bank_number old.root.bank)) ≡ bank_end shape (other_of (number keeps.0))
  end_is = λ i. start_is i + journal_is i

  opened_is : old.root.open_count ≡ open_count keeps.0
  opened_is = sym keeps.2.says.opened_is

  version_is : version_of stored ≡ version_of k
  version_is = versions_count lays.entries base ∙ ap (λ n. base + n) (entries_count changes lays.entries lays.are) ∙ base_is ∙ keeps.2.version_is

  pub is_turned : IsTurned k octets changes stored
  is_turned = record { base = base_is ∙ keeps.2.version_is; snapshot = refl; entries = lays.are; altered = refl }

  pub turns : Turns shape k stored keeps.0 (root_turned old.root bank base (length octets)) ws
  turns = record {
    opened = opened_is;
    was_clear = keeps.2.says.clear_is ∙ ap clear_number keeps.2.cleared;
    is_clear = keeps.2.cleared;
    bank = bank_is ∙ other_is;
    bank_open_is = opened_is;
    base = refl;
    length_is = refl;
    snapshot_room = snapshot_is;
    journal_room = journal_is;
    apex = sym keeps.2.says.apex_is ∙ keeps.2.opens.valid.apex;
    fits = omega (arith, fits, snapshot_is);
    newest = version_is;
    parts = lays.parts;
    count = lays.count;
    expected = λ y same_open same_base. lays.expected y (same_open ∙ sym opened_is) same_base;
    holds = lays.holds;
    batch =
        subst (λ u. IsBatch u (journal_place shape (other_of (number keeps.0))) base (open_count keeps.0) lays.entries) end_is
        (subst (λ a. IsBatch (bank_end (rooms_of old.root) (other_of (bank_number old.root.bank))) a base (open_count keeps.0) lays.entries) start_is
        (subst (λ o. IsBatch (bank_end (rooms_of old.root) (other_of (bank_number old.root.bank))) (journal_place (rooms_of old.root) (other_of (bank_number old.root.bank))) base o lays.entries) opened_is lays.batch));
    own = lays.own;
    written =
        lays.written ∙ ap (λ n. writes_from n lays.parts ++ writes_from (journal_place (rooms_of old.root) (other_of (bank_number old.root.bank))) (sectors_of_entries lays.entries)) first_is
        ∙ ap (λ n. writes_from (snapshot_place shape (other_of (number keeps.0))) lays.parts ++ writes_from n (sectors_of_entries lays.entries)) start_is;
  }

  pub leaves_either : (c : Content) → OpensAsOneOf shape k stored (open_count keeps.0) c → LeavesEither shape k octets changes (opened_of old) c
  leaves_either c (d, altered, (inl before, tidy, opened)) = (d, altered, (inl before, tidy, opened ∙ keeps.2.says.opened_is))
  leaves_either c (d, altered, (inr after, tidy, opened)) = (d, altered, (inr (stored, is_turned, after), tidy, opened ∙ keeps.2.says.opened_is))

  pub turned_keeps : (new : Journal D g) → new.is_closed ≡ false → g.is_honest new.device → Only (g.seen new.device) (g.may_leave new.device)
      → Altered k.altered (IsTurnedTo shape stored (root_turned old.root bank base (length octets)) (open_count keeps.0)) (g.seen new.device)
      → new.root ≡ root_turned old.root bank base (length octets) → new.next ≡ next → pairs new.bodies.items ≡ pairs old.bodies.items → pairs new.heads.items ≡ pairs old.heads.items → Keeps shape new stored []
  turned_keeps new is_open honest durable (content, altered, turned) root next_is bodies heads =
      let bank_now : number turned.root ≡ other_of (bank_number old.root.bank) = turned.says.bank_is ∙ bank_is in
      let start : journal_place (rooms_of old.root) (other_of (bank_number old.root.bank)) ≡ journal_place shape (number turned.root) = start_is ∙ ap (λ n. journal_place shape n) (sym (bank_now ∙ other_is)) in
      let end : bank_end (rooms_of old.root) (other_of (bank_number old.root.bank)) ≡ bank_end shape (number turned.root) = end_is ∙ ap (λ n. bank_end shape n) (sym (bank_now ∙ other_is)) in (
        turned.root,
        turned.parts,
        record {
          is_open = is_open;
          honest = honest;
          durable = durable;
          content = content;
          altered = altered;
          opens = turned.opens;
          says = subst (λ r. SaysRoot turned.root r) (sym root) turned.says;
          cleared = ap (λ (r : Root). r.is_clear) root ∙ keeps.2.cleared;
          bodies_own = subst (λ (ws : List Write). AreOwn ws) (sym bodies) keeps.2.bodies_own;
          heads_own = subst (λ (ws : List Write). AreOwn ws) (sym heads) keeps.2.heads_own;
          bank = turned.bank;
          behind = turned.behind;
          batch = tt;
          bodies = bodies ∙ keeps.2.bodies;
          until_is = ap (λ (n : Cursor). n.until) next_is ∙ lays.until_is ∙ end;
          at_is = ap (λ (n : Cursor). n.at) next_is ∙ lays.at_is ∙ ap (λ n. place_behind n lays.entries) start;
          version_is = ap (λ (n : Cursor). n.version) next_is ∙ lays.version_is;
          opened_is = ap (λ (n : Cursor). n.opened) next_is ∙ lays.opened_is ∙ opened_is ∙ sym turned.opened_is;
          heads = heads ∙ keeps.2.heads;
        },
      )
