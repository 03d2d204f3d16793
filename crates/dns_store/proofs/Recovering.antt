-- How versions are recovered one after the other.
use Rattle.std.proofs.Common.{arith, inl, inr, ◌⊎◌, ◌≡◌, ◌≤◌, ◌+◌, ℕ, List, [], ◌∷◌, ◌++◌, refl, sym, ◌∙◌, ap, subst, append_assoc, append-nil}
use Rattle.dns_names.specs.Name.{Labels}
use Rattle.dns_records.specs.Record.{Record}
use Rattle.dns_zone.specs.Zone.{IsZone}
use Rattle.dns_changes.specs.Change.{Change, IsChange}
use Rattle.dns_changes.specs.Entry.{HasEntry, entry}
use Rattle.dns_sectors.specs.Device.{Content}
use Rattle.dns_layout.specs.Sector.{open_count, number}
use Rattle.dns_layout.specs.Journal.{Entry, entry_size, octets_of_in, place_behind, version_behind, open_behind}
use Rattle.dns_layout.specs.declared.format.Format.{Format}
use Rattle.dns_journal.specs.declared.read.Cursor.{Cursor}
use Rattle.dns_journal.specs.declared.read.ReadError.{ReadError}
use Rattle.dns_journal.specs.Reads.{IsJournalEnd, FindsEntry, ReadsFrom, IsRefusal, NamesSpoilt}
use Rattle.dns_journal.proofs.Heads.{first_read, none_is_read, refused_read}
use Rattle.dns_store.specs.declared.root.OpenError.{OpenError}
use Rattle.dns_store.specs.Root.{open_error}
use Rattle.dns_store.specs.Damage.{NamesSpoiltIn}
use Rattle.dns_store.specs.Versions.{Versions, newest_after}
use Rattle.dns_store.specs.Plain.{sectors_of_snapshot_in}
use Rattle.dns_store.specs.Opens.{AreChangesIn}
use Rattle.dns_store.specs.Recovered.{AreLed, IsNewestRecovered}
use Rattle.dns_store.proofs.Leaves.{newest_append}

-- The first versions were recovered; the others are still to be read.
pub record Goes (f : Format) (old now : Cursor) (c : Content) (apex : Labels) (room : ℕ) (base : List Record) (vs : Versions) (es : List Entry) (newest : List Record) (changes : List Change) : Type 0 where
  pub front : Versions
  pub rest : Versions
  pub left : List Entry
  pub versions : vs ≡ front ++ rest
  pub led : AreLed base front changes
  pub newest_is : newest ≡ newest_after base front
  pub reads : ReadsFrom f now c left
  pub are : AreChangesIn f apex room newest rest left
  pub position : place_behind now.at left ≡ place_behind old.at es
  pub version_is : version_behind now.version left ≡ version_behind old.version es
  pub opened_is : open_behind now.opened left ≡ open_behind old.opened es

pub begins : (f : Format) (old : Cursor) (c : Content) (apex : Labels) (room : ℕ) (base : List Record) (vs : Versions) (es : List Entry) → ReadsFrom f old c es → AreChangesIn f apex room base vs es → Goes f old old c apex room base vs es base []
begins f old c apex room base vs es reads are = record { front = []; rest = vs; left = es; versions = refl; led = tt; newest_is = refl; reads = reads; are = are; position = refl; version_is = refl; opened_is = refl }

led_more : (base : List Record) (vs : Versions) (cs : List Change) (v : List Record) (c : Change) → AreLed base vs cs → IsChange (newest_after base vs) v c → AreLed base (vs ++ v ∷ []) (cs ++ c ∷ [])
led_more base [] [] v c led next = (next, tt)
led_more base [] (d ∷ cs) v c led next = absurd led
led_more base (w ∷ vs) [] v c led next = absurd led
led_more base (w ∷ vs) (d ∷ cs) v c led next = (led.0, led_more w vs cs v c led.1 next)

-- the next version, as the entries tell it
pub record Next (f : Format) (old now next : Cursor) (c : Content) (apex : Labels) (room : ℕ) (base : List Record) (vs : Versions) (es : List Entry) (newest : List Record) (changes : List Change) (octets : List ℕ) : Type 0 where
  pub after : List Record
  pub change : Change
  pub leads : IsChange newest after change
  pub written : HasEntry change
  pub octets_are : entry change ≡ octets
  pub valid : IsZone (record { apex = apex; records = after })
  pub fits : sectors_of_snapshot_in f after ≤ room
  pub goes : Goes f old next c apex room base vs es after (changes ++ change ∷ [])

module _ (f : Format) (old now next : Cursor) (c : Content) (apex : Labels) (room : ℕ) (base : List Record) (vs : Versions) (es : List Entry) (newest : List Record) (changes : List Change) (octets : List ℕ) (finds : FindsEntry f now next c octets) where
  with_first : (front rest : Versions) (left : List Entry) → vs ≡ front ++ rest → AreLed base front changes → newest ≡ newest_after base front → ReadsFrom f now c left → AreChangesIn f apex room newest rest left
      → place_behind now.at left ≡ place_behind old.at es → version_behind now.version left ≡ version_behind old.version es → open_behind now.opened left ≡ open_behind old.opened es
      → (e : Entry) (behind : List Entry) → left ≡ e ∷ behind → octets ≡ octets_of_in f e → ReadsFrom f next c behind → next.at ≡ now.at + entry_size e → next.opened ≡ open_count e.head
      → Next f old now next c apex room base vs es newest changes octets
  with_first front [] left versions led newest_is reads are position version opened e behind is octets_are more at open_is = absurd (subst (λ (l : List Entry). AreChangesIn f apex room newest [] l) is are)
  with_first front (v ∷ rest) left versions led newest_is reads are position version opened e behind is octets_are more at open_is =
      let steps : AreChangesIn f apex room newest (v ∷ rest) (e ∷ behind) = subst (λ (l : List Entry). AreChangesIn f apex room newest (v ∷ rest) l) is are in
      let leads = steps.0.leads in
      record {
        after = v;
        change = steps.0.change;
        leads = leads;
        written = steps.0.written;
        octets_are = sym steps.0.octets_are ∙ sym octets_are;
        valid = steps.0.valid;
        fits = steps.0.fits;
        goes = record {
          front = front ++ v ∷ [];
          rest = rest;
          left = behind;
          versions = versions ∙ sym (append_assoc front (v ∷ []) rest);
          led = led_more base front changes v steps.0.change led (subst (λ (b : List Record). IsChange b v steps.0.change) newest_is leads);
          newest_is = sym (newest_append base front (v ∷ []));
          reads = more;
          are = steps.1;
          position = ap (λ n. place_behind n behind) at ∙ ap (λ (l : List Entry). place_behind now.at l) (sym is) ∙ position;
          version_is = ap (λ n. version_behind n behind) finds.version_is ∙ ap (λ (l : List Entry). version_behind now.version l) (sym is) ∙ version;
          opened_is = ap (λ n. open_behind n behind) open_is ∙ ap (λ (l : List Entry). open_behind now.opened l) (sym is) ∙ opened;
        };
      }

  pub next_is : Goes f old now c apex room base vs es newest changes → Next f old now next c apex room base vs es newest changes octets
  next_is so =
      let first = first_read f now next c octets finds so.left so.reads in
      let there : ReadsFrom f now c (first.0 ∷ first.1) = subst (λ (l : List Entry). ReadsFrom f now c l) first.2 so.reads in
      let same : finds.entry.head ≡ first.0.head = sym finds.head ∙ there.1 in
      let count = ap (λ (y : List ℕ). number y) same in
      with_first so.front so.rest so.left so.versions so.led so.newest_is so.reads so.are so.position so.version_is so.opened_is first.0 first.1 first.2 first.3 first.4 (omega (arith, finds.position, finds.next.count, there.0.count, count)) (finds.opened_is ∙ ap (λ (y : List ℕ). open_count y) same)

-- no entry is left
pub all_recovered : (f : Format) (old now : Cursor) (c : Content) (apex : Labels) (room : ℕ) (base : List Record) (vs : Versions) (es : List Entry) (newest : List Record) (changes : List Change) → IsJournalEnd f now c → Goes f old now c apex room base vs es newest changes → IsNewestRecovered old now base vs es newest changes
all_recovered f old now c apex room base vs es newest changes ends so =
    let none : so.left ≡ [] = none_is_read f now c ends so.left so.reads in
    let rest : so.rest ≡ [] = no_more so.rest (subst (λ (l : List Entry). AreChangesIn f apex room newest so.rest l) none so.are) in
    let whole : so.front ≡ vs = sym (so.versions ∙ ap (λ (l : Versions). so.front ++ l) rest ∙ append-nil so.front) in
    record {
      newest_is = so.newest_is ∙ ap (λ (l : Versions). newest_after base l) whole;
      led = subst (λ (l : Versions). AreLed base l changes) whole so.led;
      position = ap (λ (l : List Entry). place_behind now.at l) (sym none) ∙ so.position;
      version_is = ap (λ (l : List Entry). version_behind now.version l) (sym none) ∙ so.version_is;
      opened_is = ap (λ (l : List Entry). open_behind now.opened l) (sym none) ∙ so.opened_is;
    }
  where
    no_more : (vs : Versions) → AreChangesIn f apex room newest vs [] → vs ≡ []
    no_more [] are = refl
    no_more (v ∷ vs) are = absurd are

-- no sector is wrong where entries are read
pub not_refused : (f : Format) (e : ReadError) (r : OpenError) → r ≡ open_error e → (d : Content) (from until : ℕ) (cursor : Cursor) (c : Content) → NamesSpoilt f d from until e ⊎ IsRefusal f cursor c e → (es : List Entry) → ReadsFrom f cursor c es
    → (r ≡ OpenError.Device) ⊎ (r ≡ OpenError.OutOfMemory) ⊎ NamesSpoiltIn f d from until r
not_refused f ReadError.Device r is d from until cursor c refusal es reads = inl is
not_refused f (ReadError.Damaged position) r is d from until cursor c (inl spoilt) es reads = inr (inr (subst (λ (q : OpenError). NamesSpoiltIn f d from until q) (sym is) spoilt))
not_refused f (ReadError.Damaged position) r is d from until cursor c (inr refusal) es reads = absurd (refused_read f cursor c position refusal es reads)
not_refused f ReadError.OutOfMemory r is d from until cursor c refusal es reads = inr (inl is)
