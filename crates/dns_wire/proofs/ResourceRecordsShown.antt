-- Records that are walked where they are.
use Rattle.std.proofs.Common.{◌≡◌, ◌≢◌, ℕ, ◌+◌, ◌-◌, ◌≤◌, List, [], ◌∷◌, length, Option, Some, None, refl, sym, ap, subst, ◌∙◌, arith}
use Rattle.std.specs.Prelude.{slice_range}
use Rattle.dns_names.specs.Name.{Labels}
use Rattle.dns_records.specs.Record.{number_of}
use Rattle.dns_wire.specs.Message.{ResourceRecord, Received}
use Rattle.dns_wire.specs.NameAt.{FullNameAt}
use Rattle.dns_wire.specs.Reads.{NumberAt, RDataAt, ResourceRecordAt, ResourceRecordsAt}
use Rattle.dns_wire.specs.Reading.{rdata_at, items_at}
use Rattle.dns_wire.specs.Received.{received}
use Rattle.dns_wire.specs.Viewed.{labels_at, data_shown, item_shown, items_left, AreResourceRecordsLeft}
use Rattle.dns_wire.proofs.Ends.{number_once, data_inside}
use Rattle.dns_wire.proofs.ResourceRecords.{rdata_is}
use Rattle.dns_wire.proofs.Lists.{items_are}
use Rattle.dns_wire.proofs.NameRead.{name_unique, viewed}

-- what a view shows is the record that is there
pub data_read : (m : List ℕ) (mid rtype size : ℕ) (plain : List ℕ) → rtype ≡ number_of (slice_range m mid (mid + 2)) → size ≡ number_of (slice_range m (mid + 8) (mid + 8 + 2)) → RDataAt m (mid + 10) rtype size plain → data_shown m mid ≡ plain
unfolding data_shown
data_read m mid rtype size plain typed counted h =
    ap (λ (o : Option (List ℕ)). elim o [ None ↦ [] | Some plain ↦ plain ])
    (ap (λ (t : ℕ). rdata_at t (number_of (slice_range m (mid + 8) (mid + 8 + 2))) m (mid + 10)) (sym typed) ∙ ap (λ (n : ℕ). rdata_at rtype n m (mid + 10)) (sym counted) ∙ rdata_is m (mid + 10) rtype size plain h)

data_is : (m : List ℕ) (at : ℕ) (r : ResourceRecord) (stop : ℕ) (h : ResourceRecordAt m at r stop) → data_shown m h.mid ≡ r.rdata
data_is m at r stop h = data_read m h.mid r.rtype h.rdlength r.rdata h.rtype.read h.counted.read h.rdata

-- the parts of what a view shows
pub shown_parts : (m : List ℕ) (at mid : ℕ) (owner : Labels) (rtype class ttl : ℕ) (rdata : List ℕ)
    → owner ≡ labels_at m at → rtype ≡ number_of (slice_range m mid (mid + 2)) → class ≡ number_of (slice_range m (mid + 2) (mid + 2 + 2)) → ttl ≡ number_of (slice_range m (mid + 4) (mid + 4 + 4)) → rdata ≡ data_shown m mid
    → item_shown m at mid ≡ record { owner = owner; rtype = rtype; class = class; ttl = ttl; rdata = rdata }
shown_parts m at mid owner rtype class ttl rdata named typed classed lived held =
    ap (λ (n : Labels). record { owner = n; rtype = number_of (slice_range m mid (mid + 2)); class = number_of (slice_range m (mid + 2) (mid + 2 + 2)); ttl = number_of (slice_range m (mid + 4) (mid + 4 + 4)); rdata = data_shown m mid }) (sym named)
    ∙ ap (λ (t : ℕ). record { owner = owner; rtype = t; class = number_of (slice_range m (mid + 2) (mid + 2 + 2)); ttl = number_of (slice_range m (mid + 4) (mid + 4 + 4)); rdata = data_shown m mid }) (sym typed)
    ∙ ap (λ (c : ℕ). record { owner = owner; rtype = rtype; class = c; ttl = number_of (slice_range m (mid + 4) (mid + 4 + 4)); rdata = data_shown m mid }) (sym classed)
    ∙ ap (λ (t : ℕ). record { owner = owner; rtype = rtype; class = class; ttl = t; rdata = data_shown m mid }) (sym lived)
    ∙ ap (λ (d : List ℕ). record { owner = owner; rtype = rtype; class = class; ttl = ttl; rdata = d }) (sym held)

pub item_is_shown : (m : List ℕ) (at : ℕ) (r : ResourceRecord) (stop : ℕ) (h : ResourceRecordAt m at r stop) → item_shown m at h.mid ≡ r
item_is_shown m at r stop h =
    shown_parts m at h.mid r.owner r.rtype r.class r.ttl r.rdata (sym (viewed m at r.owner h.mid h.owner)) h.rtype.read h.class.read h.ttl.read (sym (data_is m at r stop h))

pub left_is : (m : List ℕ) (at n : ℕ) (h : AreResourceRecordsLeft m at n) → items_left m at n ≡ h.items
unfolding items_left
left_is m at n h =
    ap (λ (o : Option _). elim o [ None ↦ [] | Some found ↦ found.0 ]) (ap (λ (k : ℕ). items_at k m at) (sym h.count) ∙ items_are m at h.items h.stop h.stand)

pub none_left : (rs : List ResourceRecord) → length rs ≡ 0 → rs ≡ []
none_left [] e = refl
none_left (r ∷ rs) e = absurd (omega (arith, e))

-- the next record and those after it
pub record NextItem (m : List ℕ) (at n : ℕ) (items : List ResourceRecord) : Type 0 where
  pub item : ResourceRecord
  pub rest : List ResourceRecord
  pub is : items ≡ item ∷ rest
  pub mid : ℕ
  pub stands : ResourceRecordAt m at item mid
  pub behind : AreResourceRecordsLeft m mid (n - 1)
  pub left : behind.items ≡ rest

pub item_within : (m : List ℕ) (at : ℕ) (r : ResourceRecord) (stop : ℕ) → ResourceRecordAt m at r stop → stop ≤ length m
item_within m at r stop h =
    let counted : h.mid + 8 + 2 ≤ length m = h.counted.inside in
    let last : stop ≡ h.mid + 10 + h.rdlength = h.last in
    omega (arith, last, data_inside m (h.mid + 10) r.rtype h.rdlength r.rdata (omega arith) h.rdata)

pub next_item : (m : List ℕ) (at n : ℕ) (h : AreResourceRecordsLeft m at n) → n ≢ 0 → NextItem m at n h.items
next_item m at n h some = go h.items h.count h.stand
  where
    go : (items : List ResourceRecord) → length items ≡ n → ResourceRecordsAt m at items h.stop → NextItem m at n items
    go [] e stand = absurd (some (sym e))
    go (r ∷ rs) e (mid, first, behind) = record {
      item = r;
      rest = rs;
      is = refl;
      mid = mid;
      stands = first;
      behind = record { items = rs; stop = h.stop; stand = behind; count = omega (arith, e); inside = item_within m at r mid first };
      left = refl;
    }

-- where the next record ends
pub record NextEnd (m : List ℕ) (at owner size : ℕ) (r : ResourceRecord) (mid : ℕ) (h : ResourceRecordAt m at r mid) : Type 0 where
  pub position : h.mid ≡ owner
  pub end : mid ≡ owner + 10 + size

pub owner_place : (m : List ℕ) (at : ℕ) (r : ResourceRecord) (mid : ℕ) (h : ResourceRecordAt m at r mid) (name : Labels) (owner : ℕ) → FullNameAt m at name owner → h.mid ≡ owner
owner_place m at r mid h name owner k = sym (name_unique m at name r.owner owner h.mid k h.owner).1

pub next_end : (m : List ℕ) (at : ℕ) (r : ResourceRecord) (mid : ℕ) (h : ResourceRecordAt m at r mid) (name : Labels) (owner size : ℕ) → FullNameAt m at name owner → NumberAt m (owner + 8) 2 size → NextEnd m at owner size r mid h
next_end m at r mid h name owner size k c =
    let position = owner_place m at r mid h name owner k in
    let counted : h.rdlength ≡ size = number_once m (owner + 8) 2 h.rdlength size (subst (λ (x : ℕ). NumberAt m (x + 8) 2 h.rdlength) position h.counted) c in
    record { position = position; end = h.last ∙ ap (λ (x : ℕ). x + 10 + h.rdlength) position ∙ ap (λ (x : ℕ). owner + 10 + x) counted }

pub items_within : (m : List ℕ) (at : ℕ) (rs : List ResourceRecord) (stop : ℕ) → at ≤ length m → ResourceRecordsAt m at rs stop → stop ≤ length m
items_within m at [] stop here e = omega arith
items_within m at (r ∷ rs) stop here (mid, first, behind) = items_within m mid rs stop (item_within m at r mid first) behind

-- a section, as its header counts it
abbrev pub section : (m : List ℕ) (position at n : ℕ) (rs : List ResourceRecord) (stop : ℕ) → at ≤ length m → ResourceRecordsAt m at rs stop → NumberAt m position 2 (length rs) → NumberAt m position 2 n → AreResourceRecordsLeft m at n
section m position at n rs stop here stand counted number = record { items = rs; stop = stop; stand = stand; count = number_once m position 2 (length rs) n counted number; inside = here }

pub message_of_view : (m : List ℕ) (r : Received) → received m ≡ r → (received m).message ≡ r.message
message_of_view m r e = ap (λ (x : Received). x.message) e
