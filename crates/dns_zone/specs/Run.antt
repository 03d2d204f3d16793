-- What calls of an index reply, and the set that they leave.
use Rattle.std.specs.Prelude.{List, [], ◌∷◌, drop, Some, None, if◌then◌else◌}
use Rattle.dns_names.specs.Name.{Labels}
use Rattle.dns_records.specs.Record.{Record}
use Rattle.dns_zone.specs.Records.{put, without, others, records_at, rrset, exists, next_after, has, united}
use Rattle.dns_zone.specs.Zone.{Zone}
use Rattle.dns_zone.specs.Node.{cut, encloser, source}
use Rattle.dns_zone.specs.declared.laws.Command.{Command}
use Rattle.dns_zone.specs.declared.laws.Command.TheVariants.{RecordsAt, Rrset, Exists, Insert, Remove, Clear}
use Rattle.dns_zone.specs.declared.laws.Command.TheVariants.{Alone, Walk, From, Match, Fork}
use Rattle.dns_zone.specs.declared.laws.Reply.{Reply}
use Rattle.dns_zone.specs.declared.laws.Reply.TheVariants.{Held, Found, Next, Cut, Owner, Wildcard, Nothing}
use Rattle.dns_zone.specs.declared.laws.Reply.TheVariants.{Done}

-- The set after a call. What is put into the source of a fork isn't in the fork.
abbrev pub set_after : List Record → Command → List Record
set_after set (RecordsAt name) = set
set_after set (Rrset name rtype) = set
set_after set (Exists name) = set
set_after set (Insert r) = put r set
set_after set (Remove r) = without r set
set_after set (Clear name) = others set name
set_after set (Alone name rtype) = united (others set name) (rrset set name rtype)
set_after set (Walk after) = set
set_after set (From position) = set
set_after set (Match apex name) = set
set_after set (Fork r) = set

-- What is replied of a name in a zone (RFC 1034 4.3.2, step 3): a cut comes before all else, and the name
-- before a wildcard.
abbrev pub matched : Zone → Labels → Reply
matched z name = elim (cut z name) [
  | Some at ↦ Cut at (records_at z.records at)
  | None ↦
      if exists z.records name then Owner (records_at z.records name)
      else if exists z.records (source z.records name) then Wildcard (encloser z.records name)
      (records_at z.records (source z.records name))
      else Nothing
]

-- What a call replies.
abbrev pub reply_of : List Record → Command → Reply
reply_of set (RecordsAt name) = Held (records_at set name)
reply_of set (Rrset name rtype) = Held (rrset set name rtype)
reply_of set (Exists name) = Found (exists set name)
reply_of set (Insert r) = Done
reply_of set (Remove r) = Found (has r set)
reply_of set (Clear name) = Done
reply_of set (Alone name rtype) = Done
reply_of set (Walk after) = Next (next_after after set)
reply_of set (From position) = Held (drop position set)
reply_of set (Match apex name) = matched (record { apex = apex; records = set }) name
reply_of set (Fork r) = Held (records_at (put r set) r.owner)

-- What the calls reply, each upon the set that those before it left.
abbrev pub replies_of : List Record → List Command → List Reply
replies_of set [] = []
replies_of set (call ∷ rest) = reply_of set call ∷ replies_of (set_after set call) rest

-- The set after all of them.
abbrev pub set_left : List Record → List Command → List Record
set_left set [] = set
set_left set (call ∷ rest) = set_left (set_after set call) rest
