-- The lines that tell what was counted: keys and values, as `records=40000`.
use Rattle.std.specs.Prelude.{ℕ, Bool, true, false, List, [], ◌∷◌, ◌++◌, codes, decimal, length, slice_index}
use Rattle.std.specs.Prelude.{Option, Some, None}
use Rattle.dns_names.specs.Name.{Labels}
use Rattle.dns_names.specs.Text.{printed_name}
use Rattle.dns_zone.specs.Zone.{Zone, soas}
use Rattle.dns_changes.specs.Version.{serial_in}
use Rattle.dns_versions.specs.Held.{shown_zone}
use Rattle.dns_primary.specs.declared.fullness.Fullness.{Fullness}
use Rattle.dns_primary.specs.Fullness.{fullness_of}
use Rattle.dns_primary.specs.Machine.{ZoneState, kept_of}
use Rattle.dns_counters.specs.declared.counters.Counters.{Counters}
use Rattle.dns_counters.specs.Counters.{count_open}

-- Replies to queries by their codes, and those that were truncated.
abbrev pub query_counts : Counters → List ℕ
query_counts c =
    codes "server queries_noerror=" ++ (decimal (slice_index c.queries 0)
    ++ (codes " queries_formerr=" ++ (decimal (slice_index c.queries 1)
    ++ (codes " queries_servfail=" ++ decimal (slice_index c.queries 2)))))

abbrev pub query_refusals : Counters → List ℕ
query_refusals c =
    codes " queries_nxdomain=" ++ (decimal (slice_index c.queries 3)
    ++ (codes " queries_notimp=" ++ (decimal (slice_index c.queries 4)
    ++ (codes " queries_refused=" ++ (decimal (slice_index c.queries 5)
    ++ (codes " truncated=" ++ decimal c.truncated))))))

-- Replies to updates by their codes: those that any request may get, and those of RFC 2136.
abbrev pub update_counts : Counters → List ℕ
update_counts c =
    codes " updates_noerror=" ++ (decimal (slice_index c.updates 0)
    ++ (codes " updates_formerr=" ++ (decimal (slice_index c.updates 1)
    ++ (codes " updates_servfail=" ++ (decimal (slice_index c.updates 2)
    ++ (codes " updates_nxdomain=" ++ decimal (slice_index c.updates 3)))))))

abbrev pub update_refusals : Counters → List ℕ
update_refusals c =
    codes " updates_notimp=" ++ (decimal (slice_index c.updates 4)
    ++ (codes " updates_refused=" ++ (decimal (slice_index c.updates 5)
    ++ (codes " updates_notauth=" ++ (decimal (slice_index c.updates 9)
    ++ (codes " updates_notzone=" ++ decimal (slice_index c.updates 10)))))))

abbrev pub update_tests : Counters → List ℕ
update_tests c =
    codes " updates_yxdomain=" ++ (decimal (slice_index c.updates 6)
    ++ (codes " updates_yxrrset=" ++ (decimal (slice_index c.updates 7)
    ++ (codes " updates_nxrrset=" ++ decimal (slice_index c.updates 8)))))

-- Transfers and connections.
abbrev pub transfer_counts : Counters → List ℕ
transfer_counts c =
    codes " transfers_whole=" ++ (decimal c.whole
    ++ (codes " transfers_incremental=" ++ (decimal c.incremental
    ++ (codes " transfers_open=" ++ decimal (count_open c)))))

abbrev pub connection_counts : Counters → List ℕ
connection_counts c =
    codes " connections_opened=" ++ (decimal c.opened
    ++ (codes " connections_closed=" ++ (decimal c.closed
    ++ (codes " connections_silent=" ++ (decimal c.silent
    ++ (codes " connections_refused=" ++ (decimal c.refused ++ codes "\n")))))))

abbrev pub server_line : Counters → List ℕ
server_line c =
    (query_counts c ++ query_refusals c)
    ++ ((update_counts c ++ (update_refusals c ++ update_tests c))
    ++ (transfer_counts c ++ connection_counts c))

-- A zone as it is shown: its name, number, serial and how many records; and how full its store is.
abbrev pub zone_counts : Labels → ℕ → Zone → List ℕ
zone_counts origin version zone =
    codes "zone=" ++ printed_name origin ++ codes " version=" ++ decimal version ++ codes " serial="
    ++ decimal (serial_in (soas zone.records)) ++ codes " records=" ++ decimal (length zone.records)

abbrev pub flag : Bool → ℕ
flag true = 1
flag false = 0

abbrev pub snapshot_counts : Fullness → List ℕ
snapshot_counts f =
    codes " snapshot_taken=" ++ (decimal f.snapshot_taken
    ++ (codes " snapshot_sectors=" ++ decimal f.snapshot_sectors))

abbrev pub journal_counts : Fullness → List ℕ
journal_counts f =
    codes " journal_left=" ++ (decimal f.journal_left
    ++ (codes " journal_sectors=" ++ (decimal f.journal_sectors
    ++ (codes " closed=" ++ (decimal (flag f.is_closed) ++ codes "\n")))))

abbrev pub counts_line : Labels → ℕ → Zone → Fullness → List ℕ
counts_line origin version zone f =
    zone_counts origin version zone ++ (snapshot_counts f ++ journal_counts f)

-- The line of a zone of a machine, where there is one, and those of zones that have these names, in order.
abbrev pub zone_told : Labels → Option ZoneState → List ℕ
zone_told origin None = []
zone_told origin (Some z) =
    counts_line origin (length z.shown) (shown_zone (kept_of z)) (fullness_of (kept_of z))

abbrev pub zones_told : List Labels → List ZoneState → List ℕ
zones_told [] zones = []
zones_told (origin ∷ origins) [] = []
zones_told (origin ∷ origins) (z ∷ zones) = zone_told origin (Some z) ++ zones_told origins zones

-- The lines of the zones, and then that of the server.
abbrev pub counts_told : Counters → List Labels → List ZoneState → List ℕ
counts_told c origins zones = zones_told origins zones ++ server_line c
