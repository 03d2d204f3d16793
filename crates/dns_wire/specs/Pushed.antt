-- What becomes of a message to which a record is given.
use Rattle.std.specs.Prelude.{◌≡◌, ◌<◌, ◌≤◌, length}
use Rattle.dns_records.specs.Record.{Record}
use Rattle.dns_wire.specs.Text.{text}
use Rattle.dns_wire.specs.Building.{Building, with_record}
use Rattle.dns_wire.specs.declared.builder.Pushed.{Pushed}
use Rattle.dns_wire.specs.declared.builder.Pushed.TheVariants.{Open, Full}

-- It has the record after the others; or it is done, since with the record it is over its limit.
abbrev pub IsPushed : Building → Record → Pushed → Type 0
IsPushed b r (Open next) = next ≡ record b { reply = with_record b.reply r }
IsPushed b r (Full octets) =
    (octets.items ≡ text b.reply)
    × (length octets.items ≤ b.limit)
    × (b.limit < length (text (with_record b.reply r)))
