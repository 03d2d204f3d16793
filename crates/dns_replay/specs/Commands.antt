-- The commands of a script, and what lines say them.
use Rattle.std.specs.Prelude.{◌≡◌, ◌^◌, ◌<◌, ◌≤◌, ◌==◌, ℕ, Bool, false, List, [], ◌∷◌, length, map, Ok, Some}
use Rattle.std.specs.Prelude.{MatchOption, Option, codes, if◌then◌else◌}
use Rattle.std.specs.declared.net.ip_addr.IpAddr.{IpAddr}
use Rattle.hex.specs.Hex.{decode_of}
use Rattle.dns_policy.specs.Address.{IsAddress}
use Rattle.dns_names.specs.Name.{Labels}
use Rattle.dns_masterfile.specs.Text.{number_of_text}
use Rattle.dns_replay.specs.declared.command.Command as code
use Rattle.dns_replay.specs.declared.command.Command.TheVariants as code_command
use Rattle.dns_replay.specs.declared.keeps.ZoneKeep.{ZoneKeep as CodeZoneKeep}
use Rattle.dns_replay.specs.declared.keeps.Keep.{Keep as CodeKeep}
use Rattle.dns_replay.specs.declared.keeps.Keep.TheVariants as code_keep
use Rattle.dns_replay.specs.Keeps.{Keep, All, These, ZoneKeep, keeps_of, place_named}
use Rattle.dns_replay.specs.Lines.{words}

pub data Command : Type 0 where
  Nothing : Command
  Datagram : IpAddr → List ℕ → Command
  Connect : IpAddr → Command
  Message : ℕ → List ℕ → Command
  Pump : ℕ → Command
  Close : ℕ → Command
  Flush : Command
  Checkpoint : ℕ → Command
  Fail : ℕ → Command
  Stop : ℕ → Command
  Crash : List ZoneKeep → Command
  Reopen : ℕ → List ZoneKeep → Command

-- The text says 1 to 65,535 octets.
pub record HasOctets (hex octets : List ℕ) : Type 0 where
  pub decoded : decode_of hex ≡ Ok octets
  pub some : 0 < length octets
  pub few : length octets ≤ 65535

-- A decimal number below 2^32.
abbrev pub IsNumber : List ℕ → ℕ → Type 0
IsNumber text n = number_of_text (2 ^ 32) text ≡ Some n

-- ... from 1 on.
pub record IsCount (text : List ℕ) (n : ℕ) : Type 0 where
  pub number : IsNumber text n
  pub some : 0 < n

-- A blank line or a comment; `udp ADDR HEX`, `connect ADDR`, `tcp N HEX`, `pump N`, `close N`, `flush`,
-- `checkpoint ORIGIN`, `fail N`, `stop N`, `crash [ORIGIN=LIST ..]`, `reopen N [ORIGIN=LIST ..]`, each ORIGIN
-- the name of one of these zones.
abbrev pub AreWordsOf : List Labels → List (List ℕ) → Command → Type 0
AreWordsOf origins line Nothing = line ≡ []
AreWordsOf origins line (Datagram peer octets) =
    (address hex : List ℕ) × (line ≡ codes "udp" ∷ address ∷ hex ∷ []) × IsAddress address peer
    × HasOctets hex octets
AreWordsOf origins line (Connect peer) =
    (address : List ℕ) × (line ≡ codes "connect" ∷ address ∷ []) × IsAddress address peer
AreWordsOf origins line (Message number octets) =
    (digits hex : List ℕ) × (line ≡ codes "tcp" ∷ digits ∷ hex ∷ []) × IsNumber digits number
    × HasOctets hex octets
AreWordsOf origins line (Pump number) =
    (digits : List ℕ) × (line ≡ codes "pump" ∷ digits ∷ []) × IsNumber digits number
AreWordsOf origins line (Close number) =
    (digits : List ℕ) × (line ≡ codes "close" ∷ digits ∷ []) × IsNumber digits number
AreWordsOf origins line Flush = line ≡ codes "flush" ∷ []
AreWordsOf origins line (Checkpoint zone) =
    (origin : List ℕ) × (line ≡ codes "checkpoint" ∷ origin ∷ []) × (place_named origins origin ≡ Some zone)
AreWordsOf origins line (Fail n) = (digits : List ℕ) × (line ≡ codes "fail" ∷ digits ∷ []) × IsCount digits n
AreWordsOf origins line (Stop n) = (digits : List ℕ) × (line ≡ codes "stop" ∷ digits ∷ []) × IsCount digits n
AreWordsOf origins line (Crash keeps) =
    (rest : List (List ℕ)) × (line ≡ codes "crash" ∷ rest) × (keeps_of origins rest ≡ Some keeps)
AreWordsOf origins line (Reopen n keeps) =
    (digits : List ℕ)
    × (rest : List (List ℕ))
    × (line ≡ codes "reopen" ∷ digits ∷ rest)
    × IsCount digits n
    × (keeps_of origins rest ≡ Some keeps)

-- A line that begins with `#` is a comment.
abbrev pub is_comment : List ℕ → Bool
is_comment [] = false
is_comment (c ∷ rest) = c == 35

abbrev pub spoken : List ℕ → List (List ℕ)
spoken line = if is_comment line then [] else words line

abbrev pub SaysCommand : List Labels → List ℕ → Command → Type 0
SaysCommand origins line c = AreWordsOf origins (spoken line) c

-- What the code reads.
abbrev pub said_keep : CodeKeep → Keep
said_keep code_keep.All = All
said_keep (code_keep.These numbers) = These numbers.items

abbrev pub said_zone_keep : CodeZoneKeep → ZoneKeep
said_zone_keep k = record { zone = k.zone; keep = said_keep k.keep }

abbrev pub said_command : code.Command → Command
said_command code_command.Nothing = Nothing
said_command (code_command.Datagram peer octets) = Datagram peer octets.items
said_command (code_command.Connect peer) = Connect peer
said_command (code_command.Message number octets) = Message number octets.items
said_command (code_command.Pump number) = Pump number
said_command (code_command.Close number) = Close number
said_command code_command.Flush = Flush
said_command (code_command.Checkpoint zone) = Checkpoint zone
said_command (code_command.Fail n) = Fail n
said_command (code_command.Stop n) = Stop n
said_command (code_command.Crash keeps) = Crash (map said_zone_keep keeps.items)
said_command (code_command.Reopen n keeps) = Reopen n (map said_zone_keep keeps.items)

-- The code reads these words of a line as the command that they say, and as none where they say none.
abbrev pub IsReadAs : List Labels → List (List ℕ) → Option code.Command → Type 0
IsReadAs origins line read =
    MatchOption read ((c : Command) → ¬ (AreWordsOf origins line c))
    (λ c. AreWordsOf origins line (said_command c))
