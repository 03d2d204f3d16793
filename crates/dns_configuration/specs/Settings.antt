-- What a configuration says.
use Rattle.std.specs.Prelude.{◌≡◌, ◌≢◌, ◌⊎◌, ⊤, ℕ, suc, ◌<◌, ◌≤◌, ◌==◌, ◌^◌, Bool, true, false, ◌||◌, List}
use Rattle.std.specs.Prelude.{[], ◌∷◌, ◌++◌, length, Result, Ok, Err, Option, Some, None, option_and_then}
use Rattle.std.specs.Prelude.{decimal, All, AllPairs, codes, get_or, ℤ, pos, String, Vec}
use Rattle.std.specs.Global.{Global}
use Rattle.std.specs.Str.{IsUtf8}
use Rattle.toml.specs.Data.{Data, Items, Members, no_members, member, as_array, as_integer, as_str, get}
use Rattle.toml.specs.Data.{table}
use Rattle.toml.specs.View.{items_of}
use Rattle.toml.specs.Parse.{parse_document}
use Rattle.std.specs.List.{AllZip}
use Rattle.std.specs.Ordering.{is_eq}
use Rattle.std.specs.Path.{path_cmp, path_join}
use Rattle.std.specs.String.{string_bytes}
use Rattle.std.specs.Net.Socket.{socket_ip, socket_port}
use Rattle.std.specs.declared.net.ip_addr.IpAddr.{IpAddr}
use Rattle.std.specs.declared.net.ip_addr.IpAddr.TheVariants.{V4, V6}
use Rattle.std.specs.declared.net.socket_addr.SocketAddr.{SocketAddr}
use Rattle.dns_names.specs.Name.{Labels}
use Rattle.dns_names.specs.Name.{names_eq}
use Rattle.dns_names.specs.Text.{name_of_text}
use Rattle.dns_policy.specs.Address.{IsAddress}
use Rattle.dns_policy.specs.Prefix.{IsPrefix}
use Rattle.dns_configuration.specs.declared.configuration.ZoneSettings.{ZoneSettings}
use Rattle.dns_configuration.specs.declared.configuration.Configuration.{Configuration}
use Rattle.dns_configuration.specs.declared.configuration.ConfigurationError.{ConfigurationError}
use Rattle.dns_configuration.specs.declared.configuration.ConfigurationError.TheVariants.{OutOfMemory}
use Rattle.dns_configuration.specs.declared.configuration.ConfigurationError.TheVariants.{BadConfig}

-- A port in text: from 1 to 65,535, without leading zeros.
abbrev pub IsPort : List ℕ → ℕ → Type 0
IsPort text n = (0 < n) × (n < 2 ^ 16) × (text ≡ decimal n)

-- An IPv4 address, or an IPv6 address between brackets.
abbrev pub IsHost : List ℕ → IpAddr → Type 0
IsHost text (V4 a) = IsAddress text (V4 a)
IsHost text (V6 a) = (inner : List ℕ) × (text ≡ 91 ∷ inner ++ 93 ∷ []) × IsAddress inner (V6 a)

-- An address, a colon, a port.
pub record IsSocketAddress (text : List ℕ) (a : SocketAddr) : Type 0 where
  pub host : List ℕ
  pub port : List ℕ
  pub spelled : text ≡ host ++ 58 ∷ port
  pub host_is : IsHost host (socket_ip a)
  pub port_is : IsPort port (socket_port a)

-- The last colon of a text parts an address and a port.
abbrev pub HasNone : ℕ → List ℕ → Type 0
HasNone octet text = (i : ℕ) → i < length text → get_or text i 0 ≢ octet

abbrev pub IsLastParted : ℕ → List ℕ → List ℕ × List ℕ → Type 0
IsLastParted octet text parts = (text ≡ parts.0 ++ octet ∷ parts.1) × HasNone octet parts.1

-- The counts of a zone are within their bounds: sectors of a snapshot and of the journal, versions that are
-- kept.
pub record AreCounts (sectors entries versions : ℕ) : Type 0 where
  pub snapshot : (1 ≤ sectors) × (sectors ≤ 65536)
  pub journal : (8 ≤ entries) × (entries ≤ 65536)
  pub keep : versions ≤ 65536

abbrev pub HasCounts : ZoneSettings → Type 0
HasCounts z = AreCounts z.snapshot_sectors z.journal_sectors z.keep

-- Two paths are one: joined to `.`, they have the same components.
abbrev pub is_same_path : List ℕ → List ℕ → Bool
is_same_path path other = is_eq (path_cmp (path_join (codes ".") path) (path_join (codes ".") other))

-- Two zones have one apex or one device.
abbrev pub are_alike : ZoneSettings → ZoneSettings → Bool
are_alike z other =
    names_eq z.origin other.origin || is_same_path (string_bytes z.device) (string_bytes other.device)

abbrev pub AreApart : ZoneSettings → ZoneSettings → Type 0
AreApart z other = are_alike z other ≡ false

-- A server can listen there.
abbrev pub HasPort : SocketAddr → Type 0
HasPort a = 0 < socket_port a

-- What a server may hold: it listens on 1 to 8 addresses, each with a port, and has 1 to 16 zones, each with
-- its counts, no two with one apex or one device.
pub record IsConfiguration (c : Configuration) : Type 0 where
  pub listens : All HasPort c.listen.items
  pub somewhere : 0 < length c.listen.items
  pub at_few : length c.listen.items ≤ 8
  pub some : 0 < length c.zones.items
  pub few : length c.zones.items ≤ 16
  pub counts : All HasCounts c.zones.items
  pub apart : AllPairs AreApart c.zones.items

-- How many keys a table has.
abbrev pub key_count : Members → ℕ
key_count no_members = 0
key_count (member key d ms) = suc (key_count ms)

abbrev pub has_keys : ℕ → Data → Bool
has_keys n (table ms) = key_count ms == n
has_keys n _ = false

-- What is read is such a thing; where nothing is, there is no such thing.
abbrev pub FindsIfAny : {A : Type 0} → (A → Type 0) → Option A → Type 0
FindsIfAny {A} P None = (x : A) → ¬ (P x)
FindsIfAny P (Some x) = P x

abbrev pub ReadsOrFails : {A : Type 0} → (A → Type 0) → Result A ConfigurationError → Type 0
ReadsOrFails P (Ok x) = P x
ReadsOrFails P (Err OutOfMemory) = ⊤
ReadsOrFails {A} P (Err BadConfig) = (x : A) → ¬ (P x)

-- The values at the keys of a table.
abbrev pub text_at : List ℕ → Data → Option (List ℕ)
text_at key d = option_and_then as_str (get key d)

abbrev pub number_at : List ℕ → Data → Option ℤ
number_at key d = option_and_then as_integer (get key d)

abbrev pub list_at : List ℕ → Data → Option Items
list_at key d = option_and_then as_array (get key d)

-- The value is the text of a prefix, and each is.
abbrev pub HasPrefix : Data → IpAddr × ℕ → Type 0
HasPrefix d prefix = (text : List ℕ) × (as_str d ≡ Some text) × IsPrefix text prefix

abbrev pub ArePrefixes : List Data → List (IpAddr × ℕ) → Type 0
ArePrefixes texts prefixes = AllZip HasPrefix texts prefixes

-- The table has, at the key, the texts of the prefixes.
pub record HasPrefixes (key : List ℕ) (d : Data) (prefixes : Vec (IpAddr × ℕ) Global) : Type 0 where
  pub texts : List Data
  pub stand : list_at key d ≡ Some (items_of texts)
  pub are : ArePrefixes texts prefixes.items

-- The value is the text of an address and a port, and each of 1 to 8 is.
abbrev pub HasAddress : Data → SocketAddr → Type 0
HasAddress d a = (text : List ℕ) × (as_str d ≡ Some text) × IsSocketAddress text a

pub record AreAddresses (texts : List Data) (addresses : List SocketAddr) : Type 0 where
  pub each : AllZip HasAddress texts addresses
  pub some : 0 < length addresses
  pub few : length addresses ≤ 8

-- The table has, at the key, the text of the only address, or a list of 1 to 8 texts, in the order of the
-- addresses.
abbrev pub HasAddresses : List ℕ → Data → Vec SocketAddr Global → Type 0
HasAddresses key d addresses =
    ((text : List ℕ) × (text_at key d ≡ Some text) × AllZip IsSocketAddress (text ∷ []) addresses.items)
    ⊎ ((texts : List Data) × (list_at key d ≡ Some (items_of texts)) × AreAddresses texts addresses.items)

-- The table has, at the key, a path; a number from low to high; the text of a name.
abbrev pub HasPath : List ℕ → Data → String Global → Type 0
HasPath key d path = text_at key d ≡ Some (string_bytes path)

abbrev pub HasCount : List ℕ → Data → ℕ → ℕ → ℕ → Type 0
HasCount key d low high n = (number_at key d ≡ Some (pos n)) × (low ≤ n) × (n ≤ high)

pub record HasName (key : List ℕ) (d : Data) (name : Labels) : Type 0 where
  pub text : List ℕ
  pub stands : text_at key d ≡ Some text
  pub is : name_of_text [] text ≡ Ok name

-- The table describes the settings of a zone, each by its own key, and has no other key.
pub record IsSettings (d : Data) (z : ZoneSettings) : Type 0 where
  pub keys : has_keys 8 d ≡ true
  pub origin : HasName (codes "origin") d z.origin
  pub file : text_at (codes "file") d ≡ Some (string_bytes z.file)
  pub device : text_at (codes "device") d ≡ Some (string_bytes z.device)
  pub snapshot : number_at (codes "snapshot_sectors") d ≡ Some (pos z.snapshot_sectors)
  pub journal : number_at (codes "journal_sectors") d ≡ Some (pos z.journal_sectors)
  pub keep : number_at (codes "keep") d ≡ Some (pos z.keep)
  pub counts : HasCounts z
  pub update : HasPrefixes (codes "update") d z.update
  pub transfer : HasPrefixes (codes "transfer") d z.transfer

pub record AreSettings (tables : List Data) (zs : List ZoneSettings) : Type 0 where
  pub each : AllZip IsSettings tables zs
  pub few : length zs ≤ 16
  pub apart : AllPairs AreApart zs

-- The document describes the configuration, and has no other key.
pub record Describes (d : Data) (c : Configuration) : Type 0 where
  pub keys : has_keys 2 d ≡ true
  pub listen : HasAddresses (codes "listen") d c.listen
  pub zones : (tables : List Data) × (list_at (codes "zone") d ≡ Some (items_of tables))
      × AreSettings tables c.zones.items
  pub some : 0 < length c.zones.items

-- The octets are the text of a TOML document that describes it.
abbrev pub IsDescribedBy : List ℕ → Configuration → Type 0
IsDescribedBy octets c =
    (ms : Members) × IsUtf8 octets × (parse_document octets ≡ Some ms) × Describes (table ms) c
