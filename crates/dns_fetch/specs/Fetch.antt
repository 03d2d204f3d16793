-- How a run that takes a zone in from another server ends.
use Rattle.std.specs.Prelude.{◌≡◌, ◌⊎◌, ◌≤◌, ℕ, Bool, List, [], Option, Some, None, Ok, Err}
use Rattle.std.specs.Option.{option_copied}
use Rattle.std.specs.Io.KnownBytes.{Appends, Keeps}
use Rattle.dns_configuration.specs.Settings.{IsSocketAddress}
use Rattle.std.specs.declared.net.socket_addr.SocketAddr.{SocketAddr}
use Rattle.dns_names.specs.Name.{Labels}
use Rattle.dns_names.specs.Text.{name_of_text}
use Rattle.dns_names.specs.declared.NameError.{NameError}
use Rattle.dns_records.specs.Record.{Record}
use Rattle.dns_zone.specs.Made.{IsSetOf}
use Rattle.dns_zone.specs.Zone.{Zone}
use Rattle.dns_masterfile.specs.Printed.{printed_zone}
use Rattle.dns_network.specs.declared.stream.Stream.{Ghosts}
use Rattle.dns_secondary.specs.declared.fault.Fault as answer
use Rattle.dns_configuration.specs.Calls.{Calls}
use Rattle.dns_configuration.specs.declared.files.File.{File}
use Rattle.dns_configuration.specs.declared.files.Fault.{Fault}
use Rattle.dns_configuration.specs.declared.files.Fault.TheVariants.{BadOrigin}
use Rattle.dns_configuration.specs.Faults.{fault_text, line, loaded}
use Rattle.dns_fetch.specs.Connecting.{ConnectCall, ConnectsOnce, IsStreamOf}
use Rattle.dns_fetch.specs.FetchFaults.{ComesOfAsking, fetch_text}
use Rattle.dns_fetch.specs.TakingIn.{IsRefusedFrom, IsTakenFrom}
use Rattle.dns_fetch.specs.declared.command.FetchRequest.{FetchRequest}
use Rattle.dns_fetch.specs.declared.fetch_faults.FetchFault.{FetchFault}
use Rattle.dns_fetch.specs.declared.fetch_faults.FetchFault.TheVariants.{BadAddress, Refused}

-- The version that a file holds, if there is a file.
abbrev pub IsHeldIn : Option File → Labels → Option Zone → Type 0
IsHeldIn None apex held = held ≡ None
IsHeldIn (Some file) apex held =
    (records : List Record) × (z : Zone)
    × (loaded (option_copied file.octets) apex ≡ Ok records) × (z.apex ≡ apex) × IsSetOf records z.records
    × (held ≡ Some z)

-- What is asked for: the zone of the apex that the word names, and what is held of it, at the address that
-- the other word is.
pub record IsAskedFor (server origin : List ℕ) (since : Option File) (address : SocketAddr) (apex : Labels)
    (held : Option Zone) : Type 0 where
  pub address_is : IsSocketAddress server address
  pub named : name_of_text [] origin ≡ Ok apex
  pub from : IsHeldIn since apex held

-- Why nothing is asked for, and the text that says so: the word is no address; or the origin is no name; or
-- the file holds no zone of it.
abbrev pub IsNotAsked : List ℕ → List ℕ → Option File → Bool → List ℕ → Type 0
IsNotAsked server origin since explain text =
    (((address : SocketAddr) → IsSocketAddress server address → ⊥)
    × (text ≡ fetch_text server BadAddress explain))
    ⊎ ((e : NameError) × (name_of_text [] origin ≡ Err e) × (text ≡ fault_text origin BadOrigin))
    ⊎ ((file : File) × (apex : Labels) × (fault : Fault) × (since ≡ Some file)
    × (name_of_text [] origin ≡ Ok apex) × (loaded (option_copied file.octets) apex ≡ Err fault)
    × (text ≡ fault_text file.path.now fault))

module _ {S : Type 0} (g : Ghosts S) (reached : SocketAddr → S → Type 0) (server origin : List ℕ)
    (since : Option File) where
  -- A zone that was taken in on a stream to the server.
  pub record IsFetched (zone : List Record) : Type 0 where
    pub address : SocketAddr
    pub apex : Labels
    pub held : Option Zone
    pub asked : IsAskedFor server origin since address apex held
    pub taken : IsTakenFrom g (reached address) apex held zone

  -- The fault for which its answer was refused.
  pub record IsFetchRefused (fault : answer.Fault) : Type 0 where
    pub address : SocketAddr
    pub apex : Labels
    pub held : Option Zone
    pub asked : IsAskedFor server origin since address apex held
    pub refused : IsRefusedFrom g (reached address) apex held fault

-- How a run of `fetch` ends. With status 3 the server can't be reached or doesn't answer to the end, a writer
-- failed or memory was refused.
pub record FetchEnds {S : Type 0} (g : Ghosts S) (reached : SocketAddr → S → Type 0) (server origin : List ℕ)
    (since : Option File) (explain : Bool) (out out_after err err_after : Option (List ℕ)) (status : ℕ)
    : Type 0 where
  pub done : status ≡ 0
      → (zone : List Record) × IsFetched g reached server origin since zone
      × Appends out out_after (printed_zone zone) × Keeps err err_after
  pub refused : status ≡ 1
      → (text : List ℕ) × Appends err err_after (line text) × Keeps out out_after
      × (IsNotAsked server origin since explain text
      ⊎ ((fault : answer.Fault) × IsFetchRefused g reached server origin since fault
      × (text ≡ fetch_text server (Refused fault) explain)))
  pub others : status ≤ 1 ⊎ (status ≡ 3)

module _ {S : Type 0} (g : Ghosts S) (calls : List (ConnectCall S)) (address : SocketAddr) (apex : Labels)
    (held : Option Zone) where
  -- A zone was taken in on the stream that came of the one call, to this address.
  abbrev pub IsTakenAt : Option Zone → Type 0
  IsTakenAt taken =
      (zone : Zone) × (taken ≡ Some zone)
      × IsTakenFrom g (IsStreamOf calls address) apex held zone.records

  -- None was, for this fault, which comes of asking there.
  abbrev pub IsNotTakenAt : FetchFault → Type 0
  IsNotTakenAt fault = ComesOfAsking fault (IsRefusedFrom g (IsStreamOf calls address) apex held)

-- What streams of a kind say of themselves.
abbrev pub StreamGhosts : Type 0 → Type 1
StreamGhosts S = Ghosts S

-- So a run of `fetch` ends, where these are the connections that were asked for before and after it: none by
-- it, or the server's, once.
abbrev pub FetchingEnds : {S : Type 0} → Ghosts S → Option (List (ConnectCall S))
    → Option (List (ConnectCall S)) → List ℕ → List ℕ → Option File → Bool → Option (List ℕ)
    → Option (List ℕ) → Option (List ℕ) → Option (List ℕ) → ℕ → Type 0
FetchingEnds g before after server origin since explain out out_after err err_after status =
    Calls before after
    (λ calls. ConnectsOnce server calls
    × FetchEnds g (IsStreamOf calls) server origin since explain out out_after err err_after status)

-- The same by what is asked for.
abbrev pub RequestEnds : {S : Type 0} → Ghosts S → Option (List (ConnectCall S))
    → Option (List (ConnectCall S)) → FetchRequest → Option (List ℕ) → Option (List ℕ) → Option (List ℕ)
    → Option (List ℕ) → ℕ → Type 0
RequestEnds g before after asked out out_after err err_after status =
    FetchingEnds g before after asked.server.now asked.origin.now (option_copied asked.since) asked.explain
    out out_after err err_after status
