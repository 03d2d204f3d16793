-- Addresses that a server listens on, as a document has them.
use Rattle.std.proofs.Common.{◌≡◌, ℕ, zero, suc, ◌<◌, inl, inr, List, [], ◌∷◌, length, Ok, Err, Result, Option, Some, None, Vec, refl, sym, ap, subst, arith}
use Rattle.std.specs.Prelude.{◌≤◌, map, All, option_and_then}
use Rattle.std.specs.Global.{Global}
use Rattle.std.specs.List.{AllZip}
use Rattle.std.specs.Net.Socket.{socket_port}
use Rattle.std.specs.declared.net.socket_addr.SocketAddr.{SocketAddr}
use Rattle.toml.specs.Data.{Data, Items, as_array, as_str, get, string, integer, float, boolean, datetime, array, table}
use Rattle.toml.specs.View.{items_of, items_view, view}
use Rattle.toml.specs.declared.value.Value.{Value}
use Rattle.dns_configuration.specs.Settings.{AreAddresses, HasAddress, HasAddresses, HasPort, IsSocketAddress, ReadsOrFails, list_at, text_at}
use Rattle.dns_configuration.specs.declared.configuration.ConfigurationError.{ConfigurationError}
use Rattle.dns_configuration.specs.declared.configuration.ConfigurationError.TheVariants.{OutOfMemory, BadConfig}
use Rattle.dns_configuration.proofs.Unread.{same_items, zip_length}

-- What is no text, or the text of no address, is no address.
pub no_text_there : (d : Data) (a : SocketAddr) → None ≡ as_str d → HasAddress d a → ⊥
no_text_there d a e h = (let there = h.1 in absurd cc)

pub no_address_there : (d : Data) (text : List ℕ) (a : SocketAddr) → Some text ≡ as_str d → ((a : SocketAddr) → IsSocketAddress text a → ⊥) → HasAddress d a → ⊥
no_address_there d text a e none h = none a (subst (λ (t : List ℕ). IsSocketAddress t a) (one h.0 h.1) h.2)
  where
    one : (t : List ℕ) → as_str d ≡ Some t → t ≡ text
    one t there = cc

-- No list of another length is one of addresses.
pub not_empty : (texts : List Value) (found : List SocketAddr) → length texts ≡ 0 → AreAddresses (map view texts) found → ⊥
not_empty texts found none h = (let long = zip_length view HasAddress texts found h.each in let some = h.some in omega (arith, none, long, some))

pub not_many : (texts : List Value) (found : List SocketAddr) → 8 < length texts → AreAddresses (map view texts) found → ⊥
not_many texts found many h = (let long = zip_length view HasAddress texts found h.each in let few = h.few in omega (arith, many, long, few))

pub listed_there : (texts : List Value) (r : Result (Vec SocketAddr Global) ConfigurationError) → 0 < length texts → length texts ≤ 8 → ReadsOrFails (λ found. AllZip HasAddress (map view texts) found.items) r → ReadsOrFails (λ found. AreAddresses (map view texts) found.items) r
listed_there texts (Ok found) some few h = (let long = zip_length view HasAddress texts found.items h in record { each = h; some = omega (arith, long, some); few = omega (arith, long, few) })
listed_there texts (Err OutOfMemory) some few h = tt
listed_there texts (Err BadConfig) some few none = λ found h. none found h.each

-- The only address of a text.
pub no_only : (text : List ℕ) (found : List SocketAddr) → ((a : SocketAddr) → IsSocketAddress text a → ⊥) → AllZip IsSocketAddress (text ∷ []) found → ⊥
no_only text [] none h = h
no_only text (a ∷ rest) none h = none a h.0

pub only : (text : List ℕ) (a : SocketAddr) (found : List SocketAddr) → found ≡ a ∷ [] → IsSocketAddress text a → AllZip IsSocketAddress (text ∷ []) found
only text a found e is = subst (λ (x : List SocketAddr). AllZip IsSocketAddress (text ∷ []) x) (sym e) (is, tt)

-- A value is not both a text and a list.
not_both : (o : Option Data) (text : List ℕ) (items : Items) → Some text ≡ option_and_then as_str o → option_and_then as_array o ≡ Some items → ⊥
not_both None text items e f = absurd cc
not_both (Some (string x)) text items e f = absurd cc
not_both (Some (integer x)) text items e f = absurd cc
not_both (Some (float x)) text items e f = absurd cc
not_both (Some (boolean x)) text items e f = absurd cc
not_both (Some (datetime x)) text items e f = absurd cc
not_both (Some (array x)) text items e f = absurd cc
not_both (Some (table x)) text items e f = absurd cc

-- A text stands there.
pub single_at : (key : List ℕ) (d : Data) (text : List ℕ) (r : Result (Vec SocketAddr Global) ConfigurationError) → Some text ≡ text_at key d → ReadsOrFails (λ found. AllZip IsSocketAddress (text ∷ []) found.items) r → ReadsOrFails (HasAddresses key d) r
single_at key d text (Ok found) e h = inl (text, sym e, h)
single_at key d text (Err OutOfMemory) e h = tt
single_at key d text (Err BadConfig) e none = λ found h. go found h
  where
    same : (t : List ℕ) → text_at key d ≡ Some t → t ≡ text
    same t there = cc

    go : (found : Vec SocketAddr Global) → HasAddresses key d found → ⊥
    go found (inl (t, stands, is)) = none found (subst (λ (x : List ℕ). AllZip IsSocketAddress (x ∷ []) found.items) (same t stands) is)
    go found (inr (texts, stands, are)) = not_both (get key d) text (items_of texts) e stands

-- A list stands there.
pub listed_at : (key : List ℕ) (d : Data) (vs slice : List Value) (r : Result (Vec SocketAddr Global) ConfigurationError) → None ≡ text_at key d → Some (items_view vs) ≡ list_at key d → slice ≡ vs → ReadsOrFails (λ found. AreAddresses (map view slice) found.items) r → ReadsOrFails (HasAddresses key d) r
listed_at key d vs slice (Ok found) absent e same h = inr (map view vs, sym e, subst (λ (v : List Value). AreAddresses (map view v) found.items) same h)
listed_at key d vs slice (Err OutOfMemory) absent e same h = tt
listed_at key d vs slice (Err BadConfig) absent e same none = λ found h. go found h
  where
    one : (texts : List Data) → list_at key d ≡ Some (items_of texts) → items_of texts ≡ items_of (map view slice)
    one texts stand = (let there : items_of (map view slice) ≡ items_of (map view vs) = ap (λ (v : List Value). items_of (map view v)) same in cc)

    go : (found : Vec SocketAddr Global) → HasAddresses key d found → ⊥
    go found (inl (t, stands, is)) = absurd cc
    go found (inr (texts, stands, are)) = none found (subst (λ (t : List Data). AreAddresses t found.items) (same_items texts (map view slice) (one texts stands)) are)

-- Neither stands there.
pub none_at : (key : List ℕ) (d : Data) (found : Vec SocketAddr Global) → None ≡ text_at key d → None ≡ list_at key d → HasAddresses key d found → ⊥
none_at key d found absent none (inl (t, stands, is)) = absurd cc
none_at key d found absent none (inr (texts, stands, are)) = absurd cc

-- What is read is what a configuration may have.
ports : {A : Type 0} (R : A → SocketAddr → Type 0) → ((x : A) (a : SocketAddr) → R x a → 0 < socket_port a) → (xs : List A) (found : List SocketAddr) → AllZip R xs found → All HasPort found
ports R each [] [] h k d small = absurd (omega (arith, small))
ports R each [] (a ∷ found) h k d small = absurd h
ports R each (x ∷ xs) [] h k d small = absurd h
ports R each (x ∷ xs) (a ∷ found) h zero d small = each x a h.0
ports R each (x ∷ xs) (a ∷ found) h (suc k) d small = ports R each xs found h.1 k d (omega (arith, small))

alone : (text : List ℕ) (found : List SocketAddr) → AllZip IsSocketAddress (text ∷ []) found → length found ≡ 1
alone text [] h = absurd h
alone text (a ∷ []) h = refl
alone text (a ∷ b ∷ rest) h = absurd h.1

pub valid_listeners : (key : List ℕ) (d : Data) (found : Vec SocketAddr Global) → HasAddresses key d found → All HasPort found.items × (0 < length found.items) × (length found.items ≤ 8)
valid_listeners key d found (inl (text, stands, is)) = (let one = alone text found.items is in (ports IsSocketAddress (λ t a h. h.port_is.0) (text ∷ []) found.items is, omega (arith, one), omega (arith, one)))
valid_listeners key d found (inr (texts, stands, are)) = (ports HasAddress (λ t a h. h.2.port_is.0) texts found.items are.each, are.some, are.few)
