-- Why nothing else is described where a value is refused.
use Rattle.std.proofs.Common.{◌≡◌, ℕ, zero, suc, ◌<◌, Bool, true, false, refl, List, [], ◌∷◌, length, length-take, take, get_or, get_or-take, Ok, Err, Result, Some, None, nat_eq, Vec, codes, ◌||◌, sym, ap, subst, ◌∙◌, arith, String}
use Rattle.std.specs.Prelude.{map}
use Rattle.std.specs.Global.{Global}
use Rattle.std.specs.List.{AllZip, list_any}
use Rattle.std.specs.String.{string_bytes}
use Rattle.std.proofs.lemmas.List.{length-map}
use Rattle.std.proofs.lemmas.List.Folds.{Any-from_list_any}
use Rattle.std.proofs.lemmas.Result.{err_from_is_err_and}
use Rattle.std.specs.Result.{IsErrAnd}
use Rattle.dns_names.specs.Name.{names_eq}
use Rattle.dns_names.specs.Text.{name_of_text}
use Rattle.std.specs.Str.{IsUtf8}
use Rattle.std.specs.declared.net.ip_addr.IpAddr.{IpAddr}
use Rattle.dns_policy.specs.Prefix.{ExplainsPrefix, IsPrefix}
use Rattle.dns_policy.specs.declared.PrefixError.{PrefixError}
use Rattle.dns_policy.proofs.Prefixes.{no_prefix}
use Rattle.toml.specs.Parse.{parse_document}
use Rattle.toml.specs.Data.{Data, Items, Members, as_str, as_table, item, string, integer, float, boolean, datetime, array, table}
use Rattle.toml.specs.View.{items_of, items_view, members_of, members_view, view}
use Rattle.toml.specs.declared.value.Value.{Value}
use Rattle.dns_configuration.specs.declared.configuration.ZoneSettings.{ZoneSettings}
use Rattle.dns_configuration.specs.Settings.{ArePrefixes, AreSettings, Describes, HasPrefix, HasPrefixes, IsDescribedBy, IsSettings, ReadsOrFails, are_alike, has_keys, is_same_path, key_count, list_at, text_at}
use Rattle.dns_configuration.specs.declared.configuration.Configuration.{Configuration}
use Rattle.dns_configuration.specs.declared.configuration.ConfigurationError.{ConfigurationError}
use Rattle.dns_configuration.specs.declared.configuration.ConfigurationError.TheVariants.{OutOfMemory, BadConfig}

pub count_of_keys : (xs : List (String Global × Data)) → key_count (members_of xs) ≡ length xs
count_of_keys [] = refl
count_of_keys (x ∷ xs) = ap suc (count_of_keys xs)

-- A position that fits nothing.
pub misfit : {A B C : Type 0} (f : A → B) (R : B → C → Type 0) (xs : List A) (i : ℕ) (d : A) (ys : List C) → i < length xs → ((y : C) → R (f (get_or xs i d)) y → ⊥) → AllZip R (map f xs) ys → ⊥
misfit f R [] i d ys small none h = omega (arith, small)
misfit f R (x ∷ xs) i d [] small none h = h
misfit f R (x ∷ xs) zero d (y ∷ ys) small none h = none y h.0
misfit f R (x ∷ xs) (suc i) d (y ∷ ys) small none h = misfit f R xs i d ys (omega (arith, small)) none h.1

pub zip_length : {A B C : Type 0} (f : A → B) (R : B → C → Type 0) (xs : List A) (ys : List C) → AllZip R (map f xs) ys → length ys ≡ length xs
zip_length f R [] [] h = refl
zip_length f R [] (y ∷ ys) h = absurd h
zip_length f R (x ∷ xs) [] h = absurd h
zip_length f R (x ∷ xs) (y ∷ ys) h = ap suc (zip_length f R xs ys h.1)

position : {A B C : Type 0} (f : A → B) (R : B → C → Type 0) (xs : List A) (i : ℕ) (d : A) (ys : List C) (e : C) → i < length xs → AllZip R (map f xs) ys → R (f (get_or xs i d)) (get_or ys i e)
position f R [] i d ys e small h = absurd (omega (arith, small))
position f R (x ∷ xs) i d [] e small h = absurd h
position f R (x ∷ xs) zero d (y ∷ ys) e small h = h.0
position f R (x ∷ xs) (suc i) d (y ∷ ys) e small h = position f R xs i d ys e (omega (arith, small)) h.1

-- A table has so many keys.
pub keys_of_table : (d : Data) (xs : List (String Global × Value)) (n count : ℕ) → Some (members_view xs) ≡ as_table d → n ≡ length xs → nat_eq n count ≡ has_keys count d
keys_of_table (table ms) xs n count e long = ap (λ m. nat_eq m count) (long ∙ sym (length-map xs (λ (m : String Global × Value). (m.0, view m.1))) ∙ sym (count_of_keys (map (λ m. (m.0, view m.1)) xs)) ∙ ap key_count (inside (members_view xs) ms e))
  where
    inside : (ms ns : Members) → Some ms ≡ Some ns → ms ≡ ns
    inside ms ns e = cc
keys_of_table (string x) xs n count e long = absurd cc
keys_of_table (integer x) xs n count e long = absurd cc
keys_of_table (float x) xs n count e long = absurd cc
keys_of_table (boolean x) xs n count e long = absurd cc
keys_of_table (datetime x) xs n count e long = absurd cc
keys_of_table (array x) xs n count e long = absurd cc

-- What is no text, or the text of no prefix, is no prefix.
pub no_text : (d : Data) (p : IpAddr × ℕ) → None ≡ as_str d → HasPrefix d p → ⊥
no_text d p e h = (let there = h.1 in absurd cc)

pub no_prefix_there : (d : Data) (text bytes : List ℕ) (error : PrefixError) (p : IpAddr × ℕ) → Some text ≡ as_str d → bytes ≡ text → ExplainsPrefix bytes error → HasPrefix d p → ⊥
no_prefix_there d text bytes error p e same why h = no_prefix bytes error why p (subst (λ (t : List ℕ). IsPrefix t p) (one h.0 h.1) h.2)
  where
    one : (t : List ℕ) → as_str d ≡ Some t → t ≡ bytes
    one t there = cc

-- A list is in one way that of items.
pub same_items : (xs ys : List Data) → items_of xs ≡ items_of ys → xs ≡ ys
same_items [] [] e = refl
same_items [] (y ∷ ys) e = absurd cc
same_items (x ∷ xs) [] e = absurd cc
same_items (x ∷ xs) (y ∷ ys) e = (λ i. head_same e i ∷ same_items xs ys (tail_same e) i)
  where
    head_same : {x y : Data} {a b : Items} → item x a ≡ item y b → x ≡ y
    head_same e = cc

    tail_same : {x y : Data} {a b : Items} → item x a ≡ item y b → a ≡ b
    tail_same e = cc

pub prefixes_there : (key : List ℕ) (d : Data) (vs : List Value) (slice : List Value) (r : Result (Vec (IpAddr × ℕ) Global) ConfigurationError) → Some (items_view vs) ≡ list_at key d → slice ≡ vs → ReadsOrFails (λ ps. ArePrefixes (map view slice) ps.items) r → ReadsOrFails (HasPrefixes key d) r
prefixes_there key d vs slice (Ok ps) e same h = record { texts = map view vs; stand = sym e; are = subst (λ (v : List Value). ArePrefixes (map view v) ps.items) same h }
prefixes_there key d vs slice (Err OutOfMemory) e same h = tt
prefixes_there key d vs slice (Err BadConfig) e same none = λ ps h. none ps (subst (λ (t : List Data). ArePrefixes t ps.items) (same_items h.texts (map view slice) (one h.texts h.stand)) h.are)
  where
    one : (texts : List Data) → list_at key d ≡ Some (items_of texts) → items_of texts ≡ items_of (map view slice)
    one texts stand = (let there : items_of (map view slice) ≡ items_of (map view vs) = ap (λ (v : List Value). items_of (map view v)) same in cc)

passed : {A B : Type 0} (P : A → Type 0) (Q : B → Type 0) (e : ConfigurationError) (r : Result B ConfigurationError) → r ≡ Err e → ReadsOrFails P (Err e) → (((x : A) → P x → ⊥) → (y : B) → Q y → ⊥) → ReadsOrFails Q r
passed P Q OutOfMemory (Err OutOfMemory) is h none = tt
passed P Q OutOfMemory (Err BadConfig) is h none = absurd cc
passed P Q BadConfig (Err OutOfMemory) is h none = tt
passed P Q BadConfig (Err BadConfig) is h none = none h
passed P Q e (Ok y) is h none = absurd cc

-- A refusal that is passed on.
pub passed_on : {A B : Type 0} (P : A → Type 0) (Q : B → Type 0) (e : ConfigurationError) (r : Result B ConfigurationError) → IsErrAnd r (λ x. x ≡ e) → ReadsOrFails P (Err e) → (((x : A) → P x → ⊥) → (y : B) → Q y → ⊥) → ReadsOrFails Q r
passed_on P Q e r is h none = (let p = err_from_is_err_and r is in passed P Q e r (p.1 ∙ ap Err p.2) h none)

-- Where the tables are those that are read, no list of settings is theirs.
pub none_of_them : (tables : List Value) (i : ℕ) (one : Value) (zs : Vec ZoneSettings Global) → i < length tables → one ≡ get_or tables i one → ((z : ZoneSettings) → IsSettings (view one) z → ⊥) → AreSettings (map view tables) zs.items → ⊥
none_of_them tables i one zs inside is none h = misfit view IsSettings tables i one zs.items inside (λ z q. none z (subst (λ (v : Value). IsSettings (view v) z) (sym is) q)) h.each

-- The zones of a configuration are those of the tables that are read.
pub zones_there : (d : Data) (vs slice : List Value) (c : Configuration) → Some (items_view vs) ≡ list_at (codes "zone") d → slice ≡ vs → Describes d c → AreSettings (map view slice) c.zones.items
zones_there d vs slice c e same h = subst (λ (t : List Data). AreSettings t c.zones.items) (same_items h.zones.0 (map view slice) (all h.zones.0 h.zones.1)) h.zones.2
  where
    all : (texts : List Data) → list_at (codes "zone") d ≡ Some (items_of texts) → items_of texts ≡ items_of (map view slice)
    all texts stand = (let there : items_of (map view slice) ≡ items_of (map view vs) = ap (λ (v : List Value). items_of (map view v)) same in cc)

-- Two readings of the same tables are as long as each other.
pub as_many : (tables : List Value) (zs ws : List ZoneSettings) → AreSettings (map view tables) zs → AreSettings (map view tables) ws → length zs ≡ length ws
as_many tables zs ws h k = zip_length view IsSettings tables zs h.each ∙ sym (zip_length view IsSettings tables ws k.each)

-- The document of the text.
pub described : (octets : List ℕ) (ms : Members) (r : Result Configuration ConfigurationError) → IsUtf8 octets → parse_document octets ≡ Some ms → ReadsOrFails (Describes (table ms)) r → ReadsOrFails (IsDescribedBy octets) r
described octets ms (Ok c) utf8 e h = (ms, utf8, e, h)
described octets ms (Err OutOfMemory) utf8 e h = tt
described octets ms (Err BadConfig) utf8 e none = λ c h. none c (subst (λ (m : Members). Describes (table m) c) (one h.0 h.2) h.3)
  where
    one : (ns : Members) → parse_document octets ≡ Some ns → ns ≡ ms
    one ns f = cc

-- A table describes one origin and one device.
same_zone : (d : Data) (z w : ZoneSettings) → IsSettings d z → IsSettings d w → (z.origin ≡ w.origin) × (string_bytes z.device ≡ string_bytes w.device)
same_zone d z w h k = (names h.origin.text k.origin.text h.origin.stands k.origin.stands h.origin.is k.origin.is, devices h.device k.device)
  where
    names : (a b : List ℕ) → text_at (codes "origin") d ≡ Some a → text_at (codes "origin") d ≡ Some b → name_of_text [] a ≡ Ok z.origin → name_of_text [] b ≡ Ok w.origin → z.origin ≡ w.origin
    names a b ea eb na nb = cc

    devices : text_at (codes "device") d ≡ Some (string_bytes z.device) → text_at (codes "device") d ≡ Some (string_bytes w.device) → string_bytes z.device ≡ string_bytes w.device
    devices a b = cc

alike_too : (z u w v : ZoneSettings) → z.origin ≡ w.origin → string_bytes z.device ≡ string_bytes w.device → u.origin ≡ v.origin → string_bytes u.device ≡ string_bytes v.device → are_alike z u ≡ are_alike w v
alike_too z u w v a b c d = (λ i. names_eq (a i) (c i) || is_same_path (b i) (d i))

-- Sixteen zones before a further one are too many.
pub too_many : (tables : List Value) (i : ℕ) (zs ws : List ZoneSettings) → i < length tables → AllZip IsSettings (map view (take i tables)) zs → length zs ≡ 16 → AreSettings (map view tables) ws → ⊥
too_many tables i zs ws inside each full h =
    let whole = zip_length view IsSettings tables ws h.each in
    let front = zip_length view IsSettings (take i tables) zs each in
    let few = h.few in
    omega (arith, few, whole, front, full, inside, length-take i tables)

-- Where one is like one before it, no other reading of the tables has them apart.
pub never_apart : (tables : List Value) (i : ℕ) (one : Value) (zs ws : List ZoneSettings) (z : ZoneSettings) → i < length tables → AllZip IsSettings (map view (take i tables)) zs → IsSettings (view (get_or tables i one)) z → list_any (λ other. are_alike other z) zs ≡ true → AreSettings (map view tables) ws → ⊥
never_apart tables i one zs ws z inside each is double h =
    let found = Any-from_list_any (λ other. are_alike other z) zs double in
    let k = found.0 in
    let other = found.1 in
    let short : length zs ≡ length (take i tables) = zip_length view IsSettings (take i tables) zs each in
    let below : k < i = omega (arith, found.2, short, inside, length-take i tables) in
    let first = position view IsSettings (take i tables) k one zs other (omega (arith, short, found.2)) each in
    let here : IsSettings (view (get_or tables k one)) other = subst (λ (x : ZoneSettings). IsSettings (view (get_or tables k one)) x) found.3 (subst (λ (v : Value). IsSettings (view v) (get_or zs k other)) (get_or-take i tables k one below) first) in
    let there = position view IsSettings tables k one ws z (omega (arith, below, inside)) h.each in
    let last = position view IsSettings tables i one ws z inside h.each in
    let former = same_zone (view (get_or tables k one)) other (get_or ws k z) here there in
    let latter = same_zone (view (get_or tables i one)) z (get_or ws i z) is last in
    let alike = alike_too other z (get_or ws k z) (get_or ws i z) former.0 former.1 latter.0 latter.1 in
    let apart = h.apart k i z below (omega (arith, zip_length view IsSettings tables ws h.each, inside)) in
    absurd (clash (are_alike other z) (are_alike (get_or ws k z) (get_or ws i z)) alike found.4 apart)
  where
    clash : (a b : Bool) → a ≡ b → a ≡ true → b ≡ false → ⊥
    clash a b e t f = absurd cc
