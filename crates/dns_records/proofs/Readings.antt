-- Data read as its parts.
use Rattle.std.proofs.Common.{◌≡◌, ℕ, ◌+◌, ◌-◌, ◌^◌, ◌<◌, ◌≤◌, List, [], ◌∷◌, ◌++◌, length, take, drop, zero, suc, Some, refl, sym, ap, subst, ◌∙◌, arith, append-nil, append_assoc, length-append, drop-drop}
use Rattle.std.proofs.lemmas.List.{take_all, take_at, drop_at, length-drop}
use Rattle.std.specs.Int.{w16, w32, to_be_bytes}
use Rattle.std.specs.List.{AllByRecursion}
use Rattle.dns_names.specs.PlainOctets.{octets-append}
use Rattle.dns_names.specs.Name.{Labels, IsName, wire, labels_of}
use Rattle.dns_names.specs.Plain.{IsPlain}
use Rattle.dns_records.specs.Types.{Field, Value, Values, U16, U32, octet_count, Name, UncompressedName, form}
use Rattle.dns_records.specs.Record.{Data, IsData, AreFields, IsRData}
use Rattle.dns_records.specs.Typed.{mx_data, srv_data, soa_with, FitsMx, FitsSrv}
use Rattle.dns_records.specs.declared.typed.Soa.{Soa}
use Rattle.dns_records.proofs.Forms.{name_first, name_none}
use Rattle.dns_records.specs.Laws.{name_alone, target_alone, behind_octets, address_whole, number_octets}

abbrev of : ℕ → List ℕ → Data
of t o = record { rtype = t; octets = o }

data_is : (d : Data) (t : ℕ) (o : List ℕ) → d.rtype ≡ t → d.octets ≡ o → d ≡ of t o
data_is d t o h e = ap (λ (k : ℕ). of k d.octets) h ∙ ap (of t) e

-- the parts of data of a type
pub parts_of : (d : Data) (t : ℕ) (fields : List Field) → IsData d → d.rtype ≡ t → form t ≡ Some fields → AreFields fields d.octets
parts_of d t fields valid h f =
    let there : IsRData t d.octets = subst (λ (k : ℕ). IsRData k d.octets) h valid.form in
    rw f at there

-- an address
pub whole_address : (t : ℕ) (vs : List Value) (d : Data) (o front : List ℕ) → form t ≡ Some (Values vs ∷ []) → IsData d → d.rtype ≡ t → o ≡ d.octets → front ≡ take (octet_count vs) o → d ≡ of t front
whole_address t vs d o front f valid h e cut =
    let size : length o ≡ octet_count vs = ap length e ∙ address_whole vs d.octets (parts_of d t (Values vs ∷ []) valid h f) in
    data_is d t front h (sym e ∙ sym (take_all (octet_count vs) o (omega (arith, size))) ∙ sym cut)

-- an MX
pub mx_behind : (d : Data) (n : ℕ) (behind : List ℕ) → IsData d → d.rtype ≡ 15 → d.octets ≡ to_be_bytes w16 n ++ behind → IsPlain behind
mx_behind d n behind valid h e = name_alone behind (behind_octets (U16 ∷ []) (Name ∷ []) d.octets (to_be_bytes w16 n) behind (parts_of d 15 (Values (U16 ∷ []) ∷ Name ∷ []) valid h refl) e refl)

pub mx_whole : (d : Data) (n : ℕ) (behind : List ℕ) (name : Labels) → IsPlain behind → d.rtype ≡ 15 → d.octets ≡ to_be_bytes w16 n ++ behind → name ≡ labels_of behind → n < 2 ^ 16 → (d ≡ mx_data (record { preference = n; exchange = name })) × FitsMx (record { preference = n; exchange = name })
mx_whole d n behind name plain h e same fits = (
  data_is d 15 (to_be_bytes w16 n ++ wire name) h (e ∙ ap (λ (x : List ℕ). to_be_bytes w16 n ++ x) (sym plain.whole ∙ ap wire (sym same))),
  record { preference = fits; exchange = subst IsName (sym same) plain.valid },
)

-- an SRV
pub srv_octets : (o : List ℕ) (p w q : ℕ) (a b c : List ℕ) → o ≡ to_be_bytes w16 p ++ a → a ≡ to_be_bytes w16 w ++ b → b ≡ to_be_bytes w16 q ++ c → o ≡ (to_be_bytes w16 p ++ to_be_bytes w16 w ++ to_be_bytes w16 q) ++ c
srv_octets o p w q a b c x y z =
    x ∙ ap (λ (t : List ℕ). to_be_bytes w16 p ++ t) (y ∙ ap (λ (t : List ℕ). to_be_bytes w16 w ++ t) z)

pub srv_behind : (d : Data) (p w q : ℕ) (behind : List ℕ) → IsData d → d.rtype ≡ 33 → d.octets ≡ (to_be_bytes w16 p ++ to_be_bytes w16 w ++ to_be_bytes w16 q) ++ behind → IsPlain behind
srv_behind d p w q behind valid h e =
    target_alone behind (behind_octets (U16 ∷ U16 ∷ U16 ∷ []) (UncompressedName ∷ []) d.octets (to_be_bytes w16 p ++ to_be_bytes w16 w ++ to_be_bytes w16 q) behind (parts_of d 33 (Values (U16 ∷ U16 ∷ U16 ∷ []) ∷ UncompressedName ∷ []) valid h refl) e refl)

pub srv_whole : (d : Data) (p w q : ℕ) (behind : List ℕ) (name : Labels) → IsPlain behind → d.rtype ≡ 33 → d.octets ≡ (to_be_bytes w16 p ++ to_be_bytes w16 w ++ to_be_bytes w16 q) ++ behind → name ≡ labels_of behind → p < 2 ^ 16 → w < 2 ^ 16 → q < 2 ^ 16 → (d ≡ srv_data (record { priority = p; weight = w; port = q; target = name })) × FitsSrv (record { priority = p; weight = w; port = q; target = name })
srv_whole d p w q behind name plain h e same x y z = (
  data_is d 33 ((to_be_bytes w16 p ++ to_be_bytes w16 w ++ to_be_bytes w16 q) ++ wire name) h (e ∙ ap (λ (x : List ℕ). (to_be_bytes w16 p ++ to_be_bytes w16 w ++ to_be_bytes w16 q) ++ x) (sym plain.whole ∙ ap wire (sym same))),
  record { priority = x; weight = y; port = z; target = subst IsName (sym same) plain.valid },
)

-- a SOA
pub soa_behind : (d : Data) (name : Labels) (behind : List ℕ) → IsData d → d.rtype ≡ 6 → IsName name → d.octets ≡ wire name ++ behind → AreFields (Name ∷ Values (U32 ∷ U32 ∷ U32 ∷ U32 ∷ U32 ∷ []) ∷ []) behind
soa_behind d name behind valid h named e = (name_first (Name ∷ Values (U32 ∷ U32 ∷ U32 ∷ U32 ∷ U32 ∷ []) ∷ []) d.octets name behind named e).1 (parts_of d 6 (Name ∷ Name ∷ Values (U32 ∷ U32 ∷ U32 ∷ U32 ∷ U32 ∷ []) ∷ []) valid h refl)

pub soa_second : (d : Data) (name : Labels) (behind : List ℕ) → IsData d → d.rtype ≡ 6 → IsName name → d.octets ≡ wire name ++ behind → ((other : Labels) (rest : List ℕ) → IsName other → behind ≡ wire other ++ rest → ⊥) → ⊥
soa_second d name behind valid h named e none = name_none (Values (U32 ∷ U32 ∷ U32 ∷ U32 ∷ U32 ∷ []) ∷ []) behind none (soa_behind d name behind valid h named e)

pub soa_twenty : (d : Data) (name other : Labels) (behind numbers : List ℕ) → IsData d → d.rtype ≡ 6 → IsName name → d.octets ≡ wire name ++ behind → IsName other → behind ≡ wire other ++ numbers → length numbers ≡ 20
soa_twenty d name other behind numbers valid h named e second f =
    address_whole (U32 ∷ U32 ∷ U32 ∷ U32 ∷ U32 ∷ []) numbers ((name_first (Values (U32 ∷ U32 ∷ U32 ∷ U32 ∷ U32 ∷ []) ∷ []) behind other numbers second f).1 (soa_behind d name behind valid h named e))

pub soa_whole : (d : Data) (soa : Soa) (behind numbers five : List ℕ) → d.rtype ≡ 6 → d.octets ≡ wire soa.mname ++ behind → behind ≡ wire soa.rname ++ numbers → numbers ≡ five → d ≡ of 6 (wire soa.mname ++ wire soa.rname ++ five)
soa_whole d soa behind numbers five h e f g =
    data_is d 6 (wire soa.mname ++ wire soa.rname ++ five) h (e ∙ ap (λ (x : List ℕ). wire soa.mname ++ x) (f ∙ ap (λ (x : List ℕ). wire soa.rname ++ x) g) ∙ sym (append_assoc (wire soa.mname) (wire soa.rname) five))

-- octets that lie in octets
abbrev Octal : List ℕ → Type 0
Octal o = AllByRecursion (λ (octet : ℕ). octet < 256) o

front_fits : (xs ys : List ℕ) → Octal (xs ++ ys) → Octal xs
front_fits [] ys h = tt
front_fits (x ∷ xs) ys h = (h.0, front_fits xs ys h.1)

back_fits : (xs ys : List ℕ) → Octal (xs ++ ys) → Octal ys
back_fits [] ys h = h
back_fits (x ∷ xs) ys h = back_fits xs ys h.1

pub behind_fits : (n : ℕ) (xs : List ℕ) → Octal xs → Octal (drop n xs)
behind_fits zero xs h = h
behind_fits (suc n) [] h = tt
behind_fits (suc n) (x ∷ xs) h = behind_fits n xs h.1

-- names and numbers of a SOA with another serial
pub soa_with-valid : (d : Data) (serial : ℕ) → IsData d → d.rtype ≡ 6 → IsData (soa_with d serial)
soa_with-valid d serial valid h =
    let p = parts_of d 6 (Name ∷ Name ∷ Values (U32 ∷ U32 ∷ U32 ∷ U32 ∷ U32 ∷ []) ∷ []) valid h refl in
    let mname = p.0 in
    let rname = p.4.0 in
    let numbers = p.4.4.0 in
    let none : p.4.4.1 ≡ [] = p.4.4.4 in
    let size : length numbers ≡ 20 = p.4.4.3 in
    let last : p.4.1 ≡ numbers = p.4.4.2 ∙ ap (λ (x : List ℕ). numbers ++ x) none ∙ append-nil numbers in
    let whole : d.octets ≡ (mname ++ rname) ++ numbers = p.2 ∙ ap (λ (x : List ℕ). mname ++ x) (p.4.2 ∙ ap (λ (x : List ℕ). rname ++ x) last) ∙ sym (append_assoc mname rname numbers) in
    with_serial d serial mname rname numbers valid h whole p.3 p.4.3 size
  where
    with_serial : (d : Data) (serial : ℕ) (mname rname numbers : List ℕ) → IsData d → d.rtype ≡ 6 → d.octets ≡ (mname ++ rname) ++ numbers → ((name : Labels) × IsName name × (mname ≡ wire name)) → ((name : Labels) × IsName name × (rname ≡ wire name)) → length numbers ≡ 20 → IsData (soa_with d serial)
    with_serial d serial mname rname numbers valid h whole m r size =
        let names = mname ++ rname in
        let at : length d.octets - 20 ≡ length names = omega (arith, ap length whole, length-append names numbers) in
        let number = to_be_bytes w32 serial in
        let rest = drop 4 numbers in
        let five = number ++ rest in
        let front : take (length d.octets - 20) d.octets ≡ names = ap (take (length d.octets - 20)) whole ∙ take_at names numbers (length d.octets - 20) (sym at) in
        let back : drop (length d.octets - 20 + 4) d.octets ≡ rest = sym (drop-drop 4 (length d.octets - 20) d.octets) ∙ ap (drop 4) (ap (drop (length d.octets - 20)) whole ∙ drop_at names numbers (length d.octets - 20) (sym at)) in
        let made : (soa_with d serial).octets ≡ mname ++ (rname ++ five) =
        ap (λ (x : List ℕ). x ++ number ++ drop (length d.octets - 20 + 4) d.octets) front ∙ ap (λ (x : List ℕ). names ++ number ++ x) back ∙ append_assoc names number rest ∙ append_assoc mname rname five in
        let long : length five ≡ 20 = omega (arith, length-drop 4 numbers) in
        let parts : AreFields (Name ∷ Name ∷ Values (U32 ∷ U32 ∷ U32 ∷ U32 ∷ U32 ∷ []) ∷ []) (mname ++ (rname ++ five)) = (mname, rname ++ five, refl, m, (rname, five, refl, r, (five, [], sym (append-nil five), long, refl))) in
        let old : Octal ((mname ++ rname) ++ numbers) = subst Octal whole valid.octets in
        let fit : Octal (mname ++ (rname ++ five)) =
        octets-append mname (rname ++ five) (front_fits mname rname (front_fits names numbers old)) (octets-append rname five (back_fits mname rname (front_fits names numbers old)) (octets-append number rest (number_octets w32 serial) (behind_fits 4 numbers (back_fits names numbers old)))) in
        let short : length d.octets ≤ 4096 = valid.short in
        let same : length (mname ++ (rname ++ five)) ≡ length d.octets = omega (arith, ap length whole, length-append names numbers, length-append mname rname, length-append mname (rname ++ five), length-append rname five, long, size) in
        subst IsData (sym (data_is (soa_with d serial) 6 (mname ++ (rname ++ five)) h made)) (record { rtype = refl; octets = fit; short = omega arith; form = parts })

-- the last four octets
pub last_four : (o : List ℕ) → take 4 (drop (length o - 4) o) ≡ drop (length o - 4) o
last_four o = take_all 4 (drop (length o - 4) o) (omega (arith, length-drop (length o - 4) o))

-- the hosts of a record
pub mx_host : (d : Data) → IsData d → d.rtype ≡ 15 → IsPlain (drop 2 d.octets)
mx_host d valid h = (let p = parts_of d 15 (Values (U16 ∷ []) ∷ Name ∷ []) valid h refl in let cut : drop 2 d.octets ≡ p.1 = ap (drop 2) p.2 ∙ drop_at p.0 p.1 2 p.3 in subst IsPlain (sym cut) (name_alone p.1 p.4))

pub srv_host : (d : Data) → IsData d → d.rtype ≡ 33 → IsPlain (drop 6 d.octets)
srv_host d valid h = (let p = parts_of d 33 (Values (U16 ∷ U16 ∷ U16 ∷ []) ∷ UncompressedName ∷ []) valid h refl in let cut : drop 6 d.octets ≡ p.1 = ap (drop 6) p.2 ∙ drop_at p.0 p.1 6 p.3 in subst IsPlain (sym cut) (target_alone p.1 p.4))

pub ns_host : (d : Data) → IsData d → d.rtype ≡ 2 → IsPlain d.octets
ns_host d valid h = name_alone d.octets (parts_of d 2 (Name ∷ []) valid h refl)
