-- Laws of data made of its parts.
use Rattle.std.proofs.Common.{◌≡◌, ℕ, ◌<◌, ◌≤◌, zero, suc, Bool, true, false, List, [], ◌∷◌, ◌++◌, length}
use Rattle.std.proofs.Common.{refl, sym, ap, subst, ◌∙◌, arith, append-nil, length-append, append_assoc}
use Rattle.std.proofs.Common.{Option, cond}
use Rattle.std.specs.Prelude.{◌==◌, ◌||◌, Some, IfSome, is_some}
use Rattle.std.specs.List.{AllByRecursion}
use Rattle.std.specs.Int.{Width, w16, w32, to_be_bytes, bytes_high_first, byte_at, byte_len}
use borrow.Author.Tests.{eqb-true}
use Rattle.dns_names.specs.Name.{Labels, IsName, wire}
use Rattle.dns_names.specs.Lower.{AreOctets}
use Rattle.dns_names.specs.Plain.{IsPlain}
use Rattle.dns_names.specs.PlainLaws.{plain_of, parts_same}
use Rattle.dns_names.specs.PlainOctets.{octets-append, wire_octets}
use Rattle.dns_records.specs.Types.{Field, Value, Values, U16, U32, Ipv4, Ipv6, octet_count, size_of, Name}
use Rattle.dns_records.specs.Types.{UncompressedName, form, is_known, is_data_type, type_a, type_ns}
use Rattle.dns_records.specs.Types.{type_cname, type_soa, type_ptr, type_mx, type_txt, type_aaaa, type_srv}
use Rattle.dns_records.specs.Fields.{StringsLast}
use Rattle.dns_records.specs.Record.{Data, IsData, AreFields}
use Rattle.dns_records.specs.Typed.{name_data, is_name_type, soa_data, soa_numbers, mx_data, srv_data}
use Rattle.dns_records.specs.Typed.{srv_numbers}
use Rattle.dns_records.specs.declared.typed.Soa.{Soa}
use Rattle.dns_records.specs.declared.typed.Mx.{Mx}
use Rattle.dns_records.specs.declared.typed.Srv.{Srv}

-- a zone can have records of each type that has a form
data_step : (b : Bool) (t k : ℕ) (fields : List Field) (others : Option (List Field))
    → (t == k) ≡ b
    → is_data_type k ≡ true
    → (is_some others ≡ true → is_data_type t ≡ true)
    → is_some (cond b (Some fields) others) ≡ true
    → is_data_type t ≡ true
data_step true t k fields others e is h known = ap is_data_type (eqb-true t k e) ∙ is
data_step false t k fields others e is h known = h known

pub known_is_data : (t : ℕ) → is_known t ≡ true → is_data_type t ≡ true
known_is_data t =
    data_step (t == 1) t 1 _ _ refl refl (data_step (t == 2) t 2 _ _ refl refl
    (data_step (t == 5) t 5 _ _ refl refl (data_step (t == 6) t 6 _ _ refl refl
    (data_step (t == 12) t 12 _ _ refl refl (data_step (t == 15) t 15 _ _ refl refl
    (data_step (t == 16) t 16 _ _ refl refl (data_step (t == 28) t 28 _ _ refl refl
    (data_step (t == 33) t 33 _ _ refl refl (λ h. absurd cc)))))))))

pub formed_is_data : (t : ℕ) (fields : List Field) → form t ≡ Some fields → is_data_type t ≡ true
formed_is_data t fields f = known_is_data t (ap is_some f)

-- the form of data that is one name
pub name_form : (t : ℕ) → is_name_type t ≡ true → form t ≡ Some (Name ∷ [])
name_form t h = go (t == 2) (t == 5) (t == 12) refl refl refl h
  where
    go : (a b c : Bool) → (t == 2) ≡ a → (t == 5) ≡ b → (t == 12) ≡ c → (a || b || c) ≡ true
        → form t ≡ Some (Name ∷ [])
    go true b c p q r h = ap form (eqb-true t 2 p)
    go false true c p q r h = ap form (eqb-true t 5 q)
    go false false true p q r h = ap form (eqb-true t 12 r)
    go false false false p q r h = absurd cc

pub name_data-valid : (t : ℕ) (name : Labels) → is_name_type t ≡ true → IsName name
    → IsData (name_data t name)
name_data-valid t name h valid =
    let f = name_form t h in
    let short : length (wire name) ≤ 255 = valid.short in
    let parts : AreFields (Name ∷ []) (wire name) =
    (wire name, [], sym (append-nil (wire name)), (name, valid, refl), refl) in
    record {
      rtype = formed_is_data t (Name ∷ []) f;
      octets = wire_octets name valid.labels;
      short = omega arith;
      form = rw f parts;
    }

-- a name alone
pub name_alone : (o : List ℕ) → AreFields (Name ∷ []) o → IsPlain o
name_alone o parts =
    let name = parts.3.0 in
    let front : parts.0 ≡ wire name = parts.3.2 in
    let none : parts.1 ≡ [] = parts.4 in
    let whole : o ≡ wire name =
    parts.2 ∙ ap (λ (x : List ℕ). parts.0 ++ x) none ∙ append-nil parts.0 ∙ front in
    (plain_of o name parts.3.1 whole).1

pub target_alone : (o : List ℕ) → AreFields (UncompressedName ∷ []) o → IsPlain o
target_alone o parts = name_alone o (parts.0, parts.1, parts.2, parts.3, parts.4)

-- the data of such a type is a name
pub name_data-plain : (d : Data) → IsData d → is_name_type d.rtype ≡ true → IsPlain d.octets
name_data-plain d valid h =
    let f = name_form d.rtype h in
    let parts : AreFields (Name ∷ []) d.octets = rw f at valid.form in
    name_alone d.octets parts

-- octets before the other parts
pub behind_octets : (vs : List Value) (fields : List Field) (o front behind : List ℕ)
    → AreFields (Values vs ∷ fields) o
    → o ≡ front ++ behind
    → length front ≡ octet_count vs
    → AreFields fields behind
behind_octets vs fields o front behind parts e size =
    let first : length parts.0 ≡ octet_count vs = parts.3 in
    let both = parts_same parts.0 front parts.1 behind (sym parts.2 ∙ e) (first ∙ sym size) in
    subst (AreFields fields) both.1 parts.4

-- a number is octets
byte_small : (i n : ℕ) → byte_at i n < 256
byte_small zero n = omega arith
byte_small (suc i) n = omega arith

high_first_octets : (k n : ℕ) → AllByRecursion (λ octet. octet < 256) (bytes_high_first k n)
high_first_octets zero n = tt
high_first_octets (suc k) n = (byte_small k n, high_first_octets k n)

pub number_octets : (w : Width) (n : ℕ) → AllByRecursion (λ octet. octet < 256) (to_be_bytes w n)
number_octets w n = high_first_octets (byte_len w) n

pub soa_data-valid : (soa : Soa) → IsName soa.mname → IsName soa.rname → IsData (soa_data soa)
soa_data-valid soa m r =
    let first = wire soa.mname in
    let second = wire soa.rname in
    let numbers = soa_numbers soa in
    let first_short : length first ≤ 255 = m.short in
    let second_short : length second ≤ 255 = r.short in
    let last : AreFields (Values (U32 ∷ U32 ∷ U32 ∷ U32 ∷ U32 ∷ []) ∷ []) numbers =
    (numbers, [], sym (append-nil numbers), refl, refl) in
    let parts : AreFields (Name ∷ Name ∷ Values (U32 ∷ U32 ∷ U32 ∷ U32 ∷ U32 ∷ []) ∷ [])
    (first ++ second ++ numbers) = (
      first,
      second ++ numbers,
      append_assoc first second numbers,
      (soa.mname, m, refl),
      (second, numbers, refl, (soa.rname, r, refl), last),
    ) in
    let number = number_octets w32 in
    let fit : AllByRecursion (λ octet. octet < 256) numbers =
    octets-append (to_be_bytes w32 soa.serial ++ to_be_bytes w32 soa.refresh ++ to_be_bytes w32 soa.retry
    ++ to_be_bytes w32 soa.expire) (to_be_bytes w32 soa.minimum)
    (octets-append (to_be_bytes w32 soa.serial ++ to_be_bytes w32 soa.refresh ++ to_be_bytes w32 soa.retry)
    (to_be_bytes w32 soa.expire)
    (octets-append (to_be_bytes w32 soa.serial ++ to_be_bytes w32 soa.refresh) (to_be_bytes w32 soa.retry)
    (octets-append (to_be_bytes w32 soa.serial) (to_be_bytes w32 soa.refresh) (number soa.serial)
    (number soa.refresh))
    (number soa.retry)) (number soa.expire)) (number soa.minimum) in
    record {
      rtype = refl;
      octets =
          octets-append (first ++ second) numbers
          (octets-append first second (wire_octets soa.mname m.labels) (wire_octets soa.rname r.labels)) fit;
      short = omega (arith, length-append (first ++ second) numbers, length-append first second);
      form = parts;
    }

pub mx_data-valid : (mx : Mx) → IsName mx.exchange → IsData (mx_data mx)
mx_data-valid mx valid =
    let number = to_be_bytes w16 mx.preference in
    let name = wire mx.exchange in
    let name_short : length name ≤ 255 = valid.short in
    let last : AreFields (Name ∷ []) name =
    (name, [], sym (append-nil name), (mx.exchange, valid, refl), refl) in
    let parts : AreFields (Values (U16 ∷ []) ∷ Name ∷ []) (number ++ name) =
    (number, name, refl, refl, last) in
    record {
      rtype = refl;
      octets =
          octets-append number name (number_octets w16 mx.preference) (wire_octets mx.exchange valid.labels);
      short = omega arith;
      form = parts;
    }

pub srv_data-valid : (srv : Srv) → IsName srv.target → IsData (srv_data srv)
srv_data-valid srv valid =
    let numbers = srv_numbers srv in
    let name = wire srv.target in
    let name_short : length name ≤ 255 = valid.short in
    let last : AreFields (UncompressedName ∷ []) name =
    (name, [], sym (append-nil name), (srv.target, valid, refl), refl) in
    let parts : AreFields (Values (U16 ∷ U16 ∷ U16 ∷ []) ∷ UncompressedName ∷ []) (numbers ++ name) =
    (numbers, name, refl, refl, last) in
    let number = number_octets w16 in
    let fit =
    octets-append (to_be_bytes w16 srv.priority ++ to_be_bytes w16 srv.weight) (to_be_bytes w16 srv.port)
    (octets-append (to_be_bytes w16 srv.priority) (to_be_bytes w16 srv.weight) (number srv.priority)
    (number srv.weight))
    (number srv.port) in
    record {
      rtype = refl;
      octets = octets-append numbers name fit (wire_octets srv.target valid.labels);
      short = omega arith;
      form = parts;
    }

-- an address
octets_all : (o : List ℕ) → AreOctets o → AllByRecursion (λ octet. octet < 256) o
octets_all [] h = tt
octets_all (x ∷ o) h = (h 0, octets_all o (λ i. h (suc i)))

value_short : (v : Value) (n : ℕ) → n ≡ size_of v → n ≤ 16
value_short U16 n h = omega (arith, h)
value_short U32 n h = omega (arith, h)
value_short Ipv4 n h = omega (arith, h)
value_short Ipv6 n h = omega (arith, h)

pub address-valid : (t : ℕ) (v : Value) (o : List ℕ)
    → form t ≡ Some (Values (v ∷ []) ∷ [])
    → AreOctets o
    → length o ≡ size_of v
    → IsData (record { rtype = t; octets = o })
address-valid t v o f fits size =
    let whole : length o ≡ octet_count (v ∷ []) = omega (arith, size) in
    let parts : AreFields (Values (v ∷ []) ∷ []) o = (o, [], sym (append-nil o), whole, refl) in
    let short : length o ≤ 16 = value_short v (length o) size in
    record {
      rtype = formed_is_data t (Values (v ∷ []) ∷ []) f;
      octets = octets_all o fits;
      short = omega arith;
      form = rw f parts;
    }

-- an address is so many octets
pub address_whole : (vs : List Value) (o : List ℕ) → AreFields (Values vs ∷ []) o → length o ≡ octet_count vs
address_whole vs o parts =
    let none : parts.1 ≡ [] = parts.4 in
    ap length (parts.2 ∙ ap (λ (x : List ℕ). parts.0 ++ x) none ∙ append-nil parts.0) ∙ parts.3

-- strings come last in the form of each type
chosen : (b : Bool) (f g : Option (List Field)) → IfSome f StringsLast → IfSome g StringsLast
    → IfSome (cond b f g) StringsLast
chosen true f g h k = h
chosen false f g h k = k

forms_last : (t : ℕ) → IfSome (form t) StringsLast
forms_last t =
    chosen (t == type_a) _ _ tt (chosen (t == type_ns) _ _ tt (chosen (t == type_cname) _ _ tt
    (chosen (t == type_soa) _ _ tt (chosen (t == type_ptr) _ _ tt (chosen (t == type_mx) _ _ tt
    (chosen (t == type_txt) _ _ tt (chosen (t == type_aaaa) _ _ tt (chosen (t == type_srv) _ _ tt tt))))))))

pub form_last : (t : ℕ) (fields : List Field) → form t ≡ Some fields → StringsLast fields
form_last t fields e = let h : IfSome (Some fields) StringsLast =
    subst (λ (f : Option (List Field)). IfSome f StringsLast) e (forms_last t) in h
