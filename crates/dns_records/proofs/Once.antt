-- Data is made of one list of parts at most.
use Rattle.std.proofs.Common.{◌≡◌, ℕ, ◌^◌, ◌<◌, List, [], ◌++◌, refl, sym, ap, ◌∙◌, append_assoc}
use Rattle.std.specs.Int.{w16, w32, to_be_bytes, from_be_bytes}
use Rattle.std.proofs.lemmas.Nat.{from_be_bytes-to_be_bytes_2, from_be_bytes-to_be_bytes_4}
use Rattle.dns_names.specs.Name.{Labels, IsName, wire}
use Rattle.dns_names.specs.PlainLaws.{parts_same, wire_first, wire_once}
use Rattle.dns_records.specs.Record.{Data}
use Rattle.dns_records.specs.Typed.{name_data, mx_data, srv_data, soa_data, soa_numbers, FitsMx, FitsSrv, FitsSoa}
use Rattle.dns_records.specs.declared.typed.Soa.{Soa}
use Rattle.dns_records.specs.declared.typed.Mx.{Mx}
use Rattle.dns_records.specs.declared.typed.Srv.{Srv}

octets_of : (a b : Data) → a ≡ b → a.octets ≡ b.octets
octets_of a b e = ap (λ (d : Data). d.octets) e

u16_first : (m n : ℕ) (x y : List ℕ) → m < 2 ^ 16 → n < 2 ^ 16 → to_be_bytes w16 m ++ x ≡ to_be_bytes w16 n ++ y → (m ≡ n) × (x ≡ y)
u16_first m n x y h k e =
    let both = parts_same (to_be_bytes w16 m) (to_be_bytes w16 n) x y e refl in
    (sym (from_be_bytes-to_be_bytes_2 m h) ∙ ap (from_be_bytes w16) both.0 ∙ from_be_bytes-to_be_bytes_2 n k, both.1)

u32_first : (m n : ℕ) (x y : List ℕ) → m < 2 ^ 32 → n < 2 ^ 32 → to_be_bytes w32 m ++ x ≡ to_be_bytes w32 n ++ y → (m ≡ n) × (x ≡ y)
u32_first m n x y h k e =
    let both = parts_same (to_be_bytes w32 m) (to_be_bytes w32 n) x y e refl in
    (sym (from_be_bytes-to_be_bytes_4 m h) ∙ ap (from_be_bytes w32) both.0 ∙ from_be_bytes-to_be_bytes_4 n k, both.1)

pub name_once : (t : ℕ) (a b : Labels) → IsName a → IsName b → name_data t a ≡ name_data t b → a ≡ b
name_once t a b h k e = wire_once a b h k (octets_of (name_data t a) (name_data t b) e)

abbrev mx_of : ℕ → Labels → Mx
mx_of p x = record { preference = p; exchange = x }

pub mx_once : (a b : Mx) → FitsMx a → FitsMx b → mx_data a ≡ mx_data b → a ≡ b
mx_once a b h k e =
    let first = u16_first a.preference b.preference (wire a.exchange) (wire b.exchange) h.preference k.preference (octets_of (mx_data a) (mx_data b) e) in
    ap (λ (p : ℕ). mx_of p a.exchange) first.0 ∙ ap (mx_of b.preference) (wire_once a.exchange b.exchange h.exchange k.exchange first.1)

abbrev srv_of : ℕ → ℕ → ℕ → Labels → Srv
srv_of p w q t = record { priority = p; weight = w; port = q; target = t }

pub srv_once : (a b : Srv) → FitsSrv a → FitsSrv b → srv_data a ≡ srv_data b → a ≡ b
srv_once a b h k e =
    let first = u16_first a.priority b.priority (to_be_bytes w16 a.weight ++ (to_be_bytes w16 a.port ++ wire a.target)) (to_be_bytes w16 b.weight ++ (to_be_bytes w16 b.port ++ wire b.target)) h.priority k.priority (octets_of (srv_data a) (srv_data b) e) in
    let second = u16_first a.weight b.weight (to_be_bytes w16 a.port ++ wire a.target) (to_be_bytes w16 b.port ++ wire b.target) h.weight k.weight first.1 in
    let third = u16_first a.port b.port (wire a.target) (wire b.target) h.port k.port second.1 in
    ap (λ (n : ℕ). srv_of n a.weight a.port a.target) first.0 ∙ ap (λ (n : ℕ). srv_of b.priority n a.port a.target) second.0
    ∙ ap (λ (n : ℕ). srv_of b.priority b.weight n a.target) third.0 ∙ ap (srv_of b.priority b.weight b.port) (wire_once a.target b.target h.target k.target third.1)

abbrev soa_of : Labels → Labels → ℕ → ℕ → ℕ → ℕ → ℕ → Soa
soa_of m r v w x y z = record { mname = m; rname = r; serial = v; refresh = w; retry = x; expire = y; minimum = z }

pub soa_once : (a b : Soa) → FitsSoa a → FitsSoa b → soa_data a ≡ soa_data b → a ≡ b
soa_once a b h k e =
    let valid_a : IsName a.mname = h.mname in
    let valid_b : IsName b.mname = k.mname in
    let second_a : IsName a.rname = h.rname in
    let second_b : IsName b.rname = k.rname in
    let whole = sym (append_assoc (wire a.mname) (wire a.rname) (soa_numbers a)) ∙ octets_of (soa_data a) (soa_data b) e ∙ append_assoc (wire b.mname) (wire b.rname) (soa_numbers b) in
    let m = wire_first a.mname b.mname (wire a.rname ++ soa_numbers a) (wire b.rname ++ soa_numbers b) valid_a.labels valid_b.labels whole in
    let r = wire_first a.rname b.rname (soa_numbers a) (soa_numbers b) second_a.labels second_b.labels m.1 in
    let v = u32_first a.serial b.serial (to_be_bytes w32 a.refresh ++ (to_be_bytes w32 a.retry ++ (to_be_bytes w32 a.expire ++ to_be_bytes w32 a.minimum))) (to_be_bytes w32 b.refresh ++ (to_be_bytes w32 b.retry ++ (to_be_bytes w32 b.expire ++ to_be_bytes w32 b.minimum))) h.serial k.serial r.1 in
    let w = u32_first a.refresh b.refresh (to_be_bytes w32 a.retry ++ (to_be_bytes w32 a.expire ++ to_be_bytes w32 a.minimum)) (to_be_bytes w32 b.retry ++ (to_be_bytes w32 b.expire ++ to_be_bytes w32 b.minimum)) h.refresh k.refresh v.1 in
    let x = u32_first a.retry b.retry (to_be_bytes w32 a.expire ++ to_be_bytes w32 a.minimum) (to_be_bytes w32 b.expire ++ to_be_bytes w32 b.minimum) h.retry k.retry w.1 in
    let y = u32_first a.expire b.expire (to_be_bytes w32 a.minimum) (to_be_bytes w32 b.minimum) h.expire k.expire x.1 in
    let z = u32_first a.minimum b.minimum [] [] h.minimum k.minimum y.1 in
    ap (λ (n : Labels). soa_of n a.rname a.serial a.refresh a.retry a.expire a.minimum) m.0
    ∙ ap (λ (n : Labels). soa_of b.mname n a.serial a.refresh a.retry a.expire a.minimum) r.0
    ∙ ap (λ (n : ℕ). soa_of b.mname b.rname n a.refresh a.retry a.expire a.minimum) v.0
    ∙ ap (λ (n : ℕ). soa_of b.mname b.rname b.serial n a.retry a.expire a.minimum) w.0
    ∙ ap (λ (n : ℕ). soa_of b.mname b.rname b.serial b.refresh n a.expire a.minimum) x.0
    ∙ ap (λ (n : ℕ). soa_of b.mname b.rname b.serial b.refresh b.retry n a.minimum) y.0
    ∙ ap (λ (n : ℕ). soa_of b.mname b.rname b.serial b.refresh b.retry b.expire n) z.0
