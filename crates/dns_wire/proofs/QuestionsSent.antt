-- The header and the question of what came are those of a valid reply.
use Rattle.std.proofs.Common.{◌≡◌, ℕ, zero, suc, ◌+◌, ◌-◌, ◌<◌, ◌≤◌, List, [], ◌∷◌, length, map, take, drop, ap, subst, ◌∙◌, arith}
use Rattle.std.specs.Prelude.{◌^◌, slice_range}
use Rattle.std.specs.List.{AllByRecursion}
use Rattle.std.specs.Char.{to_ascii_lowercase}
use Rattle.std.proofs.lemmas.List.{take-take, length-take-le, length-drop}
use Rattle.dns_names.specs.Name.{Labels, wire}
use Rattle.dns_names.specs.Lower.{AreOctets, octets_behind}
use Rattle.dns_names.specs.PlainLaws.{wire_read}
use Rattle.dns_wire.specs.NameAt.{NameAt, ends, points}
use Rattle.dns_wire.specs.Message.{Question, Message, header_of}
use Rattle.dns_wire.specs.Reads.{Reads, QuestionsAt}
use Rattle.dns_wire.specs.Valid.{IsEchoed}
use Rattle.dns_wire.proofs.Shown.{first_name}

octets_fit : (n : ℕ) (xs : List ℕ) → AreOctets xs → AllByRecursion (λ octet. octet < 256) (take n xs)
octets_fit zero xs h = tt
octets_fit (suc n) [] h = tt
octets_fit (suc n) (x ∷ xs) h = (h 0, octets_fit n xs (λ i. h (suc i)))

-- a first name is as it came, but for its case
name_came : {m : List ℕ} {name : Labels} {end : ℕ} → NameAt m 12 name end → map to_ascii_lowercase (take (length (wire name)) (drop 12 m)) ≡ wire name
name_came {m = m} {name = name} (ends stop h z e) = wire_read m 12 name stop h z
name_came (points labels rest stop target after h p far back inner is e) = absurd (omega arith)

pub id_fits : (octets : List ℕ) → AreOctets octets → (header_of octets).id < 2 ^ 16
id_fits [] fits = omega arith
id_fits (a ∷ []) fits = (let high : a < 256 = fits 0 in omega arith)
id_fits (a ∷ b ∷ rest) fits = (let high : a < 256 = fits 0 in let low : b < 256 = fits 1 in omega arith)

pub opcode_fits : (octets : List ℕ) → (header_of octets).opcode < 16
opcode_fits octets = omega arith

module _ (octets : List ℕ) (fits : AreOctets octets) where
  pub echoed : (m : Message) (q : Question) → Reads octets m → m.questions ≡ q ∷ [] → IsEchoed (record { octets = slice_range octets 12 (12 + length (wire q.name) + 4); name = q.name })
  echoed m q reads one = go (subst (λ (qs : List Question). QuestionsAt octets 12 qs reads.first) one reads.questions)
    where
      go : QuestionsAt octets 12 (q ∷ []) reads.first → IsEchoed (record { octets = slice_range octets 12 (12 + length (wire q.name) + 4); name = q.name })
      go (mid, first, e) =
          let n = length (wire q.name) in
          let behind = drop 12 octets in
          let size = first_name first.name.stands in
          let inside : first.mid + 2 + 2 ≤ length octets = first.qclass.inside in
          let narrow : 12 + n + 4 - 12 ≡ n + 4 = omega arith in
          let long : length behind ≡ length octets - 12 = length-drop 12 octets in
          let room : n + 4 ≤ length behind = omega (arith, size, inside, long) in
          record {
            valid = first.name.valid;
            size = ap (λ (k : ℕ). length (take k behind)) narrow ∙ length-take-le (n + 4) behind room;
            name = ap (λ (k : ℕ). map to_ascii_lowercase (take n (take k behind))) narrow ∙ ap (map to_ascii_lowercase) (take-take n (n + 4) behind (omega arith)) ∙ name_came first.name.stands;
            octets = octets_fit (12 + n + 4 - 12) behind (octets_behind octets 12 fits);
          }
