-- The data of a SOA in a message has its form.
use Rattle.std.proofs.Common.{◌≡◌, ℕ, ◌+◌, ◌⊎◌, inl, inr, true, not, ◌&&◌, List, [], ◌∷◌, length, sym, ap, subst, ◌∙◌, arith}
use Rattle.std.specs.Prelude.{◌==◌}
use Rattle.std.proofs.lemmas.Bool.Decides.{nat_tests}
use Rattle.dns_names.specs.Name.{names_eq}
use Rattle.dns_records.specs.Types.{type_soa, class_in}
use Rattle.dns_records.specs.Record.{IsRData}
use Rattle.dns_zone.specs.Order.{both_true}
use Rattle.dns_wire.specs.Message.{Question, ResourceRecord, Message}
use Rattle.dns_transfer.specs.Refusal.{is_client_soa}
use Rattle.dns_wire.specs.Reads.{ResourceRecordAt, ResourceRecordsAt, Reads}
use Rattle.dns_wire.proofs.Formed.{data_formed}

-- the one record of the authority section
pub only_formed : (octets : List ℕ) (m : Message) (i : ResourceRecord) → Reads octets m → m.authorities ≡ i ∷ [] → (length i.rdata ≡ 0) ⊎ IsRData i.rtype i.rdata
only_formed octets m i h e =
    let stands = subst (λ (items : List ResourceRecord). ResourceRecordsAt octets h.second items h.third) e h.authorities in
    let here : ResourceRecordAt octets h.second i stands.0 = stands.1 in
    data_formed octets (here.mid + 10) i.rtype here.rdlength i.rdata here.rdata

one_left : {X : Type 0} (xs rest : List X) (x : X) → xs ≡ x ∷ rest → length xs ≡ 1 → xs ≡ x ∷ []
one_left xs [] x e one = e
one_left xs (y ∷ rest) x e one = absurd (omega (arith, ap length e, one))

-- the SOA of the client's version has the data of a SOA
pub client_formed : (octets : List ℕ) (m : Message) (q : Question) (i : ResourceRecord) (rest : List ResourceRecord) → Reads octets m → m.authorities ≡ i ∷ rest → length m.authorities ≡ 1 → is_client_soa q i ≡ true → IsRData type_soa i.rdata
client_formed octets m q i rest h e one is =
    let filled = both_true (names_eq i.owner q.name && i.rtype == type_soa && i.class == class_in) (not (length i.rdata == 0)) is in
    let class = both_true (names_eq i.owner q.name && i.rtype == type_soa) (i.class == class_in) filled.0 in
    let rtype = both_true (names_eq i.owner q.name) (i.rtype == type_soa) class.0 in
    let soa : i.rtype ≡ type_soa = grind (arith, nat_tests, rtype.1) in
    elim (only_formed octets m i h (one_left m.authorities rest i e one)) [
      | inl none ↦ (let empty : (length i.rdata == 0) ≡ true = ap (λ (n : ℕ). n == 0) none in absurd (let no : not true ≡ true = ap not (sym empty) ∙ filled.1 in cc))
      | inr formed ↦ subst (λ (t : ℕ). IsRData t i.rdata) soa formed
    ]
