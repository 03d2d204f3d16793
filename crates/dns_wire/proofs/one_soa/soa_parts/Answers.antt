use Rattle.std.proofs.Common.{◌≡◌, ◌∷◌, [], ◌++◌, true, false, Bool, ℕ, List, length, drop, refl, sym, ap, subst, ◌∙◌, arith}
use Rattle.std.proofs.lemmas.List.{take_all}
use Rattle.std.specs.Prelude.{Option, Some, None, is_some}
use Rattle.dns_names.specs.Name.{Labels, names_eq, labels_of, wire}
use Rattle.dns_names.specs.PlainLaws.{plain_of}
use Rattle.dns_records.specs.Record.{AreFields}
use Rattle.dns_records.specs.Types.{Name, Values, type_soa}
use Rattle.dns_wire.specs.Compress.{new_places}
use Rattle.dns_wire.specs.Indexed.{offset_at}
use Rattle.dns_wire.specs.OneSoa.{soa_data, soa_head}
use Rattle.dns_wire.proofs.FewForms.{begins, five, soa_fields}
use Rattle.dns_wire.proofs.FieldsPut.{name_behind}
use Rattle.dns_wire.proofs.OneSoa.{soa_is, some_owner}
use Rattle.dns_wire.proofs.Suffixes.{plain_eq}
use Rattle.dns_wire.proofs.one_soa.soa_parts.Goals as goal

-- nothing was found
nowhere : (o : Option ℕ) (b : Bool) → b ≡ is_some o → b ≡ false → None ≡ o
nowhere None b e f = refl
nowhere (Some n) b e f = absurd (let bad : true ≡ false = sym e ∙ f in cc)

-- the octets behind a name
abbrev behind : List ℕ → List ℕ
behind xs = drop (length (wire (labels_of xs))) xs

pub split_name-requires-2 : goal.split_name-requires-2
split_name-requires-2 c =
    let r = c.args.one.now in
    let rdata = c.rdata-rdata.result.now in
    let e : r.rtype ≡ type_soa = sym c.rtype.ensures ∙ c.if-rtype-ne-SOA.false in
    let form : AreFields (Name ∷ Name ∷ Values five ∷ []) rdata = subst (AreFields (Name ∷ Name ∷ Values five ∷ [])) (sym c.rdata-rdata.ensures.octets) (soa_fields r e c.rdata-rdata.ensures.valid) in
    begins (Values five ∷ []) c.split_name.result.1.now (subst (AreFields (Name ∷ Values five ∷ [])) (sym c.split_name.ensures.behind) (name_behind (Name ∷ Values five ∷ []) rdata form))

pub returns : goal.returns
returns c =
    let r = c.args.one.now in
    let name = labels_of c.args.name.now in
    let places = new_places [] 12 name in
    let offset = c.in_ok-offset.offset in
    let e : r.rtype ≡ type_soa = sym c.rtype.ensures ∙ c.if-rtype-ne-SOA.false in
    let owner = c.as_wire-owner.result.now in
    let plain = plain_of owner c.owner.result c.as_wire-owner.ensures.valid c.as_wire-owner.ensures.octets in
    let owned : labels_of owner ≡ r.owner = plain.0 ∙ c.owner.ensures in
    let known : Some offset ≡ offset_at places r.owner = c.in_ok-offset.ensures.position ∙ ap (offset_at places) owned in
    let some = some_owner name r.owner offset known in
    let one = c.in_ok-label_before.ensures in
    let two = c.in_ok-label_before-2.ensures in
    let rest = c.split_name.result.1.now in
    let first : labels_of r.rdata ≡ one.1 ∷ r.owner = ap labels_of (sym c.rdata-rdata.ensures.octets) ∙ sym c.split_name.ensures.labels ∙ one.2 ∙ ap (λ (n : Labels). one.1 ∷ n) owned in
    let split : rest ≡ behind r.rdata = c.split_name.ensures.behind ∙ ap behind c.rdata-rdata.ensures.octets in
    let second : labels_of (behind r.rdata) ≡ two.1 ∷ r.owner = ap labels_of (sym split) ∙ sym c.split_name-2.ensures.labels ∙ two.2 ∙ ap (λ (n : Labels). two.1 ∷ n) owned in
    let here : labels_of c.split_name.result.0.now ≡ one.1 ∷ r.owner = one.2 ∙ ap (λ (n : Labels). one.1 ∷ n) owned in
    let there : labels_of c.split_name-2.result.0.now ≡ two.1 ∷ r.owner = two.2 ∙ ap (λ (n : Labels). two.1 ∷ n) owned in
    let new : None ≡ offset_at places (one.1 ∷ r.owner) = nowhere c.place_within-2.result c.is_some.result c.is_some.ensures c.if-is_some.false ∙ c.place_within-2.ensures.position ∙ ap (offset_at places) here in
    let newer : None ≡ offset_at places (two.1 ∷ r.owner) =
    nowhere c.place_within-else-is_some.result c.is_some-else-is_some.result c.is_some-else-is_some.ensures c.if-is_some-2.false ∙ c.place_within-else-is_some.ensures.position ∙ ap (offset_at places) there in
    let other : names_eq (one.1 ∷ r.owner) (two.1 ∷ r.owner) ≡ false =
    (λ i. names_eq (sym here i) (sym there i)) ∙ sym (plain_eq c.split_name.result.0.now c.split_name-2.result.0.now c.split_name.ensures.plain c.split_name-2.ensures.plain) ∙ sym c.same_octets.ensures ∙ c.if-same_octets.false in
    let cases = c.in-Some-default-empty.ensures.cases in
    let last = c.split_name-2.result.1.now in
    let all : c.in-Some-default-empty.numbers.now ≡ last = cases.0 ∙ take_all 20 last (omega (arith, cases.2, c.in-Some-default-empty.len_below)) in
    let numbers : c.in-Some-default-empty.numbers.now ≡ behind (behind r.rdata) = all ∙ c.split_name-2.ensures.behind ∙ ap behind split in
    record {
      low = c.in_ok-offset.ensures.low;
      short = omega (arith, one.0, two.0);
      numbers = omega (arith, ap length all, cases.2, c.in-Some-default-empty.len_below);
      octets = λ at.
          soa_is places at r one.1 two.1 some.0 some.1 offset e some.2 first second known new newer other
          ∙ (λ i. let rdata = soa_data offset (sym one.3 i) (sym two.3 i) (sym numbers i) in soa_head offset r.ttl (length rdata) ++ rdata);
    }
