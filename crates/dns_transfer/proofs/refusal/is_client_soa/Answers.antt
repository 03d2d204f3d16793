use Rattle.std.proofs.Common.{◌≡◌, not, ◌&&◌, length, vec_len, ap, ◌∙◌, arith}
use Rattle.std.specs.Prelude.{◌==◌}
use Rattle.dns_names.specs.Name.{names_eq}
use Rattle.dns_records.specs.Types.{type_soa, class_in}
use Rattle.dns_transfer.proofs.Told.{same_names}
use Rattle.dns_transfer.proofs.refusal.is_client_soa.Goals as goal

pub returns : goal.returns
returns c =
    let item = c.args.item.now in
    let size : vec_len c.in_ok-rdata.rdata ≡ length item.rdata = omega (arith, c.in_ok-rdata.rdata.ok, ap length c.in_ok-rdata.ensures) in
    let empty : c.is_empty.result ≡ (length item.rdata == 0) = c.is_empty.ensures ∙ ap (λ n. n == 0) size in
    let owners : c.is-is_owner.result ≡ names_eq item.owner c.args.question.now.name = same_names c.is-is_owner.result c.lend.result c.lend-2.result c.is-is_owner.ensures ∙ (λ i. names_eq ((c.lend.ensures ∙ c.in_ok-owner.ensures ∙ c.owner.ensures) i) ((c.lend-2.ensures ∙ c.in_ok-zone.ensures ∙ c.name.ensures) i)) in
    let types : (c.rtype.result == type_soa) ≡ (item.rtype == type_soa) = ap (λ n. n == type_soa) c.rtype.ensures in
    let classes : (c.class.result == class_in) ≡ (item.class == class_in) = ap (λ n. n == class_in) c.class.ensures in
    λ i. owners i && types i && classes i && not (empty i)
