use Rattle.std.proofs.Common.{◌≡◌, ◌∙◌, ℕ, sym, ap}
use Rattle.std.specs.Prelude.{option_map, position}
use Rattle.dns_names.specs.Name.{Labels, names_eq}
use Rattle.dns_service.specs.declared.transfer_lines.Transfer.{Transfer}
use Rattle.dns_service.specs.TransferLines.{transfer_wanted}
use Rattle.dns_service.proofs.transfer_lines.asked.Goals as goal

pub returns-in-Some : goal.returns-in-Some
returns-in-Some c =
    let q = c.in-Transfer.request.question in
    let origins = c.args.origins.now in
    let named : c.in_ok-name-in-Transfer.name ≡ q.name = c.in_ok-name-in-Transfer.ensures ∙ c.name.ensures in
    let found = sym c.in-Some.is ∙ c.index_of.ensures ∙ ap (λ (n : Labels). position (λ origin. names_eq origin n) origins) named in
    ap (option_map (λ (zone : ℕ). let t : Transfer = record { zone = zone; serial = 0; records = 0 } in t)) found ∙ ap (transfer_wanted origins) c.in-Transfer.ensures.request

pub returns-in-Transfer : goal.returns-in-Transfer
returns-in-Transfer c =
    let q = c.in-Transfer.request.question in
    let origins = c.args.origins.now in
    let named : c.in_ok-name-in-Transfer.name ≡ q.name = c.in_ok-name-in-Transfer.ensures ∙ c.name.ensures in
    let found = sym c.in-None.is ∙ c.index_of.ensures ∙ ap (λ (n : Labels). position (λ origin. names_eq origin n) origins) named in
    ap (option_map (λ (zone : ℕ). let t : Transfer = record { zone = zone; serial = 0; records = 0 } in t)) found ∙ ap (transfer_wanted origins) c.in-Transfer.ensures.request
