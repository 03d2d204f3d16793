use Rattle.std.proofs.Common.{◌≡◌, ◌++◌, ◌∙◌, arith, ap, sym, subst, length, take, replicate, List, ℕ}
use Rattle.std.proofs.lemmas.List.{length-take-le}
use Rattle.dns_layout.specs.Apex.{apex_octets}
use Rattle.dns_layout.specs.Sector.{HasNumbers, root_tag, root_tag_in, sector_of}
use Rattle.dns_layout.specs.Own.{digest, sealed}
use Rattle.dns_layout.specs.Forms.{root_front, bank_number}
use Rattle.dns_layout.proofs.Octets.{two_written}
use Rattle.dns_layout.proofs.Roots.{root_said, field_front}
use Rattle.dns_layout.proofs.root.Root.encode.Goals as goal

size : (c : goal.After-encode) → length (take 455 c.field-field.result) ≡ 455
size c = length-take-le 455 c.field-field.result (omega arith)

payload_is : (c : goal.After-encode) → c.put-2.new.octets ≡ root_front c.args.self.now ++ take 455 (apex_octets c.args.self.now.apex)
payload_is c =
    two_written 25 c.front-front.result _ _ c.put.new.octets c.put-2.new.octets (omega arith) (omega (arith, size c)) c.put.ensures c.put-2.ensures
    ∙ ap (λ (y : List ℕ). y ++ take 455 c.field-field.result) c.front-front.ensures.octets
    ∙ ap (λ (y : List ℕ). root_front c.args.self.now ++ take 455 y) c.field-field.ensures.field

says : (c : goal.After-encode) → HasNumbers c.encode.result root_tag c.args.self.now.open_count c.args.self.now.base (bank_number c.args.self.now.bank)
unfolding root_tag_in
says c =
    let x = c.encode.result in
    let r = c.args.self.now in
    subst (λ (k : List ℕ). HasNumbers x k r.open_count r.base (bank_number r.bank)) c.tag_of.ensures
    (subst (λ (n : ℕ). HasNumbers x c.tag_of.result r.open_count r.base n) c.number.ensures c.encode.ensures.says)

form : (c : goal.After-encode) → c.encode.result ≡ sealed 0 (sector_of root_tag c.args.self.now.open_count c.args.self.now.base (bank_number c.args.self.now.bank) (root_front c.args.self.now ++ take 455 (apex_octets c.args.self.now.apex)))
unfolding root_tag_in
form c =
    let r = c.args.self.now in
    c.encode.ensures.form
    ∙ ap (λ (k : List ℕ). sealed 0 (sector_of k r.open_count r.base c.number.result c.put-2.new.octets)) c.tag_of.ensures
    ∙ ap (λ (n : ℕ). sealed 0 (sector_of root_tag r.open_count r.base n c.put-2.new.octets)) c.number.ensures
    ∙ ap (λ (p : List ℕ). sealed 0 (sector_of root_tag r.open_count r.base (bank_number r.bank) p)) (payload_is c)

pub returns-clause-says : goal.returns-clause-says
returns-clause-says c =
    let r = c.args.self.now in
    root_said r c.encode.result (take 455 (apex_octets r.apex)) _ (says c) c.front-front.ensures.bank_fits c.front-front.ensures.length_fits c.front-front.ensures.snapshot_fits c.front-front.ensures.journal_fits
    (length-take-le 455 (apex_octets r.apex) (omega (arith, ap (λ (l : List ℕ). length l) c.field-field.ensures.field)))
    (field_front r.apex c.field-field.ensures.plain) c.field-field.ensures.plain (form c)

pub slice_bounds-put-end-4 : goal.slice_bounds-put-end-4
slice_bounds-put-end-4 c = omega (arith, length-take-le 455 c.field-field.result (omega arith))

pub put-requires-2 : goal.put-requires-2
put-requires-2 c = omega (arith, length-take-le 455 c.field-field.result (omega arith))
