use Rattle.std.proofs.Common.{◌≡◌, ◌+◌, ◌<◌, ℕ, List, [], ◌∷◌, ◌++◌, None, get_or, length, set, sym, ap, subst, ◌∙◌, arith}
use Rattle.std.proofs.lemmas.List.{get_or_read, length-append}
use Rattle.dns_names.specs.Name.{labels_of, wire}
use Rattle.dns_wire.specs.Compress.{Place}
use Rattle.dns_wire.specs.Indexed.{IsTable, Linked, head_of, linked_places, offset_at, suffix_number}
use Rattle.dns_wire.proofs.Linked.{table_heads, table_more}
use Rattle.dns_wire.proofs.compression_targets.Table.keep.Goals as goal

pub invariant_of-self-2 : goal.invariant_of-self-2
invariant_of-self-2 c =
    let linked = c.self.inside.linked.items in
    let heads = c.reach.new.heads.items in
    let head = c.head_of-head.result in
    let name = labels_of c.args.suffix.now in
    let one : Linked = record { place = record { offset = c.args.offset; suffix = name }; next = c.index-next.result.now } in
    let own : head_of (suffix_number (wire name)) ≡ head = ap (λ (s : List ℕ). head_of (suffix_number s)) c.requires.plain.whole ∙ ap head_of (sym c.requires.number) ∙ sym c.head_of-head.ensures.head in
    let inside : head < length heads = omega (arith, c.in_ok-reach.ensures.there, c.head_of-head.ensures.inside) in
    let link : c.index-next.result.now ≡ get_or heads head 0 = get_or_read heads head c.index-next.result.now inside c.index-next.ensures 0 in
    let none : None ≡ offset_at (linked_places linked) name = c.requires.new ∙ ap (λ (ps : List Place). offset_at ps name) (sym c.self.view_is) in
    let table = table_heads linked c.self.inside.heads.items heads c.reach.ensures.same c.self.invariant in
    let grown = table_more linked heads one head own inside link none table in
    let items : c.put_last.new.all.items ≡ linked ++ one ∷ [] = c.in_ok-put_last.ensures.kept ∙ ap (λ (ls : List Linked). ls ++ one ∷ []) c.reach.ensures.linked in
    let size : c.len.result ≡ length linked + 1 = omega (arith, c.len.ensures, ap length items, length-append linked (one ∷ [])) in
    subst (λ (ls : List Linked). IsTable ls (set heads head c.len.result)) (sym items)
    (subst (λ (n : ℕ). IsTable (linked ++ one ∷ []) (set heads head n)) (sym size) grown)
