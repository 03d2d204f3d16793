use Rattle.std.proofs.Common.{◌≡◌, ◌+◌, ◌-◌, ◌<◌, ◌≤◌, ℕ, List, [], Some, true, get_or, length, sym, ap, subst, ◌∙◌, arith}
use Rattle.std.proofs.lemmas.List.{get_or_read}
use Rattle.dns_names.specs.Name.{labels_of, names_eq}
use Rattle.dns_wire.specs.Indexed.{Linked, head_of, next_at, suffix_at, suffix_number}
use Rattle.dns_wire.proofs.Linked.{StillLinked, linked_first, linked_found, linked_next, linked_none}
use Rattle.dns_wire.proofs.compression_targets.linked_place.Goals as goal
use Rattle.dns_wire.proofs.compression_targets.linked_place.Goals.{After-is}

pub links-init : goal.links-init
links-init c =
    let linked = c.args.linked.now in
    let heads = c.args.heads.now in
    let suffix = c.args.suffix.now in
    let head = head_of (suffix_number suffix) in
    let at : c.link_at-link.result ≡ get_or heads head 0 = c.link_at-link.ensures ∙ ap (λ (k : ℕ). get_or heads k 0) (c.head_of.ensures.head ∙ ap head_of c.requires.number) in
    subst (StillLinked linked (labels_of suffix) head) (sym at) (linked_first linked heads (labels_of suffix) head (ap (λ (s : List ℕ). head_of (suffix_number s)) c.requires.plain.whole) c.requires.table)

-- the target at the index before the link
read : (c : After-is) → c.index-linked-link.result ≡ get_or c.args.linked.now (c.links.link - 1) (record { place = record { offset = 0; suffix = [] }; next = 0 })
read c =
    let low : c.links.link ≤ length c.args.linked.now = c.links.invariant.inside in
    let inside : c.links.link - 1 < length c.args.linked.now = omega (arith, low, c.links-test.true) in
    get_or_read c.args.linked.now (c.links.link - 1) c.index-linked-link.result inside c.index-linked-link.is (record { place = record { offset = 0; suffix = [] }; next = 0 })

pub returns-then-is-clause-position : goal.returns-then-is-clause-position
returns-then-is-clause-position c =
    let linked = c.args.linked.now in
    let name = labels_of c.args.suffix.now in
    let index = c.links.link - 1 in
    let one = read (goal.at.returns-then-is-clause-position c).After-is in
    let low : c.links.link ≤ length linked = c.links.invariant.inside in
    let has : names_eq (suffix_at linked index) name ≡ true = ap (λ (l : Linked). names_eq l.place.suffix name) (sym one) ∙ sym c.is.ensures ∙ c.if-is.true in
    ap (λ (n : ℕ). Some n) (c.offset.ensures.same ∙ ap (λ (l : Linked). l.place.offset) one)
    ∙ linked_found linked c.args.heads.now name index c.requires.table (omega (arith, low, c.links-test.true)) has

pub links-preserved : goal.links-preserved
links-preserved c =
    let linked = c.args.linked.now in
    let suffix = c.args.suffix.now in
    let name = labels_of suffix in
    let index = c.links.link - 1 in
    let head = head_of (suffix_number suffix) in
    let one = read (goal.at.links-preserved c).After-is in
    let is : c.links.link ≡ index + 1 = omega (arith, c.links-test.true) in
    let not = ap (λ (l : Linked). names_eq l.place.suffix name) (sym one) ∙ sym c.is.ensures ∙ c.if-is.false in
    let next : c.next-link.result ≡ next_at linked index = c.next-link.ensures ∙ ap (λ (l : Linked). l.next) one in
    subst (StillLinked linked name head) (sym next)
    (linked_next linked c.args.heads.now name head c.links.link index (ap (λ (s : List ℕ). head_of (suffix_number s)) c.requires.plain.whole) c.requires.table is not c.links.invariant)

pub returns-clause-position : goal.returns-clause-position
returns-clause-position c = linked_none c.args.linked.now (labels_of c.args.suffix.now) (head_of (suffix_number c.args.suffix.now)) c.links.link c.links-test.false c.links.invariant
