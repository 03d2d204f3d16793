use Rattle.std.proofs.Common.{◌≡◌, ℕ, ◌<◌, ◌≤◌, ◌^◌, length, List, sym, ap, subst, ◌∙◌, arith}
use Rattle.std.proofs.lemmas.Result.{err_from_is_err_and}
use Rattle.dns_records.specs.Record.{Record}
use Rattle.dns_records.specs.Types.{class_in}
use Rattle.dns_wire.specs.Reads.{Reads}
use Rattle.dns_wire.specs.Reply.{stated}
use Rattle.dns_wire.specs.Text.{text}
use Rattle.dns_secondary.specs.Request.{as_reply, asked_octets, most_by, question_asked, request_message, request_octets, soas_held}
use Rattle.dns_request.specs.Request.{IsRequest, Transfer}
use Rattle.dns_secondary.proofs.Door.{at_the_door}
use Rattle.dns_secondary.proofs.Asked.{as_long, asked_reads, cleared, refused_as, type_small}
use Rattle.dns_secondary.proofs.request.request.Goals as goal

pub returns-in_err-request-clause-refused : goal.returns-in_err-request-clause-refused
returns-in_err-request-clause-refused g c =
    let q = question_asked c.args.apex.now c.args.held.now in
    let octets = c.as_slice.ensures.value ∙ c.in_ok-octets.ensures ∙ ap (λ (t : ℕ). asked_octets (record { name = c.args.apex.now; qtype = t; qclass = class_in })) c.type_asked.ensures in
    let is = c.as_reply-reply.ensures q octets c.lend.ensures ∙ ap (λ (rs : List Record). as_reply q c.args.id rs) (c.deref.ensures.value ∙ c.in_ok-soas.ensures.stated) in
    let p = err_from_is_err_and c.from_residual-in_err-request.result c.from_residual-in_err-request.ensures.1 in
    rw (p.1, p.2) (refused_as q c.args.id (soas_held c.args.held.now) (stated c.as_reply-reply.result) c.most_by.result _ c.in_err-request.field-0.0 is c.most_by.ensures c.in_err-request.ensures.refused)

pub returns-clause-asked : goal.returns-clause-asked
returns-clause-asked g c =
    let q = question_asked c.args.apex.now c.args.held.now in
    let octets = c.as_slice.ensures.value ∙ c.in_ok-octets.ensures ∙ ap (λ (t : ℕ). asked_octets (record { name = c.args.apex.now; qtype = t; qclass = class_in })) c.type_asked.ensures in
    let is = c.as_reply-reply.ensures q octets c.lend.ensures ∙ ap (λ (rs : List Record). as_reply q c.args.id rs) (c.deref.ensures.value ∙ c.in_ok-soas.ensures.stated) in
    cleared q c.args.id (soas_held c.args.held.now) (c.in_ok-request.request).items (c.in_ok-request.ensures.found.0 ∙ ap text is)

pub returns-clause-read : goal.returns-clause-read
returns-clause-read g c =
    let held = c.args.held.now in
    let q = question_asked c.args.apex.now held in
    let fit : c.args.id < 2 ^ 16 = omega (arith, c.ranges.id.fits) in
    subst (λ (xs : List ℕ). Reads xs (request_message c.args.apex.now held c.args.id)) (sym {A = List ℕ} (returns-clause-asked g c))
    (asked_reads q c.args.id (soas_held held) c.one_compressed_text.ensures.reads_back c.as_wire-apex.ensures.valid (type_small held) (omega arith) fit
    c.in_ok-soas.ensures.few c.in_ok-soas.ensures.valid c.in_ok-soas.ensures.soas)

pub returns-clause-door : goal.returns-clause-door
returns-clause-door g c =
    let held = c.args.held.now in
    let apex = c.args.apex.now in
    let q = question_asked apex held in
    let octets = c.as_slice.ensures.value ∙ c.in_ok-octets.ensures ∙ ap (λ (t : ℕ). asked_octets (record { name = c.args.apex.now; qtype = t; qclass = class_in })) c.type_asked.ensures in
    let is = c.as_reply-reply.ensures q octets c.lend.ensures ∙ ap (λ (rs : List Record). as_reply q c.args.id rs) (c.deref.ensures.value ∙ c.in_ok-soas.ensures.stated) in
    let long : length (request_octets apex held c.args.id) ≡ length (c.in_ok-request.request).items =
    as_long q c.args.id (soas_held held) (c.in_ok-request.request).items (c.in_ok-request.ensures.found.0 ∙ ap text is) in
    let fits : length (c.in_ok-request.request).items ≤ c.most_by.result = c.in_ok-request.ensures.found.1 in
    let short : length (request_octets apex held c.args.id) ≤ most_by c.args.transport =
    subst (λ (k : ℕ). length (request_octets apex held c.args.id) ≤ k) c.most_by.ensures
    (subst (λ (k : ℕ). k ≤ c.most_by.result) (sym long) fits) in
    let reads = subst (λ (xs : List ℕ). Reads xs (request_message apex held c.args.id)) (returns-clause-asked g c) (returns-clause-read g c) in
    subst (λ (xs : List ℕ). IsRequest xs c.args.transport (Transfer (request_message apex held c.args.id) q)) (sym {A = List ℕ} (returns-clause-asked g c))
    (at_the_door apex held c.args.id c.args.transport c.at_most_one.ensures.once short reads)
