use Rattle.std.proofs.Common.{◌≡◌, ◌+◌, ◌-◌, ◌++◌, List, ℕ, length, refl, sym, ap, subst, ◌∙◌, arith}
use Rattle.std.proofs.lemmas.Result.{IfErr-weaker}
use Rattle.dns_names.specs.Name.{Labels, labels_of}
use Rattle.dns_names.specs.PlainLaws.{labels_of-wire}
use Rattle.dns_wire.specs.Compress.{Compressing, compressed_name, compressed_rdata, compressed_record}
use Rattle.dns_wire.specs.Puts.{RefusesUpTo, Wrote, WroteLabels, behind_owner, fixed_octets, name_end, plain_octets}
use Rattle.dns_wire.proofs.Exits.{err_exit, on_ok}
use Rattle.dns_wire.proofs.Puts.{refuses_last, refuses_part, wrote_last}
use Rattle.dns_wire.proofs.RecordsPut.{after_labels, record_left, record_octets, record_places, sized_length, start_of}
use Rattle.dns_wire.proofs.compressor.Compressor.put_by_labels.Goals as goal
use Rattle.dns_wire.proofs.compressor.Compressor.put_by_labels.Goals.{In_ok-found}

-- the labels of the owner are written
labelled : (c : In_ok-found) → WroteLabels c.args.self.now.limit c.args.self.now.octets.items c.put_labels.new.self.octets.items c.put_labels.new.self.limit c.put_labels.new.self.places (compressed_name c.args.self.now.places (length c.args.self.now.octets.items) c.args.one.now.owner) c.in_ok-found.found
labelled c =
    let s = c.args.self.now in
    let now = c.put_labels.new.self in
    let named : labels_of c.as_wire.result.now ≡ c.args.one.now.owner = ap labels_of c.as_wire.ensures.octets ∙ labels_of-wire c.owner.result c.as_wire.ensures.valid.labels ∙ c.owner.ensures in
    subst (λ (n : Labels). WroteLabels s.limit s.octets.items now.octets.items now.limit now.places (compressed_name s.places (length s.octets.items) n) c.in_ok-found.found) named c.in_ok-found.ensures.written

pub returns-in-Some-clause-written : goal.returns-in-Some-clause-written
returns-in-Some-clause-written c =
    let s = c.args.self.now in
    let now = c.put_labels.new.self in
    let new = c.put.new.self in
    let r = c.args.one.now in
    let all = compressed_record s.places (length s.octets.items) r in
    let w = labelled (goal.at.returns-in-Some-clause-written c).In_ok-found in
    let left = record_left s.limit s.octets.items now.octets.items now.limit s.places now.places r c.in_ok-found.found c.in-Some.octets w c.in-Some.ensures in
    on_ok c.put.result (Wrote now.limit now.octets.items new.octets.items new.limit new.places (plain_octets now.places c.in-Some.octets)) (Wrote s.limit s.octets.items new.octets.items new.limit new.places all) c.put.ensures.written
    (λ v. wrote_last s.limit s.octets.items all now.octets.items c.in-Some.octets now.places now.limit new.octets.items new.limit new.places (plain_octets now.places c.in-Some.octets) refl refl w.same left v)

pub returns-in-Some-clause-refused : goal.returns-in-Some-clause-refused
returns-in-Some-clause-refused c =
    let s = c.args.self.now in
    let now = c.put_labels.new.self in
    let r = c.args.one.now in
    let all = compressed_record s.places (length s.octets.items) r in
    let w = labelled (goal.at.returns-in-Some-clause-refused c).In_ok-found in
    let left = record_left s.limit s.octets.items now.octets.items now.limit s.places now.places r c.in_ok-found.found c.in-Some.octets w c.in-Some.ensures in
    IfErr-weaker c.put.result (RefusesUpTo now.limit (length now.octets.items + length c.in-Some.octets)) (RefusesUpTo s.limit (length s.octets.items + length all.octets))
    (λ e h. refuses_last s.limit s.octets.items all now.octets.items c.in-Some.octets now.places now.limit e w.same left h) c.put.ensures.refused

pub returns-in_err-put_end-clause-refused : goal.returns-in_err-put_end-clause-refused
returns-in_err-put_end-clause-refused c =
    let s = c.args.self.now in
    let now = c.put_labels.new.self in
    let r = c.args.one.now in
    let found = c.in_ok-found.found in
    let all = compressed_record s.places (length s.octets.items) r in
    let owner = compressed_name s.places (length s.octets.items) r.owner in
    let behind = behind_owner owner.places (length s.octets.items + length owner.octets) r in
    let w = labelled (goal.at.returns-in_err-put_end-clause-refused c).In_ok-found in
    let e = c.in_err-put_end.field-0.0 in
    err_exit c.from_residual-in_err-put_end.result _ (RefusesUpTo s.limit (length s.octets.items + length all.octets)) c.from_residual-in_err-put_end.ensures.1
    (λ y same. subst (RefusesUpTo s.limit (length s.octets.items + length all.octets)) (sym same)
    (refuses_part s.limit s.octets.items all now.octets.items (name_end found ++ behind.octets) behind.places now.limit (name_end found) behind.octets e refl w.same
    (after_labels s.limit s.octets.items now.octets.items now.limit s.places now.places r found w) c.in_err-put_end.ensures.refused))

pub returns-clause-written : goal.returns-clause-written
returns-clause-written c =
    let s = c.args.self.now in
    let r = c.args.one.now in
    let w0 = labelled (goal.at.returns-clause-written c).In_ok-found in
    let w1 = c.in_ok-put_end.ensures.written in
    let w2 = c.in_ok-put.ensures.written in
    let w3 = c.in_ok-put_rdata.ensures.written in
    let one = c.put_end.new.self in
    let two = c.put-2.new.self in
    let three = c.put_rdata.new.self in
    let e1 : one.octets.items ≡ s.octets.items ++ (compressed_name s.places (length s.octets.items) r.owner).octets = w1.octets ∙ sym w0.octets in
    let e2 : one.places ≡ (compressed_name s.places (length s.octets.items) r.owner).places = w1.places ∙ w0.places in
    let e3 : two.octets.items ≡ one.octets.items ++ fixed_octets r.rtype r.ttl = w2.octets ∙ ap (λ (xs : List ℕ). one.octets.items ++ xs) (c.fixed.ensures ∙ ap (λ (t : ℕ). fixed_octets t c.ttl.result) c.rtype.ensures ∙ ap (λ (t : ℕ). fixed_octets r.rtype t) c.ttl.ensures) in
    let e6 : c.len-start.result ≡ length two.octets.items = omega (arith, c.len-start.ensures) in
    let start = start_of one.octets.items two.octets.items three.octets.items (fixed_octets r.rtype r.ttl) (compressed_rdata two.places (length two.octets.items) r).octets c.len-start.result refl e3 w3.octets e6 in
    let size : length c.put_size.new.self.octets.items ≡ length three.octets.items = sized_length three.octets.items c.put_size.new.self.octets.items c.len-start.result (length three.octets.items - c.len-start.result) start.0 start.1 c.put_size.ensures.octets in
    record {
      octets = record_octets s.octets.items s.places r one.octets.items two.octets.items three.octets.items c.put_size.new.self.octets.items one.places two.places c.len-start.result e1 e2 e3 w2.places w3.octets e6 c.put_size.ensures.octets;
      places = c.put_size.ensures.places ∙ w3.places ∙ ap (λ (p : Compressing). p.places) (record_places s.octets.items s.places r one.octets.items two.octets.items one.places two.places e1 e2 e3 w2.places);
      fits = omega (arith, size, w3.fits, w2.same, w1.same, w0.same);
      same = c.put_size.ensures.limit ∙ w3.same ∙ w2.same ∙ w1.same ∙ w0.same;
    }
