use Rattle.std.proofs.Common.{◌≡◌, ◌≤◌, ◌+◌, ◌∷◌, ◌++◌, List, ℕ, length, take, drop, get_or, sym, ap, subst, ◌∙◌, arith}
use Rattle.std.proofs.lemmas.Result.{IfErr-weaker}
use Rattle.dns_names.specs.Name.{Labels, wire, labels_of}
use Rattle.dns_records.specs.Types.{Field, Values, octet_count, Name, UncompressedName, Strings}
use Rattle.dns_records.specs.Record.{AreFields}
use Rattle.dns_records.specs.Fields.{stated_field, stated_fields, stated_values}
use Rattle.dns_records.specs.declared.parts.Field.{Field as Part}
use Rattle.dns_records.specs.declared.parts.Field.TheVariants as part
use Rattle.dns_wire.specs.Compress.{Compressing, compressed_name, compressed_fields}
use Rattle.dns_wire.specs.Puts.{RefusesUpTo}
use Rattle.dns_wire.proofs.Exits.{err_exit}
use Rattle.dns_wire.proofs.Parts.{no_field, parts_left}
use Rattle.dns_wire.proofs.Puts.{refuses_last}
use Rattle.dns_wire.proofs.FieldsPut.{FieldsLeft, octets_behind, octets_room, name_behind, octets_next, names_next, octets_refused, names_refused}
use Rattle.dns_wire.proofs.compressor.Compressor.put_fields.Goals as goal
use Rattle.dns_wire.proofs.compressor.Compressor.put_fields.Goals.{in-Values+in-Some+in_ok-put-in-Values, in-Name+in_ok-put_name-in-Name}

-- the parts that are left begin with this one
begins : (parts : List Part) (i : ℕ) (f : Part) → i + 1 ≤ length parts → get_or parts i no_field ≡ f → stated_fields (drop i parts) ≡ stated_field f ∷ stated_fields (drop (i + 1) parts)
begins parts i f lt e = parts_left parts i no_field (omega arith) ∙ ap (λ (x : Part). stated_field x ∷ stated_fields (drop (i + 1) parts)) e

pub returns-in_err-put-in-Values-clause-refused : goal.returns-in_err-put-in-Values-clause-refused
returns-in_err-put-in-Values-clause-refused c =
    let s = c.args.self.now in
    let now = c.loop-field.self in
    let parts = c.args.fields.now in
    let i = c.loop-field.field-index in
    let values = stated_values c.in-Values.values.now in
    let rdata = c.loop-field.rest.now in
    let fields = stated_fields (drop (i + 1) parts) in
    let all = compressed_fields s.places (length s.octets.items) (stated_fields parts) c.args.rdata.now in
    let front = begins parts i (part.Values c.in-Values.values) (omega arith) c.in-Values.is in
    let left : FieldsLeft s.octets.items all now.octets.items now.places (Values values ∷ fields) rdata = subst (λ (fs : List Field). FieldsLeft s.octets.items all now.octets.items now.places fs rdata) front c.loop-field.invariant.left in
    err_exit c.from_residual.result _ (RefusesUpTo s.limit (length s.octets.items + length all.octets)) c.from_residual.ensures.1
    (λ y same. subst (RefusesUpTo s.limit (length s.octets.items + length all.octets)) (sym same)
    (octets_refused s.limit s.octets.items all now.octets.items now.places now.limit values fields rdata c.split_at.result.0.now c.in_err-put-in-Values.field-0.0 (c.split_at.ensures.front ∙ ap (λ (k : ℕ). take k rdata) c.in-Some.ensures.0) c.loop-field.invariant.same left c.in_err-put-in-Values.ensures.refused))

pub returns-in_err-put_name-in-Name-clause-refused : goal.returns-in_err-put_name-in-Name-clause-refused
returns-in_err-put_name-in-Name-clause-refused c =
    let s = c.args.self.now in
    let now = c.loop-field.self in
    let parts = c.args.fields.now in
    let i = c.loop-field.field-index in
    let rdata = c.loop-field.rest.now in
    let fields = stated_fields (drop (i + 1) parts) in
    let all = compressed_fields s.places (length s.octets.items) (stated_fields parts) c.args.rdata.now in
    let front = begins parts i part.Name (omega arith) c.in-Name.is in
    let left : FieldsLeft s.octets.items all now.octets.items now.places (Name ∷ fields) rdata = subst (λ (fs : List Field). FieldsLeft s.octets.items all now.octets.items now.places fs rdata) front c.loop-field.invariant.left in
    let e = c.in_err-put_name-in-Name.field-0.0 in
    let refused : RefusesUpTo now.limit (length now.octets.items + length (compressed_name now.places (length now.octets.items) (labels_of rdata)).octets) e = subst (λ (x : Labels). RefusesUpTo now.limit (length now.octets.items + length (compressed_name now.places (length now.octets.items) x).octets) e) c.split_name.ensures.labels c.in_err-put_name-in-Name.ensures.refused in
    err_exit c.from_residual-in_err-put_name-in-Name.result _ (RefusesUpTo s.limit (length s.octets.items + length all.octets)) c.from_residual-in_err-put_name-in-Name.ensures.1
    (λ y same. subst (RefusesUpTo s.limit (length s.octets.items + length all.octets)) (sym same)
    (names_refused s.limit s.octets.items all now.octets.items now.places now.limit fields rdata e c.loop-field.invariant.same left refused))

pub returns-in-UncompressedName-clause-refused : goal.returns-in-UncompressedName-clause-refused
returns-in-UncompressedName-clause-refused c =
    let s = c.args.self.now in
    let now = c.loop-field.self in
    let parts = c.args.fields.now in
    let i = c.loop-field.field-index in
    let rdata = c.loop-field.rest.now in
    let fields = stated_fields (drop (i + 1) parts) in
    let all = compressed_fields s.places (length s.octets.items) (stated_fields parts) c.args.rdata.now in
    let left : FieldsLeft s.octets.items all now.octets.items now.places (UncompressedName ∷ fields) rdata =
    subst (λ (fs : List Field). FieldsLeft s.octets.items all now.octets.items now.places fs rdata) (begins parts i part.UncompressedName (omega arith) c.in-UncompressedName.is) c.loop-field.invariant.left in
    IfErr-weaker c.put-in-UncompressedName.result (RefusesUpTo now.limit (length now.octets.items + length rdata)) (RefusesUpTo s.limit (length s.octets.items + length all.octets))
    (λ e h. refuses_last s.limit s.octets.items all now.octets.items rdata now.places now.limit e c.loop-field.invariant.same left h) c.put-in-UncompressedName.ensures.refused

pub returns-in-Strings-clause-refused : goal.returns-in-Strings-clause-refused
returns-in-Strings-clause-refused c =
    let s = c.args.self.now in
    let now = c.loop-field.self in
    let parts = c.args.fields.now in
    let i = c.loop-field.field-index in
    let rdata = c.loop-field.rest.now in
    let fields = stated_fields (drop (i + 1) parts) in
    let all = compressed_fields s.places (length s.octets.items) (stated_fields parts) c.args.rdata.now in
    let left : FieldsLeft s.octets.items all now.octets.items now.places (Strings ∷ fields) rdata =
    subst (λ (fs : List Field). FieldsLeft s.octets.items all now.octets.items now.places fs rdata) (begins parts i part.Strings (omega arith) c.in-Strings.is) c.loop-field.invariant.left in
    IfErr-weaker c.put-in-Strings.result (RefusesUpTo now.limit (length now.octets.items + length rdata)) (RefusesUpTo s.limit (length s.octets.items + length all.octets))
    (λ e h. refuses_last s.limit s.octets.items all now.octets.items rdata now.places now.limit e c.loop-field.invariant.same left h) c.put-in-Strings.ensures.refused

pub loop-field-preserved : goal.loop-field-preserved
loop-field-preserved c =
    let s = c.args.self.now in
    let now = c.loop-field.self in
    let new = c.match-field.self in
    let parts = c.args.fields.now in
    let i = c.loop-field.field-index in
    let rdata = c.loop-field.rest.now in
    let behind = c.match-field.rest.now in
    let fields = stated_fields (drop (i + 1) parts) in
    let all = compressed_fields s.places (length s.octets.items) (stated_fields parts) c.args.rdata.now in
    elim c.match-field.branch [
      | in-Values+in-Some+in_ok-put-in-Values w ↦
          (let values = stated_values w.in-Values.values.now in
          let front = begins parts i (part.Values w.in-Values.values) (omega arith) w.in-Values.is in
          let left : FieldsLeft s.octets.items all now.octets.items now.places (Values values ∷ fields) rdata = subst (λ (fs : List Field). FieldsLeft s.octets.items all now.octets.items now.places fs rdata) front c.loop-field.invariant.left in
          let form : AreFields (Values values ∷ fields) rdata = subst (λ (fs : List Field). AreFields fs rdata) front c.loop-field.invariant.form in
          let wrote = w.in_ok-put-in-Values.ensures.written in
          let grown : new.octets.items ≡ now.octets.items ++ w.split_at.result.0.now = ap (λ x. x.octets.items) w.self-is ∙ wrote.octets in
          let kept : new.places ≡ now.places = ap (λ x. x.places) w.self-is ∙ wrote.places in
          let limit : new.limit ≡ now.limit = ap (λ x. x.limit) w.self-is ∙ wrote.same in
          let fits : length new.octets.items ≤ now.limit = subst (λ (xs : List ℕ). length xs ≤ now.limit) (sym (ap (λ x. x.octets.items) w.self-is)) wrote.fits in
          let back : behind ≡ drop (octet_count values) rdata = ap (λ x. x.now) w.rest-is ∙ w.split_at.ensures.back ∙ ap (λ (k : ℕ). drop k rdata) w.in-Some.ensures.0 in
          record {
            room = omega (arith, fits, limit);
            same = limit ∙ c.loop-field.invariant.same;
            form = subst (AreFields fields) (sym back) (octets_behind values fields rdata form);
            left = subst (FieldsLeft s.octets.items all new.octets.items new.places fields) (sym back) (octets_next s.octets.items all now.octets.items now.places values fields rdata w.split_at.result.0.now new.octets.items new.places (octets_room values fields rdata form) (w.split_at.ensures.front ∙ ap (λ (k : ℕ). take k rdata) w.in-Some.ensures.0) grown kept left);
          })
      | in-Name+in_ok-put_name-in-Name w ↦
          (let front = begins parts i part.Name (omega arith) w.in-Name.is in
          let left : FieldsLeft s.octets.items all now.octets.items now.places (Name ∷ fields) rdata = subst (λ (fs : List Field). FieldsLeft s.octets.items all now.octets.items now.places fs rdata) front c.loop-field.invariant.left in
          let form : AreFields (Name ∷ fields) rdata = subst (λ (fs : List Field). AreFields fs rdata) front c.loop-field.invariant.form in
          let wrote = w.in_ok-put_name-in-Name.ensures.written in
          let compression : compressed_name now.places (length now.octets.items) (labels_of w.split_name.result.0.now) ≡ compressed_name now.places (length now.octets.items) (labels_of rdata) = ap (compressed_name now.places (length now.octets.items)) w.split_name.ensures.labels in
          let grown : new.octets.items ≡ now.octets.items ++ (compressed_name now.places (length now.octets.items) (labels_of rdata)).octets = ap (λ x. x.octets.items) w.self-is ∙ wrote.octets ∙ ap (λ (p : Compressing). now.octets.items ++ p.octets) compression in
          let kept : new.places ≡ (compressed_name now.places (length now.octets.items) (labels_of rdata)).places = ap (λ x. x.places) w.self-is ∙ wrote.places ∙ ap (λ (p : Compressing). p.places) compression in
          let limit : new.limit ≡ now.limit = ap (λ x. x.limit) w.self-is ∙ wrote.same in
          let fits : length new.octets.items ≤ now.limit = subst (λ (xs : List ℕ). length xs ≤ now.limit) (sym (ap (λ x. x.octets.items) w.self-is)) wrote.fits in
          let back : behind ≡ drop (length (wire (labels_of rdata))) rdata = ap (λ x. x.now) w.rest-is ∙ w.split_name.ensures.behind in
          record {
            room = omega (arith, fits, limit);
            same = limit ∙ c.loop-field.invariant.same;
            form = subst (AreFields fields) (sym back) (name_behind fields rdata form);
            left = subst (FieldsLeft s.octets.items all new.octets.items new.places fields) (sym back) (names_next s.octets.items all now.octets.items now.places fields rdata new.octets.items new.places grown kept left);
          })
    ]
