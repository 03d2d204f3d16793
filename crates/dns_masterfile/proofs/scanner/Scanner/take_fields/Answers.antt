use Rattle.std.proofs.Common.{◌≡◌, ℕ, ◌+◌, List, ◌∷◌, ◌++◌, drop, get_or, ap, subst, ◌∙◌, append_assoc}
use Rattle.dns_records.specs.declared.parts.Field.{Field as Part}
use Rattle.dns_records.specs.Fields.{stated_field, stated_fields}
use Rattle.dns_records.specs.Types.{Field}
use Rattle.dns_names.specs.Name.{Labels}
use Rattle.dns_masterfile.specs.Pieces.{Word}
use Rattle.dns_masterfile.specs.Left.{Left}
use Rattle.dns_masterfile.specs.Reading.{TakenValue, take_data}
use Rattle.dns_masterfile.proofs.Joins.{drop_next, no_field, joined, fields_more, Completes, completes_more}
use Rattle.dns_masterfile.proofs.scanner.Scanner.take_fields.Goals as goal

pub fields-preserved : goal.fields-preserved
fields-preserved c =
    let fields : List Part = c.args.fields.now in
    let origin : Labels = c.args.origin.now in
    let i : ℕ = c.fields.field-index in
    let f : Field = stated_field (get_or fields i no_field) in
    let fs : List Field = stated_fields (drop (i + 1) fields) in
    let at : stated_fields (drop i fields) ≡ f ∷ fs = ap stated_fields (drop_next fields i no_field c.fields-test.true) in
    let so_far = c.fields.invariant.so_far in
    let words : List Word = c.fields.self.words in
    let rest : List Word = c.take_field.new.self.words in
    let put = c.in_ok-take_field.ensures in
    let whole : TakenValue (List ℕ) = take_data origin (stated_fields fields) c.args.self.now.words in
    let all : whole ≡ joined so_far.0 (take_data origin (f ∷ fs) words) = so_far.1 ∙ ap (λ (fs : List Field). joined so_far.0 (take_data origin fs words)) at in
    let completes : Completes (stated_fields fields) (f ∷ fs) so_far.0 = subst (λ (fs : List Field). Completes (stated_fields fields) fs so_far.0) at so_far.3 in
    record {
      so_far = (
        so_far.0 ++ put.0,
        fields_more origin f fs whole so_far.0 put.0 words rest all put.1.0,
        put.2 ∙ ap (λ (octets : List ℕ). octets ++ put.0) so_far.2 ∙ append_assoc c.args.octets.now.items so_far.0 put.0,
        completes_more (stated_fields fields) fs f so_far.0 put.0 completes put.3,
      );
      stays = put.1.1 ∙ ap (λ (left : Left). record left { words = rest }) c.fields.invariant.stays;
    }
