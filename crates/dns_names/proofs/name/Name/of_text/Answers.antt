use Rattle.std.proofs.Common.{List, Option, [], rules, ap, ◌∙◌}
use Rattle.dns_names.specs.Text.{Letter, letters, parts_of}
use Rattle.dns_names.specs.Built.{parts_after}
use Rattle.dns_names.proofs.Texts.{after_nothing, text_name}
use Rattle.dns_names.proofs.name.Name.of_text.Goals as goal

pub letters-init : goal.letters-init
letters-init c = ([], [], c.new-builder.ensures, after_nothing (parts_of (letters c.args.text.now)))

pub letters-preserved : goal.letters-preserved
letters-preserved c =
    let so_far = c.letters.invariant in
    let taken = c.in_ok-take_letter.ensures so_far.0 so_far.1 (letters c.in-Some.behind.now) so_far.2 in
    (taken.0, taken.1, taken.2, so_far.3 ∙ ap (λ (o : Option (List Letter)). parts_after so_far.0 so_far.1 (parts_of o)) c.in-Some.ensures.0 ∙ taken.3)

pub returns : goal.returns
returns c =
    let so_far = c.letters.invariant in
    let name = text_name c.args.origin.now c.args.text.now c.letters.rest.now so_far.0 so_far.1 (search rules) (search rules) (search rules) (search rules) so_far.3 in
    rw name (c.finish.ensures so_far.0 so_far.1 so_far.2)
