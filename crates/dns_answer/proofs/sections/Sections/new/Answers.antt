use Rattle.std.specs.List.{flat_map}
use Rattle.dns_answer.specs.Sections.{addresses_for, answer_of, authority_of}
use Rattle.dns_answer.proofs.UpTo.{up_to_then, gathered_up_to}
use Rattle.dns_answer.proofs.sections.Sections.new.Goals as goal

pub returns : goal.returns
returns g c t fs are holds =
    let bare = c.in_ok-sections.sections in
    let returned = c.in_ok-sections.ensures in
    let mid = c.push_for_answers.new.self in
    let whole = c.push_for_authority.new.self in
    gathered_up_to c.args.most t fs bare whole (returned.answer t fs are holds) (returned.authority t fs are holds) returned.additional
    (up_to_then c.args.most bare mid whole (flat_map addresses_for (answer_of t fs)) (flat_map addresses_for (authority_of fs)) (c.in_ok-push_for_answers.ensures t fs are holds) (c.in_ok-push_for_authority.ensures t fs are holds))
