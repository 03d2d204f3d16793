use Rattle.std.proofs.Common.{◌∙◌, take}
use Rattle.std.proofs.lemmas.Result.{IfOk-weaker}
use Rattle.dns_names.specs.PlainLaws.{plain_of}
use Rattle.dns_wire.specs.Viewed.{labels_at}
use Rattle.dns_wire.proofs.Shown.{name_viewed}
use Rattle.dns_wire.proofs.plain.copy_name.Goals as goal

pub over-requires : goal.over-requires
over-requires c =
    let m = c.args.message.now in
    let h = name_viewed m c.args.at c.requires.there in
    (plain_of (take c.copy_plain-size.result c.copy_plain-size.new.out) (labels_at m c.args.at) h.stands.valid c.copy_plain-size.ensures.plain).1

pub returns-clause-name : goal.returns-clause-name
returns-clause-name c =
    let m = c.args.message.now in
    let h = name_viewed m c.args.at c.requires.there in
    let same = (plain_of (take c.copy_plain-size.result c.copy_plain-size.new.out) (labels_at m c.args.at) h.stands.valid c.copy_plain-size.ensures.plain).0 in
    IfOk-weaker c.to_name.result _ _ (λ name e. e ∙ c.over.ensures ∙ same) c.to_name.ensures
