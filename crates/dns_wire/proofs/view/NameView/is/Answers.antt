use Rattle.std.proofs.Common.{take, sym, ap, ◌∙◌}
use Rattle.std.specs.Str.{bytes_eq}
use Rattle.dns_wire.specs.Viewed.{labels_at}
use Rattle.dns_wire.proofs.PlainRead.{same_wire}
use Rattle.dns_wire.proofs.Shown.{name_viewed}
use Rattle.dns_wire.proofs.view.NameView.is.Goals as goal

pub returns : goal.returns
returns c =
    let m = c.self.inside.message.now in
    let at = c.self.inside.at in
    let h = name_viewed m at c.self.invariant in
    let octets = take c.copy_plain-size.result c.copy_plain-size.new.out in
    let same = same_wire (labels_at m at) c.args.name.now octets c.eq.result h.stands.valid c.as_wire.ensures.valid c.copy_plain-size.ensures.plain (c.eq.ensures ∙ ap (bytes_eq octets) c.as_wire.ensures.octets) in
    (λ t. sym c.self.view_is ∙ same.0 t, λ e. same.1 (c.self.view_is ∙ e))
