use Rattle.std.proofs.Common.{ap, ◌∙◌}
use Rattle.vax_image_format.specs.Image.{label_at}
use Rattle.vax_image_writing.specs.Texts.{target_place}
use Rattle.vax_image_writing.proofs.TextLaws.{leaves_next}
use Rattle.vax_image_writing.proofs.plan.Plan.write.Goals as goal

pub loop-left-preserved : goal.loop-left-preserved
loop-left-preserved c =
    let l = c.loop-left in
    let items = c.args.self.now.labels.now.items.now in
    let forms = c.args.self.now.forms.now in
    let labels = label_at items forms in
    let at = c.target_place-to.ensures ∙ ap (target_place labels) c.target_of.ensures in
    leaves_next labels items forms l.text c.item.new.self l.left.now l.rest.now c.item-item.result c.target_place-to.result c.in-len1-up.len_at_least c.in-len1-up-rest.len_at_least
    c.item-item.is at c.in_ok-item.ensures l.invariant
