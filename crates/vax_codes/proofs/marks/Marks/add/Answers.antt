use Rattle.std.proofs.Common.{◌∙◌, false, refl}
use Rattle.vax_codes.proofs.Marking.{already, adds_one, element_is}
use Rattle.vax_codes.proofs.marks.Marks.add.Goals as goal

pub returns-then-index : goal.returns-then-index
returns-then-index c = already c.args.self.now c.args.place (element_is c.args.self.now.marked.items c.args.place c.index.result.now false c.requires c.index.ensures ∙ c.if-index.true)

pub returns : goal.returns
returns c =
    adds_one c.args.self.now _ c.args.place c.requires (element_is c.args.self.now.marked.items c.args.place c.index.result.now false c.requires c.index.ensures ∙ c.if-index.false) refl
    c.in_ok-push.ensures.items
