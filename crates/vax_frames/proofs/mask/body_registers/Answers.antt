use Rattle.std.proofs.Common.{rules, List}
use Rattle.std.proofs.lemmas.Fn.{fold_over, fronts}
use Rattle.std.proofs.lemmas.Iterator.{YieldsList-from_slice}
use borrow.Author.Tests.{tests}
use Rattle.vax_core.specs.declared.code.CodeItem.{CodeItem}
use Rattle.vax_core.specs.Registers.{IsSetOf}
use Rattle.vax_frames.specs.Frames.{body_names}
use Rattle.vax_frames.proofs.MaskLaws.{none_named, more_named}
use Rattle.vax_frames.proofs.mask.body_registers.Goals as goal

pub returns : goal.returns
returns c =
    fold_over fronts (λ y. y.now) _ (λ (items : List CodeItem) named. IsSetOf named (body_names items)) _
    (λ items named x more q h k. search (rules, tests, more_named, h)) _ c.args.body.now 0 c.fold.result (YieldsList-from_slice c.args.body.now cc).runs none_named c.fold.ensures.ran
