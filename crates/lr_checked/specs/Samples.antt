-- The refusal by a sample of a flaw, where its replay says neither that it blocks nor that it turns.
use Rattle.std.specs.Prelude.{List}
use Rattle.lr_check.specs.Tree.{Node}
use Rattle.lr_check_flaws.specs.declared.flaws.Flaw.{Flaw}
use Rattle.lr_check_flaws.specs.declared.flaws.Flaw.TheVariants.{Gap, Dead, Circle}
use Rattle.lr_checked.specs.declared.checking.CheckFault.{CheckFault}
use Rattle.lr_checked.specs.declared.checking.CheckFault.TheVariants as check_fault

abbrev pub refusal_of : Flaw → List Node → CheckFault
refusal_of (Gap n) nodes = check_fault.Blocks nodes
refusal_of (Dead i) nodes = check_fault.Blocks nodes
refusal_of (Circle i classes) nodes = check_fault.Loops nodes
