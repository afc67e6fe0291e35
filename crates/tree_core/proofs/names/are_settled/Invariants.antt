use Rattle.tree_core.proofs.Naming.{Sifted}
use Rattle.tree_core.proofs.names.are_settled.Given as goal

abbrev pub invariant-loop-function : goal.invariant-loop-function
invariant-loop-function l = Sifted l.functions l.parts l.part l.met l.function-index
