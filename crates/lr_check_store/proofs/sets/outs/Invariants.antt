use Rattle.tree_core.specs.declared.token.Tok.{Tok}
use Rattle.lr_check_ways.specs.Sets.{In}
use Rattle.lr_check_store.specs.Store.{IsOut}
use Rattle.lr_check_store.proofs.sets.outs.Given as goal

abbrev pub invariant-loop-reduction : goal.invariant-loop-reduction
invariant-loop-reduction l = (b : Tok) → In l.outs b → IsOut l.ways l.size b
