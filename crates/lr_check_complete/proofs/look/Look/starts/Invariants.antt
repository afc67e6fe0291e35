use Rattle.tree_core.specs.declared.token.Tok.TheVariants as tok
use Rattle.tree_core.specs.declared.token.Sort.TheVariants as sort
use Rattle.lr_check_found.specs.lr_check_sets.specs.Trees.{May}
use Rattle.lr_check_found.proofs.Below.{Below}
use Rattle.lr_check_complete.specs.Looks.{Looks}
use Rattle.lr_check_complete.specs.Sets.{HasPlace}
use Rattle.lr_check_complete.proofs.look.Look.starts.Given as goal

abbrev pub invariant-loop-token : goal.invariant-loop-token
invariant-loop-token l =
    Looks l.self l.fn.into.items l.into.items (Below l.token-items l.token-index (λ k. May k sort.Stmt → HasPlace l.self.found.now 0 k tok.End))
