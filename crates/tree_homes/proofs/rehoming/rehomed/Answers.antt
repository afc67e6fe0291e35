use Rattle.std.proofs.Common.{List, [], ◌∷◌, ◌++◌, sym, subst}
use Rattle.tree_core.specs.declared.program.TreeFn.{TreeFn}
use Rattle.tree_homes.specs.Rehoming.{Choosing, AreRehomed}
use Rattle.tree_homes.proofs.Pairs.{one_more}
use Rattle.tree_homes.proofs.rehoming.rehomed.Goals as goal

pub loop-function-preserved : goal.loop-function-preserved
loop-function-preserved g c =
    let chooses : Choosing = λ f n. g.H.HomeChoice.chooses c.args.homes.now f n in
    subst (λ (gs : List TreeFn). AreRehomed chooses (c.loop-function.yielded ++ c.in-Some.function ∷ []) gs) (sym c.in_ok-push.ensures.items)
    (one_more chooses c.loop-function.yielded c.loop-function.functions.items c.in-Some.function c.in_ok-rehomed_function.field-0 c.loop-function.invariant c.in_ok-rehomed_function.ensures)
