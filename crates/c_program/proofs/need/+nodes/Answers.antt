use Rattle.std.proofs.Common.{rules, arith, ◌≡◌, ◌+◌, ◌≤◌, ℕ, List, drop, length, min, subst}
use Rattle.std.proofs.lemmas.List.{drop_all}
use Rattle.c_types.specs.declared.typed.Expression.{Expression}
use Rattle.c_types.specs.Typed.{expressions_of}
use Rattle.c_types.proofs.Rows.{call_is}
use Rattle.c_program.specs.Need.{all_nodes}
use Rattle.c_program.proofs.need.+nodes.Goals as goal

total : (es : List Expression) (i sum x : ℕ) → length es ≤ i → sum ≤ 4294967295 → min (sum + all_nodes (expressions_of (drop i es))) 4294967295 ≡ x → sum ≡ x
total es i sum x le small h =
    let e : min (sum + 0) 4294967295 ≡ x = subst (λ l. min (sum + all_nodes (expressions_of l)) 4294967295 ≡ x) (drop_all i es le) h in
    omega arith

pub all_nodes-returns : goal.all_nodes-returns
all_nodes-returns t c = total c.args.es.now c.loop-e.e-index c.loop-e.sum _ c.loop-e-test.false c.loop-e.invariant.1 c.loop-e.invariant.0

pub nodes-returns-in-Call : goal.nodes-returns-in-Call
nodes-returns-in-Call t c =
    rw (call_is c.args.e.now c.in-Call.field-0 c.in-Call.field-1 c.in-Call.field-2 c.in-Call.es c.deref-in-Call.result.now c.in-Call.is (search rules))
    (omega (arith, c.all_nodes.ensures, c.saturating_add-in-Call.ensures))
