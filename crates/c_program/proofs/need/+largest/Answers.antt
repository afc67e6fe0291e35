use Rattle.std.proofs.Common.{rules, arith, ◌≡◌, ◌≤◌, ℕ, List, drop, length, min, subst}
use Rattle.std.specs.Prelude.{max}
use Rattle.std.proofs.lemmas.List.{drop_all}
use Rattle.c_program.specs.declared.statement.Action.{Action}
use Rattle.c_program.specs.Statements.{acts}
use Rattle.c_program.specs.Need.{largest_of}
use Rattle.c_program.proofs.Rows.{block_is}
use Rattle.c_program.proofs.need.+largest.Goals as goal

total : (row : List Action) (i most x : ℕ) → length row ≤ i → most ≤ 4294967295 → min (max most (largest_of (acts (drop i row)))) 4294967295 ≡ x → most ≡ x
total row i most x le small h =
    let e : min (max most 0) 4294967295 ≡ x = subst (λ l. min (max most (largest_of (acts l))) 4294967295 ≡ x) (drop_all i row le) h in
    omega arith

pub largest_of-returns : goal.largest_of-returns
largest_of-returns t c = total c.args.row.now c.loop-a.a-index c.loop-a.most _ c.loop-a-test.false c.loop-a.invariant.1 c.loop-a.invariant.0

pub largest-returns-in-Block : goal.largest-returns-in-Block
largest-returns-in-Block t c =
    rw (block_is c.args.a.now c.in-Block.row c.deref-in-Block.result.now c.in-Block.is (search rules)) c.largest_of.ensures
