use Rattle.std.proofs.Common.{arith, ◌≡◌, ◌≤◌, ℕ, List, drop, length, min, subst}
use Rattle.std.specs.Prelude.{max, map}
use Rattle.std.proofs.lemmas.List.{drop_all}
use Rattle.c_program.specs.declared.statement.Declaration.{Declaration}
use Rattle.c_program.specs.Statements.{declaration}
use Rattle.c_program.specs.Need.{declared_nodes}
use Rattle.c_program.proofs.need.declared_nodes.Goals as goal

total : (ds : List Declaration) (i most x : ℕ) → length ds ≤ i → most ≤ 4294967295 → min (max most (declared_nodes (map declaration (drop i ds)))) 4294967295 ≡ x → most ≡ x
total ds i most x le small h =
    let e : min (max most 0) 4294967295 ≡ x = subst (λ l. min (max most (declared_nodes (map declaration l))) 4294967295 ≡ x) (drop_all i ds le) h in
    omega arith

pub returns : goal.returns
returns c = total c.args.ds.now c.loop-d.d-index c.loop-d.most _ c.loop-d-test.false c.loop-d.invariant.1 c.loop-d.invariant.0
