-- Each tree of a program is calm.
use Rattle.std.proofs.Common.{◌≡◌, ℕ, zero, suc, List, [], ◌∷◌, length, Some, subst}
use Rattle.std.specs.Prelude.{◌-◌, slice_get}
use Rattle.tree_core.specs.declared.tree.Leaf.{Leaf}
use Rattle.tree_core.specs.declared.program.TreeItem.TheVariants as tree_item
use Rattle.tree_core.specs.declared.program.TreeFn.{TreeFn}
use Rattle.tree_core.specs.Calm.{Calm}
use Rattle.c_program.specs.Programs.{ARoutine}
use Rattle.c_lower_scheme.specs.Programs.{first_temporary, way_in, way_out, body_of, function_of, lower_all}
use Rattle.c_lower_scheme.specs.Parts.{Emitted, Destination}
use Rattle.c_lower_scheme.specs.Statements.{lower_row}
use Rattle.c_lower_calm.specs.Claim.{EachTreeIsCalm}
use Rattle.c_lower_calm.proofs.Trees.{AreCalm, behind, roots_calm}
use Rattle.c_lower_calm.proofs.Statements.{way_in_calm, row_calm, zero_calm}

-- in one function
abbrev FunctionIsCalm : TreeFn → Type 0
FunctionIsCalm tf = (n : ℕ) (w : List Leaf) → slice_get tf.items n ≡ Some (tree_item.Root w) → Calm w

function_calm : (pointer count l : ℕ) (g : ARoutine) → FunctionIsCalm (function_of g (body_of pointer count g l))
function_calm pointer count l g n w e =
    let size : ℕ = length g.locals in
    let first : ℕ = first_temporary size g.block in
    let out : Destination = way_out pointer size g.block in
    let start : Emitted = way_in size first pointer g.block l in
    let row : Emitted = lower_row size count first out g.body 0 0 start.labels in
    let own : AreCalm (body_of pointer count g l).items =
    behind (way_in_calm size first pointer g.block l) (behind (row_calm size count first out g.body 0 0 start.labels) (zero_calm size count first out row.labels)) in
    roots_calm own n w e

all_calm : (pointer count : ℕ) (gs : List ARoutine) (l f : ℕ) (tf : TreeFn) → slice_get (lower_all pointer count gs l) f ≡ Some tf → FunctionIsCalm tf
all_calm pointer count [] l f tf h = absurd (cc)
all_calm pointer count (g ∷ gs) l zero tf h =
    let same : function_of g (body_of pointer count g l) ≡ tf = cc in
    subst FunctionIsCalm same (function_calm pointer count l g)
all_calm pointer count (g ∷ gs) l (suc f) tf h = all_calm pointer count gs (body_of pointer count g l).labels f tf h

pub each_tree_is_calm : EachTreeIsCalm
each_tree_is_calm p f n tf w h e = all_calm (length p.objects - 2) (length p.routines) p.routines 0 f tf h n w e
