-- What assembling asks of a program's parts: few enough locals, and objects within the data area.
use Rattle.std.proofs.Common.{◌≡◌, ℕ, ◌+◌, ◌≤◌, true, List, [], ◌∷◌, length, Some, arith}
use Rattle.std.specs.Prelude.{slice_get}
use Rattle.std.specs.List.{All}
use Rattle.std.proofs.lemmas.Bool.{and_parts}
use Rattle.std.proofs.lemmas.List.Elements.{All-nil, All-cons}
use Rattle.gg_base.proofs.Facts.{index_there}
use Rattle.tree_core.specs.declared.program.Object.{Object}
use Rattle.tree_core.specs.declared.program.TreeFn.{TreeFn}
use Rattle.tree_core.specs.declared.program.TreeProgram.{TreeProgram}
use Rattle.tree_core.specs.Valid.{object_lies, objects_lie, IsValid}
use Rattle.gg_compile_laws.specs.gg_compile_effect.specs.gg_compile_law.specs.Spelling.{power_of}
use Rattle.gg_compile_laws.specs.gg_compile_effect.specs.gg_compile_law.proofs.Areas.{lies}
use Rattle.gg_compile_laws.specs.gg_compile_effect.specs.gg_compile_law.proofs.Spelling.{aligned_so}

pub locals_fit : (q : TreeProgram) → ((n : ℕ) (g : TreeFn) → slice_get q.functions n ≡ Some g → g.locals ≤ 1024) → All (λ (f : TreeFn). f.locals ≤ 1024) q.functions
locals_fit q h n d lt = h n _ (index_there q.functions n d lt)

abbrev Small : Object → Type 0
Small o = length o.bytes ≤ 1048576

lying_small : (at : ℕ) (os : List Object) → 65536 ≤ at → objects_lie at os ≡ true → All Small os
lying_small at [] low h = All-nil Small
lying_small at (o ∷ os) low h =
    let parts = and_parts (object_lies at o) (objects_lie (o.address + o.size) os) h in
    let here = lies o at (power_of o.align) (aligned_so o at parts.0) parts.0 in
    let begins = here.begins in
    let whole = here.whole in
    let high = here.high in
    All-cons Small o os (omega (arith, low, begins, whole, high)) (lying_small (o.address + o.size) os (omega (arith, low, begins)) parts.1)

pub objects_fit : (q : TreeProgram) → IsValid q → All (λ (o : Object). length o.bytes ≤ 1048576) q.objects
objects_fit q valid = lying_small 65536 q.objects (omega arith) valid.objects
