-- When the code of a program loads.
use Rattle.std.specs.Prelude.{◌≡◌, ℕ, List, slice_get, Some, None, false}
use Rattle.vax_core.specs.declared.code.Code.{Code}
use Rattle.vax_machine.specs.Labels.{is_service, undefined_label}
use Rattle.vax_machine.specs.Loading.{Loads}
use Rattle.tree_core.specs.declared.program.Object.{Object}
use Rattle.tree_core.specs.declared.program.TreeFn.{TreeFn}
use Rattle.tree_core.specs.declared.program.TreeProgram.{TreeProgram}
use Rattle.tree_core.specs.Valid.{IsValid}
use Rattle.tree_core.specs.Names.{label_name, function_label}
use Rattle.gg_compile_law.specs.Assembled.{AreFunctions}
use Rattle.gg_compile_law.specs.Spelling.{area_of}
use Rattle.gg_compile_law.specs.Names.{HaveSmall}

-- The labels of objects differ, and none is a label of a function, of a tree program or of a service.
pub record AreApart (os : List Object) (fs : List TreeFn) : Type 0 where
  pub differ : (i j : ℕ) (o p : Object) → slice_get os i ≡ Some o → slice_get os j ≡ Some p → o.label ≡ p.label → i ≡ j
  pub functions : (i k : ℕ) (o : Object) (f : TreeFn) → slice_get os i ≡ Some o → slice_get fs k ≡ Some f
      → function_label f.name ≡ o.label → ⊥
  pub trees : (i l : ℕ) (o : Object) → slice_get os i ≡ Some o → label_name l ≡ o.label → ⊥
  pub services : (i : ℕ) (o : Object) → slice_get os i ≡ Some o → is_service o.label ≡ false

-- The code of a program loads, where its instructions name what is there.
abbrev pub AssembledLoads : Type 0
AssembledLoads =
    (program : TreeProgram) (c : Code) → IsValid program → HaveSmall program.functions → AreApart program.objects program.functions
    → AreFunctions program program.functions c.items → c.area ≡ area_of program.objects → undefined_label c.items c.area c.items
    ≡ None → Loads c
