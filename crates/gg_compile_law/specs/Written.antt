-- The code of a program as it is written: its functions in order, each a frame round what its trees do, and the data area item by item.
use Rattle.std.specs.Prelude.{◌≡◌, ℕ, List, None}
use Rattle.std.specs.List.{All}
use Rattle.gg_base.specs.Runs.{Runs}
use Rattle.gg_base.specs.Follows.{Follows}
use Rattle.vax_core.specs.declared.code.Code.{Code}
use Rattle.vax_machine.specs.Labels.{undefined_label}
use Rattle.vax_machine.specs.Loading.{Loads}
use Rattle.vax_machine.specs.Running.{run}
use Rattle.tree_core.specs.declared.program.TreeProgram.{TreeProgram}
use Rattle.tree_core.specs.Valid.{IsValid}
use Rattle.tree_meaning.specs.Meaning.{tree_run}
use Rattle.vax_machine_lists.specs.Sound.{AllBelow}
use Rattle.gg_compile_law.specs.Assembled.{AreFunctions}
use Rattle.gg_compile_law.specs.Spelling.{area_of, HoldsNumbers}
use Rattle.gg_compile_law.specs.Names.{HaveSmall}
use Rattle.gg_compile_law.specs.Loaded.{AreApart}

-- The code is written of a valid program whose objects have labels of their own and bytes as contents, a link's being the linked address.
pub record IsWritten (program : TreeProgram) (c : Code) : Type 0 where
  pub valid : IsValid program
  pub small : HaveSmall program.functions
  pub apart : AreApart program.objects program.functions
  pub numbers : All (HoldsNumbers program.objects) program.objects
  pub functions : AreFunctions program program.functions c.items
  pub area : c.area ≡ area_of program.objects
  -- its instructions name labels that are there
  pub names : undefined_label c.items c.area c.items ≡ None

-- Such a code loads.
abbrev pub WrittenCodesLoad : Type 0
WrittenCodesLoad = (program : TreeProgram) (c : Code) → IsWritten program c → Loads c

-- On every input of bytes its run follows what the run of the trees follows, as the run of a source.
abbrev pub WrittenCodesFollow : Type 0
WrittenCodesFollow =
    (program : TreeProgram) (c : Code) → IsWritten program c → (source : Runs) (input : List ℕ) → AllBelow 256 input
    → Follows source (tree_run program input) → Follows source (run c input)
