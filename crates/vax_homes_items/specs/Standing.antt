-- The homes of a tree program's function.
use Rattle.std.specs.Prelude.{◌≡◌, ℕ, ◌<◌, List, true}
use Rattle.std.specs.List.{AllByRecursion}
use Rattle.tree_core.specs.declared.program.TreeFn.{TreeFn}
use Rattle.tree_core.specs.Valid.{WantedStand}
use Rattle.vax_homes_law.specs.vax_confined.specs.vax_core.specs.declared.operand.Operand.{Operand}
use Rattle.vax_homes_law.specs.vax_confined.specs.vax_core.specs.declared.code.Instr.{Instr}
use Rattle.vax_homes_law.specs.vax_confined.specs.vax_core.specs.declared.code.CodeItem.{CodeItem}
use Rattle.vax_homes_law.specs.vax_confined.specs.vax_core.specs.declared.code.CodeItem.TheVariants as item_kind
use Rattle.vax_homes_law.specs.vax_confined.specs.vax_core.specs.Ops.{shape}
use Rattle.vax_homes_law.specs.vax_confined.specs.vax_core.specs.Valid.{are_operands}
use Rattle.vax_homes_law.specs.vax_homes.specs.declared.choose.Home.{Home}
use Rattle.vax_homes_law.specs.vax_homes.specs.Choosing.{homes_of}
use Rattle.vax_homes_law.specs.Alike.{Has, IsPaired, FitsArguments, AreReady}
use Rattle.vax_homes_law.specs.Ready.{IsIn}

-- each operand of an instruction that stands for an argument of the innermost call stands for one of so many
abbrev pub ArgumentsFit : ℕ → Instr → Type 0
ArgumentsFit args i = AllByRecursion (λ (o : Operand). FitsArguments args o.base) i.operands

-- an instruction whose operands are valid, with arguments of its function
pub record IsPlain (args : ℕ) (i : Instr) : Type 0 where
  pub valid : are_operands (shape i.op).operands i.operands ≡ true
  pub fits : ArgumentsFit args i

-- The homes that a body has for a function's wanted locals.
pub record AreHomes (f : TreeFn) (body : List CodeItem) : Type 0 where
  pub paired : IsPaired (homes_of f.wanted body)
  pub locals : (h : Home) → Has (homes_of f.wanted body) h → h.local < f.locals
  -- plain instructions of the body are ready for them
  pub ready : (is : List Instr) → AllByRecursion (λ (i : Instr). IsIn (item_kind.Instr i) body) is → AllByRecursion (IsPlain f.args) is
      → AreReady (homes_of f.wanted body) f.args is

-- Where the wanted numbers differ and are ones of the function's locals.
abbrev pub HomesStand : Type 0
HomesStand = (f : TreeFn) (body : List CodeItem) → WantedStand f → AreHomes f body
