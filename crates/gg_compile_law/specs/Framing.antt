-- How a function's frame is laid out, and code with its homes.
use Rattle.std.specs.Prelude.{ℕ, List, map}
use Rattle.vax_core.specs.declared.code.Instr.{Instr}
use Rattle.vax_core.specs.declared.code.CodeItem.{CodeItem}
use Rattle.tree_core.specs.declared.tree.Leaf.{Leaf}
use Rattle.tree_core.specs.declared.program.TreeFn.{TreeFn}
use Rattle.tree_core.specs.declared.program.TreeProgram.{TreeProgram}
use Rattle.tree_meaning.specs.State.{Extent}
use Rattle.vax_frames_law.specs.Calling.{HasFrame}
use Rattle.vax_homes_items.specs.vax_homes_law.specs.vax_homes.specs.declared.choose.Home.{Home}
use Rattle.vax_homes_items.specs.vax_homes_law.specs.vax_homes.specs.Homing.{homed_instr}
use Rattle.vax_homes_items.specs.vax_homes_law.specs.Alike.{AreReady}
use Rattle.vax_homes_frames.specs.Live.{HomedCall}
use Rattle.vax_homes_frames.specs.Trees.{NamesOnly}
use Rattle.gg_compile_law.specs.Effects.{HasEffect}

-- the words of the frame, its entry mask, and the locals that live in registers
pub record FrameLayout : Type 0 where
  pub words : ℕ
  pub mask : ℕ
  pub homes : List Home

-- that of a frame that stands in a code, and that of a live call
abbrev pub layout_of : {code : List CodeItem} {label : List ℕ} {locals : ℕ} → HasFrame code label locals → List Home → FrameLayout
layout_of frame homes = record { words = frame.words; mask = frame.mask; homes = homes }

abbrev pub layout_in : Extent → HomedCall → FrameLayout
layout_in e c = record { words = e.words; mask = c.frame.mask; homes = c.homes }

-- instructions with the frame's homes
abbrev pub homed_code : FrameLayout → List Instr → List Instr
homed_code y instrs = map (homed_instr y.homes) instrs

-- Instructions with a root's effect, that are ready for the frame's homes and name with them registers of its mask alone.
pub record IsRootCode (program : TreeProgram) (g : TreeFn) (y : FrameLayout) (w : List Leaf) (instrs : List Instr) : Type 0 where
  pub effect : HasEffect program g.locals g.args y.words w instrs
  pub ready : AreReady y.homes g.args instrs
  pub named : NamesOnly y.mask (homed_code y instrs)
