-- What the lines of a template do one after another.
use Rattle.std.specs.Prelude.{◌≡◌, ◌<◌, ◌⊎◌, ℕ, true, false, List, map, Option, Some, None, Ok}
use Rattle.std.specs.List.{AllByRecursion}
use Rattle.vax_target_lines.specs.md_reader_pieces.specs.declared.piece.Line.{Line}
use Rattle.vax_target_lines.specs.term_core.specs.Shape.{Shape}
use Rattle.vax_target_lines.specs.sel_terms.specs.Effects.{ActShape, Return}
use Rattle.vax_target_lines.specs.sel_target.specs.Meaning.{RegAt}
use Rattle.vax_target_lines.specs.sel_target.specs.Instances.{attr_touches}
use Rattle.vax_core.specs.Registers.{reg_number}
use Rattle.vax_core.specs.declared.code.Instr.{Instr}
use Rattle.vax_target_lines.specs.vax_machine.specs.State.{State}
use Rattle.vax_target_lines.specs.vax_machine_lists.specs.Instructions.{Course, comes}
use Rattle.vax_target_lines.specs.vax_confined.specs.Confined.{exec}
use Rattle.vax_target_lines.specs.vax_templates.specs.declared.setting.Own.TheVariants as own
use Rattle.vax_target_lines.specs.vax_templates.specs.Deeds.{Last, Returning, Ended}
use Rattle.vax_target_lines.specs.vax_templates.specs.Judging.{is_operand}
use Rattle.vax_target_lines.specs.vax_templates.specs.Progress.{Progress, start, lines_judged}
use Rattle.vax_target_lines.specs.vax_templates.specs.Filled.{register_in}
use Rattle.vax_target_lines.specs.vax_templates.specs.FilledLines.{filled_line}
use Rattle.vax_target_lines.specs.vax_target_meaning.specs.Vax.{vax}
use Rattle.vax_target_lines.specs.vax_target_operands.specs.Scenes.{Scene, role_at, filling_at, Sees}
use Rattle.vax_target_lines.specs.Takings.{AreRead}
use Rattle.vax_target_lines.specs.Lines.{CodesMean, ZeroHolds, DoesDeed, MayHold, MayEnd, EndIsRead, NoneIsZero}
use Rattle.vax_target_runs.specs.Kept.{Differs}

-- the registers that lines have changed: that of `%0` where it has a value, and register 0 where a value is to be returned
abbrev pub OwnChanged : Scene → Option Shape → ℕ → Type 0
OwnChanged c None r = ⊥
OwnChanged c (Some t) r = r ≡ reg_number (register_in c.own)

abbrev pub ZeroChanged : Last → ℕ → Type 0
ZeroChanged (Returning t) r = r ≡ 0
ZeroChanged l r = ⊥

abbrev pub Changed : Scene → Option Shape → Last → ℕ → Type 0
Changed c o l r = OwnChanged c o r ⊎ ZeroChanged l r

-- behind a value that is to be returned nothing is seen any more
abbrev pub SeesBehind : Scene → Option Shape → Last → State → Type 0
SeesBehind c o (Returning t) n = Unit {0}
SeesBehind c o l n = Sees c o n

-- lines that did this lead from one state to another
pub record Reaches (c : Scene) (o : Option Shape) (l : Last) (m n : State) : Type 0 where
  pub differs : Differs (Changed c o l) m n
  pub codes : CodesMean c n.conditions l
  pub zero_holds : ZeroHolds c n l
  pub sees : SeesBehind c o l n
  pub may : MayHold c o

abbrev pub IsReturn : ActShape → Type 0
IsReturn (Return t) = Unit {0}
IsReturn a = ⊥

-- the last line does its deed behind others that lead to its state
pub record EndsIn (c : Scene) (m : State) (deed : ActShape) (did : Course) : Type 0 where
  pub own_is : Option Shape
  pub last : Last
  pub state : State
  pub reaches : Reaches c own_is last m state
  pub may : MayEnd c
  pub settled : IsReturn deed ⊎ ((r : ℕ) → ZeroChanged last r → ⊥)
  pub does : DoesDeed c state deed did

pub record ComesTo (c : Scene) (o : Option Shape) (l : Last) (m : State) (did : Course) : Type 0 where
  pub state : State
  pub is : did ≡ comes state
  pub reaches : Reaches c o l m state

abbrev pub RunsTo : Scene → Option Shape → State → Course → Last → Type 0
RunsTo c o m did (Ended deed) = EndsIn c m deed did
RunsTo c o m did l = ComesTo c o l m did

-- the register of `%0` is no operand's, unless it may be
abbrev pub IsApart : Scene → Type 0
IsApart c =
    c.setting.own ≡ own.Register → c.setting.is_reused ≡ false → (i : ℕ) → is_operand (role_at c i) ≡ true
    → attr_touches vax (filling_at c i) (RegAt (reg_number (register_in c.own))) ≡ false

abbrev pub line_of : Scene → Line → Instr
line_of c l = filled_line c.program l.pieces c.holes c.own

abbrev pub AllRead : Scene → List (ℕ × List Shape) → Type 0
AllRead c rs = AllByRecursion (λ (r : ℕ × List Shape). AreRead c r.1) rs

-- what the lines read can be read
pub record IsCalm (c : Scene) (p : Progress) : Type 0 where
  pub reads : AllRead c p.reads
  pub ends_read : EndIsRead c p.last

-- Lines do what they are judged to do, one after another, where no divisor is 0.
abbrev pub LinesRun : Type 0
LinesRun = (c : Scene) (m : State) (ls : List Line) (p : Progress) →
    Sees c None m → IsApart c → reg_number (register_in c.own) < 12 →
    lines_judged c.setting c.roles true start ls ≡ Ok p → IsCalm c p → NoneIsZero c p.divisors →
    RunsTo c p.own m (exec (map (line_of c) ls) m) p.last
