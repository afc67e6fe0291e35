-- What the lines of a template do one after another.
use Rattle.std.specs.Prelude.{◌≡◌, ◌⊎◌, ℕ, ◌^◌, ◌<◌, true, false, List, [], ◌∷◌, Option, Some, None, Ok, map}
use Rattle.std.specs.List.{AllByRecursion}
use Rattle.l32_target_lines.specs.judging_laws.specs.md_reader_pieces.specs.declared.piece.Line.{Line}
use Rattle.l32_target_lines.specs.judging_laws.specs.term_core.specs.Shape.{Shape}
use Rattle.l32_target_lines.specs.judging_laws.specs.sel_terms.specs.Effects.{ActShape, Return}
use Rattle.l32_target_lines.specs.judging_laws.specs.sel_target.specs.Courses.{Course, Returns, ends, comes}
use Rattle.l32_target_lines.specs.judging_laws.specs.sel_target.specs.Meaning.{Spot, RegAt}
use Rattle.l32_target_lines.specs.judging_laws.specs.sel_target.specs.Instances.{attr_touches}
use Rattle.l32_target_lines.specs.judging_laws.specs.sel_target.specs.Outcomes.{Keeps}
use Rattle.l32_target_lines.specs.judging_laws.specs.vax_templates.specs.declared.setting.Own.TheVariants as own
use Rattle.l32_target_lines.specs.judging_laws.specs.vax_templates.specs.Judging.{is_operand}
use Rattle.l32_target_lines.specs.judging_laws.specs.vax_templates.specs.Deeds.{Last, Returning, Ended}
use Rattle.l32_target_lines.specs.judging_laws.specs.vax_templates.specs.Progress.{Progress, start}
use Rattle.l32_target_lines.specs.judging_laws.specs.template_judging.specs.Lines.{lines_judged}
use Rattle.l32_target_lines.specs.l32_templates.specs.l32_core.specs.declared.code.Instr32.{Instr32}
use Rattle.l32_target_lines.specs.l32_templates.specs.l32_machine.specs.State.{State, with_reg}
use Rattle.l32_target_lines.specs.l32_templates.specs.Judging.{line_did}
use Rattle.l32_target_lines.specs.l32_templates.specs.Filled.{register_in}
use Rattle.l32_target_lines.specs.l32_templates.specs.FilledLines.{filled_line}
use Rattle.l32_target_lines.specs.l32_target_meaning.specs.Running.{run}
use Rattle.l32_target_lines.specs.l32_target_meaning.specs.L32.{l32}
use Rattle.l32_target_lines.specs.l32_target_operands.specs.Scenes.{Scene, worth, role_at, filling_at, Sees}
use Rattle.l32_target_lines.specs.Takings.{AreRead}
use Rattle.l32_target_lines.specs.Lines.{DoesDeed, MayEnd, MayHold, EndIsRead, NoneIsZero, IsSettled}

-- where one register has changed, all is kept that doesn't touch it
abbrev pub RegistersAreKept : Type 0
RegistersAreKept = (r v : ℕ) (m : State) → r < 12 → v < 2 ^ 32 → Keeps l32 (RegAt r ∷ []) m (with_reg m r v)

-- the register that lines have changed: that of `%0` where it has a value
abbrev pub spots_of : Scene → Option Shape → List Spot
spots_of c None = []
spots_of c (Some t) = RegAt (register_in c.own) ∷ []

-- lines that put this into `%0` lead from one state to another
pub record Reaches (c : Scene) (o : Option Shape) (m n : State) : Type 0 where
  pub keeps : Keeps l32 (spots_of c o) m n
  pub sees : Sees c o n
  pub may : MayHold c o

-- The last line does its deed in a state to which others lead; where a value is to be returned, it is then in a0.
abbrev pub IsDone : Scene → State → ActShape → Course Instr32 State → Type 0
IsDone c n deed did =
    (MayEnd c × DoesDeed c n deed did)
    ⊎ ((t : Shape) × (deed ≡ Return t) × (did ≡ ends (Returns (with_reg n 0 (worth c t)))) × (c.setting.is_statement ≡ true))

pub record EndsIn (c : Scene) (m : State) (deed : ActShape) (did : Course Instr32 State) : Type 0 where
  pub own_is : Option Shape
  pub state : State
  pub reaches : Reaches c own_is m state
  pub does : IsDone c state deed did

pub record ComesTo (c : Scene) (o : Option Shape) (m : State) (did : Course Instr32 State) : Type 0 where
  pub state : State
  pub is : did ≡ comes state
  pub reaches : Reaches c o m state

pub record LeavesZero (c : Scene) (o : Option Shape) (t : Shape) (m : State) (did : Course Instr32 State) : Type 0 where
  pub state : State
  pub is : did ≡ comes (with_reg state 0 (worth c t))
  pub reaches : Reaches c o m state
  pub may : c.setting.is_statement ≡ true

abbrev pub RunsTo : Scene → Option Shape → State → Course Instr32 State → Last → Type 0
RunsTo c o m did (Ended deed) = EndsIn c m deed did
RunsTo c o m did (Returning t) = LeavesZero c o t m did
RunsTo c o m did l = ComesTo c o m did

-- the register of `%0` is no operand's, unless it may be
abbrev pub IsApart : Scene → Type 0
IsApart c =
    c.setting.own ≡ own.Register → c.setting.is_reused ≡ false → (i : ℕ) → is_operand (role_at c i) ≡ true
    → attr_touches l32 (filling_at c i) (RegAt (register_in c.own)) ≡ false

abbrev pub line_of : Scene → Line → Instr32
line_of c l = filled_line c.program l.pieces c.holes c.own

abbrev pub AllRead : Scene → List (ℕ × List Shape) → Type 0
AllRead c rs = AllByRecursion (λ (r : ℕ × List Shape). AreRead c r.1) rs

-- what the lines read can be read
pub record IsCalm (c : Scene) (p : Progress) : Type 0 where
  pub reads : AllRead c p.reads
  pub ends_read : EndIsRead c p.last

-- Lines do what they are judged to do, one after another, where no divisor is 0.
abbrev pub LinesRun : Type 0
LinesRun = (c : Scene) (m : State) (ls : List Line) (p : Progress) →
    Sees c None m → IsSettled c → IsApart c → register_in c.own < 12 →
    lines_judged (line_did c.setting c.roles) true start ls ≡ Ok p → IsCalm c p → NoneIsZero c p.divisors →
    RunsTo c p.own m (run (map (line_of c) ls) m) p.last
