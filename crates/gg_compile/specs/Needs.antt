-- Which functions fit a frame.
use Rattle.std.specs.Prelude.{◌≡◌, ℕ, ◌<◌, ◌≤◌, length}
use Rattle.gg_base.specs.declared.limits.TheConstants.{NEED_LIMIT}
use Rattle.c_program.specs.Programs.{AProgram}
use Rattle.c_lower.specs.c_typed_check.specs.Typed.{need_at}
use Rattle.gg_compile.specs.declared.fault.CompileFault.{CompileFault}
use Rattle.gg_compile.specs.declared.fault.CompileFault.TheVariants as faults

-- the most words of a frame
abbrev pub need_limit : ℕ
need_limit = NEED_LIMIT

-- each function before that one fits
abbrev pub FitBefore : AProgram → ℕ → Type 0
FitBefore p n = (k : ℕ) → k < n → need_at p k ≤ need_limit

-- each function fits
abbrev pub AllFit : AProgram → Type 0
AllFit p = FitBefore p (length p.routines)

-- that function is the first that doesn't fit, and needs so many words
pub record IsFirstOver (p : AProgram) (function need : ℕ) : Type 0 where
  pub there : function < length p.routines
  pub need_is : need ≡ need_at p function
  pub over : need_limit < need
  pub first : FitBefore p function

-- why a program has no code
abbrev pub IsOver : AProgram → CompileFault → Type 0
IsOver p faults.NoMemory = Unit {0}
IsOver p (faults.FrameFull function need) = IsFirstOver p function need
