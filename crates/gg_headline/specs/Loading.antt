-- When a call of `load` is spent.
use Rattle.std.specs.Prelude.{◌≡◌, ℕ, ◌≤◌, ◌<◌, List}
use Rattle.gg_base.specs.declared.run.End.TheVariants.{Spent}
use Rattle.cmd_session.specs.declared.status.Status.TheVariants as statuses
use Rattle.cmd_files.specs.Outsides.{Outside}
use Rattle.md_reader.specs.State.{Content}
use Rattle.gg_load_bound.specs.Claims.{enough}
use Rattle.gg_headline.specs.Bounded.{ChangeNothing}
use Rattle.cmd_load.specs.cmd_compile.specs.Passing.{Passing}
use Rattle.cmd_load.specs.Telling.{greatest_number}
use Rattle.cmd_load.specs.Outcome.{Made, text_side, Finds, Leaves}

-- By the accepted description that the file is, a text was made of the generated source of so many functions; its code's run goes on behind
-- 100,000,000 instructions, and the code is so long that fewer than that are no bound for it.
pub record HasLongCode (by : Passing) (name : List ℕ) (functions : ℕ) (at : Outside) : Type 0 where
  pub description : Content
  pub finds : Finds name at description
  pub made : Made by description functions
  pub spent : (text_side by description functions made greatest_number).end ≡ Spent
  pub long : greatest_number < enough made.is_text.is_text.code functions

-- What a call of `load` came to that answers 16, where its passes changed no code.
abbrev pub SpentLoadsAreLong : Passing → Type 0
SpentLoadsAreLong by =
    (name : List ℕ) (functions : ℕ) (at : Outside) → ChangeNothing by → functions ≤ 1000 → Leaves by statuses.Spent name functions at
    → HasLongCode by name functions at
