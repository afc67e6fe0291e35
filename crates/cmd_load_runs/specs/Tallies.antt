-- What a run came to, and texts that can be run.
use Rattle.std.specs.Prelude.{ℕ, List}
use Rattle.gg_base.specs.Runs.{Outcome}
use Rattle.vax_core.specs.declared.code.Code.{Code}
use Rattle.vax_reader.specs.Grammar.{Reads}
use Rattle.vax_machine.specs.Loading.{Loads}
use Rattle.cmd_load_runs.specs.declared.tally.Tally.{Tally}

-- the output, the end, and the number of moments before it
abbrev pub outcome_of : Tally → Outcome
outcome_of t = record { output = t.output.items; end = t.end; number = t.number }

-- the bytes are the text of a code that can be run
pub record IsRunnable (bytes : List ℕ) : Type 0 where
  pub code : Code
  pub reads : Reads bytes code
  pub loads : Loads code
