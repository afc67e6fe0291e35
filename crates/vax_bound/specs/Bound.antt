-- A bound on the instructions of a run, by what is counted in it.
use Rattle.std.specs.Prelude.{◌≡◌, ℕ, ◌+◌, ◌*◌, ◌≤◌, List, length}
use Rattle.gg_base.specs.declared.run.End.TheVariants.{Spent}
use Rattle.vax_core.specs.declared.code.Code.{Code}
use Rattle.vax_machine.specs.Running.{run}
use Rattle.vax_bound.specs.Counted.{counted_in}

-- how many instructions may come for each call and each jump backward: one more than the code has items
abbrev pub stretch : Code → ℕ
stretch c = length c.items + 1

-- how many instructions a run may take that makes so many calls and jumps backward
abbrev pub bound : Code → ℕ → ℕ
bound c counted = stretch c * (counted + 1)

-- The run of a code on an input, with any number of steps:
pub record IsBounded (c : Code) (input : List ℕ) : Type 0 where
  -- it takes no more instructions than the bound for what is counted in it
  pub within : (n : ℕ) → (run c input n).number ≤ bound c (counted_in c input n)
  -- where it ends, it ends so with that many
  pub ends : (n : ℕ) → ((run c input n).end ≡ Spent → ⊥) → run c input (bound c (counted_in c input n)) ≡ run c input n
  -- where it goes on, it has called or jumped backward accordingly often
  pub goes_on : (n : ℕ) → (run c input n).end ≡ Spent → n ≤ bound c (counted_in c input n)

-- Every run of every code is bounded so.
abbrev pub RunsAreBounded : Type 0
RunsAreBounded = (c : Code) (input : List ℕ) → IsBounded c input
