-- A register that is due can always be had.
use Rattle.std.specs.Prelude.{ℕ, ◌≤◌, count_ones, List, None}
use Rattle.std.specs.List.{AllByRecursion}
use Rattle.tree_core.specs.declared.token.Sort.TheVariants as sort
use Rattle.tree_core.specs.declared.tree.Leaf.{Leaf}
use Rattle.tree_core.specs.declared.program.TreeProgram.{TreeProgram}
use Rattle.tree_core.specs.Trees.{IsTyped}
use Rattle.md_reader.specs.declared.types.Rule.{Rule}
use Rattle.md_reader.specs.State.{Content}
use Rattle.sel_parse_slots.specs.lr_check_parse.specs.Moves.{Move, Accepts}
use Rattle.sel_regs.specs.Need.{need}
use Rattle.sel_target.specs.Meaning.{Meaning}
use Rattle.sel_parse_slots.specs.sel_parse_moves.specs.Claims.{root}
use Rattle.sel_parse_slots.specs.sel_parse_selected.specs.Selected.{Parsed}
use Rattle.sel_parse_slots.specs.Claims.{IsOwn, IsTaken}

-- no rule needs more registers than the pool has
abbrev pub HasRegisters : Content → Type 0
HasRegisters d = AllByRecursion (λ (r : Rule). need d.classes r ≤ count_ones d.pool) d.rules

-- No selection of a typed statement tree comes to a register that is due and that no entry can give up: where that happens, nothing is
-- kept.
abbrev pub NeverLacks : {O I S F : Type 0} → Meaning O I S F → Type 0
NeverLacks of =
    (q : TreeProgram) (d : Content) (first : ℕ) (w : List Leaf) (log : List (Move Leaf))
    → of.can_write q → IsTaken of d → HasRegisters d → IsTyped (root w) sort.Stmt
    → AllByRecursion (λ (l : Leaf). IsOwn q first l.tok l.att) w → Parsed of q d first w log (Accepts None) → ⊥
