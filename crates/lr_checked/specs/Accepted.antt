-- What an accepted description says: no typed statement blocks the parser or makes it turn for ever.
use Rattle.std.specs.Prelude.{◌≡◌, ℕ, suc, ◌+◌, ◌*◌, ◌≤◌, List, [], length}
use Rattle.md_reader.specs.declared.types.Rule.{Rule}
use Rattle.md_reader.specs.declared.types.Sym.{Sym}
use Rattle.md_reader.specs.State.{Content}
use Rattle.lr_tables.specs.Statements.{stmt_of}
use Rattle.lr_check.specs.declared.sample.Outcome.{Outcome}
use Rattle.lr_check.specs.declared.sample.Outcome.TheVariants as outcome
use Rattle.lr_check.specs.Tree.{Token}
use Rattle.lr_check.specs.Parse.{Part, Ends, loops, accepts, shifts, reduces, blocks}
use Rattle.lr_check_parse.specs.Typed.{IsStatement}
use Rattle.lr_check_drawn.specs.lr_check_samples.specs.Stops.{tokens}

-- how many shifts and reductions a parse makes
abbrev pub moves : {rules : List Rule} {stmt at : ℕ} {before : List (List Sym)} {ws : List Token} {s : List Part} {o : Outcome} →
    Ends rules stmt at before ws s o → ℕ
moves (loops h) = 0
moves (accepts new e f) = 0
moves (shifts new e b x) = suc (moves x)
moves (reduces r new d e x) = suc (moves x)
moves (blocks new d) = 0

-- Whatever the answers that come with its tokens, the parse of each typed statement over the description's rules ends
-- with accepting, and in no other way, within its tokens, the end counted, times the classes and two. The parse knows
-- no table.
pub record NeverStops (d : Content) : Type 0 where
  pub accepts : (w : List Token) → IsStatement (tokens w) → Ends d.rules (stmt_of d.classes) 0 [] w [] outcome.Done
  pub only : (w : List Token) (o : Outcome) → IsStatement (tokens w) → Ends d.rules (stmt_of d.classes) 0 [] w [] o → o ≡ outcome.Done
  pub within : (w : List Token) (o : Outcome) → IsStatement (tokens w) → (e : Ends d.rules (stmt_of d.classes) 0 [] w [] o) →
      moves e ≤ (length w + 1) * (length d.classes + 2)
