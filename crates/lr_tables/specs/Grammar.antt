-- What the tables need of a description's rules.
use Rattle.std.specs.Prelude.{◌≡◌, ℕ, ◌<◌, ◌≤◌, List, Some, length, slice_get}
use Rattle.tree_core.specs.declared.token.Tok.TheVariants as tok
use Rattle.md_reader.specs.declared.types.Rule.{Rule}
use Rattle.md_reader.specs.declared.types.Sym.TheVariants as grammar_symbol

-- right sides have at most 16 symbols
pub record IsShort (rules : List Rule) : Type 0 where
  pub each : (n : ℕ) (r : Rule) → slice_get rules n ≡ Some r → length r.right ≤ 16

-- at most 1,000 rules and 64 classes; right sides have a symbol, classes that are declared, and no `End`
pub record IsGrammar (rules : List Rule) (stmt classes : ℕ) : Type 0 where
  pub few : length rules ≤ 1000
  pub short : IsShort rules
  pub few_classes : classes ≤ 64
  pub start : stmt < classes
  pub lefts : (n : ℕ) (r : Rule) → slice_get rules n ≡ Some r → r.left < classes
  pub some : (n : ℕ) (r : Rule) → slice_get rules n ≡ Some r → 0 < length r.right
  pub within : (n k c : ℕ) (r : Rule) → slice_get rules n ≡ Some r → slice_get r.right k ≡ Some (grammar_symbol.Class c) → c < classes
  pub no_end : (n k : ℕ) (r : Rule) → slice_get rules n ≡ Some r → slice_get r.right k ≡ Some (grammar_symbol.Tok tok.End) → ⊥
