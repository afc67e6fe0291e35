-- Marks of calm classes that are held, each with its state and token behind.
use Rattle.std.specs.Prelude.{◌≡◌, ℕ, List, Contains}
use Rattle.tree_core.specs.declared.token.Tok.{Tok}
use Rattle.md_reader.specs.declared.types.Rule.{Rule}
use Rattle.lr_tables.specs.declared.types.Choice.{Choice}
use Rattle.lr_check_sets.specs.Automaton.{Automaton}
use Rattle.lr_check_decided.specs.declared.held.CalmAt.{CalmAt}
use Rattle.lr_check_decided.specs.declared.held.CalmHeld.{CalmHeld}
use Rattle.lr_check_decided.specs.Calm.{AreCalm, AllMarked}

-- the marks that are held are of calm classes
pub record AreRight (A : Automaton) (h : CalmHeld) : Type 0 where
  pub each : (c : CalmAt) → Contains h.held.items c → AreCalm A c.state c.behind c.marks.items

-- these are held of the state and the token
pub record IsHeld (h : CalmHeld) (q : ℕ) (b : Tok) (c : CalmAt) : Type 0 where
  pub there : Contains h.held.items c
  pub state : c.state ≡ q
  pub behind : c.behind ≡ b

-- the choices make nothing but classes that are marked there
pub record HasMarked (h : CalmHeld) (q : ℕ) (b : Tok) (rules : List Rule) (size : ℕ) (choices : List Choice) : Type 0 where
  pub calm : CalmAt
  pub held : IsHeld h q b calm
  pub marked : AllMarked rules size calm.marks.items choices
