-- A look at what was found: what follows and isn't there is listed.
use Rattle.std.specs.Prelude.{◌≡◌, ◌≤◌, List, Contains, IfSome, length}
use Rattle.lr_check_found.specs.lr_check_sets.specs.Automaton.{Automaton}
use Rattle.lr_check_found.specs.lr_check_sets.specs.Table.{automaton_of}
use Rattle.lr_check_found.specs.declared.settlings.Item.{Item}
use Rattle.lr_check_found.specs.Sound.{IsFound}
use Rattle.lr_check_found.specs.Items.{IsItem}
use Rattle.lr_check_complete.specs.declared.look.Look.{Look}
use Rattle.lr_check_complete.specs.Sheets.{IsSheet}

-- the automaton of the tables
abbrev pub automaton : Look → Automaton
automaton l = automaton_of l.tables.now

-- what is looked at was found of the tables
abbrev pub WasFound : Look → Type 0
WasFound l = IsFound (automaton l) l.found.now

-- the sheet that there may be is right
abbrev pub IsShownRight : Look → Type 0
IsShownRight l = IfSome l.sheet (λ s. IsSheet s.now l.found.now)

-- each of the items follows from what was found
pub record AreItems (l : Look) (items : List Item) : Type 0 where
  pub each : (i : Item) → Contains items i → IsItem (automaton l) l.found.now i

-- the items that came to those before follow; where all is looked at and none came, P is true
pub record Looks (l : Look) (before after : List Item) (P : Type 0) : Type 0 where
  pub sound : AreItems l before → AreItems l after
  pub longer : length before ≤ length after
  pub none : l.window.settlings ≡ 0 → length after ≤ length before → P
