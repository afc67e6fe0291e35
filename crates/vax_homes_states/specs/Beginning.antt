-- When locals are at home: as a function begins, and behind a return.
use Rattle.std.specs.Prelude.{◌≡◌, ℕ, ◌+◌, ◌*◌, ◌<◌, ◌≤◌, Bool, true, List, length, slice_index, Some}
use Rattle.gg_base.specs.declared.limits.TheConstants.{STACK_START}
use Rattle.vax_states.specs.tree_core.specs.declared.program.Object.{Object}
use Rattle.vax_states.specs.tree_meaning.specs.State.{Extent}
use Rattle.vax_states.specs.tree_meaning.specs.State.{State as Trees}
use Rattle.vax_states.specs.vax_machine_lists.specs.vax_core.specs.declared.register.Reg.TheVariants.{Ap}
use Rattle.vax_states.specs.vax_machine_lists.specs.vax_core.specs.Registers.{reg_number}
use Rattle.vax_states.specs.vax_machine.specs.State.{State, reg}
use Rattle.vax_states.specs.Agreeing.{Agrees}
use Rattle.vax_homes_law.specs.vax_homes.specs.declared.choose.Home.{Home}
use Rattle.vax_homes_law.specs.Alike.{Has, IsPaired}
use Rattle.vax_homes_law.specs.Calling.{SameStacks}
use Rattle.vax_homes_states.specs.Homes.{AtHome}

-- a state with the same parts but for the stack stands for the tree state at home
pub record IsAtHome (objects : List Object) (e : Extent) (es : List Extent) (hs : List Home) (outer : ℕ → Bool) (t : Trees) (n : State)
    (st : List ℕ) : Type 0 where
  pub stack : List ℕ
  pub at_home : AtHome objects e es hs outer t (record n { stack = stack }) st

-- Where the register of each home whose local was written holds the local's value, the homes are at home: the words of the others may hold
-- what their registers hold. So it is as a function begins, with no local written, and behind a return, which gives the registers back.
abbrev pub RegistersMakeHomes : Type 0
RegistersMakeHomes =
    (objects : List Object) (e : Extent) (es : List Extent) (hs : List Home) (outer : ℕ → Bool) (t : Trees) (n : State) (st : List ℕ)
    → Agrees objects e es t n
    → ((h : Home) (v : ℕ) → Has hs h → t.running.locals h.local ≡ Some v → slice_index n.registers (reg_number h.register) ≡ v)
    → IsPaired hs → ((h : Home) → Has hs h → h.local < e.locals)
    → SameStacks (λ i. outer i ≡ true) n.stack st
    → ((i : ℕ) → outer i ≡ true → reg n Ap + 4 * (length t.running.arguments + 1) ≤ STACK_START + i)
    → IsAtHome objects e es hs outer t n st
