-- Where the lines of a template are run: what fills the holes, and what each hole means in a state of the machine.
use Rattle.std.specs.Prelude.{◌≡◌, ℕ, ◌^◌, ◌<◌, Bool, true, false, List, Option, Some, None, IsSome}
use Rattle.gg_base.specs.declared.limits.TheConstants.{NEED_LIMIT}
use Rattle.gg_base.specs.declared.size.Size.{Size}
use Rattle.gg_base.specs.declared.size.Size.TheVariants.{Long}
use Rattle.l32_target_meaning.specs.vax_target_meaning.specs.tree_core.specs.declared.program.TreeProgram.{TreeProgram}
use Rattle.judging_laws.specs.term_core.specs.Shape.{Shape, Symbol, LastResult}
use Rattle.judging_laws.specs.sel_target.specs.declared.attr.Attr.{Attr}
use Rattle.judging_laws.specs.sel_target.specs.declared.attr.Attr.TheVariants as attr
use Rattle.judging_laws.specs.sel_target.specs.Values.{View, value}
use Rattle.judging_laws.specs.vax_templates.specs.declared.setting.Hole.{Hole}
use Rattle.judging_laws.specs.vax_templates.specs.declared.setting.Hole.TheVariants as hole_kind
use Rattle.judging_laws.specs.vax_templates.specs.declared.setting.Own.{Own}
use Rattle.judging_laws.specs.vax_templates.specs.declared.setting.Own.TheVariants as own
use Rattle.judging_laws.specs.vax_templates.specs.declared.setting.Opening.TheVariants as opening
use Rattle.judging_laws.specs.vax_templates.specs.declared.setting.Setting.{Setting}
use Rattle.judging_laws.specs.vax_templates.specs.Settings.{hole_at}
use Rattle.judging_laws.specs.vax_templates.specs.Judging.{is_operand}
use Rattle.l32_target_meaning.specs.l32_templates.specs.l32_core.specs.declared.operand.Operand32.{Operand32}
use Rattle.l32_target_meaning.specs.l32_templates.specs.l32_machine.specs.State.{State, reg}
use Rattle.l32_target_meaning.specs.l32_templates.specs.Homes.{home}
use Rattle.l32_target_meaning.specs.l32_templates.specs.Spelled.{operand_bits}
use Rattle.l32_target_meaning.specs.l32_templates.specs.Filled.{attr_at, register_in, number_in, operand_in, deferred_in}
use Rattle.l32_target_meaning.specs.Reading.{named, reads}
use Rattle.l32_target_meaning.specs.Agreeing.{IsSound}

-- the program, what the lines may do, what each hole stands for, what fills it, what fills `%0`, and what the symbols are worth
pub record Scene : Type 0 where
  pub program : TreeProgram
  pub setting : Setting
  pub roles : List Hole
  pub holes : List (Attr Operand32)
  pub own : Attr Operand32
  pub view : View

abbrev pub worth : Scene → Shape → ℕ
worth c t = value c.view t

-- a register that holds the symbol's value
pub record IsRegister (c : Scene) (m : State) (i : ℕ) (h : Attr Operand32) : Type 0 where
  pub number : ℕ
  pub is : h ≡ attr.Reg number
  pub low : number < 12
  pub holds : reg m number ≡ worth c (Symbol i)

-- a place of a size: its address can be found, and where the symbol has a value, it stands there
pub record IsPlace (c : Scene) (m : State) (size : Size) (i : ℕ) (h : Attr Operand32) : Type 0 where
  pub address : ℕ
  pub named_so : named m (operand_in c.program h) ≡ Some address
  pub holds : IsSome (c.view.symbol i) → reads (operand_in c.program h) size m ≡ Some (worth c (Symbol i))

-- a local or an argument: its value stands at its place, and so does an address behind `@`
pub record IsLocal (c : Scene) (m : State) (i : ℕ) (h : Attr Operand32) : Type 0 where
  pub address : ℕ
  pub named_so : named m (operand_in c.program h) ≡ Some address
  pub holds : reads (operand_in c.program h) Long m ≡ Some (worth c (Symbol i))
  pub deferred : named m (deferred_in h) ≡ Some (worth c (Symbol i))

-- a number that is spelled
pub record IsNumber (h : Attr Operand32) (n : ℕ) : Type 0 where
  pub is : number_in h ≡ n
  pub low : n < 2 ^ 32

-- an object's operand names its address, and spells no register
pub record IsObject (c : Scene) (m : State) (i : ℕ) (h : Attr Operand32) : Type 0 where
  pub named_so : named m (operand_in c.program h) ≡ Some (worth c (Symbol i))
  pub bare : operand_bits (operand_in c.program h) ≡ 0

-- a local's home
pub record IsSavedLocal (c : Scene) (h : Attr Operand32) : Type 0 where
  pub local : ℕ
  pub low : local < NEED_LIMIT
  pub is : operand_in c.program h ≡ home local

-- what fills a hole is what the hole stands for
abbrev pub Means : Scene → State → Hole → ℕ → Attr Operand32 → Type 0
Means c m hole_kind.Register i h = IsRegister c m i h
Means c m (hole_kind.Value size) i h = reads (operand_in c.program h) size m ≡ Some (worth c (Symbol i))
Means c m (hole_kind.Place size) i h = IsPlace c m size i h
Means c m hole_kind.Local i h = IsLocal c m i h
Means c m (hole_kind.SavedPlace size) i h = named m (operand_in c.program h) ≡ Some (worth c (Symbol i))
Means c m hole_kind.Address i h = named m (operand_in c.program h) ≡ Some (worth c (Symbol i))
Means c m hole_kind.Constant i h = IsNumber h (worth c (Symbol i))
Means c m (hole_kind.Literal n) i h = IsNumber h n
Means c m hole_kind.Object i h = IsObject c m i h
Means c m hole_kind.Saved i h = IsSavedLocal c h
Means c m hole_kind.Relation i h = Unit {0}
Means c m hole_kind.Other i h = Unit {0}

abbrev pub role_at : Scene → ℕ → Hole
role_at c i = hole_at c.roles i

abbrev pub filling_at : Scene → ℕ → Attr Operand32
filling_at c i = attr_at c.holes c.own i

-- a register among a0 to a11, or the operand of a frame word
pub record IsOwnRegister (c : Scene) : Type 0 where
  pub number : ℕ
  pub is : c.own ≡ attr.Reg number
  pub low : number < 12

pub record IsOwnSlot (c : Scene) : Type 0 where
  pub word : ℕ
  pub low : word < NEED_LIMIT
  pub is : c.own ≡ attr.Place (home word)

-- what fills `%0` is what it is to be
abbrev pub OwnIs : Scene → Own → Type 0
OwnIs c own.Nothing = Unit {0}
OwnIs c own.Register = IsOwnRegister c
OwnIs c (own.Slot size) = IsOwnSlot c

-- what `%0` holds, where it has a value
abbrev pub Holds : Scene → State → Option Shape → Type 0
Holds c m None = Unit {0}
Holds c m (Some t) = reg m (register_in c.own) ≡ worth c t

-- `%0` has a value, and perhaps took an operand's register
abbrev pub is_lost : Scene → Option Shape → Bool
is_lost c None = false
is_lost c (Some t) = c.setting.is_reused

-- A state in which a line is run: the data area is the view's, each hole means what it stands for, unless `%0` took its
-- register, `%0` holds its value, and before it has one, a0 is the last call's result to a rule that saves it.
pub record Sees (c : Scene) (zero : Option Shape) (m : State) : Type 0 where
  pub sound : IsSound m
  pub area : m.area ≡ c.view.state.area
  pub means : (i : ℕ) → (is_lost c zero ≡ true → is_operand (role_at c i) ≡ false) → Means c m (role_at c i) i (filling_at c i)
  pub own_is : OwnIs c c.setting.own
  pub holds : Holds c m zero
  pub answered : c.setting.opening ≡ opening.Save → zero ≡ None → reg m 0 ≡ worth c LastResult
