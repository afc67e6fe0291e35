-- What is in scope while a function's body is typed, and what typing adds.
use Rattle.std.specs.Prelude.{◌≡◌, ℕ, ◌<◌, ◌≤◌, ◌^◌, false, List, length}
use Rattle.std.specs.List.{AllByRecursion}
use Rattle.c_types.specs.declared.typed.TheConstants.{BLOCK_LIMIT}
use Rattle.tree_core.specs.Locals.{LocalsStand}
use Rattle.c_types.specs.declared.typed.Variable.{Variable}
use Rattle.c_types.specs.declared.typed.Variable.TheVariants as variables
use Rattle.c_typed_scope.specs.declared.entry.Entry.{Entry}
use Rattle.c_typed_scope.specs.declared.entry.Entry.TheVariants as entries
use Rattle.c_typed_scope.specs.Scopes.{Scope}
use Rattle.c_typed_scope.specs.Layout.{Area}
use Rattle.c_typed_law.specs.c_typed_definition.specs.State.{State}

-- A variable of a function with so many locals, of which some are in scope, so many parameters and so many bytes of memory locals, where
-- there are so many objects; or an array of so many bytes, a longword, which in the block is no more than its bytes.
abbrev pub IsKnown : (ℕ → Type 0) → (locals parameters objects block : ℕ) → Variable → (size : ℕ) → Type 0
IsKnown scope locals parameters objects block (variables.Automatic n) size = scope n × (n < locals) × (size < 2 ^ 32)
IsKnown scope locals parameters objects block (variables.Parameter n) size = (n < parameters) × (size < 2 ^ 32)
IsKnown scope locals parameters objects block (variables.Global n) size = (n < objects) × (size < 2 ^ 32)
IsKnown scope locals parameters objects block (variables.Static n) size = (n < objects) × (size < 2 ^ 32)
IsKnown scope locals parameters objects block (variables.InBlock o) size = (o < block) × (size ≤ block)

-- what a name stands for, where it is a variable, or an array of so many bytes
abbrev pub OfVariable : (Variable → ℕ → Type 0) → Entry → Type 0
OfVariable known (entries.Variable t v) = known v 0
OfVariable known (entries.Array t v size) = known v size
OfVariable known (entries.Function n) = Unit {0}

-- each variable that a block's names stand for
abbrev pub NamesOf : (Variable → ℕ → Type 0) → List (List ℕ × Entry) → Type 0
NamesOf known es = AllByRecursion (λ (e : List ℕ × Entry). OfVariable known e.1) es

abbrev pub BlocksOf : (Variable → ℕ → Type 0) → List (List (List ℕ × Entry)) → Type 0
BlocksOf known bs = AllByRecursion (NamesOf known) bs

-- each variable that a name stands for, in each block that is open
pub record ScopeOf (known : Variable → ℕ → Type 0) (s : Scope) : Type 0 where
  pub here : NamesOf known s.here
  pub outer : BlocksOf known s.outer

-- Each variable that is in scope is there, and literals take room. Bytes of memory locals past their limit are not counted, and the
-- function is refused then.
pub record InOrder (scope : ℕ → Type 0) (parameters : ℕ) (s : State) : Type 0 where
  pub names : s.room.length ≤ BLOCK_LIMIT
      → ScopeOf (IsKnown scope (length s.locals) parameters (length s.area.objects) s.room.length) s.scope
  pub laying : s.area.measuring ≡ false

-- objects are added to an area, and literals take as much room as before
pub record Extends (a b : Area) : Type 0 where
  pub objects : length a.objects ≤ length b.objects
  pub measuring : b.measuring ≡ a.measuring

-- locals, memory locals and objects are added, numbers of `register` locals still differ, the stores of parameters stay, and so do the
-- blocks around the innermost
pub record Grows (s r : State) : Type 0 where
  pub locals : length s.locals ≤ length r.locals
  pub registers : LocalsStand (length s.locals) s.registers → LocalsStand (length r.locals) r.registers
  pub room : r.room.length ≤ BLOCK_LIMIT → s.room.length ≤ r.room.length
  pub stores : r.room.stores ≡ s.room.stores
  pub area : Extends s.area r.area
  pub outer : r.scope.outer ≡ s.scope.outer

-- a function of so many locals has room for a state, whose memory locals are within their limit
pub record HasRoom (size : ℕ) (r : State) : Type 0 where
  pub locals : length r.locals ≤ size
  pub block : r.room.length ≤ BLOCK_LIMIT

-- so many objects and so many bytes of memory locals, which are within their limit, are enough for a state
pub record HasPlaces (most size : ℕ) (r : State) : Type 0 where
  pub objects : length r.area.objects ≤ most
  pub block : r.room.length ≤ size
  pub limit : size ≤ BLOCK_LIMIT
