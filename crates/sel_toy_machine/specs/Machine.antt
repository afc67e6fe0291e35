-- The toy machine: registers, the innermost call's frame words, and the rest as a tree program's state has it.
use Rattle.std.specs.Prelude.{◌≡◌, ℕ, ◌-◌, ◌*◌, ◌%◌, ◌^◌, ◌<◌, ◌==◌, nat_lt, List, [], ◌∷◌, Option, Some, None, Bool}
use Rattle.std.specs.Prelude.{true, false, cond, slice_get, slice_set}
use Rattle.std.specs.Prelude.{length, map}
use Rattle.std.specs.Option.{option_map}
use Rattle.std.specs.List.{AllByRecursion}
use Rattle.gg_base.specs.declared.size.Size.{Size}
use Rattle.gg_base.specs.Sizes.{bytes_of}
use Rattle.tree_core.specs.declared.program.TreeFn.{TreeFn}
use Rattle.tree_core.specs.declared.program.TreeProgram.{TreeProgram}
use Rattle.tree_core.specs.Area.{fetched}
use Rattle.sel_target.specs.tree_meaning.specs.State.{State, Extent}
use Rattle.md_reader.specs.declared.types.Kind.{Kind}
use Rattle.md_reader.specs.declared.types.Kind.TheVariants as kind
use Rattle.sel_toy_machine.specs.declared.operand.Operand.{Operand}
use Rattle.sel_toy_machine.specs.declared.operand.Operand.TheVariants.{Register, Based, Word, Deferred, Argument, Number}

-- what was written at a number
pub record Write : Type 0 where
  pub at : ℕ
  pub value : ℕ

-- what is held at a number after writes, the last one first; 0 where nothing was written
abbrev pub held : List Write → ℕ → ℕ
held [] k = 0
held (w ∷ ws) k = cond (k == w.at) w.value (held ws k)

pub record Machine : Type 0 where
  pub registers : List Write
  pub words : List Write
  pub arguments : List ℕ
  pub pushed : List ℕ
  -- how many calls wait for the running one
  pub callers : ℕ
  pub area : List ℕ
  pub input : List ℕ
  -- the names of the functions that a call may name
  pub functions : List (List ℕ)

abbrev pub in_register : Machine → ℕ → ℕ
in_register m k = held m.registers k

abbrev pub in_word : Machine → ℕ → ℕ
in_word m k = held m.words k

-- the low part of a number, of a size
abbrev pub part : Size → ℕ → ℕ
part size n = n % 2 ^ (8 * bytes_of size)

abbrev pub long : ℕ → ℕ
long n = n % 2 ^ 32

-- a number that an operand reads
abbrev pub reads : Operand → Size → Machine → Option ℕ
reads (Register r) size m = Some (part size (in_register m r))
reads (Based r) size m = fetched size m.area (long (in_register m r))
reads (Word w) size m = Some (part size (in_word m w))
reads (Deferred w) size m = fetched size m.area (long (in_word m w))
reads (Argument k) size m = option_map (part size) (slice_get m.arguments (k - 1))
reads (Number n) size m = Some (part size n)

-- the address that it names; words and arguments lie outside the data area
abbrev pub names : Operand → Size → Machine → Option ℕ
names (Register r) size m = None
names (Based r) size m = Some (long (in_register m r))
names (Word w) size m = Some 0
names (Deferred w) size m = Some (long (in_word m w))
names (Argument k) size m = Some 0
names (Number n) size m = None

-- the bit of a register, of which there are twelve
abbrev pub bit_of : ℕ → ℕ
bit_of r = cond (nat_lt r 12) (2 ^ r) 0

abbrev pub registers : Operand → ℕ
registers (Register r) = bit_of r
registers (Based r) = bit_of r
registers (Word w) = 0
registers (Deferred w) = 0
registers (Argument k) = 0
registers (Number n) = 0

abbrev pub word_of : Operand → Option ℕ
word_of (Register r) = None
word_of (Based r) = None
word_of (Word w) = Some w
word_of (Deferred w) = Some w
word_of (Argument k) = None
word_of (Number n) = None

abbrev pub same : Operand → Operand → Bool
same (Register r) (Register s) = r == s
same (Based r) (Based s) = r == s
same (Word w) (Word v) = w == v
same (Deferred w) (Deferred v) = w == v
same (Argument k) (Argument j) = k == j
same (Number n) (Number k) = n == k
same a b = false

-- an operand that may be a place
abbrev pub is_place : Operand → Bool
is_place (Register r) = false
is_place (Based r) = true
is_place (Word w) = true
is_place (Deferred w) = true
is_place (Argument k) = true
is_place (Number n) = false

abbrev pub fits : Kind → Operand → Bool
fits (kind.Place size) o = is_place o
fits k o = true

-- The machine's state stands for a state of trees. A local that was written has its word, and all else is equal.
pub record Stands (q : TreeProgram) (f : Extent) (fs : List Extent) (t : State) (m : Machine) : Type 0 where
  pub area : m.area ≡ t.area
  pub input : m.input ≡ t.input
  pub arguments : m.arguments ≡ t.running.arguments
  pub pushed : m.pushed ≡ t.running.pushed
  pub callers : m.callers ≡ length t.callers
  pub functions : m.functions ≡ map (λ (g : TreeFn). g.name) q.functions
  pub locals : (k n : ℕ) → t.running.locals k ≡ Some n → (k < f.locals) × (long (in_word m k) ≡ n)
  pub bytes : AllByRecursion (λ b. b < 256) t.area
  pub inputs : AllByRecursion (λ b. b < 256) t.input
  pub longwords : AllByRecursion (λ n. n < 2 ^ 32) t.running.arguments

abbrev pub with_register : Machine → ℕ → ℕ → Machine
with_register m r x = record m { registers = record { at = r; value = x } ∷ m.registers }

abbrev pub with_argument : Machine → ℕ → ℕ → Machine
with_argument m k x = record m { arguments = slice_set m.arguments (k - 1) x }

abbrev pub with_area : Machine → List ℕ → Machine
with_area m bytes = record m { area = bytes }

abbrev pub with_word : Machine → ℕ → ℕ → Machine
with_word m w x = record m { words = record { at = w; value = x } ∷ m.words }
