-- What terms are worth, and the events of a piece of code: what may break a run, changes memory, reads a byte or writes one.
use Rattle.std.specs.Prelude.{ℕ, ◌-◌, ◌^◌, ◌==◌, nat_lt, List, [], ◌∷◌, ◌++◌, Result, Ok, Err, slice_index, if◌then◌else◌}
use Rattle.gg_base.specs.declared.size.Size.{Size}
use Rattle.term_core.specs.Operators.{unary, binary}
use Rattle.term_core.specs.Shape.{Shape, Constant, Symbol, LastResult, Memory, Unary, Binary}
use Rattle.vax_machine_lists.specs.vax_machine.specs.declared.turn.Stop.{Stop}
use Rattle.vax_machine_lists.specs.vax_machine.specs.declared.turn.Stop.TheVariants.{Trapped}
use Rattle.vax_machine_lists.specs.vax_machine.specs.State.{State, stack_full, ◌>>=◌}
use Rattle.vax_machine_lists.specs.vax_machine.specs.Memory.{read, written}

-- what a term is worth where the symbols are worth these numbers
abbrev pub worth : List ℕ → Shape → ℕ
worth env (Constant n) = n
worth env (Symbol i) = slice_index env i
worth env LastResult = 0
worth env (Memory size a) = 0
worth env (Unary op t) = unary op (worth env t)
worth env (Binary op a b) = binary op (worth env a) (worth env b)

-- what may break a run, changes memory, reads a byte or writes one; a read gives the next symbol
pub data Event : Type 0 where
  Reads : (size : Size) (address : Shape) → Event
  Stores : (size : Size) (address value : Shape) → Event
  -- sp is set
  Lowers : (sp : Shape) → Event
  Divides : (divisor : Shape) → Event
  -- a byte of the input is read, or -1 at its end
  Gets : Event
  -- a byte is written
  Puts : (byte : Shape) → Event

-- the next byte of the input, or -1 at its end
abbrev pub next_byte : List ℕ → ℕ
next_byte [] = 2 ^ 32 - 1
next_byte (b ∷ bytes) = b

abbrev pub bytes_behind : List ℕ → List ℕ
bytes_behind [] = []
bytes_behind (b ∷ bytes) = bytes

-- an event at work: on the numbers of the symbols, and on a state of which data, stack and control words count
abbrev pub occurs : Event → List ℕ → State → Result (List ℕ × State) Stop
occurs (Reads size a) env m = read m (worth env a) size >>= λ (v : ℕ). Ok (env ++ v ∷ [], m)
occurs (Stores size a v) env m = written m (worth env a) size (worth env v) >>= λ (n : State). Ok (env, n)
occurs (Lowers sp) env m = if nat_lt (worth env sp) 2139095040 then Err stack_full else Ok (env, m)
occurs (Divides d) env m = if worth env d == 0 then Err Trapped else Ok (env, m)
occurs Gets env m = Ok (env ++ next_byte m.input ∷ [], record m { input = bytes_behind m.input })
occurs (Puts b) env m = Ok (env, m)

-- what is written behind an event, of what was written before
abbrev pub wrote : Event → List ℕ → List ℕ → List ℕ
wrote (Puts b) env w = w ++ worth env b ∷ []
wrote e env w = w
