-- A state on terms: what registers and condition codes are, over symbols for what registers were and for what was read since.
use Rattle.std.specs.Prelude.{ℕ, ◌==◌, nat_lt, Bool, false, List, map, Option, Some, None, slice_index_or as get_or}
use Rattle.gg_base.specs.declared.size.Size.{Size}
use Rattle.gg_base.specs.declared.relation.Rel.TheVariants as relations
use Rattle.gg_base.specs.Relations.{holds}
use Rattle.term_core.specs.Shape.{Shape, Constant}
use Rattle.vax_machine_lists.specs.vax_machine.specs.declared.function.Conditions.{Conditions}
use Rattle.vax_machine_lists.specs.vax_machine.specs.declared.function.Computed.{Computed}
use Rattle.vax_machine_lists.specs.vax_machine.specs.declared.function.Function.{Function}
use Rattle.vax_machine_lists.specs.vax_machine.specs.State.{State}
use Rattle.vax_machine_lists.specs.vax_machine.specs.Functions.{extended, is_negative_at, applied}
use Rattle.vax_pairs.specs.Standing.{Seen}
use Rattle.vax_pairs.specs.Events.{worth}

-- N and Z: as at the beginning, those of a number at a size, or of two numbers compared
pub data Signs : Type 0 where
  SignsBefore : Signs
  Tests : (size : Size) (t : Shape) → Signs
  Compares : (size : Size) (a b : Shape) → Signs

-- C: as at the beginning, clear, or set where one number is below another
pub data Carry : Type 0 where
  CarryBefore : Carry
  Off : Carry
  Below : (a b : Shape) → Carry
  -- as a function of the machine leaves it
  Made : (f : Function) (a b : Shape) → Carry

-- C behind a function that sets it
abbrev pub carry_in : Option Computed → Bool
carry_in None = false
carry_in (Some c) = c.conditions.carry

abbrev pub signed : List ℕ → Conditions → Signs → Conditions
signed env k SignsBefore = k
signed env k (Tests size t) = record k { negative = is_negative_at size (worth env t); is_zero = worth env t == 0 }
signed env k (Compares size a b) = record k {
  negative = holds relations.Lt (extended size (worth env a)) (extended size (worth env b));
  is_zero = worth env a == worth env b;
}

abbrev pub carried : List ℕ → Conditions → Carry → Conditions
carried env k CarryBefore = k
carried env k Off = record k { carry = false }
carried env k (Below a b) = record k { carry = nat_lt (worth env a) (worth env b) }
carried env k (Made f a b) = record k { carry = carry_in (applied f (worth env a) (worth env b) false) }

-- a state of a piece: r0 to r11, ap, fp and sp, and the condition codes
pub record TermState : Type 0 where
  pub registers : List Shape
  pub signs : Signs
  pub carry : Carry

abbrev pub coded : List ℕ → Conditions → TermState → Conditions
coded env k s = carried env (signed env k s.signs) s.carry

abbrev pub valued_registers : List ℕ → TermState → List ℕ
valued_registers env s = map (worth env) s.registers

-- the machine's state at a place
abbrev pub dressed : List ℕ → State → ℕ → TermState → State
dressed env m place s = record m { registers = valued_registers env s; conditions = coded env m.conditions s; place = place }

-- what a relation sees of it
abbrev pub sight : List ℕ → Conditions → TermState → Seen
sight env k s = record { registers = valued_registers env s; conditions = coded env k s }

-- the term of a register, by its number
abbrev pub term_at : TermState → ℕ → Shape
term_at s r = get_or s.registers r (Constant 0)
