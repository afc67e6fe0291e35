-- What an instruction does with its arguments: what it puts into `%0`, and what it leaves to the next line.
-- This is how the code computes it; that instructions do so is the law vax_is_lawful of vax_target_laws.
use Rattle.std.specs.Prelude.{ℕ, Bool, true, false, ◌&&◌, List, [], ◌∷◌, Option, Some, None, Result, Ok, Err}
use Rattle.std.specs.Prelude.{if◌then◌else◌}
use Rattle.sel_target.specs.term_core.specs.Shape.{Shape, Constant, LastResult}
use Rattle.sel_target.specs.sel_terms.specs.Effects.{ActShape}
use Rattle.sel_target.specs.sel_terms.specs.Effects as act
use Rattle.sel_target.specs.declared.fault.TemplateKind.{TemplateKind}
use Rattle.sel_target.specs.declared.fault.TemplateKind.TheVariants.{NotInstr}
use Rattle.vax_core.specs.declared.op.Op.{Op}
use Rattle.vax_core.specs.declared.op.Op.TheVariants as ops
use Rattle.vax_machine.specs.declared.function.Action.{Action}
use Rattle.vax_machine.specs.declared.function.Action.TheVariants as action
use Rattle.vax_templates.specs.declared.setting.Hole.{Hole}
use Rattle.vax_templates.specs.declared.setting.Hole.TheVariants as hole_kind
use Rattle.vax_templates.specs.declared.setting.Setting.{Setting}
use Rattle.vax_templates.specs.Standing.{◌>>=◌}
use Rattle.vax_templates.specs.Targets.{Target, ToOwn, ToSlot, ToHome, ToMemory, ToZero, ToSaved}
use Rattle.vax_templates.specs.Taking.{Arguments}
use Rattle.vax_templates.specs.Giving.{Given, Computes, Divides, Compares, Tests, given}

-- what the last line left to the next: nothing, two numbers that were compared, one that was tested, a value in
-- register 0, or the deed that ends the template
pub data Last : Type 0 where
  Plain : Last
  Compared : (a b : Shape) → Last
  Tested : (t : Shape) → Last
  Returning : (t : Shape) → Last
  Ended : (deed : ActShape) → Last

-- what a line puts into `%0`, what it leaves to the next, by what it divides, what it reads of memory, whether an operand has another size
pub record Deed : Type 0 where
  pub own : Option Shape
  pub last : Last
  pub divisors : List Shape
  pub reads : List Shape
  pub missized : Bool

abbrev pub leaves : Last → Deed
leaves l = record { own = None; last = l; divisors = []; reads = []; missized = false }

abbrev pub ends : ActShape → Result Deed TemplateKind
ends deed = Ok (leaves (Ended deed))

-- only a statement has a deed of its own
abbrev pub ends_statement : Setting → ActShape → Result Deed TemplateKind
ends_statement s deed = if s.is_statement then ends deed else Err NotInstr

abbrev pub is_relation : Hole → Bool
is_relation hole_kind.Relation = true
is_relation h = false

-- a branch stands directly behind a comparison, or behind a test of bits where the relation compares with signs
abbrev pub branches : Setting → ℕ → Last → Result Deed TemplateKind
branches s i (Compared a b) = ends_statement s (act.Branch i a b)
branches s i (Tested t) = if s.is_signed then ends_statement s (act.Branch i t (Constant 0)) else Err NotInstr
branches s i l = Err NotInstr

abbrev pub is_movl : Op → Bool
is_movl ops.Movl = true
is_movl op = false

abbrev pub is_last_result : Shape → Bool
is_last_result LastResult = true
is_last_result t = false

abbrev pub puts : Shape → Deed
puts t = record { own = Some t; last = Plain; divisors = []; reads = []; missized = false }

-- a result at its destination; only `movl` writes register 0 or the local of the last call's result
abbrev pub put : Op → Option Target → Shape → Result Deed TemplateKind
put op None t = Err NotInstr
put op (Some ToOwn) t = Ok (puts t)
put op (Some (ToSlot z)) t = ends (act.StoreHome z 0 t)
put op (Some (ToHome z i)) t = ends (act.StoreHome z i t)
put op (Some (ToMemory z a)) t = ends (act.StoreAt z a t)
put op (Some ToZero) t = if is_movl op then Ok (leaves (Returning t)) else Err NotInstr
put op (Some (ToSaved i)) t = if is_movl op && is_last_result t then ends (act.Save i) else Err NotInstr

abbrev pub divided : Shape → Deed → Result Deed TemplateKind
divided divisor d = Ok (record d { divisors = divisor ∷ [] })

abbrev pub computed : Op → Option Target → Given → Result Deed TemplateKind
computed op to (Computes t) = put op to t
computed op to (Divides t divisor) = put op to t >>= divided divisor
computed op to (Compares a b) = Ok (leaves (Compared a b))
computed op to (Tests t) = Ok (leaves (Tested t))

-- what an instruction does with its arguments
abbrev pub acted : Setting → Action → Op → Arguments → Result Deed TemplateKind
acted s (action.Compute f) op x = computed op x.target (given f x.first x.second)
acted s action.Push op x = ends_statement s (act.Push x.first)
acted s (action.Branch t) op x = Err NotInstr
acted s action.Call op x = Err NotInstr
acted s action.Return op x = Err NotInstr
