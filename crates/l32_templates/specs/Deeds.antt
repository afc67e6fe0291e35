-- What an instruction does with its arguments: what it puts into `%0`, and what it leaves to the next line.
use Rattle.std.specs.Prelude.{ℕ, Bool, true, false, Option, Some, None, Result, Ok, Err, if◌then◌else◌}
use Rattle.vax_templates.specs.gg_base.specs.declared.relation.Rel.{Rel}
use Rattle.vax_templates.specs.term_core.specs.Shape.{Shape}
use Rattle.vax_templates.specs.sel_target.specs.sel_terms.specs.Effects as act
use Rattle.vax_templates.specs.sel_target.specs.declared.fault.TemplateKind.{TemplateKind}
use Rattle.vax_templates.specs.sel_target.specs.declared.fault.TemplateKind.TheVariants.{NotInstr}
use Rattle.l32_core.specs.declared.op.Op32.{Op32}
use Rattle.l32_core.specs.declared.op.Op32.TheVariants as ops
use Rattle.l32_machine.specs.declared.function.Action.{Action}
use Rattle.l32_machine.specs.declared.function.Action.TheVariants as action
use Rattle.vax_templates.specs.declared.setting.Setting.{Setting}
use Rattle.vax_templates.specs.Standing.{◌>>=◌}
use Rattle.vax_templates.specs.Targets.{Target, ToOwn, ToSlot, ToHome, ToMemory, ToZero, ToSaved}
use Rattle.vax_templates.specs.Taking.{Arguments}
use Rattle.vax_templates.specs.Giving.{Given, Computes, Divides, Compares, Tests}
use Rattle.vax_templates.specs.Deeds.{Deed, Returning, leaves, ends, ends_statement, puts, divided, is_last_result}
use Rattle.l32_templates.specs.Giving.{given}

abbrev pub is_lw : Op32 → Bool
is_lw ops.Lw = true
is_lw op = false

-- a result at its destination; only `lw` writes `a0`, and nothing but the last call's result is saved
abbrev pub put : Op32 → Option Target → Shape → Result Deed TemplateKind
put op None t = Err NotInstr
put op (Some ToOwn) t = Ok (puts t)
put op (Some (ToSlot z)) t = ends (act.StoreHome z 0 t)
put op (Some (ToHome z i)) t = ends (act.StoreHome z i t)
put op (Some (ToMemory z a)) t = ends (act.StoreAt z a t)
put op (Some ToZero) t = if is_lw op then Ok (leaves (Returning t)) else Err NotInstr
put op (Some (ToSaved i)) t = if is_last_result t then ends (act.Save i) else Err NotInstr

abbrev pub computed : Op32 → Option Target → Given → Result Deed TemplateKind
computed op to (Computes t) = put op to t
computed op to (Divides t divisor) = put op to t >>= divided divisor
computed op to (Compares a b) = Err NotInstr
computed op to (Tests t) = Err NotInstr

-- what an instruction does with its arguments; a branch stands only with the relation of its symbol
abbrev pub acted : Setting → Action → Op32 → Arguments → Result Deed TemplateKind
acted s (action.Compute f) op x = computed op x.target (given f x.first x.second)
acted s action.Push op x = ends_statement s (act.Push x.first)
acted s action.Jump op x = ends_statement s act.Jump
acted s (action.Branch r) op x = Err NotInstr
acted s action.Enter op x = Err NotInstr
acted s action.Call op x = Err NotInstr
acted s action.Return op x = Err NotInstr
