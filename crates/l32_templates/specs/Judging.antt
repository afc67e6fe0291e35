-- What a line of a template does, and what is wrong with it.
use Rattle.std.specs.Prelude.{ℕ, Bool, true, false, not, ◌||◌, ◌&&◌, List, [], ◌∷◌, Option, Some, None, is_some}
use Rattle.std.specs.Prelude.{Result, Ok, Err, if◌then◌else◌}
use Rattle.std.specs.List.{list_any}
use Rattle.vax_templates.specs.sel_target.specs.md_reader_pieces.specs.declared.piece.Piece.{Piece}
use Rattle.vax_templates.specs.term_core.specs.Shape.{Shape}
use Rattle.vax_templates.specs.sel_target.specs.sel_terms.specs.Effects as act
use Rattle.vax_templates.specs.sel_target.specs.declared.fault.TemplateKind.{TemplateKind}
use Rattle.vax_templates.specs.sel_target.specs.declared.fault.TemplateKind.TheVariants.{NotInstr}
use Rattle.l32_core.specs.declared.op.Op32.{Op32}
use Rattle.l32_core.specs.declared.op.Op32.TheVariants as ops
use Rattle.l32_core.specs.Ops.{shape}
use Rattle.l32_machine.specs.Functions.{action_of}
use Rattle.vax_templates.specs.declared.setting.Hole.{Hole}
use Rattle.vax_templates.specs.declared.setting.Setting.{Setting}
use Rattle.vax_templates.specs.Settings.{hole_at}
use Rattle.vax_templates.specs.Standing.{◌>>=◌}
use Rattle.vax_templates.specs.Taking.{Arguments}
use Rattle.vax_templates.specs.Deeds.{Last, Returning, Ended, Deed, ends, ends_statement, is_relation}
use Rattle.vax_templates.specs.Judging.{is_operand, has_some, in_order, with_reads}
use Rattle.l32_templates.specs.declared.form.Form.{Form}
use Rattle.l32_templates.specs.declared.form.Form.TheVariants as form
use Rattle.l32_templates.specs.Instructions.{Instruction, Relation, Calls, Operates, instruction_of}
use Rattle.l32_templates.specs.Taking.{all_evaluated}
use Rattle.l32_templates.specs.Deeds.{acted}

-- an operand that is read of a symbol
abbrev pub spells_symbol : List Hole → Form → Bool
spells_symbol holes (form.Hole i) = is_operand (hole_at holes i)
spells_symbol holes (form.Displacement n i) = is_operand (hole_at holes i)
spells_symbol holes (form.DisplacementDeferred n i) = is_operand (hole_at holes i)
spells_symbol holes (form.Deferred i) = is_operand (hole_at holes i)
spells_symbol holes f = false

-- a division behind the first line; or, where `%0` may be an operand's register, an operand that is read behind the
-- first line that writes `%0`
abbrev pub is_disordered : Setting → List Hole → Bool → Option Shape → List Form → Deed → Bool
is_disordered s holes is_first zero fs d =
    (not is_first && has_some d.divisors) || (s.is_reused && is_some zero && list_any (spells_symbol holes) fs)

abbrev pub checked : Setting → List Hole → Bool → Option Shape → List Form → Arguments → Deed → Result Deed TemplateKind
checked s holes is_first zero fs x d = in_order (is_disordered s holes is_first zero fs d) (with_reads x d)

unfoldable pub operated : Setting → List Hole → Bool → Option Shape → Op32 → List Form → Result Deed TemplateKind
operated s holes is_first zero op fs =
    all_evaluated s holes zero (shape op).parts fs >>= λ (x : Arguments). acted s (action_of op) op x >>= checked s holes is_first zero fs x

-- two registers are compared by the relation of a symbol; all branches have the same parts
unfoldable pub branches : Setting → List Hole → Option Shape → ℕ → List Form → Result Deed TemplateKind
branches s holes zero i fs =
    all_evaluated s holes zero (shape ops.Beq).parts fs >>= λ (x : Arguments). ends_statement s (act.Branch i x.first x.second)

-- what an instruction does
abbrev pub instruction_did : Setting → List Hole → Bool → Option Shape → Instruction → Result Deed TemplateKind
instruction_did s holes is_first zero (Relation i fs) =
    if is_relation (hole_at holes i) then branches s holes zero i fs else Err NotInstr
instruction_did s holes is_first zero Calls = ends_statement s act.Call
instruction_did s holes is_first zero (Operates op fs) = operated s holes is_first zero op fs

abbrev pub is_ret : Op32 → Bool
is_ret ops.Ret = true
is_ret op = false

abbrev pub returned : Shape → Instruction → Result Deed TemplateKind
returned t (Operates op fs) = if is_ret op then ends (act.Return t) else Err NotInstr
returned t i = Err NotInstr

-- behind a value in `a0` stands `ret`, and behind a deed nothing
abbrev pub did_behind : Setting → List Hole → Bool → Option Shape → Last → Instruction → Result Deed TemplateKind
did_behind s holes is_first zero (Ended deed) i = Err NotInstr
did_behind s holes is_first zero (Returning t) i = returned t i
did_behind s holes is_first zero l i = instruction_did s holes is_first zero i

abbrev pub read : Option Instruction → Result Instruction TemplateKind
read None = Err NotInstr
read (Some i) = Ok i

-- what a line does, where `%0` holds this and the line before left that
unfoldable pub line_did : Setting → List Hole → Bool → Option Shape → Last → List Piece → Result Deed TemplateKind
line_did s holes is_first zero l ps = read (instruction_of ps) >>= did_behind s holes is_first zero l
