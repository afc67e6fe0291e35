-- What a line of a template does, and what is wrong with it.
-- This is how the code computes it; that instructions do so is the law vax_is_lawful of vax_target_laws.
use Rattle.std.specs.Prelude.{ℕ, Bool, true, false, not, ◌||◌, ◌&&◌, List, [], ◌∷◌, Option, Some, None, is_some}
use Rattle.std.specs.Prelude.{Result, Ok, Err, if◌then◌else◌}
use Rattle.std.specs.List.{list_any}
use Rattle.sel_target.specs.md_reader_pieces.specs.declared.piece.Piece.{Piece}
use Rattle.sel_target.specs.term_core.specs.Shape.{Shape}
use Rattle.sel_target.specs.sel_terms.specs.Effects as act
use Rattle.sel_target.specs.declared.fault.TemplateKind.{TemplateKind}
use Rattle.sel_target.specs.declared.fault.TemplateKind.TheVariants.{NotInstr, WrongSize, Order}
use Rattle.vax_core.specs.declared.op.Op.{Op}
use Rattle.vax_core.specs.Ops.{shape}
use Rattle.vax_machine.specs.Functions.{action_of}
use Rattle.vax_templates.specs.declared.form.Base.{Base}
use Rattle.vax_templates.specs.declared.form.Base.TheVariants as base
use Rattle.vax_templates.specs.declared.form.Form.{Form}
use Rattle.vax_templates.specs.declared.setting.Hole.{Hole}
use Rattle.vax_templates.specs.declared.setting.Hole.TheVariants as hole_kind
use Rattle.vax_templates.specs.declared.setting.Setting.{Setting}
use Rattle.vax_templates.specs.Settings.{hole_at}
use Rattle.vax_templates.specs.Instructions.{Instruction, Relation, Jump, Calls, Ret, Operates, instruction_of}
use Rattle.vax_templates.specs.Standing.{◌>>=◌}
use Rattle.vax_templates.specs.Taking.{Arguments, all_evaluated}
use Rattle.vax_templates.specs.Deeds.{Last, Returning, Ended, Deed, ends, ends_statement, is_relation, branches}
use Rattle.vax_templates.specs.Deeds.{acted}

-- an operand of a symbol, which is read where it is spelled; constants and objects are numbers of the instruction
abbrev pub is_operand : Hole → Bool
is_operand hole_kind.Register = true
is_operand (hole_kind.Value z) = true
is_operand (hole_kind.Place z) = true
is_operand hole_kind.Local = true
is_operand (hole_kind.SavedPlace z) = true
is_operand hole_kind.Address = true
is_operand h = false

abbrev pub index_is_operand : List Hole → Option ℕ → Bool
index_is_operand holes None = false
index_is_operand holes (Some i) = is_operand (hole_at holes i)

abbrev pub base_spells : List Hole → Base → Bool
base_spells holes (base.Hole i) = is_operand (hole_at holes i)
base_spells holes (base.RegisterDeferred i) = is_operand (hole_at holes i)
base_spells holes (base.Displacement n i) = is_operand (hole_at holes i)
base_spells holes (base.DisplacementDeferred n i) = is_operand (hole_at holes i)
base_spells holes (base.Deferred i) = is_operand (hole_at holes i)
base_spells holes b = false

abbrev pub spells_symbol : List Hole → Form → Bool
spells_symbol holes f = base_spells holes f.base || index_is_operand holes f.index

abbrev pub has_some : List Shape → Bool
has_some [] = false
has_some (t ∷ ts) = true

-- a division behind the first line; or, where `%0` may be an operand's register, an operand that is read behind the
-- first line that writes `%0`
abbrev pub is_disordered : Setting → List Hole → Bool → Option Shape → List Form → Deed → Bool
is_disordered s holes is_first zero fs d =
    (not is_first && has_some d.divisors) || (s.is_reused && is_some zero && list_any (spells_symbol holes) fs)

-- of the faults of one line a wrong size goes before a wrong order
abbrev pub in_order : Bool → Deed → Result Deed TemplateKind
in_order disordered d = if d.missized then Err WrongSize else if disordered then Err Order else Ok d

abbrev pub with_reads : Arguments → Deed → Deed
with_reads x d = record d { reads = x.reads; missized = x.missized }

abbrev pub checked : Setting → List Hole → Bool → Option Shape → List Form → Arguments → Deed → Result Deed TemplateKind
checked s holes is_first zero fs x d = in_order (is_disordered s holes is_first zero fs d) (with_reads x d)

unfoldable pub operated : Setting → List Hole → Bool → Option Shape → Op → List Form → Result Deed TemplateKind
operated s holes is_first zero op fs =
    all_evaluated s holes zero (shape op).operands fs
    >>= λ (x : Arguments). acted s (action_of op) op x >>= checked s holes is_first zero fs x

-- what an instruction does behind a line that left this
abbrev pub instruction_did : Setting → List Hole → Bool → Option Shape → Last → Instruction → Result Deed TemplateKind
instruction_did s holes is_first zero l (Relation i) = if is_relation (hole_at holes i) then branches s i l else Err NotInstr
instruction_did s holes is_first zero l Jump = ends_statement s act.Jump
instruction_did s holes is_first zero l Calls = ends_statement s act.Call
instruction_did s holes is_first zero l Ret = Err NotInstr
instruction_did s holes is_first zero l (Operates op fs) = operated s holes is_first zero op fs

abbrev pub returned : Shape → Instruction → Result Deed TemplateKind
returned t Ret = ends (act.Return t)
returned t i = Err NotInstr

-- behind a value in register 0 stands `ret`, and behind a deed nothing
abbrev pub did_behind : Setting → List Hole → Bool → Option Shape → Last → Instruction → Result Deed TemplateKind
did_behind s holes is_first zero (Ended deed) i = Err NotInstr
did_behind s holes is_first zero (Returning t) i = returned t i
did_behind s holes is_first zero l i = instruction_did s holes is_first zero l i

abbrev pub read : Option Instruction → Result Instruction TemplateKind
read None = Err NotInstr
read (Some i) = Ok i

-- what a line does, where `%0` holds this and the line before left that
unfoldable pub line_did : Setting → List Hole → Bool → Option Shape → Last → List Piece → Result Deed TemplateKind
line_did s holes is_first zero l ps = read (instruction_of ps) >>= did_behind s holes is_first zero l
