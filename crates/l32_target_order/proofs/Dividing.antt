-- A template divides at most once, and a statement has a line.
use Rattle.std.proofs.Common.{◌≡◌, ℕ, ◌≤◌, ◌&&◌, Bool, true, false, cond, not, Option, Some, None, Result, Ok, Err, List, [], ◌∷◌, length, refl, sym, ap, subst, ◌∙◌, arith}
use Rattle.std.proofs.lemmas.Bool.{true≢false}
use Rattle.judging_laws.specs.vax_templates.specs.gg_base.proofs.Facts.{first_false}
use Rattle.judging_laws.specs.md_reader_pieces.specs.declared.piece.Piece.{Piece}
use Rattle.judging_laws.specs.md_reader.specs.declared.types.Kind.TheVariants as kind
use Rattle.judging_laws.specs.md_reader.specs.Patterns.{kind_at}
use Rattle.judging_laws.specs.term_core.specs.Shape.{Shape}
use Rattle.judging_laws.specs.sel_terms.specs.Effects as effects
use Rattle.judging_laws.specs.sel_terms.specs.Effects.{ActShape}
use Rattle.judging_laws.specs.sel_target.specs.declared.fault.TemplateKind.{TemplateKind}
use Rattle.judging_laws.specs.sel_target.specs.declared.fault.TemplateKind.TheVariants.{NotInstr, WrongSize, Order}
use Rattle.judging_laws.specs.vax_templates.specs.declared.setting.Hole.{Hole}
use Rattle.judging_laws.specs.vax_templates.specs.declared.setting.Setting.{Setting}
use Rattle.judging_laws.specs.vax_templates.specs.Settings.{hole_at, holes_of, setting_of}
use Rattle.judging_laws.specs.vax_templates.specs.Standing.{◌>>=◌}
use Rattle.judging_laws.specs.vax_templates.specs.Targets.{Target, ToOwn, ToSlot, ToHome, ToMemory, ToZero, ToSaved}
use Rattle.judging_laws.specs.vax_templates.specs.Taking.{Arguments}
use Rattle.judging_laws.specs.vax_templates.specs.Giving.{Given, Computes, Divides, Compares, Tests}
use Rattle.judging_laws.specs.vax_templates.specs.Deeds.{Last, Plain, Compared, Tested, Returning, Ended, Deed, leaves, ends, ends_statement, is_relation, is_last_result, divided}
use Rattle.judging_laws.specs.vax_templates.specs.Judging.{has_some, with_reads}
use Rattle.judging_laws.specs.template_judging.specs.Found as any
use Rattle.judging_laws.specs.Each.{EachOk}
use Rattle.judging_laws.specs.Laws.{InOrder}
use Rattle.judging_laws.proofs.Parts.{bind_each, always_ok, if_ok}
use Rattle.judging_laws.proofs.Judged.{template_once, some_line}
use Rattle.l32_target_meaning.specs.l32_templates.specs.l32_core.specs.declared.op.Op32.{Op32}
use Rattle.l32_target_meaning.specs.l32_templates.specs.l32_core.specs.declared.op.Op32.TheVariants as ops
use Rattle.l32_target_meaning.specs.l32_templates.specs.l32_core.specs.Ops.{shape}
use Rattle.l32_target_meaning.specs.l32_templates.specs.l32_machine.specs.declared.function.Action.{Action}
use Rattle.l32_target_meaning.specs.l32_templates.specs.l32_machine.specs.declared.function.Action.TheVariants as action
use Rattle.l32_target_meaning.specs.l32_templates.specs.l32_machine.specs.Functions.{action_of}
use Rattle.l32_target_meaning.specs.l32_templates.specs.declared.form.Form.{Form}
use Rattle.l32_target_meaning.specs.l32_templates.specs.Instructions.{Instruction, Relation, Calls, Operates, instruction_of, shape_of_pieces}
use Rattle.l32_target_meaning.specs.l32_templates.specs.Taking.{all_evaluated}
use Rattle.l32_target_meaning.specs.l32_templates.specs.Giving.{given}
use Rattle.l32_target_meaning.specs.l32_templates.specs.Deeds.{is_lw, put, computed, acted}
use Rattle.l32_target_meaning.specs.l32_templates.specs.Judging.{is_disordered, checked, operated, branches, instruction_did, is_ret, returned, did_behind, read, line_did}
use Rattle.l32_target_meaning.specs.l32_templates.specs.GiveLines.{shape_read, shape_given, given_shape}
use Rattle.l32_target_meaning.specs.l32_templates.specs.Found.{l32_lines}
use Rattle.l32_target_order.specs.Laws.{RulesDivideOnce, StatementsHaveLines}

-- ---- one line

-- a deed that divides at most once
abbrev Once : Deed → Type 0
Once d = length d.divisors ≤ 1

none_left : (is_first : Bool) (l : Last) → InOrder is_first (leaves l)
none_left is_first l = record { once = omega arith; never = λ e. refl }

-- what is put divides by nothing
pub put_none : (op : Op32) (to : Option Target) (t : Shape) → EachOk (λ (d : Deed). d.divisors ≡ []) (put op to t)
put_none op None t = tt
put_none op (Some ToOwn) t = refl
put_none op (Some (ToSlot z)) t = refl
put_none op (Some (ToHome z i)) t = refl
put_none op (Some (ToMemory z a)) t = refl
put_none op (Some ToZero) t = if_ok (λ (d : Deed). d.divisors ≡ []) (is_lw op) (Ok (leaves (Returning t))) (Err NotInstr) (λ e. refl) (λ e. tt)
put_none op (Some (ToSaved i)) t = if_ok (λ (d : Deed). d.divisors ≡ []) (is_last_result t) (ends (effects.Save i)) (Err NotInstr) (λ e. refl) (λ e. tt)

none_once : (d : Deed) → d.divisors ≡ [] → Once d
none_once d e = subst (λ (ds : List Shape). length ds ≤ 1) (sym e) (omega arith)

put_once : (r : Result Deed TemplateKind) → EachOk (λ (d : Deed). d.divisors ≡ []) r → EachOk Once r
put_once (Ok d) h = none_once d h
put_once (Err e) h = tt

computed_once : (op : Op32) (to : Option Target) (g : Given) → EachOk Once (computed op to g)
computed_once op to (Computes t) = put_once (put op to t) (put_none op to t)
computed_once op to (Divides t d) = bind_each (λ (x : Deed). Unit {0}) Once (put op to t) (divided d) (λ x u. omega arith) (always_ok (put op to t) tt)
computed_once op to (Compares a b) = tt
computed_once op to (Tests t) = tt

module _ (s : Setting) (holes : List Hole) (is_first : Bool) (zero' : Option Shape) where
  abbrev Ordered : Deed → Type 0
  Ordered d = InOrder is_first d

  statement_once : (deed : ActShape) → EachOk Once (ends_statement s deed)
  statement_once deed = if_ok Once s.is_statement (ends deed) (Err NotInstr) (λ e. omega arith) (λ e. tt)

  statement_ordered : (deed : ActShape) → EachOk Ordered (ends_statement s deed)
  statement_ordered deed = if_ok Ordered s.is_statement (ends deed) (Err NotInstr) (λ e. none_left is_first (Ended deed)) (λ e. tt)

  acted_once : (a : Action) (op : Op32) (x : Arguments) → EachOk Once (acted s a op x)
  acted_once (action.Compute f) op x = computed_once op x.target (given f x.first x.second)
  acted_once action.Push op x = statement_once (effects.Push x.first)
  acted_once action.Jump op x = statement_once effects.Jump
  acted_once (action.Branch r) op x = tt
  acted_once action.Enter op x = tt
  acted_once action.Call op x = tt
  acted_once action.Return op x = tt

  none_some : (ds : List Shape) → has_some ds ≡ false → ds ≡ []
  none_some [] e = refl
  none_some (d ∷ ds) e = absurd (true≢false e)

  behind_first : (first : Bool) (ds : List Shape) → (not first && has_some ds) ≡ false → first ≡ false → ds ≡ []
  behind_first true ds e f = absurd (true≢false f)
  behind_first false ds e f = none_some ds e

  ordered_so : (fs : List Form) (x : Arguments) (d : Deed) → Once d → EachOk Ordered (checked s holes is_first zero' fs x d)
  ordered_so fs x d h =
      if_ok Ordered (with_reads x d).missized (Err WrongSize) (cond (is_disordered s holes is_first zero' fs d) (Err Order) (Ok (with_reads x d))) (λ e. tt)
      (λ e. if_ok Ordered (is_disordered s holes is_first zero' fs d) (Err Order) (Ok (with_reads x d)) (λ f. tt)
      (λ f. record { once = h; never = behind_first is_first d.divisors (first_false (not is_first && has_some d.divisors) _ f) }))

  operated_ordered : (op : Op32) (fs : List Form) → EachOk Ordered (operated s holes is_first zero' op fs)
  unfolding operated
  operated_ordered op fs =
      bind_each (λ (x : Arguments). Unit {0}) Ordered (all_evaluated s holes zero' (shape op).parts fs)
      (λ (x : Arguments). acted s (action_of op) op x >>= checked s holes is_first zero' fs x)
      (λ x u. bind_each Once Ordered (acted s (action_of op) op x) (checked s holes is_first zero' fs x) (λ d h. ordered_so fs x d h) (acted_once (action_of op) op x))
      (always_ok (all_evaluated s holes zero' (shape op).parts fs) tt)

  branched_ordered : (i : ℕ) (fs : List Form) → EachOk Ordered (branches s holes zero' i fs)
  unfolding branches
  branched_ordered i fs =
      bind_each (λ (x : Arguments). Unit {0}) Ordered (all_evaluated s holes zero' (shape ops.Beq).parts fs)
      (λ (x : Arguments). ends_statement s (effects.Branch i x.first x.second)) (λ x u. statement_ordered (effects.Branch i x.first x.second))
      (always_ok (all_evaluated s holes zero' (shape ops.Beq).parts fs) tt)

  instruction_ordered : (i : Instruction) → EachOk Ordered (instruction_did s holes is_first zero' i)
  instruction_ordered (Relation i fs) = if_ok Ordered (is_relation (hole_at holes i)) (branches s holes zero' i fs) (Err NotInstr) (λ e. branched_ordered i fs) (λ e. tt)
  instruction_ordered Calls = statement_ordered effects.Call
  instruction_ordered (Operates op fs) = operated_ordered op fs

  returned_ordered : (t : Shape) (i : Instruction) → EachOk Ordered (returned t i)
  returned_ordered t (Operates op fs) = if_ok Ordered (is_ret op) (ends (effects.Return t)) (Err NotInstr) (λ e. none_left is_first (Ended (effects.Return t))) (λ e. tt)
  returned_ordered t (Relation i fs) = tt
  returned_ordered t Calls = tt

  behind_ordered : (l : Last) (i : Instruction) → EachOk Ordered (did_behind s holes is_first zero' l i)
  behind_ordered Plain i = instruction_ordered i
  behind_ordered (Compared a b) i = instruction_ordered i
  behind_ordered (Tested t) i = instruction_ordered i
  behind_ordered (Returning t) i = returned_ordered t i
  behind_ordered (Ended deed) i = tt

  read_ordered : (l : Last) (o : Option Instruction) → EachOk Ordered (read o >>= did_behind s holes is_first zero' l)
  read_ordered l None = tt
  read_ordered l (Some i) = behind_ordered l i

  pub line_ordered : (l : Last) (ps : List Piece) → EachOk Ordered (line_did s holes is_first zero' l ps)
  unfolding line_did
  line_ordered l ps = read_ordered l (instruction_of ps)

-- ---- a statement has a line

nothing_given : (s : Setting) (holes : List Hole) (ps : List Piece) → EachOk (λ (x : ActShape). ⊥) (given_shape s holes (Some kind.Nothing) ps)
unfolding shape_given
nothing_given s holes ps = by (shape_of_pieces ps) where
  by : (o : Option Form) → EachOk (λ (x : ActShape). ⊥) (shape_read o >>= shape_given s holes (Some kind.Nothing))
  by None = tt
  by (Some f) = tt

pub rules_divide_once : RulesDivideOnce
unfolding any.found
rules_divide_once classes rule e is =
    template_once l32_lines (setting_of classes rule) (holes_of classes rule.right) line_ordered (kind_at classes rule.left) rule.lines rule.give e is

pub statements_have_lines : StatementsHaveLines
unfolding any.found
statements_have_lines classes rule e is nothing =
    some_line l32_lines (setting_of classes rule) (holes_of classes rule.right) nothing_given rule.lines rule.give e
    (ap (λ k. any.template_found l32_lines (setting_of classes rule) (holes_of classes rule.right) k rule.lines rule.give) (sym nothing) ∙ is)
