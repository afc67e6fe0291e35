-- A line that puts something into `%0` leaves nothing else to the next.
use Rattle.std.proofs.Common.{◌≡◌, ℕ, ◌&&◌, Bool, cond, Option, Some, None, Ok, Err, List, refl}
use Rattle.std.proofs.lemmas.Option.{none-some}
use Rattle.md_reader_pieces.specs.declared.piece.Piece.{Piece}
use Rattle.term_core.specs.Shape.{Shape, Constant}
use Rattle.vax_target_spelling.specs.sel_terms.specs.Effects as effects
use Rattle.vax_target_spelling.specs.sel_terms.specs.Effects.{ActShape, StoreHome, StoreAt, Branch, Push, Save}
use Rattle.vax_target_spelling.specs.sel_target.specs.declared.fault.TemplateKind.TheVariants.{NotInstr, WrongSize, Order}
use Rattle.vax_core.specs.declared.op.Op.{Op}
use Rattle.vax_core.specs.Ops.{shape}
use Rattle.vax_machine.specs.declared.function.Action.{Action}
use Rattle.vax_machine.specs.declared.function.Action.TheVariants as action
use Rattle.vax_machine.specs.Functions.{action_of}
use Rattle.vax_target_spelling.specs.vax_templates.specs.declared.form.Form.{Form}
use Rattle.vax_target_spelling.specs.vax_templates.specs.declared.setting.Hole.{Hole}
use Rattle.vax_target_spelling.specs.vax_templates.specs.declared.setting.Setting.{Setting}
use Rattle.vax_target_spelling.specs.vax_templates.specs.Settings.{hole_at}
use Rattle.vax_target_spelling.specs.vax_templates.specs.Instructions.{Instruction, Relation, Jump, Calls, Ret, Operates, instruction_of}
use Rattle.vax_target_spelling.specs.vax_templates.specs.Standing.{◌>>=◌}
use Rattle.vax_target_spelling.specs.vax_templates.specs.Targets.{Target, ToOwn, ToSlot, ToHome, ToMemory, ToZero, ToSaved}
use Rattle.vax_target_spelling.specs.vax_templates.specs.Taking.{Arguments, all_evaluated}
use Rattle.vax_target_spelling.specs.vax_templates.specs.Giving.{Given, Computes, Divides, Compares, Tests, given}
use Rattle.vax_target_spelling.specs.vax_templates.specs.Deeds.{Last, Plain, Compared, Tested, Returning, Ended, Deed, leaves, ends}
use Rattle.vax_target_spelling.specs.vax_templates.specs.Deeds.{ends_statement, is_relation, branches, is_movl, is_last_result, put, divided}
use Rattle.vax_target_spelling.specs.vax_templates.specs.Deeds.{computed, acted}
use Rattle.vax_target_spelling.specs.vax_templates.specs.Judging.{is_disordered, in_order, with_reads, checked, operated, instruction_did}
use Rattle.vax_target_spelling.specs.vax_templates.specs.Judging.{returned, did_behind, read, line_did}
use Rattle.vax_target_spelling.specs.vax_target_writing.proofs.Each.{EachOk, bind_each, always_ok, if_ok, of_ok}

abbrev pub IsPlain : Deed → Type 0
IsPlain d = (t : Shape) → d.own ≡ Some t → d.last ≡ Plain

none_own : (l : Last) → IsPlain (leaves l)
none_own l t e = absurd (none-some t e)

put_plain : (op : Op) (to : Option Target) (t : Shape) → EachOk IsPlain (put op to t)
put_plain op None t = tt
put_plain op (Some ToOwn) t = λ x e. refl
put_plain op (Some (ToSlot z)) t = none_own (Ended (StoreHome z 0 t))
put_plain op (Some (ToHome z i)) t = none_own (Ended (StoreHome z i t))
put_plain op (Some (ToMemory z a)) t = none_own (Ended (StoreAt z a t))
put_plain op (Some ToZero) t = if_ok IsPlain (is_movl op) (Ok (leaves (Returning t))) (Err NotInstr) (λ e. none_own (Returning t)) (λ e. tt)
put_plain op (Some (ToSaved i)) t = if_ok IsPlain (is_movl op && is_last_result t) (ends (Save i)) (Err NotInstr) (λ e. none_own (Ended (Save i))) (λ e. tt)

computed_plain : (op : Op) (to : Option Target) (g : Given) → EachOk IsPlain (computed op to g)
computed_plain op to (Computes t) = put_plain op to t
computed_plain op to (Divides t d) = bind_each IsPlain IsPlain (put op to t) (divided d) (λ x h. h) (put_plain op to t)
computed_plain op to (Compares a b) = none_own (Compared a b)
computed_plain op to (Tests t) = none_own (Tested t)

module _ (s : Setting) (holes : List Hole) (is_first : Bool) (zero' : Option Shape) where
  statement_plain : (deed : ActShape) → EachOk IsPlain (ends_statement s deed)
  statement_plain deed = if_ok IsPlain s.is_statement (ends deed) (Err NotInstr) (λ e. none_own (Ended deed)) (λ e. tt)

  acted_plain : (a : Action) (op : Op) (x : Arguments) → EachOk IsPlain (acted s a op x)
  acted_plain (action.Compute f) op x = computed_plain op x.target (given f x.first x.second)
  acted_plain action.Push op x = statement_plain (Push x.first)
  acted_plain (action.Branch t) op x = tt
  acted_plain action.Call op x = tt
  acted_plain action.Return op x = tt

  ordered_plain : (disordered : Bool) (d : Deed) → IsPlain d → EachOk IsPlain (in_order disordered d)
  ordered_plain disordered d h =
      if_ok IsPlain d.missized (Err WrongSize) (cond disordered (Err Order) (Ok d)) (λ e. tt) (λ e. if_ok IsPlain disordered (Err Order) (Ok d) (λ f. tt) (λ f. h))

  operated_plain : (op : Op) (fs : List Form) → EachOk IsPlain (operated s holes is_first zero' op fs)
  unfolding operated
  operated_plain op fs =
      bind_each (λ (x : Arguments). Unit {0}) IsPlain (all_evaluated s holes zero' (shape op).operands fs)
      (λ (x : Arguments). acted s (action_of op) op x >>= checked s holes is_first zero' fs x)
      (λ x u. bind_each IsPlain IsPlain (acted s (action_of op) op x) (checked s holes is_first zero' fs x)
      (λ d h. ordered_plain (is_disordered s holes is_first zero' fs d) (with_reads x d) h) (acted_plain (action_of op) op x))
      (always_ok (all_evaluated s holes zero' (shape op).operands fs) tt)

  branched_plain : (i : ℕ) (l : Last) → EachOk IsPlain (branches s i l)
  branched_plain i (Compared a b) = statement_plain (Branch i a b)
  branched_plain i (Tested t) =
      if_ok IsPlain s.is_signed (ends_statement s (Branch i t (Constant 0))) (Err NotInstr) (λ e. statement_plain (Branch i t (Constant 0))) (λ e. tt)
  branched_plain i Plain = tt
  branched_plain i (Returning t) = tt
  branched_plain i (Ended deed) = tt

  instruction_plain : (l : Last) (i : Instruction) → EachOk IsPlain (instruction_did s holes is_first zero' l i)
  instruction_plain l (Relation i) = if_ok IsPlain (is_relation (hole_at holes i)) (branches s i l) (Err NotInstr) (λ e. branched_plain i l) (λ e. tt)
  instruction_plain l Jump = statement_plain effects.Jump
  instruction_plain l Calls = statement_plain effects.Call
  instruction_plain l Ret = tt
  instruction_plain l (Operates op fs) = operated_plain op fs

  returned_plain : (t : Shape) (i : Instruction) → EachOk IsPlain (returned t i)
  returned_plain t Ret = none_own (Ended (effects.Return t))
  returned_plain t (Relation i) = tt
  returned_plain t Jump = tt
  returned_plain t Calls = tt
  returned_plain t (Operates op fs) = tt

  behind_plain : (l : Last) (i : Instruction) → EachOk IsPlain (did_behind s holes is_first zero' l i)
  behind_plain Plain i = instruction_plain Plain i
  behind_plain (Compared a b) i = instruction_plain (Compared a b) i
  behind_plain (Tested t) i = instruction_plain (Tested t) i
  behind_plain (Returning t) i = returned_plain t i
  behind_plain (Ended deed) i = tt

  read_plain : (l : Last) (o : Option Instruction) → EachOk IsPlain (read o >>= did_behind s holes is_first zero' l)
  read_plain l None = tt
  read_plain l (Some i) = behind_plain l i

  pub line_plain : (l : Last) (ps : List Piece) (d : Deed) → line_did s holes is_first zero' l ps ≡ Ok d → IsPlain d
  unfolding line_did
  line_plain l ps d e = of_ok IsPlain (read (instruction_of ps) >>= did_behind s holes is_first zero' l) d e (read_plain l (instruction_of ps))
