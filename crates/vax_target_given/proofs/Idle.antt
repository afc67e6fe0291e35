-- The lines of a template that is no statement's and has no `%0` put nothing anywhere.
use Rattle.std.proofs.Common.{◌≡◌, ℕ, Bool, true, false, cond, Option, Some, None, Result, Ok, Err, List, [], ◌∷◌, refl, sym, ap, subst, ◌∙◌}
use Rattle.gg_base.specs.declared.size.Size.{Size}
use Rattle.gg_base.specs.declared.size.Size.TheVariants.{Long}
use Rattle.md_reader_pieces.specs.declared.piece.Piece.{Piece}
use Rattle.md_reader_pieces.specs.declared.piece.Line.{Line}
use Rattle.term_core.specs.Shape.{Shape, Constant}
use Rattle.vax_target_rules.specs.sel_terms.specs.Effects as effects
use Rattle.vax_target_rules.specs.sel_terms.specs.Effects.{ActShape}
use Rattle.vax_target_rules.specs.sel_terms.specs.Same.{same_size}
use Rattle.vax_target_rules.specs.sel_target.specs.declared.fault.TemplateKind.{TemplateKind}
use Rattle.vax_target_rules.specs.sel_target.specs.declared.fault.TemplateKind.TheVariants.{NotInstr, WrongSize, Order}
use Rattle.vax_core.specs.declared.op.Op.{Op}
use Rattle.vax_core.specs.declared.op.Access.{Access}
use Rattle.vax_core.specs.declared.op.Access.TheVariants as accesses
use Rattle.vax_core.specs.declared.op.OperandKind.{OperandKind}
use Rattle.vax_core.specs.Ops.{shape}
use Rattle.vax_target_rules.specs.vax_machine.specs.declared.function.Action.{Action}
use Rattle.vax_target_rules.specs.vax_machine.specs.declared.function.Action.TheVariants as action
use Rattle.vax_target_rules.specs.vax_machine.specs.Functions.{action_of}
use Rattle.vax_target_rules.specs.vax_templates.specs.declared.form.Form.{Form}
use Rattle.vax_target_rules.specs.vax_templates.specs.declared.setting.Hole.{Hole}
use Rattle.vax_target_rules.specs.vax_templates.specs.declared.setting.Own.{Own}
use Rattle.vax_target_rules.specs.vax_templates.specs.declared.setting.Own.TheVariants as own
use Rattle.vax_target_rules.specs.vax_templates.specs.declared.setting.Opening.{Opening}
use Rattle.vax_target_rules.specs.vax_templates.specs.declared.setting.Opening.TheVariants as opening
use Rattle.vax_target_rules.specs.vax_templates.specs.declared.setting.Setting.{Setting}
use Rattle.vax_target_rules.specs.vax_templates.specs.Settings.{hole_at}
use Rattle.vax_target_rules.specs.vax_templates.specs.Instructions.{Instruction, Relation, Jump, Calls, Ret, Operates, instruction_of}
use Rattle.vax_target_rules.specs.vax_templates.specs.Standing.{Where, Immediate, Register, OwnRegister, RegisterZero, Value, Place, Local}
use Rattle.vax_target_rules.specs.vax_templates.specs.Standing.{SavedPlace, Saved, At, form_where, ◌>>=◌}
use Rattle.vax_target_rules.specs.vax_templates.specs.HoleTerms.{own_value}
use Rattle.vax_target_rules.specs.vax_templates.specs.Targets.{Target, own_target, statement_target, targeted}
use Rattle.vax_target_rules.specs.vax_templates.specs.Taking.{Taken, taken_missized, cut_term, sized, last_result, fetched, addressed}
use Rattle.vax_target_rules.specs.vax_templates.specs.Taking.{written, both, taken, evaluated, Arguments, last_of, in_front, all_evaluated}
use Rattle.vax_target_rules.specs.vax_templates.specs.Giving.{Given, Computes, Divides, Compares, Tests, given}
use Rattle.vax_target_rules.specs.vax_templates.specs.Deeds.{Last, Plain, Compared, Tested, Returning, Ended, Deed, ends, ends_statement}
use Rattle.vax_target_rules.specs.vax_templates.specs.Deeds.{is_relation, branches, computed, acted}
use Rattle.vax_target_rules.specs.vax_templates.specs.Judging.{is_disordered, in_order, with_reads, checked, operated, instruction_did}
use Rattle.vax_target_rules.specs.vax_templates.specs.Judging.{did_behind, read, line_did}
use Rattle.vax_target_rules.specs.vax_templates.specs.Progress.{Progress, start, kept_or_put, at_line, kept, judged, lines_judged}
use Rattle.vax_target_shapes.specs.vax_target_writing.proofs.Each.{EachOk, bind_each, always_ok, if_ok, of_ok}

-- nothing is put, and the codes at most are left
abbrev pub IsIdle : Last → Type 0
IsIdle Plain = Unit {0}
IsIdle (Compared a b) = Unit {0}
IsIdle (Tested t) = Unit {0}
IsIdle (Returning t) = ⊥
IsIdle (Ended deed) = ⊥

pub record Idles (o : Option Shape) (l : Last) : Type 0 where
  pub own : o ≡ None
  pub idle : IsIdle l

abbrev IdleDeed : Deed → Type 0
IdleDeed d = Idles d.own d.last

abbrev Unaimed : Taken → Type 0
Unaimed t = t.target ≡ None

module _ (s : Setting) (roles : List Hole) (zero' : Option Shape) (no_own : s.own ≡ own.Nothing) (no_statement : s.is_statement ≡ false) where
  sized_unaimed : (z size : Size) (t : Taken) → Unaimed t → Unaimed (sized z size t)
  sized_unaimed z size t h = by (same_size z size) where
    by : (b : Bool) → Unaimed (cond b t taken_missized)
    by true = h
    by false = refl

  cut_unaimed : (size : Size) (r : Result Shape TemplateKind) → EachOk Unaimed (r >>= cut_term size)
  cut_unaimed size (Ok t) = refl
  cut_unaimed size (Err e) = tt

  result_unaimed : (x : Opening) (z : Option Shape) (size : Size) → EachOk Unaimed (last_result x z size)
  result_unaimed opening.Save None size = refl
  result_unaimed opening.Save (Some t) size = tt
  result_unaimed opening.Return z size = tt
  result_unaimed opening.Other z size = tt

  fetched_unaimed : (w : Where) (size : Size) → EachOk Unaimed (fetched s zero' w size)
  unfolding fetched
  fetched_unaimed (Immediate t) size = refl
  fetched_unaimed (Register t) size = refl
  fetched_unaimed OwnRegister size = cut_unaimed size (own_value s.own zero')
  fetched_unaimed RegisterZero size = result_unaimed s.opening zero' size
  fetched_unaimed (Value z i) size = sized_unaimed z size _ refl
  fetched_unaimed (Place z i) size = sized_unaimed z size _ refl
  fetched_unaimed (Local i) size = sized_unaimed Long size _ refl
  fetched_unaimed (SavedPlace z i) size = sized_unaimed z size _ refl
  fetched_unaimed (Saved i) size = tt
  fetched_unaimed (At a p) size = refl

  addressed_unaimed : (w : Where) (size : Size) → EachOk Unaimed (addressed w size)
  addressed_unaimed (At a p) size = refl
  addressed_unaimed (SavedPlace z i) size = sized_unaimed z size _ refl
  addressed_unaimed w size = tt

  other_never : (w : Where) (size : Size) → EachOk (λ (x : Target × Bool). ⊥) (cond s.is_statement (statement_target s w size) (Err NotInstr))
  other_never w size = if_ok (λ (x : Target × Bool). ⊥) s.is_statement (statement_target s w size) (Err NotInstr) (λ e. absurd (cc)) (λ e. tt)

  own_never : (x : Own) (size : Size) → x ≡ own.Nothing → EachOk (λ (x : Target × Bool). ⊥) (own_target x size)
  own_never own.Nothing size e = tt
  own_never own.Register size e = absurd (cc)
  own_never (own.Slot z) size e = absurd (cc)

  targeted_never : (w : Where) (size : Size) → EachOk (λ (x : Target × Bool). ⊥) (targeted s w size)
  unfolding targeted
  targeted_never OwnRegister size = own_never s.own size no_own
  targeted_never (Immediate t) size = other_never (Immediate t) size
  targeted_never (Register t) size = other_never (Register t) size
  targeted_never RegisterZero size = other_never RegisterZero size
  targeted_never (Value z i) size = other_never (Value z i) size
  targeted_never (Place z i) size = other_never (Place z i) size
  targeted_never (Local i) size = other_never (Local i) size
  targeted_never (SavedPlace z i) size = other_never (SavedPlace z i) size
  targeted_never (Saved i) size = other_never (Saved i) size
  targeted_never (At a p) size = other_never (At a p) size

  taken_unaimed : (a : Access) (w : Where) (size : Size) → EachOk Unaimed (taken s zero' a w size)
  unfolding taken
  taken_unaimed accesses.Read w size = fetched_unaimed w size
  taken_unaimed accesses.Modify w size =
      bind_each (λ (t : Taken). Unit {0}) Unaimed (fetched s zero' w size) (λ (t : Taken). targeted s w size >>= both t)
      (λ t u. bind_each (λ (x : Target × Bool). ⊥) Unaimed (targeted s w size) (both t) (λ x n. absurd n) (targeted_never w size)) (always_ok (fetched s zero' w size) tt)
  taken_unaimed accesses.Write w size = bind_each (λ (x : Target × Bool). ⊥) Unaimed (targeted s w size) written (λ x n. absurd n) (targeted_never w size)
  taken_unaimed accesses.Address w size = addressed_unaimed w size
  taken_unaimed accesses.Count w size = tt

  evaluated_unaimed : (k : OperandKind) (f : Form) → EachOk Unaimed (evaluated s roles zero' k f)
  unfolding evaluated
  evaluated_unaimed k f =
      bind_each (λ (w : Where). Unit {0}) Unaimed (form_where s roles zero' f k.size) (λ (w : Where). taken s zero' k.access w k.size)
      (λ w u. taken_unaimed k.access w k.size) (always_ok (form_where s roles zero' f k.size) tt)

  last_unaimed : (a b : Option Target) → a ≡ None → b ≡ None → last_of a b ≡ None
  last_unaimed a None h k = h
  last_unaimed a (Some t) h k = absurd (cc)

  all_unaimed : (ks : List OperandKind) (fs : List Form) → EachOk (λ (x : Arguments). x.target ≡ None) (all_evaluated s roles zero' ks fs)
  all_unaimed [] fs = refl
  all_unaimed (k ∷ ks) [] = tt
  all_unaimed (k ∷ ks) (f ∷ fs) =
      bind_each Unaimed (λ (x : Arguments). x.target ≡ None) (evaluated s roles zero' k f) (λ (t : Taken). all_evaluated s roles zero' ks fs >>= in_front t)
      (λ t h. bind_each (λ (x : Arguments). x.target ≡ None) (λ (x : Arguments). x.target ≡ None) (all_evaluated s roles zero' ks fs) (in_front t)
      (λ x j. last_unaimed t.target x.target h j) (all_unaimed ks fs)) (evaluated_unaimed k f)

  computed_idle : (op : Op) (g : Given) → EachOk IdleDeed (computed op None g)
  computed_idle op (Computes t) = tt
  computed_idle op (Divides t d) = tt
  computed_idle op (Compares a b) = record { own = refl; idle = tt }
  computed_idle op (Tests t) = record { own = refl; idle = tt }

  statement_idle : (deed : ActShape) → EachOk IdleDeed (ends_statement s deed)
  statement_idle deed = if_ok IdleDeed s.is_statement (ends deed) (Err NotInstr) (λ e. absurd (cc)) (λ e. tt)

  acted_idle : (a : Action) (op : Op) (x : Arguments) → x.target ≡ None → EachOk IdleDeed (acted s a op x)
  acted_idle (action.Compute f) op x h =
      subst (λ (t : Option Target). EachOk IdleDeed (computed op t (given f x.first x.second))) (sym h) (computed_idle op (given f x.first x.second))
  acted_idle action.Push op x h = statement_idle (effects.Push x.first)
  acted_idle (action.Branch t) op x h = tt
  acted_idle action.Call op x h = tt
  acted_idle action.Return op x h = tt

  ordered_idle : (disordered : Bool) (d : Deed) → IdleDeed d → EachOk IdleDeed (in_order disordered d)
  ordered_idle disordered d h =
      if_ok IdleDeed d.missized (Err WrongSize) (cond disordered (Err Order) (Ok d)) (λ e. tt) (λ e. if_ok IdleDeed disordered (Err Order) (Ok d) (λ f. tt) (λ f. h))

  operated_idle : (is_first : Bool) (op : Op) (fs : List Form) → EachOk IdleDeed (operated s roles is_first zero' op fs)
  unfolding operated
  operated_idle is_first op fs =
      bind_each (λ (x : Arguments). x.target ≡ None) IdleDeed (all_evaluated s roles zero' (shape op).operands fs)
      (λ (x : Arguments). acted s (action_of op) op x >>= checked s roles is_first zero' fs x)
      (λ x h. bind_each IdleDeed IdleDeed (acted s (action_of op) op x) (checked s roles is_first zero' fs x)
      (λ d k. ordered_idle (is_disordered s roles is_first zero' fs d) (with_reads x d) (record { own = k.own; idle = k.idle })) (acted_idle (action_of op) op x h))
      (all_unaimed (shape op).operands fs)

  branched_idle : (i : ℕ) (l : Last) → EachOk IdleDeed (branches s i l)
  branched_idle i (Compared a b) = statement_idle (effects.Branch i a b)
  branched_idle i (Tested t) =
      if_ok IdleDeed s.is_signed (ends_statement s (effects.Branch i t (Constant 0))) (Err NotInstr) (λ e. statement_idle (effects.Branch i t (Constant 0))) (λ e. tt)
  branched_idle i Plain = tt
  branched_idle i (Returning t) = tt
  branched_idle i (Ended deed) = tt

  instruction_idle : (is_first : Bool) (l : Last) (i : Instruction) → EachOk IdleDeed (instruction_did s roles is_first zero' l i)
  instruction_idle is_first l (Relation i) = if_ok IdleDeed (is_relation (hole_at roles i)) (branches s i l) (Err NotInstr) (λ e. branched_idle i l) (λ e. tt)
  instruction_idle is_first l Jump = statement_idle effects.Jump
  instruction_idle is_first l Calls = statement_idle effects.Call
  instruction_idle is_first l Ret = tt
  instruction_idle is_first l (Operates op fs) = operated_idle is_first op fs

  behind_idle : (is_first : Bool) (l : Last) (i : Instruction) → IsIdle l → EachOk IdleDeed (did_behind s roles is_first zero' l i)
  behind_idle is_first Plain i h = instruction_idle is_first Plain i
  behind_idle is_first (Compared a b) i h = instruction_idle is_first (Compared a b) i
  behind_idle is_first (Tested t) i h = instruction_idle is_first (Tested t) i
  behind_idle is_first (Returning t) i h = absurd h
  behind_idle is_first (Ended deed) i h = absurd h

  read_idle : (is_first : Bool) (l : Last) (o : Option Instruction) → IsIdle l → EachOk IdleDeed (read o >>= did_behind s roles is_first zero' l)
  read_idle is_first l None h = tt
  read_idle is_first l (Some i) h = behind_idle is_first l i h

  line_idle : (is_first : Bool) (l : Last) (ps : List Piece) → IsIdle l → EachOk IdleDeed (line_did s roles is_first zero' l ps)
  unfolding line_did
  line_idle is_first l ps h = read_idle is_first l (instruction_of ps) h

module _ (s : Setting) (roles : List Hole) (no_own : s.own ≡ own.Nothing) (no_statement : s.is_statement ≡ false) where
  abbrev IdleProgress : Progress → Type 0
  IdleProgress p = Idles p.own p.last

  kept_idle : (line : ℕ) (p : Progress) (r : Result Deed TemplateKind) → IdleProgress p → EachOk IdleDeed r → EachOk IdleProgress (at_line line r >>= kept line p)
  kept_idle line p (Ok d) h k = record { own = ap (kept_or_put p.own) k.own ∙ h.own; idle = k.idle }
  kept_idle line p (Err e) h k = tt

  lines_idle : (ls : List Line) (is_first : Bool) (p : Progress) → IdleProgress p → EachOk IdleProgress (lines_judged s roles is_first p ls)
  lines_idle [] is_first p h = h
  lines_idle (l ∷ ls) is_first p h =
      bind_each IdleProgress IdleProgress (judged s roles is_first l p) (λ (q : Progress). lines_judged s roles false q ls) (λ q k. lines_idle ls false q k)
      (kept_idle l.line p (line_did s roles is_first p.own p.last l.pieces) h (line_idle s roles p.own no_own no_statement is_first p.last l.pieces h.idle))

  pub lines_are_idle : (ls : List Line) (p : Progress) → lines_judged s roles true start ls ≡ Ok p → Idles p.own p.last
  lines_are_idle ls p e = of_ok IdleProgress (lines_judged s roles true start ls) p e (lines_idle ls true start (record { own = refl; idle = tt }))
