-- A template divides in its first line alone.
use Rattle.std.proofs.Common.{◌≡◌, ℕ, ◌≤◌, ◌++◌, Bool, true, false, cond, List, [], ◌∷◌, length, Option, Some, None, Result, Ok, Err, refl, sym, ap, subst, ◌∙◌, arith}
use Rattle.std.specs.Prelude.{not, ◌&&◌}
use Rattle.gg_base.proofs.Facts.{first_false, err_ok, ok_same}
use Rattle.vax_target_runs.specs.md_reader_pieces.specs.declared.piece.Line.{Line}
use Rattle.vax_target_runs.specs.md_reader_pieces.specs.declared.piece.Piece.{Piece}
use Rattle.vax_target_runs.specs.term_core.specs.Shape.{Shape, Constant}
use Rattle.vax_target_runs.specs.sel_terms.specs.Effects.{ActShape}
use Rattle.vax_target_runs.specs.sel_terms.specs.Effects as act
use Rattle.vax_target_runs.specs.sel_target.specs.declared.fault.TemplateKind.{TemplateKind}
use Rattle.vax_target_runs.specs.sel_target.specs.declared.fault.TemplateKind.TheVariants.{NotInstr, WrongSize, Order}
use Rattle.vax_core.specs.declared.op.Op.{Op}
use Rattle.vax_core.specs.Ops.{shape}
use Rattle.vax_target_runs.specs.vax_machine.specs.declared.function.Action.{Action}
use Rattle.vax_target_runs.specs.vax_machine.specs.declared.function.Action.TheVariants as action
use Rattle.vax_target_runs.specs.vax_machine.specs.Functions.{action_of}
use Rattle.vax_target_runs.specs.vax_templates.specs.declared.form.Form.{Form}
use Rattle.vax_target_runs.specs.vax_templates.specs.declared.setting.Hole.{Hole}
use Rattle.vax_target_runs.specs.vax_templates.specs.declared.setting.Setting.{Setting}
use Rattle.vax_target_runs.specs.vax_templates.specs.Settings.{hole_at}
use Rattle.vax_target_runs.specs.vax_templates.specs.Instructions.{Instruction, Relation, Jump, Calls, Ret, Operates, instruction_of}
use Rattle.vax_target_runs.specs.vax_templates.specs.Standing.{◌>>=◌}
use Rattle.vax_target_runs.specs.vax_templates.specs.Targets.{Target, ToOwn, ToSlot, ToHome, ToMemory, ToZero, ToSaved}
use Rattle.vax_target_runs.specs.vax_templates.specs.Taking.{Arguments, all_evaluated}
use Rattle.vax_target_runs.specs.vax_templates.specs.Giving.{Given, Computes, Divides, Compares, Tests, given}
use Rattle.vax_target_runs.specs.vax_templates.specs.Deeds.{Last, Plain, Compared, Tested, Returning, Ended, Deed, leaves, ends_statement}
use Rattle.vax_target_runs.specs.vax_templates.specs.Deeds.{is_relation, branches, is_movl, is_last_result, puts, put, divided, computed}
use Rattle.vax_target_runs.specs.vax_templates.specs.Deeds.{acted}
use Rattle.vax_target_runs.specs.vax_templates.specs.Judging.{has_some, is_disordered, in_order, with_reads, checked, operated}
use Rattle.vax_target_runs.specs.vax_templates.specs.Judging.{instruction_did, returned, did_behind, line_did}
use Rattle.vax_target_runs.specs.vax_templates.specs.Deeds as deeds
use Rattle.vax_target_runs.specs.vax_templates.specs.Judging as judging
use Rattle.vax_target_runs.specs.vax_templates.specs.Progress.{Progress, judged, lines_judged}
use Rattle.vax_target_runs.specs.vax_target_operands.proofs.Binds.{chained, cond_ok}
use Rattle.vax_target_runs.proofs.Law.{judged_is}

abbrev IsFew : List Shape → Type 0
IsFew ds = length ds ≤ 1

of_deed : (u d : Deed) → ◌≡◌ {A = Result Deed TemplateKind} (Ok u) (Ok d) → u.divisors ≡ d.divisors
of_deed u d e = ap (λ (y : Deed). y.divisors) (ok_same u d e)

statement_none : (b : Bool) (deed : ActShape) (d : Deed) → cond b (deeds.ends deed) (Err NotInstr) ≡ Ok d → [] ≡ d.divisors
statement_none true deed d e = of_deed (leaves (Ended deed)) d e
statement_none false deed d e = absurd (err_ok _ d e)

put_none : (op : Op) (to : Option Target) (t : Shape) (d : Deed) → put op to t ≡ Ok d → [] ≡ d.divisors
put_none op None t d e = absurd (err_ok _ d e)
put_none op (Some ToOwn) t d e = of_deed (puts t) d e
put_none op (Some (ToSlot z)) t d e = of_deed (leaves (Ended (act.StoreHome z 0 t))) d e
put_none op (Some (ToHome z i)) t d e = of_deed (leaves (Ended (act.StoreHome z i t))) d e
put_none op (Some (ToMemory z a)) t d e = of_deed (leaves (Ended (act.StoreAt z a t))) d e
put_none op (Some ToZero) t d e = ap (λ (y : Deed). y.divisors) (cond_ok (is_movl op) (leaves (Returning t)) d NotInstr e).1
put_none op (Some (ToSaved i)) t d e = statement_none (is_movl op && is_last_result t) (act.Save i) d e

none_few : (ds : List Shape) → [] ≡ ds → IsFew ds
none_few ds e = subst IsFew e (omega arith)

computed_few : (op : Op) (to : Option Target) (g : Given) (d : Deed) → computed op to g ≡ Ok d → IsFew d.divisors
computed_few op to (Computes t) d e = none_few d.divisors (put_none op to t d e)
computed_few op to (Divides t w) d e =
    let u = chained (put op to t) (divided w) d e in subst IsFew (of_deed (record u.first { divisors = w ∷ [] }) d u.then_so) (let r : length (w ∷ []) ≤ 1 = omega arith in r)
computed_few op to (Compares a b) d e = none_few d.divisors (of_deed (leaves (Compared a b)) d e)
computed_few op to (Tests t) d e = none_few d.divisors (of_deed (leaves (Tested t)) d e)

acted_few : (s : Setting) (a : Action) (op : Op) (x : Arguments) (d : Deed) → acted s a op x ≡ Ok d → IsFew d.divisors
acted_few s (action.Compute f) op x d e = computed_few op x.target (given f x.first x.second) d e
acted_few s action.Push op x d e = none_few d.divisors (statement_none s.is_statement (act.Push x.first) d e)
acted_few s _ op x d e = absurd (err_ok _ d e)

has_none : (ds : List Shape) → has_some ds ≡ false → [] ≡ ds
has_none [] e = refl
has_none (d ∷ ds) e = cc

in_order_is : (b : Bool) (u d : Deed) → in_order b u ≡ Ok d → (b ≡ false) × (u ≡ d)
in_order_is b u d e = by u.missized b e where
  by : (x b : Bool) → cond x (Err WrongSize) (cond b (Err Order) (Ok u)) ≡ Ok d → (b ≡ false) × (u ≡ d)
  by true b e = absurd (err_ok _ d e)
  by false true e = absurd (err_ok _ d e)
  by false false e = (refl, ok_same u d e)

-- at most one divisor, and none behind the first line
record Divided (is_first : Bool) (ds : List Shape) : Type 0 where
  few : IsFew ds
  none : is_first ≡ false → [] ≡ ds

undivided : (is_first : Bool) (ds : List Shape) → [] ≡ ds → Divided is_first ds
undivided is_first ds e = record { few = none_few ds e; none = λ f. e }

module _ (s : Setting) (roles : List Hole) (held : Option Shape) (is_first : Bool) where
  operated_divided : (op : Op) (fs : List Form) (d : Deed) → operated s roles is_first held op fs ≡ Ok d → Divided is_first d.divisors
  unfolding operated
  operated_divided op fs d e =
      let x = chained (all_evaluated s roles held (shape op).operands fs) (λ (x : Arguments). acted s (action_of op) op x >>= checked s roles is_first held fs x) d e in
      let u = chained (acted s (action_of op) op x.first) (checked s roles is_first held fs x.first) d x.then_so in
      let o = in_order_is (is_disordered s roles is_first held fs u.first) (with_reads x.first u.first) d u.then_so in
      let same : u.first.divisors ≡ d.divisors = ap (λ (y : Deed). y.divisors) o.1 in
      record {
        few = subst IsFew same (acted_few s (action_of op) op x.first u.first u.is);
        none = λ f. has_none u.first.divisors (subst (λ b. (not b && has_some u.first.divisors) ≡ false) f (first_false (not is_first && has_some u.first.divisors) _ o.0)) ∙ same;
      }

  branches_none : (i : ℕ) (before : Last) (d : Deed) → branches s i before ≡ Ok d → [] ≡ d.divisors
  branches_none i (Compared a b) d e = statement_none s.is_statement (act.Branch i a b) d e
  branches_none i (Tested t) d e = by s.is_signed e where
    by : (b : Bool) → cond b (ends_statement s (act.Branch i t (Constant 0))) (Err NotInstr) ≡ Ok d → [] ≡ d.divisors
    by true e = statement_none s.is_statement (act.Branch i t (Constant 0)) d e
    by false e = absurd (err_ok _ d e)
  branches_none i _ d e = absurd (err_ok _ d e)

  instruction_divided : (before : Last) (i : Instruction) (d : Deed) → instruction_did s roles is_first held before i ≡ Ok d → Divided is_first d.divisors
  instruction_divided before (Relation i) d e = undivided is_first d.divisors (by (is_relation (hole_at roles i)) e) where
    by : (b : Bool) → cond b (branches s i before) (Err NotInstr) ≡ Ok d → [] ≡ d.divisors
    by true e = branches_none i before d e
    by false e = absurd (err_ok _ d e)
  instruction_divided before Jump d e = undivided is_first d.divisors (statement_none s.is_statement act.Jump d e)
  instruction_divided before Calls d e = undivided is_first d.divisors (statement_none s.is_statement act.Call d e)
  instruction_divided before Ret d e = absurd (err_ok _ d e)
  instruction_divided before (Operates op fs) d e = operated_divided op fs d e

  returned_none : (t : Shape) (i : Instruction) (d : Deed) → returned t i ≡ Ok d → [] ≡ d.divisors
  returned_none t Ret d e = of_deed (leaves (Ended (act.Return t))) d e
  returned_none t _ d e = absurd (err_ok _ d e)

  behind_divided : (before : Last) (i : Instruction) (d : Deed) → did_behind s roles is_first held before i ≡ Ok d → Divided is_first d.divisors
  behind_divided Plain i d e = instruction_divided Plain i d e
  behind_divided (Compared a b) i d e = instruction_divided (Compared a b) i d e
  behind_divided (Tested t) i d e = instruction_divided (Tested t) i d e
  behind_divided (Returning t) i d e = undivided is_first d.divisors (returned_none t i d e)
  behind_divided (Ended deed) i d e = absurd (err_ok _ d e)

  line_divided : (before : Last) (ps : List Piece) (d : Deed) → line_did s roles is_first held before ps ≡ Ok d → Divided is_first d.divisors
  unfolding line_did
  line_divided before ps d e =
      let i = chained (judging.read (instruction_of ps)) (did_behind s roles is_first held before) d e in behind_divided before i.first d i.then_so

-- ---- the lines

nothing_more : (xs ys : List Shape) → [] ≡ ys → xs ++ ys ≡ xs
nothing_more xs ys e = ap (λ l. xs ++ l) (sym e) ∙ append_nil xs
  where
    append_nil : (xs : List Shape) → xs ++ [] ≡ xs
    append_nil [] = refl
    append_nil (x ∷ xs) = ap (λ l. x ∷ l) (append_nil xs)

pub later : (s : Setting) (roles : List Hole) (ls : List Line) (p q : Progress) → lines_judged s roles false p ls ≡ Ok q → q.divisors ≡ p.divisors
later s roles [] p q e = ap (λ (x : Progress). x.divisors) (sym (ok_same p q e))
later s roles (l ∷ ls) p q e =
    let d = chained (judged s roles false l p) (λ (x : Progress). lines_judged s roles false x ls) q e in
    let j = judged_is s roles false l p d.first d.is in
    later s roles ls d.first q d.then_so ∙ ap (λ (x : Progress). x.divisors) (sym j.is)
    ∙ nothing_more p.divisors j.deed.divisors ((line_divided s roles p.own false p.last l.pieces j.deed j.did).none refl)
