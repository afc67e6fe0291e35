-- A template divides at most once, and a statement has a line.
use Rattle.std.proofs.Common.{◌≡◌, ℕ, suc, ◌≤◌, ◌&&◌, Bool, true, false, cond, not, Option, Some, None, Result, Ok, Err, List, [], ◌∷◌, ◌++◌, length, refl, sym, ap, subst, ◌∙◌, arith}
use Rattle.std.proofs.lemmas.Bool.{true≢false}
use Rattle.gg_base.proofs.Facts.{first_false, err_ok}
use Rattle.md_reader_pieces.specs.declared.piece.Piece.{Piece}
use Rattle.md_reader_pieces.specs.declared.piece.Line.{Line}
use Rattle.vax_target_writing.specs.md_reader.specs.declared.types.Kind.{Kind}
use Rattle.vax_target_writing.specs.md_reader.specs.declared.types.Kind.TheVariants as kind
use Rattle.vax_target_writing.specs.md_reader.specs.declared.types.Give.{Give}
use Rattle.vax_target_writing.specs.md_reader.specs.declared.types.Give.TheVariants as give
use Rattle.vax_target_writing.specs.md_reader.specs.Patterns.{kind_at}
use Rattle.vax_target_writing.specs.term_core.specs.Shape.{Shape, Constant}
use Rattle.vax_target_writing.specs.sel_terms.specs.Effects as effects
use Rattle.vax_target_writing.specs.sel_terms.specs.Effects.{ActShape, EffectShape}
use Rattle.vax_target_writing.specs.sel_target.specs.declared.fault.TemplateKind.{TemplateKind}
use Rattle.vax_target_writing.specs.sel_target.specs.declared.fault.TemplateKind.TheVariants.{NotInstr, WrongSize, Order}
use Rattle.vax_core.specs.declared.op.Op.{Op}
use Rattle.vax_core.specs.Ops.{shape}
use Rattle.vax_target_writing.specs.vax_machine.specs.declared.function.Action.{Action}
use Rattle.vax_target_writing.specs.vax_machine.specs.declared.function.Action.TheVariants as action
use Rattle.vax_target_writing.specs.vax_machine.specs.Functions.{action_of}
use Rattle.vax_target_writing.specs.vax_templates.specs.declared.form.Form.{Form}
use Rattle.vax_target_writing.specs.vax_templates.specs.declared.setting.Hole.{Hole}
use Rattle.vax_target_writing.specs.vax_templates.specs.declared.setting.Setting.{Setting}
use Rattle.vax_target_writing.specs.vax_templates.specs.Settings.{hole_at, holes_of, setting_of}
use Rattle.vax_target_writing.specs.vax_templates.specs.Instructions.{Instruction, Relation, Jump, Calls, Ret, Operates, instruction_of, shape_of_pieces}
use Rattle.vax_target_writing.specs.vax_templates.specs.Standing.{◌>>=◌}
use Rattle.vax_target_writing.specs.vax_templates.specs.Targets.{Target, ToOwn, ToSlot, ToHome, ToMemory, ToZero, ToSaved}
use Rattle.vax_target_writing.specs.vax_templates.specs.Taking.{Arguments, all_evaluated}
use Rattle.vax_target_writing.specs.vax_templates.specs.Giving.{Given, Computes, Divides, Compares, Tests, given}
use Rattle.vax_target_writing.specs.vax_templates.specs.Deeds.{Last, Plain, Compared, Tested, Returning, Ended, Deed, leaves, ends}
use Rattle.vax_target_writing.specs.vax_templates.specs.Deeds.{ends_statement, is_relation, branches, is_movl, is_last_result, put, divided}
use Rattle.vax_target_writing.specs.vax_templates.specs.Deeds.{computed, acted}
use Rattle.vax_target_writing.specs.vax_templates.specs.Judging.{has_some, is_disordered, with_reads, checked, operated, instruction_did}
use Rattle.vax_target_writing.specs.vax_templates.specs.Judging.{returned, did_behind, read, line_did}
use Rattle.vax_target_writing.specs.vax_templates.specs.Found as found_
use Rattle.vax_target_writing.specs.vax_templates.specs.Progress.{Progress, start, at_line, kept, judged, lines_judged}
use Rattle.vax_target_writing.specs.vax_templates.specs.GiveLines.{given_by, given_line, shape_read, shape_given}
use Rattle.vax_target_writing.specs.vax_templates.specs.Dropped.{first_dropped, none_dropped}
use Rattle.vax_target_writing.specs.vax_templates.specs.Found.{with_divisors, ended, template_found, found}
use Rattle.vax_target_order.specs.Laws.{RulesDivideOnce, StatementsHaveLines}
use Rattle.vax_target_writing.proofs.Each.{EachOk, bind_each, always_ok, if_ok, of_ok}

-- ---- one line

-- a deed that divides at most once
abbrev Once : Deed → Type 0
Once d = length d.divisors ≤ 1

-- and not at all behind the first line
record InOrder (is_first : Bool) (d : Deed) : Type 0 where
  once : length d.divisors ≤ 1
  never : is_first ≡ false → d.divisors ≡ []

none_left : (is_first : Bool) (l : Last) → InOrder is_first (leaves l)
none_left is_first l = record { once = omega arith; never = λ e. refl }

-- what is put divides by nothing
put_none : (op : Op) (to : Option Target) (t : Shape) → EachOk (λ (d : Deed). d.divisors ≡ []) (put op to t)
put_none op None t = tt
put_none op (Some ToOwn) t = refl
put_none op (Some (ToSlot z)) t = refl
put_none op (Some (ToHome z i)) t = refl
put_none op (Some (ToMemory z a)) t = refl
put_none op (Some ToZero) t = if_ok (λ (d : Deed). d.divisors ≡ []) (is_movl op) (Ok (leaves (Returning t))) (Err NotInstr) (λ e. refl) (λ e. tt)
put_none op (Some (ToSaved i)) t = if_ok (λ (d : Deed). d.divisors ≡ []) (is_movl op && is_last_result t) (ends (effects.Save i)) (Err NotInstr) (λ e. refl) (λ e. tt)

none_once : (d : Deed) → d.divisors ≡ [] → Once d
none_once d e = subst (λ (ds : List Shape). length ds ≤ 1) (sym e) (omega arith)

put_once : (r : Result Deed TemplateKind) → EachOk (λ (d : Deed). d.divisors ≡ []) r → EachOk Once r
put_once (Ok d) h = none_once d h
put_once (Err e) h = tt

computed_once : (op : Op) (to : Option Target) (g : Given) → EachOk Once (computed op to g)
computed_once op to (Computes t) = put_once (put op to t) (put_none op to t)
computed_once op to (Divides t d) = bind_each (λ (x : Deed). Unit {0}) Once (put op to t) (divided d) (λ x u. omega arith) (always_ok (put op to t) tt)
computed_once op to (Compares a b) = omega arith
computed_once op to (Tests t) = omega arith

module _ (s : Setting) (holes : List Hole) (is_first : Bool) (zero' : Option Shape) where
  abbrev Ordered : Deed → Type 0
  Ordered d = InOrder is_first d

  statement_once : (deed : ActShape) → EachOk Once (ends_statement s deed)
  statement_once deed = if_ok Once s.is_statement (ends deed) (Err NotInstr) (λ e. omega arith) (λ e. tt)

  statement_ordered : (deed : ActShape) → EachOk Ordered (ends_statement s deed)
  statement_ordered deed = if_ok Ordered s.is_statement (ends deed) (Err NotInstr) (λ e. none_left is_first (Ended deed)) (λ e. tt)

  acted_once : (a : Action) (op : Op) (x : Arguments) → EachOk Once (acted s a op x)
  acted_once (action.Compute f) op x = computed_once op x.target (given f x.first x.second)
  acted_once action.Push op x = statement_once (effects.Push x.first)
  acted_once (action.Branch t) op x = tt
  acted_once action.Call op x = tt
  acted_once action.Return op x = tt

  none_some : (ds : List Shape) → has_some ds ≡ false → ds ≡ []
  none_some [] e = refl
  none_some (d ∷ ds) e = absurd (true≢false e)

  behind_first : (first : Bool) (ds : List Shape) → (not first && has_some ds) ≡ false → first ≡ false → ds ≡ []
  behind_first true ds e f = absurd (true≢false f)
  behind_first false ds e f = none_some ds e

  ordered_so : (fs : List Form) (x : Arguments) (d : Deed) → Once d → EachOk Ordered (checked s holes is_first zero' fs x d)
  ordered_so fs x d h =
      if_ok Ordered (with_reads x d).missized (Err WrongSize) (cond (is_disordered s holes is_first zero' fs d) (Err Order) (Ok (with_reads x d))) (λ e. tt)
      (λ e. if_ok Ordered (is_disordered s holes is_first zero' fs d) (Err Order) (Ok (with_reads x d)) (λ f. tt)
      (λ f. record { once = h; never = behind_first is_first d.divisors (first_false (not is_first && has_some d.divisors) _ f) }))

  operated_ordered : (op : Op) (fs : List Form) → EachOk Ordered (operated s holes is_first zero' op fs)
  unfolding operated
  operated_ordered op fs =
      bind_each (λ (x : Arguments). Unit {0}) Ordered (all_evaluated s holes zero' (shape op).operands fs)
      (λ (x : Arguments). acted s (action_of op) op x >>= checked s holes is_first zero' fs x)
      (λ x u. bind_each Once Ordered (acted s (action_of op) op x) (checked s holes is_first zero' fs x) (λ d h. ordered_so fs x d h) (acted_once (action_of op) op x))
      (always_ok (all_evaluated s holes zero' (shape op).operands fs) tt)

  branched_ordered : (i : ℕ) (l : Last) → EachOk Ordered (branches s i l)
  branched_ordered i (Compared a b) = statement_ordered (effects.Branch i a b)
  branched_ordered i (Tested t) =
      if_ok Ordered s.is_signed (ends_statement s (effects.Branch i t (Constant 0))) (Err NotInstr) (λ e. statement_ordered (effects.Branch i t (Constant 0))) (λ e. tt)
  branched_ordered i Plain = tt
  branched_ordered i (Returning t) = tt
  branched_ordered i (Ended deed) = tt

  instruction_ordered : (l : Last) (i : Instruction) → EachOk Ordered (instruction_did s holes is_first zero' l i)
  instruction_ordered l (Relation i) = if_ok Ordered (is_relation (hole_at holes i)) (branches s i l) (Err NotInstr) (λ e. branched_ordered i l) (λ e. tt)
  instruction_ordered l Jump = statement_ordered effects.Jump
  instruction_ordered l Calls = statement_ordered effects.Call
  instruction_ordered l Ret = tt
  instruction_ordered l (Operates op fs) = operated_ordered op fs

  returned_ordered : (t : Shape) (i : Instruction) → EachOk Ordered (returned t i)
  returned_ordered t Ret = none_left is_first (Ended (effects.Return t))
  returned_ordered t (Relation i) = tt
  returned_ordered t Jump = tt
  returned_ordered t Calls = tt
  returned_ordered t (Operates op fs) = tt

  behind_ordered : (l : Last) (i : Instruction) → EachOk Ordered (did_behind s holes is_first zero' l i)
  behind_ordered Plain i = instruction_ordered Plain i
  behind_ordered (Compared a b) i = instruction_ordered (Compared a b) i
  behind_ordered (Tested t) i = instruction_ordered (Tested t) i
  behind_ordered (Returning t) i = returned_ordered t i
  behind_ordered (Ended deed) i = tt

  read_ordered : (l : Last) (o : Option Instruction) → EachOk Ordered (read o >>= did_behind s holes is_first zero' l)
  read_ordered l None = tt
  read_ordered l (Some i) = behind_ordered l i

  line_ordered : (l : Last) (ps : List Piece) → EachOk Ordered (line_did s holes is_first zero' l ps)
  unfolding line_did
  line_ordered l ps = read_ordered l (instruction_of ps)

-- ---- all lines

-- so far at most one division, and none before the first line
record Fewest (is_first : Bool) (p : Progress) : Type 0 where
  once : length p.divisors ≤ 1
  never : is_first ≡ true → p.divisors ≡ []

length_none : (a b : List Shape) → b ≡ [] → length (a ++ b) ≡ length a
length_none [] b e = ap length e
length_none (t ∷ a) b e = ap suc (length_none a b e)

more_once : (is_first : Bool) (p : Progress) (d : Deed) → Fewest is_first p → InOrder is_first d → length (p.divisors ++ d.divisors) ≤ 1
more_once true p d h o = subst (λ (ds : List Shape). length (ds ++ d.divisors) ≤ 1) (sym (h.never refl)) o.once
more_once false p d h o = let e = length_none p.divisors d.divisors (o.never refl) in omega (arith, e, h.once)

module _ (s : Setting) (holes : List Hole) where
  kept_once : (is_first : Bool) (line : ℕ) (p : Progress) (r : Result Deed TemplateKind) → Fewest is_first p → EachOk (InOrder is_first) r →
      EachOk (Fewest false) (at_line line r >>= kept line p)
  kept_once is_first line p (Ok d) h o = record { once = more_once is_first p d h o; never = λ e. absurd (true≢false (sym e)) }
  kept_once is_first line p (Err e) h o = tt

  lines_once : (ls : List Line) (is_first : Bool) (p : Progress) → Fewest is_first p → EachOk (λ (q : Progress). length q.divisors ≤ 1) (lines_judged s holes is_first p ls)
  lines_once [] is_first p h = h.once
  lines_once (l ∷ ls) is_first p h =
      bind_each (Fewest false) (λ (q : Progress). length q.divisors ≤ 1) (judged s holes is_first l p) (λ (q : Progress). lines_judged s holes false q ls)
      (λ q k. lines_once ls false q k)
      (kept_once is_first l.line p (line_did s holes is_first p.own p.last l.pieces) h (line_ordered s holes is_first p.own p.last l.pieces))

  abbrev DividesOnce : EffectShape → Type 0
  DividesOnce e = length e.divisors ≤ 1

  dropped_once : (e : EffectShape) (o : Option ℕ) → DividesOnce e → EachOk DividesOnce (none_dropped e o)
  dropped_once e None h = h
  dropped_once e (Some line) h = tt

  ended_once : (k : Option Kind) (line : ℕ) (g : Give) (p : Progress) → length p.divisors ≤ 1 → EachOk DividesOnce (ended s holes k line g p)
  unfolding ended
  ended_once k line g p h =
      bind_each (λ (x : ActShape). Unit {0}) DividesOnce (at_line line (given_by s holes k p.own p.last g)) (λ (deed : ActShape). found_.checked p (with_divisors p deed))
      (λ deed u. dropped_once (with_divisors p deed) (first_dropped (with_divisors p deed) p.reads) h) (always_ok (at_line line (given_by s holes k p.own p.last g)) tt)

  template_once : (k : Option Kind) (ls : List Line) (g : Give) (e : EffectShape) → template_found s holes k ls g ≡ Ok e → DividesOnce e
  unfolding template_found
  template_once k ls g e is =
      of_ok DividesOnce (lines_judged s holes true start ls >>= ended s holes k (given_line ls g) g) e is
      (bind_each (λ (q : Progress). length q.divisors ≤ 1) DividesOnce (lines_judged s holes true start ls) (ended s holes k (given_line ls g) g)
      (λ q h. ended_once k (given_line ls g) g q h) (lines_once ls true start (record { once = omega arith; never = λ e. refl })))

  -- ---- a statement has a line

  pieces_nothing : (o : Option Form) → EachOk (λ (x : ActShape). ⊥) (shape_read o >>= shape_given s holes (Some kind.Nothing))
  unfolding shape_given
  pieces_nothing None = tt
  pieces_nothing (Some f) = tt

  nothing_given : (g : Give) → EachOk (λ (x : ActShape). ⊥) (given_by s holes (Some kind.Nothing) None Plain g)
  nothing_given give.Fresh = tt
  nothing_given give.Reuse = tt
  nothing_given give.Scratch = tt
  nothing_given give.Nothing = tt
  nothing_given (give.Shape l) = pieces_nothing (shape_of_pieces l.pieces)

  no_lines : (g : Give) (e : EffectShape) → template_found s holes (Some kind.Nothing) [] g ≡ Ok e → ⊥
  unfolding template_found ended
  no_lines g e is = by (given_by s holes (Some kind.Nothing) None Plain g) (nothing_given g) is where
    by : (r : Result ActShape TemplateKind) → EachOk (λ (x : ActShape). ⊥) r →
        (at_line (given_line [] g) r >>= λ (deed : ActShape). found_.checked start (with_divisors start deed)) ≡ Ok e → ⊥
    by (Ok x) h is = h
    by (Err k) h is = err_ok _ e is

  some_line : (ls : List Line) (g : Give) (e : EffectShape) → template_found s holes (Some kind.Nothing) ls g ≡ Ok e → 1 ≤ length ls
  some_line [] g e is = absurd (no_lines g e is)
  some_line (l ∷ ls) g e is = omega arith

pub rules_divide_once : RulesDivideOnce
unfolding found
rules_divide_once classes rule e is = template_once (setting_of classes rule) (holes_of classes rule.right) (kind_at classes rule.left) rule.lines rule.give e is

pub statements_have_lines : StatementsHaveLines
unfolding found
statements_have_lines classes rule e is nothing =
    some_line (setting_of classes rule) (holes_of classes rule.right) rule.lines rule.give e
    (ap (λ k. template_found (setting_of classes rule) (holes_of classes rule.right) k rule.lines rule.give) (sym nothing) ∙ is)
