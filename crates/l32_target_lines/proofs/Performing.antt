-- A line does what it is judged to do.
use Rattle.std.proofs.Common.{◌≡◌, ℕ, inl, inr, Bool, true, false, cond, not, ◌&&◌, ◌||◌, Option, Some, None, Ok, Err, List, [], ◌∷◌, map, take, refl, sym, ap, subst, ◌∙◌, option_map}
use Rattle.std.specs.Prelude.{is_some}
use Rattle.std.specs.List.{AllByRecursion, list_any, list_all}
use Rattle.std.proofs.lemmas.Option.{none-some, same_Some}
use Rattle.gg_base.specs.declared.relation.Rel.{Rel}
use Rattle.gg_base.specs.declared.size.Size.{Size}
use Rattle.gg_base.specs.declared.size.Size.TheVariants.{Long}
use Rattle.gg_base.specs.Relations.{holds}
use Rattle.gg_base.proofs.Facts.{err_ok, ok_same, first_false, second_false}
use Rattle.l32_target_operands.specs.vax_target_meaning.specs.tree_core.specs.declared.tree.Att.TheVariants as att
use Rattle.l32_target_operands.specs.vax_target_meaning.specs.tree_core.specs.declared.program.TreeProgram.{TreeProgram}
use Rattle.l32_target_operands.specs.vax_target_meaning.specs.tree_core.specs.Names.{label_name}
use Rattle.l32_target_operands.specs.judging_laws.specs.md_reader_pieces.specs.declared.piece.Piece.{Piece}
use Rattle.l32_target_operands.specs.judging_laws.specs.term_core.specs.Shape.{Shape, LastResult}
use Rattle.l32_target_operands.specs.judging_laws.specs.sel_terms.specs.Effects as act
use Rattle.l32_target_operands.specs.judging_laws.specs.sel_terms.specs.Effects.{ActShape}
use Rattle.l32_target_operands.specs.judging_laws.specs.sel_target.specs.declared.attr.Attr.{Attr}
use Rattle.l32_target_operands.specs.judging_laws.specs.sel_target.specs.declared.attr.Attr.TheVariants as attr
use Rattle.l32_target_operands.specs.judging_laws.specs.sel_target.specs.declared.fault.TemplateKind.TheVariants.{NotInstr, WrongSize, Order}
use Rattle.l32_target_operands.specs.judging_laws.specs.sel_target.specs.Courses.{Course, Returns, ends, comes}
use Rattle.l32_target_operands.specs.judging_laws.specs.sel_target.specs.StatementLaws.{att_of}
use Rattle.l32_target_operands.specs.judging_laws.specs.vax_templates.specs.Settings.{hole_at}
use Rattle.l32_target_operands.specs.judging_laws.specs.vax_templates.specs.Standing.{◌>>=◌}
use Rattle.l32_target_operands.specs.judging_laws.specs.vax_templates.specs.Targets.{Target, ToOwn, ToSlot, ToHome, ToMemory, ToZero, ToSaved}
use Rattle.l32_target_operands.specs.judging_laws.specs.vax_templates.specs.Taking.{Arguments}
use Rattle.l32_target_operands.specs.judging_laws.specs.vax_templates.specs.Giving.{Given, Computes, Divides, Compares, Tests}
use Rattle.l32_target_operands.specs.judging_laws.specs.vax_templates.specs.Deeds as deeds
use Rattle.l32_target_operands.specs.judging_laws.specs.vax_templates.specs.Deeds.{Last, Plain, Compared, Tested, Returning, Ended, Deed, leaves, ends_statement, puts, divided, is_relation, is_last_result}
use Rattle.l32_target_operands.specs.judging_laws.specs.vax_templates.specs.Judging.{has_some, in_order, with_reads}
use Rattle.l32_target_operands.specs.judging_laws.specs.Each.{Each}
use Rattle.l32_target_operands.specs.judging_laws.proofs.Binds.{chained, cond_ok}
use Rattle.l32_target_operands.specs.l32_templates.specs.l32_core.specs.declared.op.Op32.{Op32}
use Rattle.l32_target_operands.specs.l32_templates.specs.l32_core.specs.declared.op.Op32.TheVariants as ops
use Rattle.l32_target_operands.specs.l32_templates.specs.l32_core.specs.declared.op.Part.{Part}
use Rattle.l32_target_operands.specs.l32_templates.specs.l32_core.specs.declared.operand.Operand32.{Operand32}
use Rattle.l32_target_operands.specs.l32_templates.specs.l32_core.specs.declared.code.Instr32.{Instr32}
use Rattle.l32_target_operands.specs.l32_templates.specs.l32_core.specs.Ops.{shape}
use Rattle.l32_target_operands.specs.l32_templates.specs.l32_core.proofs.ShapeLaws.{few_parts}
use Rattle.l32_target_operands.specs.l32_templates.specs.l32_machine.specs.declared.operands.Destination.{Destination}
use Rattle.l32_target_operands.specs.l32_templates.specs.l32_machine.specs.declared.operands.Destination.TheVariants as destinations
use Rattle.l32_target_operands.specs.l32_templates.specs.l32_machine.specs.declared.operands.Arguments.{Arguments as Numbers}
use Rattle.l32_target_operands.specs.l32_templates.specs.l32_machine.specs.declared.function.Action.{Action}
use Rattle.l32_target_operands.specs.l32_templates.specs.l32_machine.specs.declared.function.Action.TheVariants as action
use Rattle.l32_target_operands.specs.l32_templates.specs.l32_machine.specs.declared.function.Function.{Function}
use Rattle.l32_target_operands.specs.l32_templates.specs.l32_machine.specs.State.{State, with_reg}
use Rattle.l32_target_operands.specs.l32_templates.specs.l32_machine.specs.Memory.{written}
use Rattle.l32_target_operands.specs.l32_templates.specs.l32_machine.specs.Operands as machine
use Rattle.l32_target_operands.specs.l32_templates.specs.l32_machine.specs.Functions.{action_of, applied}
use Rattle.l32_target_operands.specs.l32_templates.specs.l32_machine.specs.Calls.{silent, pushed}
use Rattle.l32_target_operands.specs.l32_templates.specs.l32_machine.specs.Step.{finished}
use Rattle.l32_target_operands.specs.l32_templates.specs.declared.form.Form.{Form}
use Rattle.l32_target_operands.specs.l32_templates.specs.Instructions.{Instruction, Relation, Calls, Operates, instruction_of}
use Rattle.l32_target_operands.specs.l32_templates.specs.Taking.{all_evaluated}
use Rattle.l32_target_operands.specs.l32_templates.specs.Giving.{given}
use Rattle.l32_target_operands.specs.l32_templates.specs.Deeds.{is_lw, put, computed, acted}
use Rattle.l32_target_operands.specs.l32_templates.specs.Judging.{spells_symbol, is_disordered, checked, operated, branches, instruction_did, is_ret, returned, did_behind, line_did}
use Rattle.l32_target_operands.specs.l32_templates.specs.Judging as judging
use Rattle.l32_target_operands.specs.l32_templates.specs.Filled.{register_in, filled}
use Rattle.l32_target_operands.specs.l32_templates.specs.FilledLines.{op_of_relation, op_of_att, op_in, label_among, label_behind, with_operands, filled_instruction, filled_line}
use Rattle.l32_target_operands.specs.l32_target_meaning.specs.Running.{course_of, branching, alone, evaluated_then, performed}
use Rattle.l32_target_operands.specs.Scenes.{Scene, worth, filling_at, is_lost, Sees}
use Rattle.l32_target_operands.specs.Functions.{IsGiven}
use Rattle.l32_target_operands.proofs.Short.{AreShort, IsShortLine, line_short}
use Rattle.l32_target_operands.proofs.Tables.{functions_mean}
use Rattle.l32_target_lines.specs.Takings.{aims, IsDestination, AreRead, CanAim, AreArguments, MayStand, Takes}
use Rattle.l32_target_lines.specs.Lines.{ZeroHolds, DoesDeed, MayEnd, DoesLine, EndIsRead, NoneIsZero, IsSettled, LinesDo}
use Rattle.l32_target_lines.proofs.All.{all_plain, all_clean, all_taken}
use Rattle.l32_target_lines.proofs.Whole.{IsWhole, IsWholeIfLast, MayPut, may_put}
use Rattle.l32_target_lines.proofs.Table.{goes, label_is, written_once, computes, plain_unless, ret_is, relation_parts, relation_action}

pub in_order_ok : (b : Bool) (u d : Deed) → in_order b u ≡ Ok d → (u.missized ≡ false) × (b ≡ false) × (u ≡ d)
in_order_ok b u d e = by u.missized b refl refl e where
  by : (x y : Bool) → u.missized ≡ x → b ≡ y → cond x (Err WrongSize) (cond y (Err Order) (Ok u)) ≡ Ok d → (u.missized ≡ false) × (b ≡ false) × (u ≡ d)
  by true y p q e = absurd (err_ok _ d e)
  by false true p q e = absurd (err_ok _ d e)
  by false false p q e = (p, q, ok_same u d e)

pub statement_of : (b : Bool) (deed : ActShape) (d : Deed) → cond b (deeds.ends deed) (Err NotInstr) ≡ Ok d → (b ≡ true) × (deeds.ends deed ≡ Ok d)
statement_of true deed d e = (refl, e)
statement_of false deed d e = absurd (err_ok _ d e)

last_is : (t : Shape) → is_last_result t ≡ true → t ≡ LastResult
last_is LastResult e = refl
last_is _ e = absurd cc

pub read_is : (o : Option Instruction) (i : Instruction) → judging.read o ≡ Ok i → o ≡ Some i
read_is None i e = absurd (err_ok _ i e)
read_is (Some j) i e = ap Some (ok_same j i e)

-- ---- results at their destination

in_register : (m : State) (n v : ℕ) → course_of (finished m (Some (destinations.Register n)) (Some v)) ≡ comes (with_reg m n v)
unfolding machine.stored
in_register m n v = refl

in_memory : (m : State) (a : ℕ) (size : Size) (v : ℕ) → course_of (finished m (Some (destinations.Memory a size)) (Some v)) ≡ course_of (silent (written m a size v))
unfolding machine.stored
in_memory m a size v = refl

pub returns_so : (q : TreeProgram) (hs : List (Attr Operand32)) (zero : Attr Operand32) (fs : List Form) (m : State) → performed (with_operands q hs zero ops.Ret fs) m ≡ ends (Returns m)
unfolding performed
returns_so q hs zero fs m = refl

module _ (c : Scene) (held : Option Shape) (m : State) (h : Sees c held m) (settled : IsSettled c) where
  abbrev Did : Deed → Course Instr32 State → Type 0
  Did d did = DoesLine c m d.own did d.last

  ended : (deed : ActShape) (d : Deed) (did : Course Instr32 State) → MayEnd c → DoesDeed c m deed did → deeds.ends deed ≡ Ok d → Did d did
  ended deed d did may x e = subst (λ (y : Deed). Did y did) (ok_same (leaves (Ended deed)) d e) (may, x)

  stored_so : (a : ℕ) (z size : Size) (v w : ℕ) → z ≡ size → v ≡ w → course_of (finished m (Some (destinations.Memory a size)) (Some v)) ≡ course_of (silent (written m a z w))
  stored_so a z size v w same is = in_memory m a size v ∙ ap (λ (y : Size). course_of (silent (written m a y v))) (sym same) ∙ ap (λ (n : ℕ). course_of (silent (written m a z n))) is

  put_did : (op : Op32) (to : Option Target) (dest : Option Destination) (t : Shape) (v : ℕ) (d : Deed) → put op to t ≡ Ok d → v ≡ worth c t → IsDestination c m to dest
      → (is_last_result t ≡ true → IsWhole dest) → Did d (course_of (finished m dest (Some v)))
  put_did op None dest t v d e is aim whole = absurd (err_ok _ d e)
  put_did op (Some to) None t v d e is aim whole = absurd aim
  put_did op (Some ToOwn) (Some (destinations.Register n)) t v d e is aim whole =
      subst (λ (y : Deed). Did y (course_of (finished m (Some (destinations.Register n)) (Some v)))) (ok_same (puts t) d e)
      (record {
        is = in_register m n v ∙ ap (λ (k : ℕ). comes (with_reg m n k)) is ∙ ap (λ a. comes (with_reg m (register_in a) (worth c t))) (sym aim.0);
        may = aim.2;
        last_may = tt;
      })
  put_did op (Some (ToSlot z)) (Some (destinations.Memory a size)) t v d e is aim whole =
      ended (act.StoreHome z 0 t) d (course_of (finished m (Some (destinations.Memory a size)) (Some v))) (inr aim.2)
      (record { address = a; there = inl (aim.2, aim.1); is = stored_so a z size v (worth c t) aim.0 is }) e
  put_did op (Some (ToHome z i)) (Some (destinations.Memory a size)) t v d e is aim whole =
      ended (act.StoreHome z i t) d (course_of (finished m (Some (destinations.Memory a size)) (Some v))) (inl aim.2)
      (record { address = a; there = inr aim.1; is = stored_so a z size v (worth c t) aim.0 is }) e
  put_did op (Some (ToMemory z x)) (Some (destinations.Memory a size)) t v d e is aim whole =
      ended (act.StoreAt z x t) d (course_of (finished m (Some (destinations.Memory a size)) (Some v))) (inl aim.2)
      (record { address = a; there = aim.1; is = stored_so a z size v (worth c t) aim.0 is }) e
  put_did op (Some ToZero) (Some (destinations.Register n)) t v d e is aim whole =
      let r = cond_ok (is_lw op) (leaves (Returning t)) d NotInstr e in
      subst (λ (y : Deed). Did y (course_of (finished m (Some (destinations.Register n)) (Some v)))) r.1
      (record {
        is = in_register m n v ∙ ap (λ (k : ℕ). comes (with_reg m n k)) is ∙ ap (λ (k : ℕ). comes (with_reg m k (worth c t))) aim.0;
        may = tt;
        last_may = aim.1;
      })
  put_did op (Some (ToSaved i)) (Some (destinations.Memory a size)) t v d e is aim whole = by (is_last_result t) refl e where
    by : (b : Bool) → is_last_result t ≡ b → cond b (deeds.ends (act.Save i)) (Err NotInstr) ≡ Ok d → Did d (course_of (finished m (Some (destinations.Memory a size)) (Some v)))
    by false q e = absurd (err_ok _ d e)
    by true q e =
        ended (act.Save i) d (course_of (finished m (Some (destinations.Memory a size)) (Some v))) (inl aim.1)
        (record { address = a; there = aim.0; is = stored_so a Long size v (worth c LastResult) (sym (whole q)) (is ∙ ap (worth c) (last_is t q)) }, aim.2) e
  put_did op (Some to) (Some x) t v d e is aim whole = absurd aim

  -- ---- what is computed

  computed_did : (op : Op32) (to : Option Target) (g : Given) (o : Option ℕ) (dest : Option Destination) (d : Deed) → computed op to g ≡ Ok d → IsGiven c g o → IsDestination c m to dest
      → IsWholeIfLast g dest → NoneIsZero c d.divisors → Did d (course_of (finished m dest o))
  computed_did op to (Computes t) o dest d e x aim whole some = subst (λ y. Did d (course_of (finished m dest y))) (sym x) (put_did op to dest t (worth c t) d e refl aim whole)
  computed_did op to (Divides t w) o dest d e x aim whole some =
      let u = chained (put op to t) (divided w) d e in
      let same = ok_same (record u.first { divisors = w ∷ [] }) d u.then_so in
      let not_zero : worth c w ≡ 0 → ⊥ = (subst (λ (y : Deed). NoneIsZero c y.divisors) (sym same) some).0 in
      subst (λ (y : Deed). Did y (course_of (finished m dest o))) same
      (subst (λ y. Did u.first (course_of (finished m dest y))) (sym (x.divides not_zero)) (put_did op to dest t (worth c t) u.first u.is refl aim whole))
  computed_did op to (Compares a b) o dest d e x aim whole some = absurd (err_ok _ d e)
  computed_did op to (Tests t) o dest d e x aim whole some = absurd (err_ok _ d e)

  -- ---- what is written can be found

  put_aims : (op : Op32) (to : Option Target) (t : Shape) (d : Deed) → put op to t ≡ Ok d → EndIsRead c d.last → CanAim c to
  put_aims op (Some (ToMemory z a)) t d e reads = λ is. (subst (λ (y : Deed). EndIsRead c y.last) (sym (ok_same (leaves (Ended (act.StoreAt z a t))) d e)) reads is).0
  put_aims op None t d e reads = tt
  put_aims op (Some ToOwn) t d e reads = tt
  put_aims op (Some (ToSlot z)) t d e reads = tt
  put_aims op (Some (ToHome z i)) t d e reads = tt
  put_aims op (Some ToZero) t d e reads = tt
  put_aims op (Some (ToSaved i)) t d e reads = tt

  computed_aims : (op : Op32) (to : Option Target) (g : Given) (d : Deed) → computed op to g ≡ Ok d → EndIsRead c d.last → CanAim c to
  computed_aims op to (Computes t) d e reads = put_aims op to t d e reads
  computed_aims op to (Divides t w) d e reads =
      let u = chained (put op to t) (divided w) d e in
      put_aims op to t u.first u.is (subst (λ (y : Deed). EndIsRead c y.last) (sym (ok_same (record u.first { divisors = w ∷ [] }) d u.then_so)) reads)
  computed_aims op to (Compares a b) d e reads = absurd (err_ok _ d e)
  computed_aims op to (Tests t) d e reads = absurd (err_ok _ d e)

  acted_aims : (a : Action) (op : Op32) (fs : List Form) (x : Arguments) (d : Deed) → (computes a || list_all (λ (q : Part). not (aims q)) (shape op).parts) ≡ true
      → all_evaluated c.setting c.roles held (shape op).parts fs ≡ Ok x → acted c.setting a op x ≡ Ok d → EndIsRead c d.last → CanAim c x.target
  acted_aims (action.Compute f) op fs x d plain all e reads = computed_aims op x.target (given f x.first x.second) d e reads
  acted_aims (action.Branch r) op fs x d plain all e reads = absurd (err_ok _ d e)
  acted_aims action.Enter op fs x d plain all e reads = absurd (err_ok _ d e)
  acted_aims action.Call op fs x d plain all e reads = absurd (err_ok _ d e)
  acted_aims action.Return op fs x d plain all e reads = absurd (err_ok _ d e)
  acted_aims action.Push op fs x d plain all e reads = subst (CanAim c) (sym (all_plain c held m h (shape op).parts fs x plain all)) tt
  acted_aims action.Jump op fs x d plain all e reads = subst (CanAim c) (sym (all_plain c held m h (shape op).parts fs x plain all)) tt

  -- ---- what is done with the operands

  statement_did : (b : Bool) (deed : ActShape) (d : Deed) (did : Course Instr32 State) → c.setting.is_statement ≡ b → cond b (deeds.ends deed) (Err NotInstr) ≡ Ok d → DoesDeed c m deed did → Did d did
  statement_did b deed d did is e x = let s = statement_of b deed d e in ended deed d did (inl (is ∙ s.0)) x s.1

  -- the label behind a mnemonic that has one
  label_so : (op : Op32) → goes (action_of op) ≡ true → label_behind op c.holes ≡ option_map label_name (label_among c.holes)
  label_so op e = ap (λ (b : Bool). cond b (option_map label_name (label_among c.holes)) None) (label_is op ∙ e)

  computes_so : (f : Function) (x : Arguments) (y : Numbers) → AreArguments c m x y → IsGiven c (given f x.first x.second) (applied f y.first y.second)
  computes_so f x y a =
      subst (λ n. IsGiven c (given f x.first x.second) (applied f n y.second)) (sym a.first)
      (subst (λ n. IsGiven c (given f x.first x.second) (applied f (worth c x.first) n)) (sym a.second) (functions_mean c f x.first x.second))

  acted_did : (a : Action) (op : Op32) (x : Arguments) (y : Numbers) (d : Deed) → action_of op ≡ a → acted c.setting a op x ≡ Ok d → AreArguments c m x y
      → MayPut a x y.destination → NoneIsZero c d.divisors → Did d (alone a y (label_behind op c.holes) m)
  acted_did (action.Compute f) op x y d is e a may some =
      computed_did op x.target (given f x.first x.second) (applied f y.first y.second) y.destination d e (computes_so f x y a) a.destination may some
  acted_did action.Push op x y d is e a may some =
      statement_did c.setting.is_statement (act.Push x.first) d (course_of (silent (pushed m y.first))) refl e (ap (λ (n : ℕ). course_of (silent (pushed m n))) a.first)
  acted_did action.Jump op x y d is e a may some =
      statement_did c.setting.is_statement act.Jump d (branching true (label_behind op c.holes) m) refl e (ap (λ l. branching true l m) (label_so op (ap goes is)))
  acted_did (action.Branch r) op x y d is e a may some = absurd (err_ok _ d e)
  acted_did action.Enter op x y d is e a may some = absurd (err_ok _ d e)
  acted_did action.Call op x y d is e a may some = absurd (err_ok _ d e)
  acted_did action.Return op x y d is e a may some = absurd (err_ok _ d e)

  -- ---- the operands of a line

  pub may_spell : (fs : List Form) (z : Option Shape) → (c.setting.is_reused && is_some z && list_any (spells_symbol c.roles) fs) ≡ false → is_lost c z ≡ true
      → list_any (spells_symbol c.roles) fs ≡ false
  may_spell fs None e lost = absurd cc
  may_spell fs (Some t) e lost = subst (λ (b : Bool). (b && is_some (Some t) && list_any (spells_symbol c.roles) fs) ≡ false) lost e

  pub spelled : (fs : List Form) → AreShort fs → (is_lost c held ≡ true → list_any (spells_symbol c.roles) fs ≡ false) → AllByRecursion (MayStand c held) fs
  spelled [] short may = tt
  spelled (f ∷ fs) short may = (
    record { short = short.0; may = λ lost. first_false (spells_symbol c.roles f) (list_any (spells_symbol c.roles) fs) (may lost) },
    spelled fs short.1 (λ lost. second_false (spells_symbol c.roles f) (list_any (spells_symbol c.roles) fs) (may lost)),
  )

  pub performed_is : (op : Op32) (fs : List Form) (x : Arguments) (t : Takes c m (shape op).parts fs 3 x) →
      performed (with_operands c.program c.holes c.own op fs) m ≡ alone (action_of op) t.numbers (label_behind op c.holes) m
  unfolding performed
  performed_is op fs x t = ap (evaluated_then (with_operands c.program c.holes c.own op fs) m) t.is

  operated_did : (is_first : Bool) (op : Op32) (fs : List Form) (d : Deed) → AreShort fs → operated c.setting c.roles is_first held op fs ≡ Ok d → AreRead c d.reads → EndIsRead c d.last →
      NoneIsZero c d.divisors → Did d (performed (with_operands c.program c.holes c.own op fs) m)
  unfolding operated
  operated_did is_first op fs d short e reads ends_read some =
      let x = chained (all_evaluated c.setting c.roles held (shape op).parts fs) (λ (x : Arguments). acted c.setting (action_of op) op x >>= checked c.setting c.roles is_first held fs x) d e in
      let u = chained (acted c.setting (action_of op) op x.first) (checked c.setting c.roles is_first held fs x.first) d x.then_so in
      let o = in_order_ok (is_disordered c.setting c.roles is_first held fs u.first) (with_reads x.first u.first) d u.then_so in
      let t = all_taken c held m h 3 (shape op).parts fs x.first (written_once op) (few_parts op)
      (spelled fs short (may_spell fs held (second_false (not is_first && has_some u.first.divisors) _ o.1))) x.is o.0
      (subst (λ (y : Deed). AreRead c y.reads) (sym o.2) reads)
      (acted_aims (action_of op) op fs x.first u.first (plain_unless op) x.is u.is (subst (λ (y : Deed). EndIsRead c y.last) (sym o.2) ends_read)) in
      subst (Did d) (sym (performed_is op fs x.first t))
      (subst (λ (y : Deed). Did y (alone (action_of op) t.numbers (label_behind op c.holes) m)) o.2
      (acted_did (action_of op) op x.first t.numbers u.first refl u.is t.so
      (may_put c.setting c.roles held m op fs x.first (map (filled c.program c.holes c.own) (take 3 fs)) t.numbers x.is t.is) (subst (λ (y : Deed). NoneIsZero c y.divisors) (sym o.2) some)))

  -- ---- a branch

  op_known : (a : Attr Operand32) (r : Rel) (label : ℕ) → att_of (Some a) ≡ Some (att.Branch r label) → op_in a ≡ op_of_relation r
  op_known (attr.Token l) r label e = ap op_of_att (same_Some l.att (att.Branch r label) e)
  op_known _ r label e = absurd (none-some _ e)

  branch_performed : (fs : List Form) (x : Arguments) (r : Rel) (t : Takes c m (shape ops.Beq).parts fs 3 x) →
      performed (with_operands c.program c.holes c.own (op_of_relation r) fs) m ≡ branching (holds r t.numbers.first t.numbers.second) (label_behind (op_of_relation r) c.holes) m
  unfolding performed
  branch_performed fs x r t =
      let i = with_operands c.program c.holes c.own (op_of_relation r) fs in
      ap (λ (ps : List Part). evaluated_then i m (machine.all_evaluated m ps (map (filled c.program c.holes c.own) (take 3 fs)))) (relation_parts r)
      ∙ ap (evaluated_then i m) t.is
      ∙ ap (λ (a : Action). alone a t.numbers (label_behind (op_of_relation r) c.holes) m) (relation_action r)

  branch_did : (i : ℕ) (fs : List Form) (x : Arguments) (t : Takes c m (shape ops.Beq).parts fs 3 x) →
      DoesDeed c m (act.Branch i x.first x.second) (performed (with_operands c.program c.holes c.own (op_in (filling_at c i)) fs) m)
  branch_did i fs x t r label is =
      ap (λ op. performed (with_operands c.program c.holes c.own op fs) m) (op_known (filling_at c i) r label is)
      ∙ branch_performed fs x r t
      ∙ ap (λ (n : ℕ). branching (holds r n t.numbers.second) (label_behind (op_of_relation r) c.holes) m) t.so.first
      ∙ ap (λ (n : ℕ). branching (holds r (worth c x.first) n) (label_behind (op_of_relation r) c.holes) m) t.so.second
      ∙ ap (λ l. branching (holds r (worth c x.first) (worth c x.second)) l m) (label_so (op_of_relation r) (ap goes (relation_action r)))

  not_lost : (z : Option Shape) → c.setting.is_reused ≡ false → is_lost c z ≡ true → ⊥
  not_lost None e lost = cc
  not_lost (Some t) e lost = let r : true ≡ false = sym lost ∙ e in cc

  branches_did : (i : ℕ) (fs : List Form) (d : Deed) → AreShort fs → branches c.setting c.roles held i fs ≡ Ok d → AreRead c d.reads → EndIsRead c d.last
      → Did d (performed (with_operands c.program c.holes c.own (op_in (filling_at c i)) fs) m)
  unfolding branches
  branches_did i fs d short e reads ends_read =
      let x = chained (all_evaluated c.setting c.roles held (shape ops.Beq).parts fs) (λ (x : Arguments). ends_statement c.setting (act.Branch i x.first x.second)) d e in
      let s = statement_of c.setting.is_statement (act.Branch i x.first.first x.first.second) d x.then_so in
      let clean = all_clean c held m h (shape ops.Beq).parts fs x.first refl x.is in
      let t = all_taken c held m h 3 (shape ops.Beq).parts fs x.first refl (few_parts ops.Beq) (spelled fs short (λ lost. absurd (not_lost held (settled s.0) lost))) x.is clean.0
      (subst (AreRead c) (sym clean.1) tt) (subst (CanAim c) (sym (all_plain c held m h (shape ops.Beq).parts fs x.first refl x.is)) tt) in
      statement_did c.setting.is_statement (act.Branch i x.first.first x.first.second) d (performed (with_operands c.program c.holes c.own (op_in (filling_at c i)) fs) m) refl x.then_so
      (branch_did i fs x.first t)

  -- ---- a line

  abbrev F : Instruction → Instr32
  F i = filled_instruction c.program c.holes c.own (Some i)

  relation_did : (b : Bool) (i : ℕ) (fs : List Form) (d : Deed) → AreShort fs → cond b (branches c.setting c.roles held i fs) (Err NotInstr) ≡ Ok d → AreRead c d.reads → EndIsRead c d.last
      → Did d (performed (F (Relation i fs)) m)
  relation_did true i fs d short e reads ends_read = branches_did i fs d short e reads ends_read
  relation_did false i fs d short e reads ends_read = absurd (err_ok _ d e)

  instruction_did_so : (is_first : Bool) (i : Instruction) (d : Deed) → IsShortLine i → instruction_did c.setting c.roles is_first held i ≡ Ok d →
      AreRead c d.reads → EndIsRead c d.last → NoneIsZero c d.divisors → Did d (performed (F i) m)
  instruction_did_so is_first (Relation i fs) d short e reads ends_read some = relation_did (is_relation (hole_at c.roles i)) i fs d short e reads ends_read
  instruction_did_so is_first Calls d short e reads ends_read some = statement_did c.setting.is_statement act.Call d _ refl e refl
  instruction_did_so is_first (Operates op fs) d short e reads ends_read some = operated_did is_first op fs d short e reads ends_read some

  returned_did : (t : Shape) (i : Instruction) (d : Deed) → ZeroHolds c m (Returning t) → returned t i ≡ Ok d → Did d (performed (F i) m)
  returned_did t (Operates op fs) d holds e = by (is_ret op) refl e where
    by : (b : Bool) → is_ret op ≡ b → cond b (deeds.ends (act.Return t)) (Err NotInstr) ≡ Ok d → Did d (performed (with_operands c.program c.holes c.own op fs) m)
    by true is e =
        ended (act.Return t) d (performed (with_operands c.program c.holes c.own op fs) m) (inl holds.1)
        (ap (λ (o : Op32). performed (with_operands c.program c.holes c.own o fs) m) (ret_is op is) ∙ returns_so c.program c.holes c.own fs m, holds.0) e
    by false is e = absurd (err_ok _ d e)
  returned_did t _ d holds e = absurd (err_ok _ d e)

  behind_did : (is_first : Bool) (before : Last) (i : Instruction) (d : Deed) → IsShortLine i → ZeroHolds c m before →
      did_behind c.setting c.roles is_first held before i ≡ Ok d → AreRead c d.reads → EndIsRead c d.last → NoneIsZero c d.divisors → Did d (performed (F i) m)
  behind_did is_first Plain i d short z e reads ends_read some = instruction_did_so is_first i d short e reads ends_read some
  behind_did is_first (Compared a b) i d short z e reads ends_read some = instruction_did_so is_first i d short e reads ends_read some
  behind_did is_first (Tested t) i d short z e reads ends_read some = instruction_did_so is_first i d short e reads ends_read some
  behind_did is_first (Returning t) i d short z e reads ends_read some = returned_did t i d z e
  behind_did is_first (Ended deed) i d short z e reads ends_read some = absurd (err_ok _ d e)

  pub line_did_so : (is_first : Bool) (before : Last) (ps : List Piece) (d : Deed) → ZeroHolds c m before → line_did c.setting c.roles is_first held before ps ≡ Ok d →
      AreRead c d.reads → EndIsRead c d.last → NoneIsZero c d.divisors → Did d (performed (filled_line c.program ps c.holes c.own) m)
  unfolding line_did
  line_did_so is_first before ps d z e reads ends_read some =
      let i = chained (judging.read (instruction_of ps)) (did_behind c.setting c.roles is_first held before) d e in
      let is = read_is (instruction_of ps) i.first i.is in
      subst (λ o. Did d (performed (filled_instruction c.program c.holes c.own o) m)) (sym is)
      (behind_did is_first before i.first d (subst (Each IsShortLine) is (line_short ps)) z i.then_so reads ends_read some)

pub lines_do : LinesDo
lines_do c held m is_first before ps d h settled z e reads ends_read some = line_did_so c held m h settled is_first before ps d z e reads ends_read some
