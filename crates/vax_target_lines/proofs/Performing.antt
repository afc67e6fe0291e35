-- A line does what it is judged to do.
use Rattle.std.proofs.Common.{◌≡◌, ℕ, zero, suc, ◌<◌, ◌==◌, inl, inr, Bool, true, false, cond, List, [], ◌∷◌, map, take, Option}
use Rattle.std.proofs.Common.{Some, None, Result, Ok, Err, refl, sym, ap, subst, ◌∙◌, arith}
use Rattle.std.specs.Prelude.{not, ◌||◌, ◌&&◌, nat_lt, is_some}
use Rattle.std.specs.List.{AllByRecursion, list_any}
use Rattle.std.proofs.lemmas.Bool.{eqb-true}
use Rattle.gg_base.specs.declared.size.Size.{Size}
use Rattle.gg_base.specs.declared.size.Size.TheVariants.{Long}
use Rattle.gg_base.proofs.Facts.{err_ok, ok_same, second_false, second_true, first_true, first_false, head_same}
use Rattle.vax_target_operands.specs.md_reader_pieces.specs.declared.piece.Piece.{Piece}
use Rattle.vax_target_operands.specs.term_core.specs.Shape.{Shape, Constant, Symbol, LastResult, Memory, Unary, Binary}
use Rattle.vax_target_operands.specs.sel_terms.specs.Effects.{ActShape}
use Rattle.vax_target_operands.specs.sel_terms.specs.Effects as act
use Rattle.vax_target_operands.specs.sel_target.specs.declared.fault.TemplateKind.TheVariants.{NotInstr, WrongSize, Order}
use Rattle.vax_core.specs.declared.register.Reg.{Reg}
use Rattle.vax_core.specs.declared.register.Reg.TheVariants.{R0}
use Rattle.vax_core.specs.Registers.{reg_number}
use Rattle.vax_core.specs.declared.op.Op.{Op}
use Rattle.vax_core.specs.declared.op.OperandKind.{OperandKind}
use Rattle.vax_core.specs.declared.code.Instr.{Instr}
use Rattle.vax_core.specs.Ops.{shape}
use Rattle.vax_machine.specs.declared.turn.Stop.{Stop}
use Rattle.vax_machine.specs.declared.turn.Stop.TheVariants.{Trapped}
use Rattle.vax_machine.specs.declared.function.Conditions.{Conditions}
use Rattle.vax_machine.specs.declared.function.Computed.{Computed}
use Rattle.vax_machine.specs.declared.function.Function.{Function}
use Rattle.vax_machine.specs.declared.function.Function.TheVariants as functions
use Rattle.vax_machine.specs.declared.function.Action.{Action}
use Rattle.vax_machine.specs.declared.function.Action.TheVariants as action
use Rattle.vax_machine.specs.declared.operands.Location.{Location}
use Rattle.vax_machine.specs.declared.operands.Location.TheVariants as locations
use Rattle.vax_machine.specs.declared.operands.Destination.{Destination}
use Rattle.vax_machine.specs.declared.operands.Arguments.{Arguments as Numbers}
use Rattle.vax_machine.specs.State.{State, with_reg, with_conditions, stack_full}
use Rattle.vax_machine.specs.State as state
use Rattle.vax_machine.specs.Memory.{register_set}
use Rattle.vax_machine.specs.Functions.{action_of, applied}
use Rattle.vax_machine.specs.Operands as machine
use Rattle.vax_machine.specs.Step.{finished, pushing}
use Rattle.vax_target_operands.specs.vax_machine_lists.specs.Instructions.{Course, Stops, Returns, ends, comes, course_of, alone, evaluated_then}
use Rattle.vax_target_operands.specs.vax_confined.specs.Confined.{may_touch, in_area, performed}
use Rattle.vax_target_operands.specs.vax_target_confined.specs.Claims.{StandsAt}
use Rattle.vax_target_operands.specs.vax_templates.specs.declared.form.Form.{Form}
use Rattle.vax_target_operands.specs.vax_templates.specs.declared.setting.Hole.{Hole}
use Rattle.vax_target_operands.specs.vax_templates.specs.declared.setting.Own.TheVariants as own
use Rattle.vax_target_operands.specs.vax_templates.specs.Instructions.{Instruction, Relation, Jump, Calls, Ret, Operates, instruction_of}
use Rattle.vax_target_operands.specs.vax_templates.specs.Standing.{◌>>=◌}
use Rattle.vax_target_operands.specs.vax_templates.specs.Targets.{Target, ToOwn, ToSlot, ToHome, ToMemory, ToZero, ToSaved}
use Rattle.vax_target_operands.specs.vax_templates.specs.Taking.{Arguments, all_evaluated, evaluated, Taken, in_front, last_of}
use Rattle.vax_target_operands.specs.vax_templates.specs.Giving.{Given, Computes, Divides, Compares, Tests, given}
use Rattle.vax_target_operands.specs.vax_templates.specs.Deeds.{Last, Plain, Compared, Tested, Returning, Ended, Deed, leaves, ends_statement}
use Rattle.vax_target_operands.specs.vax_templates.specs.Deeds.{is_relation, branches, is_movl, is_last_result, puts, put, divided, computed}
use Rattle.vax_target_operands.specs.vax_templates.specs.Deeds.{acted}
use Rattle.vax_target_operands.specs.vax_templates.specs.Judging.{spells_symbol, has_some, is_disordered, in_order, with_reads}
use Rattle.vax_target_operands.specs.vax_templates.specs.Judging.{checked, operated, instruction_did, returned, did_behind, line_did}
use Rattle.vax_target_operands.specs.vax_templates.specs.Deeds as deeds
use Rattle.vax_target_operands.specs.vax_templates.specs.Judging as judging
use Rattle.vax_target_operands.specs.vax_templates.specs.Settings.{hole_at}
use Rattle.vax_target_operands.specs.vax_templates.specs.Filled.{numbered, register_in, operand_in, filled}
use Rattle.vax_target_operands.specs.vax_templates.specs.FilledLines.{filled_instruction, filled_line, plain_return}
use Rattle.vax_target_operands.specs.vax_templates.proofs.Judgements.{read_is}
use Rattle.vax_target_operands.specs.Scenes.{Scene, worth, filling_at, is_lost, OwnIs, IsOwnRegister, Sees}
use Rattle.vax_target_operands.specs.Places.{own_at, IsHome}
use Rattle.vax_target_operands.specs.Conditions.{IsGiven, AreNarrow}
use Rattle.vax_target_operands.proofs.Binds.{chained, cond_ok}
use Rattle.vax_target_operands.proofs.Tables.{functions_mean}
use Rattle.vax_target_lines.specs.Takings.{IsDestination, AreRead, CanAim, AreOfSize, AtSize, last_size, AreArguments, aims, MayStand, Takes}
use Rattle.vax_target_lines.specs.Lines.{CodesMean, ZeroHolds, putting, DoesDeed, MayEnd, DoesLine, EndIsRead, NoneIsZero, LinesDo, LinesTrap}
use Rattle.vax_target_lines.proofs.Rows.{Suits, row_of}
use Rattle.vax_target_lines.proofs.Short.{AreShort, IsShortLine, instruction_short}
use Rattle.vax_target_lines.proofs.Takings.{own_place, all_taken, evaluated_plain, no_destination}

-- ---- registers

-- a register among r0 to r11 has its number
pub number_is : (n : ℕ) → n < 12 → reg_number (numbered n) ≡ n
number_is zero lt = refl
number_is (suc zero) lt = refl
number_is (suc (suc zero)) lt = refl
number_is (suc (suc (suc zero))) lt = refl
number_is (suc (suc (suc (suc zero)))) lt = refl
number_is (suc (suc (suc (suc (suc zero))))) lt = refl
number_is (suc (suc (suc (suc (suc (suc zero)))))) lt = refl
number_is (suc (suc (suc (suc (suc (suc (suc zero))))))) lt = refl
number_is (suc (suc (suc (suc (suc (suc (suc (suc zero)))))))) lt = refl
number_is (suc (suc (suc (suc (suc (suc (suc (suc (suc zero))))))))) lt = refl
number_is (suc (suc (suc (suc (suc (suc (suc (suc (suc (suc zero)))))))))) lt = refl
number_is (suc (suc (suc (suc (suc (suc (suc (suc (suc (suc (suc zero))))))))))) lt = refl
number_is (suc (suc (suc (suc (suc (suc (suc (suc (suc (suc (suc (suc n)))))))))))) lt = absurd (omega (arith, lt))

pub set_plainly : (m : State) (r : Reg) (v : ℕ) → reg_number r < 12 → register_set m r v ≡ Ok (with_reg m r v)
unfolding register_set
set_plainly m r v lt = by (reg_number r == 14) refl where
  by : (b : Bool) → (reg_number r == 14) ≡ b → cond (b && nat_lt v 2139095040) (Err stack_full) (Ok (with_reg m r v)) ≡ Ok (with_reg m r v)
  by true e = absurd (let is : reg_number r ≡ 14 = eqb-true (reg_number r) 14 e in omega (arith, lt, is))
  by false e = refl

pub returns_so : (n : State) → performed plain_return n ≡ ends (Returns n)
unfolding performed
returns_so n = refl

module _ (c : Scene) (held : Option Shape) (m : State) (h : Sees c held m) where
  -- ---- results at their destination

  -- a result is put where it belongs
  abbrev storing : Option Destination → ℕ → Conditions → Course
  storing d v k = course_of (state.◌>>=◌ (machine.stored m d v) (λ (n : State). Ok (None, with_conditions n k)))

  stored_there : (d : Destination) (v : ℕ) (k : Conditions) (l : Location) (size : Size) → d.location ≡ l → d.size ≡ size → storing (Some d) v k ≡ putting m l size v k
  unfolding machine.stored
  stored_there d v k l size a b = ap (λ x. putting m x d.size v k) a ∙ ap (λ x. putting m l x v k) b

  in_register : (r : Reg) (v : ℕ) (k : Conditions) → reg_number r < 12 → putting m (locations.Register r) Long v k ≡ comes (with_conditions (with_reg m r v) k)
  in_register r v k lt = ap (λ (x : Result State Stop). course_of (state.◌>>=◌ x (λ (n : State). Ok (None, with_conditions n k)))) (set_plainly m r v lt)

  own_low : c.setting.own ≡ own.Register → reg_number (register_in c.own) < 12
  own_low is =
      let o : IsOwnRegister c = subst (OwnIs c) is h.own_is in
      subst (λ a. reg_number (register_in a) < 12) (sym o.is) (subst (λ x. x < 12) (sym (number_is o.number o.low)) o.low)

  abbrev Did : Deed → Course → Type 0
  Did d did = DoesLine c m d.own did d.last

  ended : (deed : ActShape) (d : Deed) (did : Course) → MayEnd c → DoesDeed c m deed did → deeds.ends deed ≡ Ok d → Did d did
  ended deed d did may x e = subst (λ (y : Deed). Did y did) (ok_same (leaves (Ended deed)) d e) (may, x)

  put_did : (op : Op) (to : Option Target) (dest : Option Destination) (t : Shape) (v : ℕ) (k : Conditions) (d : Deed) (size : Size) →
      put op to t ≡ Ok d → v ≡ worth c t → IsDestination c m to dest → AtSize dest size → (is_movl op ≡ true → size ≡ Long) → Did d (storing dest v k)
  put_did op None dest t v k d size e is aim at long = absurd (err_ok _ d e)
  put_did op (Some to) None t v k d size e is aim at long = absurd aim
  put_did op (Some ToOwn) (Some x) t v k d size e is aim at long =
      subst (λ (y : Deed). Did y (storing (Some x) v k)) (ok_same (puts t) d e)
      (record {
        conditions = k;
        is = stored_there x v k (locations.Register (register_in c.own)) Long (own_place c held m h x.location x.size aim.2 aim.0) aim.1
            ∙ in_register (register_in c.own) v k (own_low aim.2)
            ∙ ap (λ n. comes (with_conditions (with_reg m (register_in c.own) n) k)) is;
        codes_mean = tt;
        may = aim.2;
        last_may = tt;
      })
  put_did op (Some (ToSlot z)) (Some x) t v k d size e is aim at long =
      ended (act.StoreHome z 0 t) d (storing (Some x) v k) (inr aim.2)
      (record {
        place = x.location;
        conditions = k;
        there = inl (aim.2, subst (λ y. StandsAt m (operand_in c.program c.own) y x.location) (sym aim.1) aim.0);
        is = λ may. stored_there x v k x.location z refl (sym aim.1) ∙ ap (λ n. putting m x.location z n k) is;
      }) e
  put_did op (Some (ToHome z i)) (Some x) t v k d size e is aim at long =
      ended (act.StoreHome z i t) d (storing (Some x) v k) (inl aim.2)
      (record {
        place = aim.0.place;
        conditions = k;
        there = inr (subst (λ y. IsHome c m i y aim.0.place) (sym aim.1) aim.0.home);
        is = λ may. stored_there x v k aim.0.place z (aim.0.is (subst (λ y. may_touch m (own_at c i) aim.0.place y ≡ true) aim.1 may)) (sym aim.1)
            ∙ ap (λ n. putting m aim.0.place z n k) is;
      }) e
  put_did op (Some (ToMemory z a)) (Some x) t v k d size e is aim at long =
      ended (act.StoreAt z a t) d (storing (Some x) v k) (inl aim.2)
      (record {
        place = locations.Memory (worth c a);
        conditions = k;
        there = refl;
        is = λ may. stored_there x v k (locations.Memory (worth c a)) z (aim.0 (subst (λ y. in_area m (worth c a) y ≡ true) aim.1 may)) (sym aim.1)
            ∙ ap (λ n. putting m (locations.Memory (worth c a)) z n k) is;
      }) e
  put_did op (Some ToZero) (Some x) t v k d size e is aim at long =
      let r = cond_ok (is_movl op) (leaves (Returning t)) d NotInstr e in
      subst (λ (y : Deed). Did y (storing (Some x) v k)) r.1
      (record {
        conditions = k;
        is = stored_there x v k (locations.Register R0) Long aim.0 (at ∙ long r.0) ∙ in_register R0 v k (omega arith) ∙ ap (λ n. comes (with_conditions (with_reg m R0 n) k)) is;
        codes_mean = tt;
        may = tt;
        last_may = aim.1;
      })
  put_did op (Some (ToSaved i)) (Some x) t v k d size e is aim at long = by (is_movl op && is_last_result t) refl e where
    last_is : (t : Shape) → is_last_result t ≡ true → t ≡ LastResult
    last_is (Constant n) e = cc
    last_is (Symbol j) e = cc
    last_is LastResult e = refl
    last_is (Memory y a) e = cc
    last_is (Unary f a) e = cc
    last_is (Binary f a b) e = cc

    by : (b : Bool) → (is_movl op && is_last_result t) ≡ b → cond b (deeds.ends (act.Save i)) (Err NotInstr) ≡ Ok d → Did d (storing (Some x) v k)
    by false q e = absurd (err_ok _ d e)
    by true q e =
        let size_is = at ∙ long (first_true (is_movl op) (is_last_result t) q) in
        ended (act.Save i) d (storing (Some x) v k) (inl aim.2)
        (record {
          place = x.location;
          conditions = k;
          there = (subst (λ y. StandsAt m (operand_in c.program (filling_at c i)) y x.location) size_is aim.0, aim.1);
          is = λ may. stored_there x v k x.location Long refl size_is
              ∙ ap (λ n. putting m x.location Long n k) (is ∙ ap (worth c) (last_is t (second_true (is_movl op) (is_last_result t) q)));
        }) e

  -- ---- what is computed

  abbrev no_result : Given → Bool
  no_result (Computes t) = false
  no_result (Divides t d) = false
  no_result (Compares a b) = true
  no_result (Tests t) = true

  -- the codes alone
  codes_only : (r : Computed) → storing None r.value r.conditions ≡ comes (with_conditions m r.conditions)
  unfolding machine.stored
  codes_only r = refl

  with_divisor : (divisor : Shape) (u d : Deed) (did : Course) → divided divisor u ≡ Ok d → Did u did → Did d did
  with_divisor divisor u d did e x = subst (λ (y : Deed). Did y did) (ok_same (record u { divisors = divisor ∷ [] }) d e) x

  computed_did : (op : Op) (to : Option Target) (g : Given) (o : Option Computed) (dest : Option Destination) (d : Deed) (size : Size) →
      computed op to g ≡ Ok d → IsGiven c g o → IsDestination c m to dest → AtSize dest size → (is_movl op ≡ true → size ≡ Long) → (no_result g ≡ true → to ≡ None) →
      NoneIsZero c d.divisors → Did d (course_of (finished m dest o))
  computed_did op to (Computes t) o dest d size e x aim at long plain some =
      subst (λ y. Did d (course_of (finished m dest y))) (sym x.is) (put_did op to dest t x.result.value x.result.conditions d size e x.so aim at long)
  computed_did op to (Divides t w) o dest d size e x aim at long plain some =
      let u = chained (put op to t) (divided w) d e in
      let not_zero : worth c w ≡ 0 → ⊥ = (subst (λ (y : Deed). NoneIsZero c y.divisors) (sym (ok_same (record u.first { divisors = w ∷ [] }) d u.then_so)) some).0 in
      let r = x.divides not_zero in
      subst (λ y. Did d (course_of (finished m dest y))) (sym r.is)
      (with_divisor w u.first d _ u.then_so (put_did op to dest t r.result.value r.result.conditions u.first size u.is r.so aim at long))
  computed_did op to (Compares a b) o dest d size e x aim at long plain some =
      let none = no_destination c m dest (subst (λ y. IsDestination c m y dest) (plain refl) aim) in
      subst (λ (y : Deed). Did y (course_of (finished m dest o))) (ok_same (leaves (Compared a b)) d e)
      (record {
        conditions = x.result.conditions;
        is = ap (λ y. course_of (finished m dest y)) x.is ∙ ap (λ y. storing y x.result.value x.result.conditions) none ∙ codes_only x.result;
        codes_mean = x.so;
        may = tt;
        last_may = tt;
      })
  computed_did op to (Tests t) o dest d size e x aim at long plain some =
      let none = no_destination c m dest (subst (λ y. IsDestination c m y dest) (plain refl) aim) in
      subst (λ (y : Deed). Did y (course_of (finished m dest o))) (ok_same (leaves (Tested t)) d e)
      (record {
        conditions = x.result.conditions;
        is = ap (λ y. course_of (finished m dest y)) x.is ∙ ap (λ y. storing y x.result.value x.result.conditions) none ∙ codes_only x.result;
        codes_mean = x.so;
        may = tt;
        last_may = tt;
      })

  -- ---- functions and their operands

  narrow_so : (f : Function) (ks : List OperandKind) (a b : ℕ) → Suits (action.Compute f) ks → AreOfSize ks a b → AreNarrow f a b
  narrow_so (functions.Copy size) ks a b s h = tt
  narrow_so functions.Clear ks a b s h = tt
  narrow_so functions.Negate ks a b s h = tt
  narrow_so functions.Complement ks a b s h = tt
  narrow_so (functions.SignExtend size) ks a b s h = tt
  narrow_so (functions.Truncate size) ks a b s h = tt
  narrow_so functions.Add ks a b s h = tt
  narrow_so functions.Subtract ks a b s h = tt
  narrow_so functions.Multiply ks a b s h = tt
  narrow_so functions.Divide ks a b s h = tt
  narrow_so functions.Increment ks a b s h = tt
  narrow_so functions.Decrement ks a b s h = tt
  narrow_so functions.BitSet ks a b s h = tt
  narrow_so functions.BitClear ks a b s h = tt
  narrow_so functions.ExclusiveOr ks a b s h = tt
  narrow_so functions.BitTest ks a b s h = tt
  narrow_so functions.Shift ks a b s h = tt
  narrow_so (functions.Compare size) ks a b s h = let x = subst (λ l. AreOfSize l a b) s h in (x.0 refl, x.1 refl)
  narrow_so (functions.CompareWithZero size) ks a b s h = subst (λ l. AreOfSize l a b) s h refl

  abbrev ArePlain : List OperandKind → Type 0
  ArePlain ks = AllByRecursion (λ (k : OperandKind). aims k.access ≡ false) ks

  given_plain : (f : Function) (s t : Shape) (ks : List OperandKind) → Suits (action.Compute f) ks → no_result (given f s t) ≡ true → ArePlain ks
  given_plain (functions.Copy size) s t ks h e = cc
  given_plain functions.Clear s t ks h e = cc
  given_plain functions.Negate s t ks h e = cc
  given_plain functions.Complement s t ks h e = cc
  given_plain (functions.SignExtend size) s t ks h e = cc
  given_plain (functions.Truncate size) s t ks h e = cc
  given_plain functions.Add s t ks h e = cc
  given_plain functions.Subtract s t ks h e = cc
  given_plain functions.Multiply s t ks h e = cc
  given_plain functions.Divide s t ks h e = cc
  given_plain functions.Increment s t ks h e = cc
  given_plain functions.Decrement s t ks h e = cc
  given_plain functions.BitSet s t ks h e = cc
  given_plain functions.BitClear s t ks h e = cc
  given_plain functions.ExclusiveOr s t ks h e = cc
  given_plain functions.BitTest s t ks h e = subst ArePlain (sym h) (refl, (refl, tt))
  given_plain functions.Shift s t ks h e = cc
  given_plain (functions.Compare size) s t ks h e = subst ArePlain (sym h) (refl, (refl, tt))
  given_plain (functions.CompareWithZero size) s t ks h e = subst ArePlain (sym h) (refl, tt)

  -- operands that are only read have no destination
  all_plain : (ks : List OperandKind) (fs : List Form) (x : Arguments) → ArePlain ks → all_evaluated c.setting c.roles held ks fs ≡ Ok x → x.target ≡ None
  all_plain [] fs x p e = ap (λ (y : Arguments). y.target) (sym (ok_same _ x e))
  all_plain (k ∷ ks) [] x p e = absurd (err_ok _ x e)
  all_plain (k ∷ ks) (f ∷ fs) x p e =
      let d = chained (evaluated c.setting c.roles held k f) (λ (t : Taken). all_evaluated c.setting c.roles held ks fs >>= in_front t) x e in
      let r = chained (all_evaluated c.setting c.roles held ks fs) (in_front d.first) x d.then_so in
      ap (λ (y : Arguments). y.target) (sym (ok_same _ x r.then_so))
      ∙ ap (λ o. last_of o r.first.target) (evaluated_plain c held m h k f d.first p.0 d.is)
      ∙ ap (last_of None) (all_plain ks fs r.first p.1 r.is)

  -- ---- what is written can be found

  put_aims : (op : Op) (to : Option Target) (t : Shape) (d : Deed) → put op to t ≡ Ok d → EndIsRead c d.last → CanAim c to
  put_aims op None t d e reads = tt
  put_aims op (Some ToOwn) t d e reads = tt
  put_aims op (Some (ToSlot z)) t d e reads = tt
  put_aims op (Some (ToHome z i)) t d e reads = tt
  put_aims op (Some (ToMemory z a)) t d e reads = λ is. (subst (λ (y : Deed). EndIsRead c y.last) (sym (ok_same (leaves (Ended (act.StoreAt z a t))) d e)) reads is).0
  put_aims op (Some ToZero) t d e reads = tt
  put_aims op (Some (ToSaved i)) t d e reads = tt

  none_aims : (to : Option Target) → to ≡ None → CanAim c to
  none_aims to e = subst (CanAim c) (sym e) tt

  computed_aims : (op : Op) (to : Option Target) (g : Given) (d : Deed) → computed op to g ≡ Ok d → (no_result g ≡ true → to ≡ None) → EndIsRead c d.last → CanAim c to
  computed_aims op to (Computes t) d e plain reads = put_aims op to t d e reads
  computed_aims op to (Divides t w) d e plain reads =
      let u = chained (put op to t) (divided w) d e in
      put_aims op to t u.first u.is (subst (λ (y : Deed). EndIsRead c y.last) (sym (ok_same (record u.first { divisors = w ∷ [] }) d u.then_so)) reads)
  computed_aims op to (Compares a b) d e plain reads = none_aims to (plain refl)
  computed_aims op to (Tests t) d e plain reads = none_aims to (plain refl)

  push_plain : (ks : List OperandKind) → Suits action.Push ks → ArePlain ks
  push_plain ks s = subst ArePlain (sym s) (refl, tt)

  acted_aims : (a : Action) (op : Op) (fs : List Form) (x : Arguments) (ks : List OperandKind) (d : Deed) → Suits a ks → all_evaluated c.setting c.roles held ks fs ≡ Ok x →
      acted c.setting a op x ≡ Ok d → EndIsRead c d.last → CanAim c x.target
  acted_aims (action.Compute f) op fs x ks d s e is reads =
      computed_aims op x.target (given f x.first x.second) d is (λ no. all_plain ks fs x (given_plain f x.first x.second ks s no) e) reads
  acted_aims action.Push op fs x ks d s e is reads = none_aims x.target (all_plain ks fs x (push_plain ks s) e)
  acted_aims _ op fs x ks d s e is reads = absurd (err_ok _ d is)

  -- ---- what is done with the operands

  statement_of : (b : Bool) (deed : ActShape) (d : Deed) → cond b (deeds.ends deed) (Err NotInstr) ≡ Ok d → leaves (Ended deed) ≡ d
  statement_of true deed d e = ok_same (leaves (Ended deed)) d e
  statement_of false deed d e = absurd (err_ok _ d e)

  statement_true : (b : Bool) (deed : ActShape) (d : Deed) → cond b (deeds.ends deed) (Err NotInstr) ≡ Ok d → b ≡ true
  statement_true true deed d e = refl
  statement_true false deed d e = absurd (err_ok _ d e)

  statement_did : (b : Bool) (deed : ActShape) (d : Deed) (did : Course) → c.setting.is_statement ≡ b → cond b (deeds.ends deed) (Err NotInstr) ≡ Ok d → DoesDeed c m deed did → Did d did
  statement_did b deed d did is e x = subst (λ (y : Deed). Did y did) (statement_of b deed d e) (inl (is ∙ statement_true b deed d e), x)

  computes_so : (f : Function) (x : Arguments) (y : Numbers) (ks : List OperandKind) → Suits (action.Compute f) ks → AreArguments c m ks x y →
      IsGiven c (given f x.first x.second) (applied f y.first y.second m.conditions.carry)
  computes_so f x y ks s a =
      let narrow = narrow_so f ks y.first y.second s a.sizes in
      subst (λ n. IsGiven c (given f x.first x.second) (applied f n y.second m.conditions.carry)) (sym a.first)
      (subst (λ n. IsGiven c (given f x.first x.second) (applied f (worth c x.first) n m.conditions.carry)) (sym a.second)
      (functions_mean c f x.first x.second m.conditions.carry (subst (λ n. AreNarrow f (worth c x.first) n) a.second (subst (λ n. AreNarrow f n y.second) a.first narrow))))

  acted_did : (a : Action) (op : Op) (fs : List Form) (x : Arguments) (y : Numbers) (ks : List OperandKind) (d : Deed) → Suits a ks → all_evaluated c.setting c.roles held ks fs ≡ Ok x →
      (is_movl op ≡ true → last_size ks ≡ Long) → acted c.setting a op x ≡ Ok d → AreArguments c m ks x y → NoneIsZero c d.divisors → Did d (alone a y None m)
  acted_did (action.Compute f) op fs x y ks d s e long is a some =
      computed_did op x.target (given f x.first x.second) _ y.destination d (last_size ks) is (computes_so f x y ks s a) a.destination a.at_size long
      (λ no. all_plain ks fs x (given_plain f x.first x.second ks s no) e) some
  acted_did action.Push op fs x y ks d s e long is a some =
      statement_did c.setting.is_statement (act.Push x.first) d (course_of (pushing m y.first)) refl is (ap (λ n. course_of (pushing m n)) a.first)
  acted_did _ op fs x y ks d s e long is a some = absurd (err_ok _ d is)

  -- ---- an instruction with operands

  in_order_ok : (b : Bool) (u d : Deed) → in_order b u ≡ Ok d → (u.missized ≡ false) × (b ≡ false) × (u ≡ d)
  in_order_ok b u d e = by u.missized b refl e where
    by : (x b : Bool) → u.missized ≡ x → cond x (Err WrongSize) (cond b (Err Order) (Ok u)) ≡ Ok d → (u.missized ≡ false) × (b ≡ false) × (u ≡ d)
    by true b is e = absurd (err_ok _ d e)
    by false true is e = absurd (err_ok _ d e)
    by false false is e = (is, refl, ok_same u d e)

  spelled : (fs : List Form) → AreShort fs → (is_lost c held ≡ true → list_any (spells_symbol c.roles) fs ≡ false) → AllByRecursion (MayStand c held) fs
  spelled [] short may = tt
  spelled (f ∷ fs) short may = (
    record { short = short.0; may = λ lost. first_false (spells_symbol c.roles f) (list_any (spells_symbol c.roles) fs) (may lost) },
    spelled fs short.1 (λ lost. second_false (spells_symbol c.roles f) (list_any (spells_symbol c.roles) fs) (may lost)),
  )

  may_spell : (fs : List Form) (held : Option Shape) (first : Bool) → (first || (c.setting.is_reused && is_some held && list_any (spells_symbol c.roles) fs)) ≡ false →
      is_lost c held ≡ true → list_any (spells_symbol c.roles) fs ≡ false
  may_spell fs None first e lost = cc
  may_spell fs (Some t) first e lost =
      let r : (c.setting.is_reused && true && list_any (spells_symbol c.roles) fs) ≡ false = second_false first _ e in
      subst (λ b. (b && true && list_any (spells_symbol c.roles) fs) ≡ false) lost r

  -- the operands are taken, and then the instruction acts
  record Ran (op : Op) (fs : List Form) (d : Deed) (did : Course) : Type 0 where
    arguments : Arguments
    numbers : Numbers
    acts : Deed
    evaluated_so : all_evaluated c.setting c.roles held (shape op).operands fs ≡ Ok arguments
    acted_so : acted c.setting (action_of op) op arguments ≡ Ok acts
    same : with_reads arguments acts ≡ d
    are : AreArguments c m (shape op).operands arguments numbers
    is : did ≡ alone (action_of op) numbers None m

  performed_is : (op : Op) (fs : List Form) (x : Arguments) (t : Takes c m (shape op).operands fs 3 x) →
      performed (record { op = op; operands = map (filled c.program c.holes c.own) (take 3 fs); target = None }) m ≡ alone (action_of op) t.numbers None m
  unfolding performed
  performed_is op fs x t = ap (evaluated_then (record { op = op; operands = map (filled c.program c.holes c.own) (take 3 fs); target = None })) t.is

  operated_ran : (is_first : Bool) (op : Op) (fs : List Form) (d : Deed) → AreShort fs → operated c.setting c.roles is_first held op fs ≡ Ok d → AreRead c d.reads → EndIsRead c d.last →
      Ran op fs d (performed (record { op = op; operands = map (filled c.program c.holes c.own) (take 3 fs); target = None }) m)
  unfolding operated
  operated_ran is_first op fs d short e reads ends_read =
      let row = row_of op in
      let x = chained (all_evaluated c.setting c.roles held (shape op).operands fs) (λ (x : Arguments). acted c.setting (action_of op) op x >>= checked c.setting c.roles is_first held fs x) d e in
      let u = chained (acted c.setting (action_of op) op x.first) (checked c.setting c.roles is_first held fs x.first) d x.then_so in
      let o = in_order_ok (is_disordered c.setting c.roles is_first held fs u.first) (with_reads x.first u.first) d u.then_so in
      let t = all_taken c held m h 3 (shape op).operands fs x.first row.last row.few (spelled fs short (may_spell fs held (not is_first && has_some u.first.divisors) o.1)) x.is o.0
      (subst (λ (y : Deed). AreRead c y.reads) (sym o.2) reads)
      (acted_aims (action_of op) op fs x.first (shape op).operands u.first row.suits x.is u.is (subst (λ (y : Deed). EndIsRead c y.last) (sym o.2) ends_read)) in
      record {
        arguments = x.first;
        numbers = t.numbers;
        acts = u.first;
        evaluated_so = x.is;
        acted_so = u.is;
        same = o.2;
        are = t.so;
        is = performed_is op fs x.first t;
      }

  operated_did : (is_first : Bool) (op : Op) (fs : List Form) (d : Deed) → AreShort fs → operated c.setting c.roles is_first held op fs ≡ Ok d → AreRead c d.reads → EndIsRead c d.last →
      NoneIsZero c d.divisors → Did d (performed (record { op = op; operands = map (filled c.program c.holes c.own) (take 3 fs); target = None }) m)
  operated_did is_first op fs d short e reads ends_read some =
      let r = operated_ran is_first op fs d short e reads ends_read in
      subst (Did d) (sym r.is)
      (subst (λ (y : Deed). Did y (alone (action_of op) r.numbers None m)) r.same
      (acted_did (action_of op) op fs r.arguments r.numbers (shape op).operands r.acts (row_of op).suits r.evaluated_so (row_of op).longword r.acted_so r.are
      (subst (λ (y : Deed). NoneIsZero c y.divisors) (sym r.same) some)))

  -- ---- a line

  abbrev F : Instruction → Instr
  F i = filled_instruction c.program c.holes c.own (Some i)

  branches_did : (i : ℕ) (before : Last) (d : Deed) → CodesMean c m.conditions before → branches c.setting i before ≡ Ok d → Did d (performed (F (Relation i)) m)
  branches_did i (Compared a b) d k e = statement_did c.setting.is_statement (act.Branch i a b) d _ refl e (inl k, refl)
  branches_did i (Tested t) d k e = by c.setting.is_signed refl e where
    by : (b : Bool) → c.setting.is_signed ≡ b → cond b (ends_statement c.setting (act.Branch i t (Constant 0))) (Err NotInstr) ≡ Ok d → Did d (performed (F (Relation i)) m)
    by true is e = statement_did c.setting.is_statement (act.Branch i t (Constant 0)) d _ refl e (inr (is, refl, k), refl)
    by false is e = absurd (err_ok _ d e)
  branches_did i _ d k e = absurd (err_ok _ d e)

  relation_did : (r : Hole) (i : ℕ) (before : Last) (d : Deed) → CodesMean c m.conditions before → cond (is_relation r) (branches c.setting i before) (Err NotInstr) ≡ Ok d
      → Did d (performed (F (Relation i)) m)
  relation_did r i before d k e = by (is_relation r) e where
    by : (b : Bool) → cond b (branches c.setting i before) (Err NotInstr) ≡ Ok d → Did d (performed (F (Relation i)) m)
    by true e = branches_did i before d k e
    by false e = absurd (err_ok _ d e)

  instruction_did_so : (is_first : Bool) (before : Last) (i : Instruction) (d : Deed) → IsShortLine i → CodesMean c m.conditions before
      → instruction_did c.setting c.roles is_first held before i ≡ Ok d →
      AreRead c d.reads → EndIsRead c d.last → NoneIsZero c d.divisors → Did d (performed (F i) m)
  instruction_did_so is_first before (Relation i) d short k e reads ends_read some = relation_did (hole_at c.roles i) i before d k e
  instruction_did_so is_first before Jump d short k e reads ends_read some = statement_did c.setting.is_statement act.Jump d _ refl e refl
  instruction_did_so is_first before Calls d short k e reads ends_read some = statement_did c.setting.is_statement act.Call d _ refl e refl
  instruction_did_so is_first before Ret d short k e reads ends_read some = absurd (err_ok _ d e)
  instruction_did_so is_first before (Operates op fs) d short k e reads ends_read some = operated_did is_first op fs d short e reads ends_read some

  returned_did : (t : Shape) (i : Instruction) (d : Deed) → ZeroHolds c m (Returning t) → returned t i ≡ Ok d → Did d (performed (F i) m)
  returned_did t Ret d holds e = ended (act.Return t) d (performed plain_return m) (inl holds.1) (returns_so m, holds.0) e
  returned_did t _ d holds e = absurd (err_ok _ d e)

  behind_did : (is_first : Bool) (before : Last) (i : Instruction) (d : Deed) → IsShortLine i → CodesMean c m.conditions before → ZeroHolds c m before →
      did_behind c.setting c.roles is_first held before i ≡ Ok d → AreRead c d.reads → EndIsRead c d.last → NoneIsZero c d.divisors → Did d (performed (F i) m)
  behind_did is_first Plain i d short k z e reads ends_read some = instruction_did_so is_first Plain i d short k e reads ends_read some
  behind_did is_first (Compared a b) i d short k z e reads ends_read some = instruction_did_so is_first (Compared a b) i d short k e reads ends_read some
  behind_did is_first (Tested t) i d short k z e reads ends_read some = instruction_did_so is_first (Tested t) i d short k e reads ends_read some
  behind_did is_first (Returning t) i d short k z e reads ends_read some = returned_did t i d z e
  behind_did is_first (Ended deed) i d short k z e reads ends_read some = absurd (err_ok _ d e)

  pub line_did_so : (is_first : Bool) (before : Last) (ps : List Piece) (d : Deed) → CodesMean c m.conditions before → ZeroHolds c m before
      → line_did c.setting c.roles is_first held before ps ≡ Ok d →
      AreRead c d.reads → EndIsRead c d.last → NoneIsZero c d.divisors → Did d (performed (filled_line c.program ps c.holes c.own) m)
  unfolding line_did
  line_did_so is_first before ps d k z e reads ends_read some =
      let i = chained (judging.read (instruction_of ps)) (did_behind c.setting c.roles is_first held before) d e in
      let is = read_is (instruction_of ps) i.first i.is in
      subst (λ o. Did d (performed (filled_instruction c.program c.holes c.own o) m)) (sym is)
      (behind_did is_first before i.first d (instruction_short ps i.first is) k z i.then_so reads ends_read some)

  -- ---- a zero divisor

  undivided : (deed : ActShape) (d : Deed) → deeds.ends deed ≡ Ok d → d.divisors ≡ []
  undivided deed d e = ap (λ (y : Deed). y.divisors) (sym (ok_same (leaves (Ended deed)) d e))

  put_undivided : (op : Op) (to : Option Target) (t : Shape) (d : Deed) → put op to t ≡ Ok d → d.divisors ≡ []
  put_undivided op None t d e = absurd (err_ok _ d e)
  put_undivided op (Some ToOwn) t d e = ap (λ (y : Deed). y.divisors) (sym (ok_same (puts t) d e))
  put_undivided op (Some (ToSlot z)) t d e = undivided _ d e
  put_undivided op (Some (ToHome z i)) t d e = undivided _ d e
  put_undivided op (Some (ToMemory z a)) t d e = undivided _ d e
  put_undivided op (Some ToZero) t d e = ap (λ (y : Deed). y.divisors) (sym (cond_ok (is_movl op) (leaves (Returning t)) d NotInstr e).1)
  put_undivided op (Some (ToSaved i)) t d e = by (is_movl op && is_last_result t) e where
    by : (b : Bool) → cond b (deeds.ends (act.Save i)) (Err NotInstr) ≡ Ok d → d.divisors ≡ []
    by true e = undivided _ d e
    by false e = absurd (err_ok _ d e)

  no_divisor : (ds : List Shape) (w : Shape) → ds ≡ [] → ds ≡ w ∷ [] → ⊥
  no_divisor ds w a b = let r : [] ≡ w ∷ [] = sym a ∙ b in cc

  computed_trap : (op : Op) (to : Option Target) (g : Given) (o : Option Computed) (dest : Option Destination) (d : Deed) (w : Shape) →
      computed op to g ≡ Ok d → IsGiven c g o → d.divisors ≡ w ∷ [] → worth c w ≡ 0 → course_of (finished m dest o) ≡ ends (Stops Trapped)
  computed_trap op to (Computes t) o dest d w e x is z = absurd (no_divisor d.divisors w (put_undivided op to t d e) is)
  computed_trap op to (Divides t y) o dest d w e x is z =
      let u = chained (put op to t) (divided y) d e in
      let same = head_same y w [] [] (ap (λ (v : Deed). v.divisors) (ok_same (record u.first { divisors = y ∷ [] }) d u.then_so) ∙ is) in
      ap (λ k. course_of (finished m dest k)) (x.traps (ap (worth c) same ∙ z))
  computed_trap op to (Compares a b) o dest d w e x is z = absurd (no_divisor d.divisors w (ap (λ (y : Deed). y.divisors) (sym (ok_same (leaves (Compared a b)) d e))) is)
  computed_trap op to (Tests t) o dest d w e x is z = absurd (no_divisor d.divisors w (ap (λ (y : Deed). y.divisors) (sym (ok_same (leaves (Tested t)) d e))) is)

  statement_undivided : (b : Bool) (deed : ActShape) (d : Deed) → cond b (deeds.ends deed) (Err NotInstr) ≡ Ok d → d.divisors ≡ []
  statement_undivided b deed d e = ap (λ (y : Deed). y.divisors) (sym (statement_of b deed d e))

  acted_trap : (a : Action) (op : Op) (x : Arguments) (y : Numbers) (ks : List OperandKind) (d : Deed) (w : Shape) → Suits a ks → acted c.setting a op x ≡ Ok d → AreArguments c m ks x y →
      d.divisors ≡ w ∷ [] → worth c w ≡ 0 → alone a y None m ≡ ends (Stops Trapped)
  acted_trap (action.Compute f) op x y ks d w s is a ds z = computed_trap op x.target (given f x.first x.second) _ y.destination d w is (computes_so f x y ks s a) ds z
  acted_trap action.Push op x y ks d w s is a ds z = absurd (no_divisor d.divisors w (statement_undivided c.setting.is_statement (act.Push x.first) d is) ds)
  acted_trap _ op x y ks d w s is a ds z = absurd (err_ok _ d is)

  operated_trap : (is_first : Bool) (op : Op) (fs : List Form) (d : Deed) (w : Shape) → AreShort fs → operated c.setting c.roles is_first held op fs ≡ Ok d → AreRead c d.reads →
      EndIsRead c d.last → d.divisors ≡ w ∷ [] → worth c w ≡ 0 → performed (F (Operates op fs)) m ≡ ends (Stops Trapped)
  operated_trap is_first op fs d w short e reads ends_read ds z =
      let r = operated_ran is_first op fs d short e reads ends_read in
      r.is ∙ acted_trap (action_of op) op r.arguments r.numbers (shape op).operands r.acts w (row_of op).suits r.acted_so r.are (ap (λ (y : Deed). y.divisors) r.same ∙ ds) z

  branches_undivided : (i : ℕ) (before : Last) (d : Deed) → branches c.setting i before ≡ Ok d → d.divisors ≡ []
  branches_undivided i (Compared a b) d e = statement_undivided c.setting.is_statement (act.Branch i a b) d e
  branches_undivided i (Tested t) d e = by c.setting.is_signed e where
    by : (b : Bool) → cond b (ends_statement c.setting (act.Branch i t (Constant 0))) (Err NotInstr) ≡ Ok d → d.divisors ≡ []
    by true e = statement_undivided c.setting.is_statement (act.Branch i t (Constant 0)) d e
    by false e = absurd (err_ok _ d e)
  branches_undivided i _ d e = absurd (err_ok _ d e)

  instruction_trap : (is_first : Bool) (before : Last) (i : Instruction) (d : Deed) (w : Shape) → IsShortLine i → instruction_did c.setting c.roles is_first held before i ≡ Ok d →
      AreRead c d.reads → EndIsRead c d.last → d.divisors ≡ w ∷ [] → worth c w ≡ 0 → performed (F i) m ≡ ends (Stops Trapped)
  instruction_trap is_first before (Relation i) d w short e reads ends_read ds z = absurd (no_divisor d.divisors w (by (is_relation (hole_at c.roles i)) e) ds) where
    by : (b : Bool) → cond b (branches c.setting i before) (Err NotInstr) ≡ Ok d → d.divisors ≡ []
    by true e = branches_undivided i before d e
    by false e = absurd (err_ok _ d e)
  instruction_trap is_first before Jump d w short e reads ends_read ds z = absurd (no_divisor d.divisors w (statement_undivided c.setting.is_statement act.Jump d e) ds)
  instruction_trap is_first before Calls d w short e reads ends_read ds z = absurd (no_divisor d.divisors w (statement_undivided c.setting.is_statement act.Call d e) ds)
  instruction_trap is_first before Ret d w short e reads ends_read ds z = absurd (err_ok _ d e)
  instruction_trap is_first before (Operates op fs) d w short e reads ends_read ds z = operated_trap is_first op fs d w short e reads ends_read ds z

  returned_undivided : (t : Shape) (i : Instruction) (d : Deed) → returned t i ≡ Ok d → d.divisors ≡ []
  returned_undivided t Ret d e = undivided (act.Return t) d e
  returned_undivided t _ d e = absurd (err_ok _ d e)

  behind_trap : (is_first : Bool) (before : Last) (i : Instruction) (d : Deed) (w : Shape) → IsShortLine i → did_behind c.setting c.roles is_first held before i ≡ Ok d →
      AreRead c d.reads → EndIsRead c d.last → d.divisors ≡ w ∷ [] → worth c w ≡ 0 → performed (F i) m ≡ ends (Stops Trapped)
  behind_trap is_first Plain i d w short e reads ends_read ds z = instruction_trap is_first Plain i d w short e reads ends_read ds z
  behind_trap is_first (Compared a b) i d w short e reads ends_read ds z = instruction_trap is_first (Compared a b) i d w short e reads ends_read ds z
  behind_trap is_first (Tested t) i d w short e reads ends_read ds z = instruction_trap is_first (Tested t) i d w short e reads ends_read ds z
  behind_trap is_first (Returning t) i d w short e reads ends_read ds z = absurd (no_divisor d.divisors w (returned_undivided t i d e) ds)
  behind_trap is_first (Ended deed) i d w short e reads ends_read ds z = absurd (err_ok _ d e)

  pub line_trap_so : (is_first : Bool) (before : Last) (ps : List Piece) (d : Deed) (w : Shape) → line_did c.setting c.roles is_first held before ps ≡ Ok d →
      AreRead c d.reads → EndIsRead c d.last → d.divisors ≡ w ∷ [] → worth c w ≡ 0 → performed (filled_line c.program ps c.holes c.own) m ≡ ends (Stops Trapped)
  unfolding line_did
  line_trap_so is_first before ps d w e reads ends_read ds z =
      let i = chained (judging.read (instruction_of ps)) (did_behind c.setting c.roles is_first held before) d e in
      let is = read_is (instruction_of ps) i.first i.is in
      subst (λ o. performed (filled_instruction c.program c.holes c.own o) m ≡ ends (Stops Trapped)) (sym is)
      (behind_trap is_first before i.first d w (instruction_short ps i.first is) i.then_so reads ends_read ds z)

pub lines_do : LinesDo
lines_do c held m is_first before ps d h k z e reads ends_read some = line_did_so c held m h is_first before ps d k z e reads ends_read some

pub lines_trap : LinesTrap
lines_trap c held m is_first before ps d w h e reads ends_read ds z = line_trap_so c held m h is_first before ps d w e reads ends_read ds z
