-- A code whose branches go where a chain of jumps leads behaves alike.
use Rattle.std.proofs.Common.{◌≡◌, ℕ, zero, suc, ◌+◌, Bool, true, false, cond, List, [], ◌∷◌, drop, Option, Some, None, refl, sym, ap, subst, ◌∙◌, arith}
use Rattle.std.specs.Prelude.{◌||◌, ◌&&◌, slice_get}
use Rattle.std.specs.Option.{option_or}
use Rattle.vax_core.specs.declared.op.Op.{Op}
use Rattle.vax_core.specs.declared.operand.Operand.{Operand}
use Rattle.vax_core.specs.declared.code.Code.{Code}
use Rattle.vax_core.specs.declared.code.Instr.{Instr}
use Rattle.vax_core.specs.declared.code.CodeItem.{CodeItem}
use Rattle.vax_core.specs.declared.code.CodeItem.TheVariants as item_kind
use Rattle.vax_machine.specs.declared.function.Action.{Action}
use Rattle.vax_machine.specs.declared.function.Action.TheVariants.{Branch}
use Rattle.vax_machine.specs.declared.function.Test.{Test}
use Rattle.vax_machine.specs.Functions.{action_of}
use Rattle.vax_machine.specs.Labels.{skipped, next_item, is_label, has_label, label_place, double_at}
use Rattle.vax_machine.specs.Labels.{double_label, is_call, is_service, undefined_operand, undefined_target, undefined_at, undefined_label}
use Rattle.vax_machine.specs.Step.{step_of}
use Rattle.vax_machine.specs.Calls.{entry_mask}
use Rattle.vax_machine.specs.Loading.{Loads}
use Rattle.vax_alike.specs.Corresponding.{Somewhere, is_instr, Targets, Meets, Neither, Both, Alone, EnterAlike, Correspond}
use Rattle.vax_alike.proofs.Beginning.{corresponding_runs_are_alike}
use Rattle.vax_passes.proofs.Thinning.{first_none, second_none, both_none, loads_by, has_main, names_defined, instr_defined, same_double_at, target_there}
use Rattle.vax_passes.proofs.Plain.{Always, Any, any_behind, all_carried, kept_same}
use Rattle.vax_passes.proofs.NextJumps.{jump_acts}
use Rattle.vax_codes.specs.Chains.{Leads, here, on, Turned, nothing, kept, IsTurned, TurnedIsAlike}
use Rattle.vax_codes.specs.Chains.{turned as one_turned}

module _ (all : List CodeItem) where
  -- ---- both codes, item by item

  -- an item as it was, or a branch that goes to where a chain leads from its label
  pub data Turns (x y : CodeItem) : Type 0 where
    as_it_was : y ≡ x → Turns x y
    turned : (i j : Instr) (t : Test) (n : ℕ) (l m : List ℕ) → x ≡ item_kind.Instr i → y ≡ item_kind.Instr j → action_of i.op ≡ Branch t → j.op ≡ i.op → j.operands ≡ i.operands
        → i.target ≡ Some l → j.target ≡ Some m → Leads all (suc n) l m → Turns x y

  abbrev pub AreTurned : List CodeItem → List CodeItem → Type 0
  AreTurned [] [] = Unit {0}
  AreTurned [] (y ∷ ys) = ⊥
  AreTurned (x ∷ xs) [] = ⊥
  AreTurned (x ∷ xs) (y ∷ ys) = Turns x y × AreTurned xs ys

  pub are_turned : {k : ℕ} {xs ys : List CodeItem} → Turned all k xs ys → AreTurned xs ys
  are_turned nothing = tt
  are_turned (kept x r) = (as_it_was refl, are_turned r)
  are_turned (one_turned i t n l m act target leads ends r) = (turned i (record i { target = Some m }) t n l m refl refl act refl refl target refl leads, are_turned r)

  -- ---- what is the same of both

  skip_more : (x : CodeItem) (xs ys : List CodeItem) → skipped ys ≡ skipped xs → skipped (x ∷ ys) ≡ skipped (x ∷ xs)
  skip_more (item_kind.Label n) xs ys e = ap (λ (k : ℕ). k + 1) e
  skip_more (item_kind.Globl n) xs ys e = ap (λ (k : ℕ). k + 1) e
  skip_more (item_kind.Mask m) xs ys e = refl
  skip_more (item_kind.Instr i) xs ys e = refl

  skip_one : (x y : CodeItem) (xs ys : List CodeItem) → Turns x y → skipped ys ≡ skipped xs → skipped (y ∷ ys) ≡ skipped (x ∷ xs)
  skip_one x y xs ys (as_it_was is) e = ap (λ (z : CodeItem). skipped (z ∷ ys)) is ∙ skip_more x xs ys e
  skip_one x y xs ys (turned i j t n l m xi yj act op os tx ty leads) e = ap (λ (z : CodeItem). skipped (z ∷ ys)) yj ∙ sym (ap (λ (z : CodeItem). skipped (z ∷ xs)) xi)

  same_skip : (xs ys : List CodeItem) → AreTurned xs ys → skipped ys ≡ skipped xs
  same_skip [] [] h = refl
  same_skip [] (y ∷ ys) h = absurd h
  same_skip (x ∷ xs) [] h = absurd h
  same_skip (x ∷ xs) (y ∷ ys) h = skip_one x y xs ys h.0 (same_skip xs ys h.1)

  rests : (p : ℕ) (xs ys : List CodeItem) → AreTurned xs ys → AreTurned (drop p xs) (drop p ys)
  rests zero xs ys h = h
  rests (suc p) [] [] h = tt
  rests (suc p) [] (y ∷ ys) h = absurd h
  rests (suc p) (x ∷ xs) [] h = absurd h
  rests (suc p) (x ∷ xs) (y ∷ ys) h = rests p xs ys h.1

  pub same_next : (xs ys : List CodeItem) (p : ℕ) → AreTurned xs ys → next_item ys p ≡ next_item xs p
  same_next xs ys p h = ap (λ (k : ℕ). p + k) (same_skip (drop p xs) (drop p ys) (rests p xs ys h))

  label_one : (x y : CodeItem) (l : List ℕ) → Turns x y → is_label y l ≡ is_label x l
  label_one x y l (as_it_was is) = ap (λ (z : CodeItem). is_label z l) is
  label_one x y l (turned i j t n k m xi yj act op os tx ty leads) = ap (λ (z : CodeItem). is_label z l) yj ∙ sym (ap (λ (z : CodeItem). is_label z l) xi)

  pub same_place : (xs ys : List CodeItem) (l : List ℕ) → AreTurned xs ys → label_place ys l ≡ label_place xs l
  same_place [] [] l h = refl
  same_place [] (y ∷ ys) l h = absurd h
  same_place (x ∷ xs) [] l h = absurd h
  same_place (x ∷ xs) (y ∷ ys) l h = ap (λ (b : Bool). cond b 0 (label_place ys l + 1)) (label_one x y l h.0) ∙ ap (λ (k : ℕ). cond (is_label x l) 0 (k + 1)) (same_place xs ys l h.1)

  same_has : (xs ys : List CodeItem) (l : List ℕ) → AreTurned xs ys → has_label ys l ≡ has_label xs l
  same_has [] [] l h = refl
  same_has [] (y ∷ ys) l h = absurd h
  same_has (x ∷ xs) [] l h = absurd h
  same_has (x ∷ xs) (y ∷ ys) l h = ap (λ (b : Bool). b || has_label ys l) (label_one x y l h.0) ∙ ap (λ (b : Bool). is_label x l || b) (same_has xs ys l h.1)

  double_one : (x y : CodeItem) (xs : List CodeItem) (o : Option (List ℕ)) → Turns x y → double_at y xs o ≡ double_at x xs o
  double_one x y xs o (as_it_was is) = ap (λ (z : CodeItem). double_at z xs o) is
  double_one x y xs o (turned i j t n k m xi yj act op os tx ty leads) = ap (λ (z : CodeItem). double_at z xs o) yj ∙ sym (ap (λ (z : CodeItem). double_at z xs o) xi)

  same_double : (xs ys : List CodeItem) → AreTurned xs ys → double_label ys ≡ double_label xs
  same_double [] [] h = refl
  same_double [] (y ∷ ys) h = absurd h
  same_double (x ∷ xs) [] h = absurd h
  same_double (x ∷ xs) (y ∷ ys) h = double_one x y ys (double_label ys) h.0 ∙ same_double_at x xs ys (double_label xs) (double_label ys) (λ l. same_has xs ys l h.1) (same_double xs ys h.1)

  -- the items at one place
  abbrev pub AtOnce : Option CodeItem → Option CodeItem → Type 0
  AtOnce None None = Unit {0}
  AtOnce None (Some y) = ⊥
  AtOnce (Some x) None = ⊥
  AtOnce (Some x) (Some y) = Turns x y

  pub at_once : (p : ℕ) (xs ys : List CodeItem) → AreTurned xs ys → AtOnce (slice_get xs p) (slice_get ys p)
  at_once zero [] [] h = tt
  at_once (suc p) [] [] h = tt
  at_once p [] (y ∷ ys) h = absurd h
  at_once p (x ∷ xs) [] h = absurd h
  at_once zero (x ∷ xs) (y ∷ ys) h = h.0
  at_once (suc p) (x ∷ xs) (y ∷ ys) h = at_once p xs ys h.1

module _ (c d : Code) (turns : IsTurned c d) (loads : Loads c) where
  abbrev cs : List CodeItem
  cs = c.items

  abbrev ds : List CodeItem
  ds = d.items

  abbrev all_turned : AreTurned cs cs ds
  all_turned = are_turned cs turns.items

  -- ---- it can be run

  -- a chain's end is a label of the code, since a jump goes there
  lands : (n : ℕ) (l m : List ℕ) → Leads cs (suc n) l m → has_label cs m ≡ true
  lands zero l m (on i at op target here) =
      target_there cs false m (sym (ap (λ (t : Option (List ℕ)). undefined_target cs false t) target)
      ∙ sym (ap (λ (o : Op). undefined_target cs (is_call (action_of o)) i.target) op)
      ∙ instr_defined cs c.area cs (next_item cs (label_place cs l)) i (names_defined c loads) at)
  lands (suc n) l m (on {k = k} i at op target leads) = lands n k m leads

  branch_target : (t : Test) (os : List Operand) (l : List ℕ) → has_label cs l ≡ true
      → option_or (undefined_operand c.area os) (undefined_target ds (is_call (Branch t)) (Some l)) ≡ undefined_operand c.area os
  branch_target t os l e = ap (λ (b : Bool). option_or (undefined_operand c.area os) (cond b None (Some l))) (same_has cs cs ds l all_turned ∙ e) ∙ none_last (undefined_operand c.area os)
    where
      none_last : {A : Type 0} (o : Option A) → option_or o None ≡ o
      none_last None = refl
      none_last (Some x) = refl

  one_defined : (x y : CodeItem) → Turns cs x y → undefined_at c.area cs x ≡ None → undefined_at c.area ds y ≡ None
  one_defined x y (as_it_was is) e = ap (λ (z : CodeItem). undefined_at c.area ds z) is ∙ same_at x ∙ e
    where
      same_target : (call : Bool) (t : Option (List ℕ)) → undefined_target ds call t ≡ undefined_target cs call t
      same_target call None = refl
      same_target call (Some t) = ap (λ (b : Bool). cond ((call && is_service t) || b) None (Some t)) (same_has cs cs ds t all_turned)

      same_at : (z : CodeItem) → undefined_at c.area ds z ≡ undefined_at c.area cs z
      same_at (item_kind.Label n) = refl
      same_at (item_kind.Globl n) = refl
      same_at (item_kind.Mask m) = refl
      same_at (item_kind.Instr i) = ap (λ (o : Option (List ℕ)). option_or (undefined_operand c.area i.operands) o) (same_target (is_call (action_of i.op)) i.target)
  one_defined x y (turned i j t n l m xi yj act op os tx ty leads) e =
      ap (λ (z : CodeItem). undefined_at c.area ds z) yj
      ∙ ap (λ (o : Op). option_or (undefined_operand c.area j.operands) (undefined_target ds (is_call (action_of o)) j.target)) op
      ∙ ap (λ (a : Action). option_or (undefined_operand c.area j.operands) (undefined_target ds (is_call a) j.target)) act
      ∙ ap (λ (u : Option (List ℕ)). option_or (undefined_operand c.area j.operands) (undefined_target ds (is_call (Branch t)) u)) ty
      ∙ branch_target t j.operands m (lands n l m leads)
      ∙ ap (λ (o : List Operand). undefined_operand c.area o) os
      ∙ first_none (undefined_operand c.area i.operands) _ (sym (ap (λ (z : CodeItem). undefined_at c.area cs z) xi) ∙ e)

  all_defined : (xs ys : List CodeItem) → AreTurned cs xs ys → undefined_label xs c.area cs ≡ None → undefined_label ys c.area ds ≡ None
  all_defined [] [] h e = refl
  all_defined [] (y ∷ ys) h e = absurd h
  all_defined (x ∷ xs) [] h e = absurd h
  all_defined (x ∷ xs) (y ∷ ys) h e = both_none _ _ (one_defined x y h.0 (first_none _ _ e)) (all_defined xs ys h.1 (second_none (undefined_at c.area cs x) _ e))

  turned_loads : Loads d
  turned_loads = loads_by c d turns.area (λ l. same_has cs cs ds l all_turned) (same_double cs cs ds all_turned) (all_defined cs ds all_turned) loads

  -- ---- its places

  data At (k p q : ℕ) : Type 0 where
    Same : p ≡ q → At k p q
    Chained : (l m : List ℕ) → Leads cs k l m → p ≡ label_place cs l → q ≡ label_place cs m → At k p q

  labels : (l : List ℕ) → has_label cs l ≡ true → Somewhere At (label_place cs l) (label_place ds l)
  labels l e = (0, Same (sym (same_place cs cs ds l all_turned)))

  behind_next : (p q : ℕ) → p ≡ q → Somewhere At (next_item cs p + 1) (next_item ds q + 1)
  behind_next p q e = (0, Same (ap (λ (x : ℕ). next_item cs x + 1) e ∙ sym (ap (λ (x : ℕ). x + 1) (same_next cs cs ds q all_turned))))

  -- the items that are next at one place
  next_once : (p q : ℕ) → p ≡ q → AtOnce cs (slice_get cs (next_item cs p)) (slice_get ds (next_item ds q))
  next_once p q e =
      subst (λ (x : ℕ). AtOnce cs (slice_get cs (next_item cs p)) (slice_get ds x)) (ap (λ (x : ℕ). next_item cs x) e ∙ sym (same_next cs cs ds q all_turned))
      (at_once cs (next_item cs p) cs ds all_turned)

  module _ (k p q : ℕ) (e : p ≡ q) where
    instr_by : (x : CodeItem) → slice_get cs (next_item cs p) ≡ Some x → slice_get ds (next_item ds q) ≡ Some x → Meets cs ds At Always Any k p q
    instr_by (item_kind.Label n) a b = Neither (ap is_instr a) (ap is_instr b)
    instr_by (item_kind.Globl n) a b = Neither (ap is_instr a) (ap is_instr b)
    instr_by (item_kind.Mask m) a b = Neither (ap is_instr a) (ap is_instr b)
    instr_by (item_kind.Instr i) a b = Both i i a b (kept_same cs ds At labels i p q (instr_defined cs c.area cs (next_item cs p) i (names_defined c loads) a) (λ f. behind_next p q e))

    once_by : (o u : Option CodeItem) → slice_get cs (next_item cs p) ≡ o → slice_get ds (next_item ds q) ≡ u → AtOnce cs o u → Meets cs ds At Always Any k p q
    once_by None None a b h = Neither (ap is_instr a) (ap is_instr b)
    once_by None (Some y) a b h = absurd h
    once_by (Some x) None a b h = absurd h
    once_by (Some x) (Some y) a b (as_it_was is) = instr_by x a (b ∙ ap (λ (z : CodeItem). Some z) is)
    once_by (Some x) (Some y) a b (turned i j t n l m xi yj act op os tx ty leads) =
        Both i j (a ∙ ap (λ (z : CodeItem). Some z) xi) (b ∙ ap (λ (z : CodeItem). Some z) yj)
        (record {
          op = op;
          operands = os;
          targets = subst (λ (y : Action). Targets cs ds At Always Any y i.target j.target) (sym act)
              (subst (λ (y : Option (List ℕ)). Targets cs ds At Always Any (Branch t) y j.target) (sym tx)
              (m, ty, (suc n, Chained l m leads refl (same_place cs cs ds m all_turned))));
          carries = all_carried cs ds At (action_of i.op) i.target p (next_item cs p + 1);
          behind = λ f. behind_next p q e;
        })

    same_meets : Meets cs ds At Always Any k p q
    same_meets = once_by _ _ refl refl (next_once p q e)

    enter_by : (o u : Option CodeItem) → AtOnce cs o u → entry_mask u ≡ entry_mask o
    enter_by None None h = refl
    enter_by None (Some y) h = absurd h
    enter_by (Some x) None h = absurd h
    enter_by (Some x) (Some y) (as_it_was is) = ap (λ (z : CodeItem). entry_mask (Some z)) is
    enter_by (Some x) (Some y) (turned i j t n l m xi yj act op os tx ty leads) = ap (λ (z : CodeItem). entry_mask (Some z)) yj ∙ sym (ap (λ (z : CodeItem). entry_mask (Some z)) xi)

    same_enter : EnterAlike cs ds At p q
    same_enter = record { mask = enter_by _ _ (next_once p q e); behind = λ m f. behind_next p q e }

  chained_by : (k p q : ℕ) (l m : List ℕ) → Leads cs k l m → p ≡ label_place cs l → q ≡ label_place cs m → Meets cs ds At Always Any k p q
  chained_by k p q l m here a b = same_meets k p q (a ∙ sym b)
  chained_by k p q l m (on {n = n} {k = to} i at op target leads) a b =
      Alone (label_place cs to) n (omega arith) (Chained to m leads refl b)
      (λ s items place going ready. record {
        conditions = s.conditions;
        acts = jump_acts s cs p i to items place (ap (λ (x : ℕ). slice_get cs (next_item cs x)) a ∙ at) op target;
        negative = refl;
        zero = refl;
        carry = λ t. (tt, refl);
      })

  meets : (k p q : ℕ) → At k p q → Meets cs ds At Always Any k p q
  meets k p q (Same e) = same_meets k p q e
  meets k p q (Chained l m leads a b) = chained_by k p q l m leads a b

  stand : Correspond c d At Always Any
  stand = record {
    area = turns.area;
    main = has_main c loads;
    enters = λ l e. same_enter 0 (label_place cs l) (label_place ds l) (sym (same_place cs cs ds l all_turned));
    meets = meets;
    begins = λ input bytes e. tt;
    goes_on = λ m e g r. any_behind (step_of m);
  }

pub turned_is_alike : TurnedIsAlike
turned_is_alike c d turns = record {
  loads = λ loads. turned_loads c d turns loads;
  runs = λ loads input bytes. corresponding_runs_are_alike (At c d turns loads) Always Any c d (stand c d turns loads) input bytes;
}
