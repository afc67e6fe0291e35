-- A relation between runs that is kept by stops, bytes and counts is kept by every phrase and every task.
use Rattle.std.proofs.Common.{◌≡◌, ℕ, zero, suc, ◌<◌, ◌≤◌, List, [], ◌∷◌, Option, Some, None, refl, ap, arith}
use Rattle.std.specs.Prelude.{slice_get, nat_lt, Bool, true, false, if◌then◌else◌}
use Rattle.gg_base.specs.Arithmetic.{add32}
use Rattle.gg_base.specs.declared.run.End.{End}
use Rattle.gg_base.specs.declared.run.End.TheVariants.{Ended, Trapped, Wild, Deep, Spent, Broken}
use Rattle.gg_base.specs.Runs.{Runs, stop, byte_first, emit, one_first, counted}
use Rattle.tree_core.specs.declared.program.Object.{Object}
use Rattle.c_types.specs.declared.types.CType.{CType}
use Rattle.c_types.specs.declared.typed.Callee.{Callee}
use Rattle.c_types.specs.declared.typed.Callee.TheVariants as callees
use Rattle.c_types.specs.declared.typed.Direction.{Direction}
use Rattle.c_types.specs.declared.typed.Moment.{Moment}
use Rattle.c_types.specs.Constants.{converted, apply, distance}
use Rattle.c_types.specs.Typed.{APlace, VariableAt, PointedBy, ElementBy, AnExpression, Constant, LiteralAt, ArrayAt, ReadOf, SizeOfExpression, SizeOf, AddressOf, CallOf, StepOf}
use Rattle.c_types.specs.Typed.{UnaryOf, CastTo, ConvertTo, ArithmeticOf, CompareOf, BothOf, EitherOf, AdvanceOf, AdvanceByOf, RetreatOf, DistanceOf, ChoiceOf, AssignTo}
use Rattle.c_types.specs.Typed.{ArithmeticAssignTo, AdvanceAssignTo, RetreatAssignTo, CommaOf, SomeExpressions, NoExpressions, MoreExpressions}
use Rattle.c_program.specs.Statements.{ADeclaration, KeepOf, ClearOf, BeginOf, StoreOf, ZerosOf, AnAction, SomeActions, NoActions, MoreActions, DeclareOf, BlockOf, EvaluateOf, BreakOf, ContinueOf}
use Rattle.c_program.specs.Statements.{ReturnOf, IfOf, IfElseOf, WhileOf, DoOf, ForOf}
use Rattle.c_program.specs.Programs.{ARoutine, AProgram}
use Rattle.c_meaning.specs.declared.store.Spot.{Spot}
use Rattle.c_meaning.specs.declared.store.Spot.TheVariants.{Local, Parameter, Memory, InBlock}
use Rattle.c_meaning.specs.declared.flow.Flow.{Flow}
use Rattle.c_meaning.specs.declared.flow.Flow.TheVariants.{Onward, Broke, Continued, Returned}
use Rattle.c_meaning.specs.State.{State, address, spot_of, block_address, held, put_local, put, put_zeros}
use Rattle.c_meaning.specs.Values.{Rest, RestAll, RestAt, Behind, ALoop, plain_loop, for_loop, Task, Look, Body, Next}
use Rattle.c_meaning.specs.Values.{chosen, or_wild, or_trap, written, read_at, store_at, stepped, of_moment, step_at}
use Rattle.c_meaning.specs.Values.{address_of, located}
use Rattle.c_meaning.specs.Blocks.{int, pointer_number, area_number, beginning, with_block, claimed, released, block_set, zeros_set}
use Rattle.c_meaning.specs.Calls.{passed, put_char, got, back, begun, performed, called, call}
use Rattle.c_meaning.specs.Meaning.{expr, place, arguments, dropped, tested, turned, turn_by, look_by, returned}
use Rattle.c_meaning.specs.Meaning.{local_set, declared, followed, stmt, stmts, task}
use Rattle.c_meaning.specs.Programs.{task_at, means}

-- what the meaning stops with
abbrev pub IsStop : End → Type 0
IsStop (Ended v) = Unit {0}
IsStop Trapped = Unit {0}
IsStop Wild = Unit {0}
IsStop Deep = Unit {0}
IsStop Spent = ⊥
IsStop (Broken kind) = ⊥

-- A relation for each number of counted turns and calls, kept by all that the meaning is made of.
pub record Kept (R : ℕ → Runs → Runs → Type 0) : Type 0 where
  pub none : (r q : Runs) → R zero r q
  pub stops : (k : ℕ) (e : End) → IsStop e → R k (stop e) (stop e)
  pub emits : (k b : ℕ) (r q : Runs) → R k r q → R k (emit b r) (emit b q)
  pub counts : (k : ℕ) (r q : Runs) → R k r q → R (suc k) (counted r) (counted q)
  pub weakens : (j k : ℕ) (r q : Runs) → j ≤ k → R k r q → R j r q

-- what follows is related
abbrev pub OnRest : (ℕ → Runs → Runs → Type 0) → ℕ → Rest → Rest → Type 0
OnRest R k κ μ = (v : ℕ) (st : State) → R k (κ v st) (μ v st)

abbrev pub OnState : (ℕ → Runs → Runs → Type 0) → ℕ → (State → Runs) → (State → Runs) → Type 0
OnState R k κ μ = (st : State) → R k (κ st) (μ st)

abbrev pub OnBehind : (ℕ → Runs → Runs → Type 0) → ℕ → Behind → Behind → Type 0
OnBehind R k κ μ = (w : Flow) (st : State) → R k (κ w st) (μ w st)

abbrev pub OnAt : (ℕ → Runs → Runs → Type 0) → ℕ → RestAt → RestAt → Type 0
OnAt R k κ μ = (t : CType) (s : Spot) (st : State) → R k (κ t s st) (μ t s st)

-- the tasks are related where what follows them is
abbrev pub OnNext : (ℕ → Runs → Runs → Type 0) → ℕ → Next → Next → Type 0
OnNext R k f g = (t : Task) (κ μ : Behind) → OnBehind R k κ μ → (st : State) → R k (f t κ st) (g t μ st)

module _ (R : ℕ → Runs → Runs → Type 0) (kept : Kept R) where
  counted_kept : (k : ℕ) (r q : Runs) → ((j : ℕ) → suc j ≤ k → R j r q) → R k (counted r) (counted q)
  counted_kept zero r q h = kept.none (counted r) (counted q)
  counted_kept (suc k) r q h = kept.counts k r q (h k (omega arith))

  chosen_kept : (k x : ℕ) (r q r' q' : Runs) → R k r q → R k r' q' → R k (chosen x r r') (chosen x q q')
  chosen_kept k zero r q r' q' h h' = h'
  chosen_kept k (suc x) r q r' q' h h' = h

  wild_kept : (k : ℕ) (o : Option ℕ) (κ μ : Rest) → OnRest R k κ μ → OnState R k (or_wild o κ) (or_wild o μ)
  wild_kept k None κ μ h st = kept.stops k Wild tt
  wild_kept k (Some v) κ μ h st = h v st

  trap_kept : (k : ℕ) (o : Option ℕ) (κ μ : Rest) → OnRest R k κ μ → OnState R k (or_trap o κ) (or_trap o μ)
  trap_kept k None κ μ h st = kept.stops k Trapped tt
  trap_kept k (Some v) κ μ h st = h v st

  written_kept : (k : ℕ) (o : Option State) (v : ℕ) (κ μ : Rest) → OnRest R k κ μ → R k (written o v κ) (written o v μ)
  written_kept k None v κ μ h = kept.stops k Wild tt
  written_kept k (Some st) v κ μ h = h v st

  read_kept : (k : ℕ) (t : CType) (s : Spot) (κ μ : Rest) → OnRest R k κ μ → OnState R k (read_at t s κ) (read_at t s μ)
  read_kept k t s κ μ h st = wild_kept k (held t s st) κ μ h st

  store_kept : (k : ℕ) (t : CType) (s : Spot) (v : ℕ) (κ μ : Rest) → OnRest R k κ μ → OnState R k (store_at t s v κ) (store_at t s v μ)
  store_kept k t s v κ μ h st = written_kept k (put t s (converted t v) st) (converted t v) κ μ h

  step_kept : (k : ℕ) (m : Moment) (by : Direction) (t : CType) (s : Spot) (κ μ : Rest) → OnRest R k κ μ → OnState R k (step_at m by t s κ) (step_at m by t s μ)
  step_kept k m by t s κ μ h = read_kept k t s _ _ (λ x. store_kept k t s (stepped by t x) _ _ (λ y. h (of_moment m x y)))

  address_kept : (k : ℕ) (s : Spot) (κ μ : Rest) → OnRest R k κ μ → OnState R k (address_of s κ) (address_of s μ)
  address_kept k (Local n) κ μ h st = kept.stops k Wild tt
  address_kept k (Parameter n) κ μ h st = kept.stops k Wild tt
  address_kept k (Memory a) κ μ h st = h a st
  address_kept k (InBlock o) κ μ h st = wild_kept k (block_address st.call o) κ μ h st

  located_kept : (k : ℕ) (o : Option Spot) (κ μ : Spot → State → Runs) → ((s : Spot) (st : State) → R k (κ s st) (μ s st)) → OnState R k (located o κ) (located o μ)
  located_kept k None κ μ h st = kept.stops k Wild tt
  located_kept k (Some s) κ μ h st = h s st

  passed_kept : (k : ℕ) (ts : List CType) (v : ℕ) (κ μ : ℕ → List CType → State → Runs) → ((x : ℕ) (us : List CType) (st : State) → R k (κ x us st) (μ x us st))
      → OnState R k (passed ts v κ) (passed ts v μ)
  passed_kept k [] v κ μ h st = kept.stops k Wild tt
  passed_kept k (t ∷ ts) v κ μ h st = h _ ts st

  put_kept : (k : ℕ) (vs : List ℕ) (κ μ : Rest) → OnRest R k κ μ → OnState R k (put_char vs κ) (put_char vs μ)
  put_kept k [] κ μ h st = kept.stops k Wild tt
  put_kept k (v ∷ vs) κ μ h st = kept.emits k _ _ _ (h _ st)

  got_kept : (k : ℕ) (i : List ℕ) (κ μ : Rest) → OnRest R k κ μ → OnState R k (got i κ) (got i μ)
  got_kept k [] κ μ h st = h _ st
  got_kept k (b ∷ bs) κ μ h st = h b _

  set_kept : (p : AProgram) (f g : Next) (k n v : ℕ) (κ μ : State → Runs) → OnState R k κ μ → OnState R k (local_set p f n v κ) (local_set p g n v μ)
  set_kept p f g k n v κ μ h st = written_kept k (put_local n v st) v (λ v. κ) (λ v. μ) (λ v. h)

  stored_kept : (k : ℕ) (t : CType) (o v : ℕ) (κ μ : State → Runs) → OnState R k κ μ → OnState R k (block_set t o v κ) (block_set t o v μ)
  stored_kept k t o v κ μ h st = written_kept k (put t (InBlock o) v st) v (λ v. κ) (λ v. μ) (λ v. h)

  zeros_kept : (k : ℕ) (t : CType) (o count : ℕ) (κ μ : State → Runs) → OnState R k κ μ → OnState R k (zeros_set t o count κ) (zeros_set t o count μ)
  zeros_kept k t o count κ μ h st = written_kept k (put_zeros t o count (Some st)) 0 (λ v. κ) (λ v. μ) (λ v. h)

  -- a block is taken, and given back
  claimed_kept : (k : ℕ) (objects : List Object) (block : ℕ) (κ μ : State → Runs) → OnState R k κ μ → OnState R k (claimed objects block κ) (claimed objects block μ)
  claimed_kept k objects zero κ μ h = h
  claimed_kept k objects (suc n) κ μ h = wild_kept k (address objects (pointer_number objects)) _ _
      (λ pointer. read_kept k int (Memory pointer) _ _ (λ p. wild_kept k (address objects (area_number objects)) _ _
      (λ area. trap_kept k (beginning area (suc n) p) _ _ (λ b. store_kept k int (Memory pointer) (add32 b (suc n)) _ _ (λ v st. h (with_block b st))))))

  released_kept : (k : ℕ) (objects : List Object) (block : ℕ) (κ μ : Behind) → OnBehind R k κ μ → OnBehind R k (released objects block κ) (released objects block μ)
  released_kept k objects zero κ μ h w = h w
  released_kept k objects (suc n) κ μ h w = λ st. wild_kept k st.call.block _ _
      (λ b. wild_kept k (address objects (pointer_number objects)) _ _ (λ pointer. store_kept k int (Memory pointer) b _ _ (λ v. h w))) st

  followed_kept : (p : AProgram) (f g : Next) (k : ℕ) (κ μ : Behind) (go ho : State → Runs) → OnBehind R k κ μ → OnState R k go ho → OnBehind R k (followed p f κ go) (followed p g μ ho)
  followed_kept p f g k κ μ go ho h i Onward st = i st
  followed_kept p f g k κ μ go ho h i Broke st = h Broke st
  followed_kept p f g k κ μ go ho h i Continued st = h Continued st
  followed_kept p f g k κ μ go ho h i (Returned v) st = h (Returned v) st

  turned_kept : (p : AProgram) (f g : Next) (k : ℕ) (κ μ : Behind) (go ho : State → Runs) → OnBehind R k κ μ → OnState R k go ho → OnBehind R k (turned p f κ go) (turned p g μ ho)
  turned_kept p f g k κ μ go ho h i Onward st = i st
  turned_kept p f g k κ μ go ho h i Broke st = h Onward st
  turned_kept p f g k κ μ go ho h i Continued st = i st
  turned_kept p f g k κ μ go ho h i (Returned v) st = h (Returned v) st

  module _ (p : AProgram) (n : ℕ) (f g : Next) (close : (k : ℕ) → k ≤ n → OnNext R k f g) where
    performed_kept : (k : ℕ) → k ≤ n → (h : ARoutine) (κ μ : Behind) → OnBehind R k κ μ → OnState R k (performed p.objects f h κ) (performed p.objects g h μ)
    performed_kept k le h κ μ s = claimed_kept k p.objects h.block (f (Body h.body) (released p.objects h.block κ)) (g (Body h.body) (released p.objects h.block μ))
        (close k le (Body h.body) (released p.objects h.block κ) (released p.objects h.block μ) (released_kept k p.objects h.block κ μ s))

    entered_kept : (k : ℕ) → k ≤ n → (b : Bool) (h : ARoutine) (vs : List ℕ) (κ μ : Rest) → OnRest R k κ μ → (st : State)
        → R k (if b then performed p.objects f h (back κ st) (begun h vs st) else stop Deep) (if b then performed p.objects g h (back μ st) (begun h vs st) else stop Deep)
    entered_kept k le true h vs κ μ s st = performed_kept k le h (back κ st) (back μ st) (λ w st'. s _ _) (begun h vs st)
    entered_kept k le false h vs κ μ s st = kept.stops k Deep tt

    called_kept : (k : ℕ) → k ≤ suc n → (o : Option ARoutine) (vs : List ℕ) (κ μ : Rest) → OnRest R k κ μ → OnState R k (called p.objects o f vs κ) (called p.objects o g vs μ)
    called_kept k le None vs κ μ s st = kept.stops k Wild tt
    called_kept k le (Some h) vs κ μ s st =
        counted_kept k _ _ (λ j lt. entered_kept j (omega arith) (nat_lt st.active 1024) h vs κ μ (λ v st'. kept.weakens j k _ _ (omega arith) (s v st')) st)

    call_kept : (k : ℕ) → k ≤ suc n → (c : Callee) (vs : List ℕ) (κ μ : Rest) → OnRest R k κ μ → OnState R k (call p f c vs κ) (call p g c vs μ)
    call_kept k le (callees.Defined i) vs κ μ h st = called_kept k le (slice_get p.routines i) vs κ μ h st
    call_kept k le callees.Putchar vs κ μ h st = put_kept k vs κ μ h st
    call_kept k le callees.Getchar vs κ μ h st = got_kept k st.input κ μ h st

    mutual
      pub expr_kept : (e : AnExpression) (k : ℕ) → k ≤ suc n → (κ μ : Rest) → OnRest R k κ μ → OnState R k (expr p f e κ) (expr p g e μ)
      expr_kept (Constant x) k le κ μ h = h x
      expr_kept (LiteralAt x size) k le κ μ h = wild_kept k (address p.objects x) κ μ h
      expr_kept (ArrayAt t v size) k le κ μ h = located_kept k (spot_of p.objects v) _ _ (λ s. address_kept k s κ μ h)
      expr_kept (ReadOf a) k le κ μ h = place_kept a k le _ _ (λ t s. read_kept k t s κ μ h)
      expr_kept (SizeOfExpression x e) k le κ μ h = h x
      expr_kept (SizeOf x) k le κ μ h = h x
      expr_kept (AddressOf t a) k le κ μ h = place_kept a k le _ _ (λ t s. address_kept k s κ μ h)
      expr_kept (CallOf t c to es) k le κ μ h = arguments_kept es to k le _ _ (λ vs. call_kept k le c vs κ μ h)
      expr_kept (StepOf m by a) k le κ μ h = place_kept a k le _ _ (λ t s. step_kept k m by t s κ μ h)
      expr_kept (UnaryOf op e) k le κ μ h = expr_kept e k le _ _ (λ v. h _)
      expr_kept (CastTo t e) k le κ μ h = expr_kept e k le _ _ (λ v. h _)
      expr_kept (ConvertTo t e) k le κ μ h = expr_kept e k le _ _ (λ v. h _)
      expr_kept (ArithmeticOf op l r) k le κ μ h = expr_kept l k le _ _ (λ x. expr_kept r k le _ _ (λ y. trap_kept k (apply op x y) κ μ h))
      expr_kept (CompareOf rel l r) k le κ μ h = expr_kept l k le _ _ (λ x. expr_kept r k le _ _ (λ y. h _))
      expr_kept (BothOf l r) k le κ μ h = expr_kept l k le _ _ (λ x st. chosen_kept k x _ _ _ _ (expr_kept r k le _ _ (λ y. h _) st) (h 0 st))
      expr_kept (EitherOf l r) k le κ μ h = expr_kept l k le _ _ (λ x st. chosen_kept k x _ _ _ _ (h 1 st) (expr_kept r k le _ _ (λ y. h _) st))
      expr_kept (AdvanceOf t l r) k le κ μ h = expr_kept l k le _ _ (λ x. expr_kept r k le _ _ (λ y. h _))
      expr_kept (AdvanceByOf t l r) k le κ μ h = expr_kept l k le _ _ (λ x. expr_kept r k le _ _ (λ y. h _))
      expr_kept (RetreatOf t l r) k le κ μ h = expr_kept l k le _ _ (λ x. expr_kept r k le _ _ (λ y. h _))
      expr_kept (DistanceOf t l r) k le κ μ h = expr_kept l k le _ _ (λ x. expr_kept r k le _ _ (λ y. trap_kept k (distance t x y) κ μ h))
      expr_kept (ChoiceOf t c l r) k le κ μ h = expr_kept c k le _ _ (λ x st. chosen_kept k x _ _ _ _ (expr_kept l k le κ μ h st) (expr_kept r k le κ μ h st))
      expr_kept (AssignTo a e) k le κ μ h = place_kept a k le _ _ (λ t s. expr_kept e k le _ _ (λ v. store_kept k t s v κ μ h))
      expr_kept (ArithmeticAssignTo op a e) k le κ μ h = place_kept a k le _ _
          (λ t s. read_kept k t s _ _ (λ x. expr_kept e k le _ _ (λ y. trap_kept k (apply op x y) _ _ (λ v. store_kept k t s v κ μ h))))
      expr_kept (AdvanceAssignTo a e) k le κ μ h = place_kept a k le _ _ (λ t s. read_kept k t s _ _ (λ x. expr_kept e k le _ _ (λ y. store_kept k t s _ κ μ h)))
      expr_kept (RetreatAssignTo a e) k le κ μ h = place_kept a k le _ _ (λ t s. read_kept k t s _ _ (λ x. expr_kept e k le _ _ (λ y. store_kept k t s _ κ μ h)))
      expr_kept (CommaOf t l r) k le κ μ h = expr_kept l k le _ _ (λ x. expr_kept r k le κ μ h)

      pub place_kept : (a : APlace) (k : ℕ) → k ≤ suc n → (κ μ : RestAt) → OnAt R k κ μ → OnState R k (place p f a κ) (place p g a μ)
      place_kept (VariableAt t v) k le κ μ h = located_kept k (spot_of p.objects v) (κ t) (μ t) (h t)
      place_kept (PointedBy t e) k le κ μ h = expr_kept e k le _ _ (λ a. h t (Memory a))
      place_kept (ElementBy t e) k le κ μ h = expr_kept e k le _ _ (λ a. h t (Memory a))

      pub arguments_kept : (es : SomeExpressions) (ts : List CType) (k : ℕ) → k ≤ suc n → (κ μ : RestAll) → ((vs : List ℕ) (st : State) → R k (κ vs st) (μ vs st))
          → OnState R k (arguments p f es ts κ) (arguments p g es ts μ)
      arguments_kept NoExpressions ts k le κ μ h = h []
      arguments_kept (MoreExpressions e es) ts k le κ μ h = expr_kept e k le _ _ (λ v. passed_kept k ts v _ _ (λ x us. arguments_kept es us k le _ _ (λ xs. h _)))

    dropped_kept : (o : Option AnExpression) (k : ℕ) → k ≤ suc n → (κ μ : State → Runs) → OnState R k κ μ → OnState R k (dropped p f o κ) (dropped p g o μ)
    dropped_kept None k le κ μ h = h
    dropped_kept (Some e) k le κ μ h = expr_kept e k le _ _ (λ v. h)

    tested_kept : (c : Option AnExpression) (k : ℕ) → k ≤ suc n → (i o i' o' : State → Runs) → OnState R k i i' → OnState R k o o' → OnState R k (tested p f c i o) (tested p g c i' o')
    tested_kept None k le i o i' o' h h' = h
    tested_kept (Some e) k le i o i' o' h h' = expr_kept e k le _ _ (λ v st. chosen_kept k v _ _ _ _ (h st) (h' st))

    -- a body is related where what follows it is
    abbrev Bodies : (Behind → State → Runs) → (Behind → State → Runs) → Type 0
    Bodies b c = (k : ℕ) → k ≤ suc n → (κ μ : Behind) → OnBehind R k κ μ → OnState R k (b κ) (c μ)

    turn_kept : (l : ALoop) (b c : Behind → State → Runs) → Bodies b c → (k : ℕ) → k ≤ suc n → (κ μ : Behind) → OnBehind R k κ μ → OnState R k (turn_by p f l b κ) (turn_by p g l c μ)
    turn_kept l b c same k le κ μ h st =
        counted_kept k _ _ (λ j lt. let h' : OnBehind R j κ μ = λ w st'. kept.weakens j k _ _ (omega arith) (h w st') in
        same j (omega arith) _ _ (turned_kept p f g j κ μ _ _ h' (dropped_kept l.step j (omega arith) _ _ (close j (omega arith) (Look l) κ μ h'))) st)

    look_kept : (l : ALoop) (b c : Behind → State → Runs) → Bodies b c → (k : ℕ) → k ≤ suc n → (κ μ : Behind) → OnBehind R k κ μ → OnState R k (look_by p f l b κ) (look_by p g l c μ)
    look_kept l b c same k le κ μ h = tested_kept l.condition k le _ _ _ _ (turn_kept l b c same k le κ μ h) (h Onward)

    returned_kept : (o : Option AnExpression) (k : ℕ) → k ≤ suc n → (κ μ : Behind) → OnBehind R k κ μ → OnState R k (returned p f o κ) (returned p g o μ)
    returned_kept None k le κ μ h = h (Returned 0)
    returned_kept (Some e) k le κ μ h = expr_kept e k le _ _ (λ v. h (Returned v))

    declared_kept : (ds : List ADeclaration) (k : ℕ) → k ≤ suc n → (κ μ : Behind) → OnBehind R k κ μ → OnState R k (declared p f ds κ) (declared p g ds μ)
    declared_kept [] k le κ μ h = h Onward
    declared_kept (KeepOf object ∷ ds) k le κ μ h = declared_kept ds k le κ μ h
    declared_kept (ClearOf x ∷ ds) k le κ μ h = set_kept p f g k x 0 _ _ (declared_kept ds k le κ μ h)
    declared_kept (BeginOf x e ∷ ds) k le κ μ h = set_kept p f g k x 0 _ _ (expr_kept e k le _ _ (λ v. set_kept p f g k x v _ _ (declared_kept ds k le κ μ h)))
    declared_kept (StoreOf t o e ∷ ds) k le κ μ h = expr_kept e k le _ _ (λ v. stored_kept k t o v _ _ (declared_kept ds k le κ μ h))
    declared_kept (ZerosOf t o count ∷ ds) k le κ μ h = zeros_kept k t o count _ _ (declared_kept ds k le κ μ h)

    mutual
      pub stmt_kept : (a : AnAction) (k : ℕ) → k ≤ suc n → (κ μ : Behind) → OnBehind R k κ μ → OnState R k (stmt p f a κ) (stmt p g a μ)
      stmt_kept (DeclareOf ds) k le κ μ h = declared_kept ds k le κ μ h
      stmt_kept (BlockOf row) k le κ μ h = stmts_kept row k le κ μ h
      stmt_kept (EvaluateOf e) k le κ μ h = expr_kept e k le _ _ (λ v. h Onward)
      stmt_kept BreakOf k le κ μ h = h Broke
      stmt_kept ContinueOf k le κ μ h = h Continued
      stmt_kept (ReturnOf e) k le κ μ h = returned_kept e k le κ μ h
      stmt_kept (IfOf c a) k le κ μ h = expr_kept c k le _ _ (λ v st. chosen_kept k v _ _ _ _ (stmt_kept a k le κ μ h st) (h Onward st))
      stmt_kept (IfElseOf c a b) k le κ μ h = expr_kept c k le _ _ (λ v st. chosen_kept k v _ _ _ _ (stmt_kept a k le κ μ h st) (stmt_kept b k le κ μ h st))
      stmt_kept (WhileOf c a) k le κ μ h = look_kept (plain_loop c a) _ _ (stmt_kept a) k le κ μ h
      stmt_kept (DoOf a c) k le κ μ h = turn_kept (plain_loop c a) _ _ (stmt_kept a) k le κ μ h
      stmt_kept (ForOf i c e a) k le κ μ h = dropped_kept i k le _ _ (look_kept (for_loop c e a) _ _ (stmt_kept a) k le κ μ h)

      pub stmts_kept : (row : SomeActions) (k : ℕ) → k ≤ suc n → (κ μ : Behind) → OnBehind R k κ μ → OnState R k (stmts p f row κ) (stmts p g row μ)
      stmts_kept NoActions k le κ μ h = h Onward
      stmts_kept (MoreActions a row) k le κ μ h = stmt_kept a k le _ _ (followed_kept p f g k κ μ _ _ h (stmts_kept row k le κ μ h))

    pub task_kept : (k : ℕ) → k ≤ suc n → OnNext R k (task p f) (task p g)
    task_kept k le (Look l) κ μ h = look_kept l _ _ (stmt_kept l.body) k le κ μ h
    task_kept k le (Body row) κ μ h = stmts_kept row k le κ μ h

  -- however deep tasks may be begun, as long as that is deep enough
  pub deep_kept : (p : AProgram) (n i j : ℕ) → n ≤ i → n ≤ j → OnNext R n (task_at p i) (task_at p j)
  deep_kept p zero i j le le' t κ μ h st = kept.none _ _
  deep_kept p (suc n) zero j le le' t κ μ h st = absurd (omega arith)
  deep_kept p (suc n) (suc i) zero le le' t κ μ h st = absurd (omega arith)
  deep_kept p (suc n) (suc i) (suc j) le le' t κ μ h st =
      task_kept p n (task_at p i) (task_at p j) (λ k lek. deep_kept p k i j (omega arith) (omega arith)) (suc n) (omega arith) t κ μ h st

-- the same with fewer than n counted turns and calls
abbrev pub Same : ℕ → Runs → Runs → Type 0
Same n r q = (m : ℕ) → m < n → r m ≡ q m

counted_same : (k : ℕ) (r q : Runs) → Same k r q → Same (suc k) (counted r) (counted q)
counted_same k r q h zero lt = refl
counted_same k r q h (suc m) lt = ap one_first (h m (omega arith))

pub same_kept : Kept Same
same_kept = record {
  none = λ r q m lt. absurd (omega arith);
  stops = λ k e n m lt. refl;
  emits = λ k b r q h m lt. ap (byte_first b) (h m lt);
  counts = counted_same;
  weakens = λ j k r q le h m lt. h m (omega arith);
}

module _ (p : AProgram) where
  pub means_close : (n k : ℕ) → k ≤ n → OnNext Same k (task_at p n) (means p)
  means_close n k le t κ μ h st m lt =
      deep_kept Same same_kept p (suc m) n (suc m) (omega arith) (omega arith) t κ μ (λ w st' i lt'. h w st' i (omega arith)) st m (omega arith)

  means_at : (t : Task) (κ : Behind) (st : State) (n : ℕ) → means p t κ st n ≡ task p (means p) t κ st n
  means_at t κ st n =
      task_kept Same same_kept p n (task_at p n) (means p) (means_close n) (suc n) (omega arith) t κ κ (λ w st' i lt. refl) st n (omega arith)

  -- the meaning of a task is made of the meanings of the tasks that it begins
  pub means_is : (t : Task) (κ : Behind) (st : State) → means p t κ st ≡ task p (means p) t κ st
  means_is t κ st = λ i n. means_at t κ st n i

-- a relation that looks at no higher number is kept by what the tasks mean
pub means_kept : (R : ℕ → Runs → Runs → Type 0) → Kept R → ((k : ℕ) (r r' q q' : Runs) → Same k r r' → Same k q q' → R k r q → R k r' q') → (p : AProgram) (k : ℕ) → OnNext R k (means p) (means p)
means_kept R kept looks p k t κ μ h st =
    looks k (task_at p k t κ st) (means p t κ st) (task_at p k t μ st) (means p t μ st) (means_close p k k (omega arith) t κ κ (λ w st' i lt. refl) st)
    (means_close p k k (omega arith) t μ μ (λ w st' i lt. refl) st) (deep_kept R kept p k k k (omega arith) (omega arith) t κ μ h st)

-- and so it is by a function's body, round which its block is taken and given back
pub performs_kept : (R : ℕ → Runs → Runs → Type 0) → Kept R → ((k : ℕ) (r r' q q' : Runs) → Same k r r' → Same k q q' → R k r q → R k r' q') → (p : AProgram) (g : ARoutine) (k : ℕ) (κ μ : Behind)
    → OnBehind R k κ μ → OnState R k (performed p.objects (means p) g κ) (performed p.objects (means p) g μ)
performs_kept R kept looks p g k κ μ h =
    claimed_kept R kept k p.objects g.block (means p (Body g.body) (released p.objects g.block κ)) (means p (Body g.body) (released p.objects g.block μ))
    (means_kept R kept looks p k (Body g.body) (released p.objects g.block κ) (released p.objects g.block μ) (released_kept R kept k p.objects g.block κ μ h))
