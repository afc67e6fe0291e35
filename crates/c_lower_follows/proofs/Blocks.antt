-- An expression leaves its call's block where it is: what follows need only be the same there. So a place in the block is memory at its address.
use Rattle.std.proofs.Common.{◌≡◌, ℕ, ◌%◌, ◌^◌, List, [], ◌∷◌, Option, Some, None, refl, ap, sym, ◌∙◌}
use Rattle.std.specs.Prelude.{slice_get, nat_lt, if◌then◌else◌}
use Rattle.std.specs.Option.{option_map}
use Rattle.gg_base.specs.Arithmetic.{add32}
use Rattle.gg_base.specs.declared.run.End.TheVariants as ends
use Rattle.gg_base.specs.Runs.{Runs, stop, emit, counted}
use Rattle.c_types.specs.declared.types.CType.{CType}
use Rattle.c_types.specs.declared.typed.Callee.{Callee}
use Rattle.c_types.specs.declared.typed.Callee.TheVariants as callees
use Rattle.c_types.specs.declared.typed.Direction.{Direction}
use Rattle.c_types.specs.declared.typed.Moment.{Moment}
use Rattle.c_types.specs.declared.typed.Variable.TheVariants as variables
use Rattle.c_types.specs.Constants.{converted, apply_unary, apply, advanced, retreated, distance}
use Rattle.c_types.specs.Typed.{APlace, VariableAt, PointedBy, ElementBy, AnExpression, Constant, LiteralAt, ArrayAt, ReadOf, SizeOfExpression, SizeOf, AddressOf, CallOf, StepOf}
use Rattle.c_types.specs.Typed.{UnaryOf, CastTo, ConvertTo, ArithmeticOf, CompareOf, BothOf, EitherOf, AdvanceOf, AdvanceByOf, RetreatOf, DistanceOf, ChoiceOf, AssignTo}
use Rattle.c_types.specs.Typed.{ArithmeticAssignTo, AdvanceAssignTo, RetreatAssignTo, CommaOf, SomeExpressions, NoExpressions, MoreExpressions}
use Rattle.c_program.specs.Programs.{ARoutine, AProgram}
use Rattle.c_meaning.specs.declared.store.Spot.{Spot}
use Rattle.c_meaning.specs.declared.store.Spot.TheVariants.{Local, Parameter, Memory, InBlock}
use Rattle.c_meaning.specs.State.{State, address, spot_of, block_address, loaded_at, held, access_size, kept_in, set_at, with_locals, with_parameters, with_area, put_at, put}
use Rattle.c_meaning.specs.Values.{Rest, RestAll, RestAt, Behind, Next, chosen, logical, or_wild, or_trap, written, read_at, store_at, stepped, of_moment, step_at, address_of, located}
use Rattle.c_meaning.specs.Calls.{passed, put_char, got, answer, back, begun, performed, called, call}
use Rattle.c_meaning.specs.Meaning.{expr, place, arguments}

wild_same : (o : Option ℕ) (κ μ : Rest) (st : State) → ((v : ℕ) → κ v st ≡ μ v st) → or_wild o κ st ≡ or_wild o μ st
wild_same None κ μ st h = refl
wild_same (Some v) κ μ st h = h v

pub trap_same : (o : Option ℕ) (κ μ : Rest) (st : State) → ((v : ℕ) → κ v st ≡ μ v st) → or_trap o κ st ≡ or_trap o μ st
trap_same None κ μ st h = refl
trap_same (Some v) κ μ st h = h v

located_same : (o : Option Spot) (κ μ : Spot → State → Runs) (st : State) → ((s : Spot) → κ s st ≡ μ s st) → located o κ st ≡ located o μ st
located_same None κ μ st h = refl
located_same (Some s) κ μ st h = h s

address_same : (s : Spot) (κ μ : Rest) (st : State) → ((v : ℕ) → κ v st ≡ μ v st) → address_of s κ st ≡ address_of s μ st
address_same (Local n) κ μ st h = refl
address_same (Parameter n) κ μ st h = refl
address_same (Memory a) κ μ st h = h a
address_same (InBlock o) κ μ st h = wild_same (block_address st.call o) κ μ st h

-- what follows is the same where the call's block is this one
module _ (c : Option ℕ) where
  abbrev pub SameRest : Rest → Rest → Type 0
  SameRest κ μ = (v : ℕ) (st : State) → st.call.block ≡ c → κ v st ≡ μ v st

  abbrev pub SameAt : RestAt → RestAt → Type 0
  SameAt κ μ = (t : CType) (s : Spot) (st : State) → st.call.block ≡ c → κ t s st ≡ μ t s st

  abbrev pub SameAll : RestAll → RestAll → Type 0
  SameAll κ μ = (vs : List ℕ) (st : State) → st.call.block ≡ c → κ vs st ≡ μ vs st

  -- a value is put somewhere: the block stays
  locals_same : (st : State) (o : Option (List ℕ)) (v : ℕ) (κ μ : Rest) → st.call.block ≡ c → SameRest κ μ → written (option_map (with_locals st) o) v κ ≡ written (option_map (with_locals st) o) v μ
  locals_same st None v κ μ is h = refl
  locals_same st (Some l) v κ μ is h = h v (with_locals st l) is

  parameters_same : (st : State) (o : Option (List ℕ)) (v : ℕ) (κ μ : Rest) → st.call.block ≡ c → SameRest κ μ
      → written (option_map (with_parameters st) o) v κ ≡ written (option_map (with_parameters st) o) v μ
  parameters_same st None v κ μ is h = refl
  parameters_same st (Some l) v κ μ is h = h v (with_parameters st l) is

  area_same : (st : State) (o : Option (List ℕ)) (v : ℕ) (κ μ : Rest) → st.call.block ≡ c → SameRest κ μ → written (option_map (with_area st) o) v κ ≡ written (option_map (with_area st) o) v μ
  area_same st None v κ μ is h = refl
  area_same st (Some area) v κ μ is h = h v (with_area st area) is

  at_same : (t : CType) (o : Option ℕ) (x : ℕ) (st : State) (v : ℕ) (κ μ : Rest) → st.call.block ≡ c → SameRest κ μ → written (put_at t o x st) v κ ≡ written (put_at t o x st) v μ
  at_same t None x st v κ μ is h = refl
  at_same t (Some a) x st v κ μ is h = area_same st (kept_in (access_size t) st.area a x) v κ μ is h

  store_same : (t : CType) (s : Spot) (v : ℕ) (κ μ : Rest) (st : State) → st.call.block ≡ c → SameRest κ μ → store_at t s v κ st ≡ store_at t s v μ st
  store_same t (Local n) v κ μ st is h = locals_same st (set_at st.call.locals n (converted t v)) (converted t v) κ μ is h
  store_same t (Parameter n) v κ μ st is h = parameters_same st (set_at st.call.parameters n (converted t v)) (converted t v) κ μ is h
  store_same t (Memory a) v κ μ st is h = at_same t (Some a) (converted t v) st (converted t v) κ μ is h
  store_same t (InBlock o) v κ μ st is h = at_same t (block_address st.call o) (converted t v) st (converted t v) κ μ is h

  read_same : (t : CType) (s : Spot) (κ μ : Rest) (st : State) → st.call.block ≡ c → SameRest κ μ → read_at t s κ st ≡ read_at t s μ st
  read_same t s κ μ st is h = wild_same (held t s st) κ μ st (λ v. h v st is)

  step_same : (m : Moment) (by : Direction) (t : CType) (s : Spot) (κ μ : Rest) (st : State) → st.call.block ≡ c → SameRest κ μ → step_at m by t s κ st ≡ step_at m by t s μ st
  step_same m by t s κ μ st is h = wild_same (held t s st) (λ x. store_at t s (stepped by t x) (λ y. κ (of_moment m x y))) (λ x. store_at t s (stepped by t x) (λ y. μ (of_moment m x y))) st
      (λ x. store_same t s (stepped by t x) (λ y. κ (of_moment m x y)) (λ y. μ (of_moment m x y)) st is (λ y. h (of_moment m x y)))

  passed_same : (ts : List CType) (v : ℕ) (κ μ : ℕ → List CType → State → Runs) (st : State) → ((x : ℕ) (us : List CType) → κ x us st ≡ μ x us st) → passed ts v κ st ≡ passed ts v μ st
  passed_same [] v κ μ st h = refl
  passed_same (t ∷ ts) v κ μ st h = h (converted t v) ts

  put_same : (vs : List ℕ) (κ μ : Rest) (st : State) → st.call.block ≡ c → SameRest κ μ → put_char vs κ st ≡ put_char vs μ st
  put_same [] κ μ st is h = refl
  put_same (v ∷ vs) κ μ st is h = ap (emit (v % 2 ^ 8)) (h (v % 2 ^ 8) st is)

  got_same : (i : List ℕ) (κ μ : Rest) (st : State) → st.call.block ≡ c → SameRest κ μ → got i κ st ≡ got i μ st
  got_same [] κ μ st is h = h _ st is
  got_same (b ∷ bs) κ μ st is h = h b (record st { input = bs }) is

  module _ (p : AProgram) (next : Next) where
    -- behind a call its caller goes on with its own block
    back_same : (κ μ : Rest) (st : State) → st.call.block ≡ c → SameRest κ μ → back κ st ≡ back μ st
    back_same κ μ st is h = λ i w st'. h (answer w) (record st' { call = st.call; active = st.active }) is i

    called_same : (o : Option ARoutine) (vs : List ℕ) (κ μ : Rest) (st : State) → st.call.block ≡ c → SameRest κ μ → called p.objects o next vs κ st ≡ called p.objects o next vs μ st
    called_same None vs κ μ st is h = refl
    called_same (Some g) vs κ μ st is h =
        ap (λ (β : Behind). counted (if nat_lt st.active 1024 then performed p.objects next g β (begun g vs st) else stop ends.Deep)) (back_same κ μ st is h)

    call_same : (f : Callee) (vs : List ℕ) (κ μ : Rest) (st : State) → st.call.block ≡ c → SameRest κ μ → call p next f vs κ st ≡ call p next f vs μ st
    call_same (callees.Defined n) vs κ μ st is h = called_same (slice_get p.routines n) vs κ μ st is h
    call_same callees.Putchar vs κ μ st is h = put_same vs κ μ st is h
    call_same callees.Getchar vs κ μ st is h = got_same st.input κ μ st is h

    mutual
      pub expr_same : (e : AnExpression) (κ μ : Rest) (st : State) → st.call.block ≡ c → SameRest κ μ → expr p next e κ st ≡ expr p next e μ st
      expr_same (Constant n) κ μ st is h = h n st is
      expr_same (LiteralAt n bytes) κ μ st is h = wild_same (address p.objects n) κ μ st (λ v. h v st is)
      expr_same (ArrayAt t v bytes) κ μ st is h = located_same (spot_of p.objects v) (λ s. address_of s κ) (λ s. address_of s μ) st (λ s. address_same s κ μ st (λ v. h v st is))
      expr_same (ReadOf a) κ μ st is h = place_same a _ _ st is (λ t s st' is'. read_same t s κ μ st' is' h)
      expr_same (SizeOfExpression n e) κ μ st is h = h n st is
      expr_same (SizeOf n) κ μ st is h = h n st is
      expr_same (AddressOf t a) κ μ st is h = place_same a _ _ st is (λ t s st' is'. address_same s κ μ st' (λ v. h v st' is'))
      expr_same (CallOf t f to es) κ μ st is h = arguments_same es to _ _ st is (λ vs st' is'. call_same f vs κ μ st' is' h)
      expr_same (StepOf m by a) κ μ st is h = place_same a _ _ st is (λ t s st' is'. step_same m by t s κ μ st' is' h)
      expr_same (UnaryOf op e) κ μ st is h = expr_same e _ _ st is (λ v. h (apply_unary op v))
      expr_same (CastTo t e) κ μ st is h = expr_same e _ _ st is (λ v. h (converted t v))
      expr_same (ConvertTo t e) κ μ st is h = expr_same e _ _ st is (λ v. h (converted t v))
      expr_same (ArithmeticOf op l r) κ μ st is h = expr_same l _ _ st is (λ x st1 is1. expr_same r _ _ st1 is1 (λ y st2 is2. trap_same (apply op x y) κ μ st2 (λ v. h v st2 is2)))
      expr_same (CompareOf rel l r) κ μ st is h = expr_same l _ _ st is (λ x st1 is1. expr_same r _ _ st1 is1 (λ y. h _))
      expr_same (BothOf l r) κ μ st is h =
          expr_same l _ _ st is (λ x st1 is1. let one = expr_same r (λ y. κ (logical y)) (λ y. μ (logical y)) st1 is1 (λ y. h (logical y)) in let two = h 0 st1 is1 in λ i. chosen x (one i) (two i))
      expr_same (EitherOf l r) κ μ st is h =
          expr_same l _ _ st is (λ x st1 is1. let one = h 1 st1 is1 in let two = expr_same r (λ y. κ (logical y)) (λ y. μ (logical y)) st1 is1 (λ y. h (logical y)) in λ i. chosen x (one i) (two i))
      expr_same (AdvanceOf t l r) κ μ st is h = expr_same l _ _ st is (λ x st1 is1. expr_same r _ _ st1 is1 (λ y. h _))
      expr_same (AdvanceByOf t l r) κ μ st is h = expr_same l _ _ st is (λ x st1 is1. expr_same r _ _ st1 is1 (λ y. h _))
      expr_same (RetreatOf t l r) κ μ st is h = expr_same l _ _ st is (λ x st1 is1. expr_same r _ _ st1 is1 (λ y. h _))
      expr_same (DistanceOf t l r) κ μ st is h = expr_same l _ _ st is (λ x st1 is1. expr_same r _ _ st1 is1 (λ y st2 is2. trap_same (distance t x y) κ μ st2 (λ v. h v st2 is2)))
      expr_same (ChoiceOf t d l r) κ μ st is h = expr_same d _ _ st is (λ x st1 is1. let one = expr_same l κ μ st1 is1 h in let two = expr_same r κ μ st1 is1 h in λ i. chosen x (one i) (two i))
      expr_same (AssignTo a e) κ μ st is h = place_same a _ _ st is (λ t s st1 is1. expr_same e _ _ st1 is1 (λ v st2 is2. store_same t s v κ μ st2 is2 h))
      expr_same (ArithmeticAssignTo op a e) κ μ st is h = place_same a _ _ st is (λ t s st1 is1. read_same t s _ _ st1 is1 (λ x st2 is2. expr_same e _ _ st2 is2
          (λ y st3 is3. trap_same (apply op x y) _ _ st3 (λ v. store_same t s v κ μ st3 is3 h))))
      expr_same (AdvanceAssignTo a e) κ μ st is h = place_same a _ _ st is (λ t s st1 is1. read_same t s _ _ st1 is1 (λ x st2 is2. expr_same e _ _ st2 is2
          (λ i st3 is3. store_same t s (advanced t x i) κ μ st3 is3 h)))
      expr_same (RetreatAssignTo a e) κ μ st is h = place_same a _ _ st is (λ t s st1 is1. read_same t s _ _ st1 is1 (λ x st2 is2. expr_same e _ _ st2 is2
          (λ i st3 is3. store_same t s (retreated t x i) κ μ st3 is3 h)))
      expr_same (CommaOf t l r) κ μ st is h = expr_same l _ _ st is (λ x st1 is1. expr_same r κ μ st1 is1 h)

      place_same : (a : APlace) (κ μ : RestAt) (st : State) → st.call.block ≡ c → SameAt κ μ → place p next a κ st ≡ place p next a μ st
      place_same (VariableAt t v) κ μ st is h = located_same (spot_of p.objects v) (κ t) (μ t) st (λ s. h t s st is)
      place_same (PointedBy t e) κ μ st is h = expr_same e _ _ st is (λ a. h t (Memory a))
      place_same (ElementBy t e) κ μ st is h = expr_same e _ _ st is (λ a. h t (Memory a))

      arguments_same : (es : SomeExpressions) (ts : List CType) (κ μ : RestAll) (st : State) → st.call.block ≡ c → SameAll κ μ → arguments p next es ts κ st ≡ arguments p next es ts μ st
      arguments_same NoExpressions ts κ μ st is h = h [] st is
      arguments_same (MoreExpressions e es) ts κ μ st is h = expr_same e _ _ st is
          (λ v st1 is1. passed_same ts v _ _ st1 (λ x us. arguments_same es us _ _ st1 is1 (λ xs. h (x ∷ xs))))

-- in a call whose block begins at b, a place in the block is memory
module _ (b o : ℕ) (st : State) (is : st.call.block ≡ Some b) where
  pub block_read : (t : CType) (κ : Rest) → read_at t (Memory (add32 b o)) κ st ≡ read_at t (InBlock o) κ st
  block_read t κ = ap (λ (a : Option ℕ). or_wild (loaded_at t st (option_map (λ x. add32 x o) a)) κ st) (sym is)

  pub block_address_is : (κ : Rest) → address_of (Memory (add32 b o)) κ st ≡ address_of (InBlock o) κ st
  block_address_is κ = ap (λ (a : Option ℕ). or_wild (option_map (λ x. add32 x o) a) κ st) (sym is)

  pub block_put_is : (t : CType) (v : ℕ) → put t (Memory (add32 b o)) v st ≡ put t (InBlock o) v st
  block_put_is t v = ap (λ (a : Option ℕ). put_at t (option_map (λ x. add32 x o) a) v st) (sym is)

  pub block_put : (t : CType) (x v : ℕ) (κ : Rest) → written (put t (Memory (add32 b o)) x st) v κ ≡ written (put t (InBlock o) x st) v κ
  block_put t x v κ = ap (λ (a : Option ℕ). written (put_at t (option_map (λ x. add32 x o) a) x st) v κ) (sym is)

  pub block_store : (t : CType) (v : ℕ) (κ : Rest) → store_at t (Memory (add32 b o)) v κ st ≡ store_at t (InBlock o) v κ st
  block_store t v κ = block_put t (converted t v) (converted t v) κ

-- the block is there where a place lies in it
abbrev pub Known : APlace → State → Type 0
Known (VariableAt t (variables.Automatic n)) st = Unit {0}
Known (VariableAt t (variables.Parameter n)) st = Unit {0}
Known (VariableAt t (variables.Global n)) st = Unit {0}
Known (VariableAt t (variables.Static n)) st = Unit {0}
Known (VariableAt t (variables.InBlock o)) st = (b : ℕ) × (st.call.block ≡ Some b)
Known (PointedBy t e) st = Unit {0}
Known (ElementBy t e) st = Unit {0}

module _ (p : AProgram) (next : Next) where
  -- a place, where one in the block is memory
  abbrev pub place_as : APlace → RestAt → State → Runs
  place_as (VariableAt t (variables.Automatic n)) κ st = place p next (VariableAt t (variables.Automatic n)) κ st
  place_as (VariableAt t (variables.Parameter n)) κ st = place p next (VariableAt t (variables.Parameter n)) κ st
  place_as (VariableAt t (variables.Global n)) κ st = place p next (VariableAt t (variables.Global n)) κ st
  place_as (VariableAt t (variables.Static n)) κ st = place p next (VariableAt t (variables.Static n)) κ st
  place_as (VariableAt t (variables.InBlock o)) κ st = or_wild (block_address st.call o) (λ x. κ t (Memory x)) st
  place_as (PointedBy t e) κ st = place p next (PointedBy t e) κ st
  place_as (ElementBy t e) κ st = place p next (ElementBy t e) κ st

  -- what follows a place does not tell them apart
  abbrev pub Blind : RestAt → State → Type 0
  Blind κ st = (b : ℕ) (t : CType) (o : ℕ) → st.call.block ≡ Some b → κ t (Memory (add32 b o)) st ≡ κ t (InBlock o) st

  pub as_memory : (a : APlace) (κ : RestAt) (st : State) → Known a st → Blind κ st → place_as a κ st ≡ place p next a κ st
  as_memory (VariableAt t (variables.Automatic n)) κ st known blind = refl
  as_memory (VariableAt t (variables.Parameter n)) κ st known blind = refl
  as_memory (VariableAt t (variables.Global n)) κ st known blind = refl
  as_memory (VariableAt t (variables.Static n)) κ st known blind = refl
  as_memory (VariableAt t (variables.InBlock o)) κ st known blind =
      ap (λ (a : Option ℕ). or_wild (option_map (λ x. add32 x o) a) (λ x. κ t (Memory x)) st) known.1 ∙ blind known.0 t o known.1
  as_memory (PointedBy t e) κ st known blind = refl
  as_memory (ElementBy t e) κ st known blind = refl

  pub read_blind : (κ : Rest) (st : State) → Blind (λ t s. read_at t s κ) st
  read_blind κ st b t o is = block_read b o st is t κ

  pub address_blind : (κ : Rest) (st : State) → Blind (λ t s. address_of s κ) st
  address_blind κ st b t o is = block_address_is b o st is κ

  pub step_blind : (m : Moment) (by : Direction) (κ : Rest) (st : State) → Blind (λ t s. step_at m by t s κ) st
  step_blind m by κ st b t o is =
      block_read b o st is t (λ x. store_at t (Memory (add32 b o)) (stepped by t x) (λ y. κ (of_moment m x y)))
      ∙ wild_same (held t (InBlock o) st) _ _ st (λ x. block_store b o st is t (stepped by t x) (λ y. κ (of_moment m x y)))

  -- an assignment, whose value comes between
  pub assign_blind : (e : AnExpression) (κ : Rest) (st : State) → Blind (λ t s. expr p next e (λ v. store_at t s v κ)) st
  assign_blind e κ st b t o is = expr_same (Some b) p next e _ _ st is (λ v st' is'. block_store b o st' is' t v κ)

  pub update_blind : (g : CType → ℕ → ℕ → Rest → State → Runs) → ((t : CType) (x y : ℕ) (κ μ : Rest) (st : State) → ((v : ℕ) → κ v st ≡ μ v st) → g t x y κ st ≡ g t x y μ st) → (e : AnExpression)
      (κ : Rest) (st : State) → Blind (λ t s. read_at t s (λ x. expr p next e (λ y. g t x y (λ v. store_at t s v κ)))) st
  update_blind g same e κ st b t o is =
      block_read b o st is t (λ x. expr p next e (λ y. g t x y (λ v. store_at t (Memory (add32 b o)) v κ)))
      ∙ wild_same (held t (InBlock o) st) _ _ st (λ x. expr_same (Some b) p next e _ _ st is
      (λ y st' is'. same t x y (λ v. store_at t (Memory (add32 b o)) v κ) (λ v. store_at t (InBlock o) v κ) st' (λ v. block_store b o st' is' t v κ)))
