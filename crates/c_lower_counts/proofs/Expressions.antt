-- What each expression is lowered to does what the expression means.
use Rattle.std.proofs.Common.{◌≡◌, ℕ, ◌≤◌, ◌<◌, ◌^◌, List, [], ◌∷◌, ◌++◌, length, Option, Some, None, refl, ap, arith, sym, ◌∙◌, subst}
use Rattle.std.specs.Prelude.{Bool, true, false, ◌==◌, slice_get, if◌then◌else◌}
use Rattle.std.specs.Option.{option_map}
use Rattle.std.proofs.lemmas.Bool.{eqb-true}
use Rattle.std.proofs.lemmas.Bool.Decides.{nat_tests}
use Rattle.gg_base.specs.declared.run.End.TheVariants as ends
use Rattle.gg_base.specs.Runs.{Runs, stop}
use Rattle.gg_base.specs.Arithmetic.{add32, sub32, mul32, neg32, com32, div32}
use Rattle.gg_base.proofs.Words.{mul_turned, add_turned, mul_one as one_times}
use Rattle.tree_core.specs.declared.program.Object.{Object}
use Rattle.tree_core.specs.declared.program.TreeItem.{TreeItem}
use Rattle.tree_core.specs.declared.program.TreeFn.{TreeFn}
use Rattle.tree_core.specs.declared.program.TreeProgram.{TreeProgram}
use Rattle.tree_meaning.specs.declared.value.Value.{Value}
use Rattle.tree_meaning.specs.declared.value.Value.TheVariants.{Number, ZeroDivisor, Wild}
use Rattle.tree_meaning.specs.State.{Activation}
use Rattle.tree_meaning.specs.Values.{bind, address_of as object_address}
use Rattle.c_types.specs.declared.types.CType.{CType}
use Rattle.c_types.specs.declared.types.Integer.{Integer}
use Rattle.c_types.specs.declared.types.Integer.TheVariants as ints
use Rattle.c_types.specs.declared.typed.Variable.{Variable}
use Rattle.c_types.specs.declared.typed.Variable.TheVariants as variables
use Rattle.c_types.specs.declared.typed.UnaryOperator.{UnaryOperator}
use Rattle.c_types.specs.declared.typed.UnaryOperator.TheVariants as unaries
use Rattle.c_types.specs.declared.typed.ArithmeticOperator.{ArithmeticOperator}
use Rattle.c_types.specs.declared.typed.ArithmeticOperator.TheVariants as ariths
use Rattle.c_types.specs.declared.typed.Callee.{Callee}
use Rattle.c_types.specs.declared.typed.Moment.{Moment}
use Rattle.c_types.specs.declared.typed.Moment.TheVariants as moments
use Rattle.c_types.specs.declared.typed.Direction.{Direction}
use Rattle.c_types.specs.declared.typed.Direction.TheVariants as directions
use Rattle.c_types.specs.Constants.{converted, apply_unary, apply, scale, advanced, retreated, distance}
use Rattle.c_types.specs.Typed.{APlace, VariableAt, PointedBy, ElementBy, AnExpression, Constant, LiteralAt, ArrayAt, ReadOf, SizeOfExpression, SizeOf, AddressOf, CallOf, StepOf, UnaryOf, CastTo}
use Rattle.c_types.specs.Typed.{ConvertTo, ArithmeticOf, CompareOf, BothOf, EitherOf, AdvanceOf, AdvanceByOf, RetreatOf, DistanceOf, ChoiceOf, AssignTo, ArithmeticAssignTo, AdvanceAssignTo}
use Rattle.c_types.specs.Typed.{RetreatAssignTo, CommaOf, SomeExpressions, NoExpressions, MoreExpressions}
use Rattle.c_types.proofs.Sizes.{scale_small}
use Rattle.c_program.specs.Programs.{ARoutine, AProgram}
use Rattle.c_meaning.specs.declared.store.Spot.{Spot}
use Rattle.c_meaning.specs.declared.store.Spot.TheVariants.{Memory}
use Rattle.c_meaning.specs.State.{State, address, block_address}
use Rattle.c_meaning.specs.Values.{Rest, RestAt, Next, or_wild, or_trap, read_at, store_at, stepped, of_moment, step_at, address_of, located, array_address}
use Rattle.c_meaning.specs.Meaning.{expr, place, arguments}
use Rattle.c_meaning.specs.Blocks.{pointer_number}
use Rattle.c_sound.specs.Fits.{StandsIn, FitsAt, Fits, FitsAll}
use Rattle.c_sound.specs.Stands.{Stands, StandsAt, StandAll}
use Rattle.c_lower_scheme.specs.Trees.{Tree, Num, Gaddr, Neg, Com, Bin, Item}
use Rattle.c_lower_scheme.specs.Parts.{Lowered, Lowering, Located, due, over, Destination, InLocal}
use Rattle.c_lower_scheme.specs.Places.{in_block, where_of, address_tree, fitted, found, pointed, read_low, address_low, integer_of, conv}
use Rattle.c_lower_scheme.specs.Values.{scaled_by, advance, advance_by, retreat, apart, step}
use Rattle.c_lower_scheme.specs.Assignments.{store_low, store_drop, assign_ready, assign_low, assign_drop, local_of, update_ready, step_tree, step_ready, step_low, update_by}
use Rattle.c_lower_scheme.specs.Expressions.{unary, seek, way, pass}
use Rattle.c_lower_scheme.specs.Calls.{callee_number, called_low}
use Rattle.c_lower_scheme.specs.Conditions.{mapped, deliver_as, converting}
use Rattle.c_lower_scheme.proofs.Places.{local_is}
use Rattle.c_lower_follows.proofs.Values.{SmallTree, Small, worth_small, or_zero}
use Rattle.c_lower_counts.proofs.Leads.{Leads, leads_wild, Depth}
use Rattle.c_lower_follows.proofs.Steps.{Desk, desk_sight, on}
use Rattle.c_lower_follows.proofs.Agreeing.{Below, value, since_start}
use Rattle.c_lower_follows.proofs.Doing.{on_bind}
use Rattle.c_lower_counts.proofs.Doing.{Agrees, here, Does, Drops, Delivers, DoesWay, test_asks, delivered_does, due_does, Makes, Maps, valued_does, effective_does, binary_does, mapped_does}
use Rattle.c_lower_counts.proofs.Doing.{over_does, way_same}
use Rattle.c_lower_follows.proofs.Placing.{whole_value}
use Rattle.c_lower_counts.proofs.Placing.{DoesReady, DoesPlace, fitted_maps, read_does, address_does}
use Rattle.c_lower_counts.proofs.Storing.{store_drop_does, store_low_does, fill_low_does, fill_drop_does}
use Rattle.c_lower_counts.proofs.Assigning.{assign_does, assign_pure, update_does, update_pure, post_does}
use Rattle.c_lower_follows.proofs.Calling.{CodeOf}
use Rattle.c_lower_counts.proofs.Calling.{DoesAll, none_does, pass_does, Calls, called_low_does, called_drop_does, called_deliver_does}
use Rattle.c_lower_counts.proofs.Conditions.{relation_does, not_does, chain_does, choose_does, comma_does}
use Rattle.c_lower_follows.proofs.Blocks.{Known, place_as, Blind, as_memory, read_blind, address_blind, step_blind, assign_blind, update_blind, trap_same}
use Rattle.c_lower_follows.proofs.Held.{held_below, held_small, held_value}

-- what follows is the same at each value that there is
on_same : (o : Value) (f g : ℕ → Runs) → ((y : ℕ) → o ≡ Number y → f y ≡ g y) → on o f ≡ on o g
on_same (Number y) f g h = h y refl
on_same ZeroDivisor f g h = refl
on_same Wild f g h = refl

trap_on : (o : Option ℕ) (κ : Rest) (st : State) → on (or_zero o) (λ v. κ v st) ≡ or_trap o κ st
trap_on None κ st = refl
trap_on (Some v) κ st = refl

add_is : (x y : ℕ) (κ : ℕ → Runs) → on (or_zero (apply ariths.Add x y)) κ ≡ κ (add32 x y)
unfolding apply
add_is x y κ = refl

subtract_is : (x y : ℕ) (κ : ℕ → Runs) → on (or_zero (apply ariths.Subtract x y)) κ ≡ κ (sub32 x y)
unfolding apply
subtract_is x y κ = refl

multiply_is : (x y : ℕ) (κ : ℕ → Runs) → on (or_zero (apply ariths.Multiply x y)) κ ≡ κ (mul32 x y)
unfolding apply
multiply_is x y κ = refl

divide_is : (x y : ℕ) (κ : ℕ → Runs) → on (or_zero (apply ariths.Divide x y)) κ ≡ on (or_zero (div32 x y)) κ
unfolding apply
divide_is x y κ = refl

mul_one : (y s : ℕ) → s ≡ 1 → y < 2 ^ 32 → y ≡ mul32 y s
mul_one y s e h = let one : mul32 y 1 ≡ y = omega arith in sym (ap (mul32 y) e ∙ one)

div_one : (x s : ℕ) → s ≡ 1 → x < 2 ^ 32 → div32 x s ≡ Some x
div_one x s e h = ap (div32 x) e ∙ grind (arith, nat_tests)

module _ (program : TreeProgram) (code : List TreeItem) (callers : List Activation) (size count first : ℕ) (scope : ℕ → Type 0) (level : Depth) (within : (x : ℕ) → scope x → x < size)
    (own : size ≤ first) where
  abbrev MakesOf : (Tree → Tree → Tree) → (ℕ → ℕ → Rest → State → Runs) → Type 0
  MakesOf f g = Makes program code callers size count first scope level within own f g

  abbrev MapsOf : (Tree → Tree) → (ℕ → ℕ) → Type 0
  MapsOf f g = Maps program code callers size count first scope level within own f g

  abbrev holding : State → Desk → Type 0
  holding st d = Agrees program code callers size count first scope level st d

  bin_on : (op : ArithmeticOperator) (a b : Tree) (d : Desk) (κ : ℕ → Runs) → on (value program (Bin op a b) d) κ
      ≡ on (value program a d) (λ x. on (value program b d) (λ y. on (or_zero (apply op x y)) κ))
  bin_on op a b d κ = on_bind (value program a d) (λ x. bind (value program b d) (λ y. or_zero (apply op x y))) κ
      ∙ (λ j. on (value program a d) (λ x. on_bind (value program b d) (λ y. or_zero (apply op x y)) κ j))

  bin_makes : (op : ArithmeticOperator) → MakesOf (Bin op) (λ x y. or_trap (apply op x y))
  bin_makes op = record {
    below = λ u a b h g. (h, g);
    small = λ a b h g. (h, g);
    makes = λ a b st d κ sa sb ag. bin_on op a b d (λ v. κ v st) ∙ (λ j. on (value program a d) (λ x. on (value program b d) (λ y. trap_on (apply op x y) κ st j)));
  }

  small_at : (b : Tree) (st : State) (d : Desk) → holding st d → SmallTree b → Small (value program b d)
  small_at b st d ag h = worth_small program.objects (desk_sight d) ag.ranged b h

  scaled_on : (s : ℕ) (c : Bool) → (s == 1) ≡ c → (b : Tree) (d : Desk) (κ : ℕ → Runs) → Small (value program b d) → on (value program (if c then b else Bin ariths.Multiply (Num s) b) d) κ
      ≡ on (value program b d) (λ y. κ (mul32 y s))
  scaled_on s true e b d κ h = on_same (value program b d) κ (λ y. κ (mul32 y s)) (λ y ey. ap κ (mul_one y s (eqb-true s 1 e) (subst Small ey h)))
  scaled_on s false e b d κ h = bin_on ariths.Multiply (Num s) b d κ ∙ (λ j. on (value program b d) (λ y. (multiply_is s y κ ∙ ap κ (mul_turned s y)) j))

  scaled_small : (s : ℕ) (c : Bool) → s < 2 ^ 32 → (b : Tree) → SmallTree b → SmallTree (if c then b else Bin ariths.Multiply (Num s) b)
  scaled_small s true lt b h = h
  scaled_small s false lt b h = (lt, h)

  scaled_below : (s : ℕ) (c : Bool) (u : ℕ) (b : Tree) → Below u b → Below u (if c then b else Bin ariths.Multiply (Num s) b)
  scaled_below s true u b h = h
  scaled_below s false u b h = (tt, h)

  advance_makes : (t : CType) → MakesOf (advance t) (λ x y κ. κ (advanced t x y))
  unfolding advanced
  advance_makes t = record {
    below = λ u a b h g. (h, scaled_below (scale t) (scale t == 1) u b g);
    small = λ a b h g. (h, scaled_small (scale t) (scale t == 1) (scale_small t) b g);
    makes = λ a b st d κ sa sb ag. bin_on ariths.Add a (scaled_by (scale t) b) d (λ v. κ v st)
        ∙ (λ j. on (value program a d) (λ x. scaled_on (scale t) (scale t == 1) refl b d (λ y. on (or_zero (apply ariths.Add x y)) (λ v. κ v st)) (small_at b st d ag sb) j))
        ∙ (λ j. on (value program a d) (λ x. on (value program b d) (λ y. add_is x (mul32 y (scale t)) (λ v. κ v st) j)));
  }

  advance_by_makes : (t : CType) → MakesOf (advance_by t) (λ i x κ. κ (advanced t x i))
  unfolding advanced
  advance_by_makes t = record {
    below = λ u a b h g. (scaled_below (scale t) (scale t == 1) u a h, g);
    small = λ a b h g. (scaled_small (scale t) (scale t == 1) (scale_small t) a h, g);
    makes = λ a b st d κ sa sb ag. bin_on ariths.Add (scaled_by (scale t) a) b d (λ v. κ v st)
        ∙ scaled_on (scale t) (scale t == 1) refl a d (λ x. on (value program b d) (λ y. on (or_zero (apply ariths.Add x y)) (λ v. κ v st))) (small_at a st d ag sa)
        ∙ (λ j. on (value program a d) (λ x. on (value program b d) (λ y. (add_is (mul32 x (scale t)) y (λ v. κ v st) ∙ ap (λ v. κ v st) (add_turned (mul32 x (scale t)) y)) j)));
  }

  retreat_makes : (t : CType) → MakesOf (retreat t) (λ x y κ. κ (retreated t x y))
  unfolding retreated
  retreat_makes t = record {
    below = λ u a b h g. (h, scaled_below (scale t) (scale t == 1) u b g);
    small = λ a b h g. (h, scaled_small (scale t) (scale t == 1) (scale_small t) b g);
    makes = λ a b st d κ sa sb ag. bin_on ariths.Subtract a (scaled_by (scale t) b) d (λ v. κ v st)
        ∙ (λ j. on (value program a d) (λ x. scaled_on (scale t) (scale t == 1) refl b d (λ y. on (or_zero (apply ariths.Subtract x y)) (λ v. κ v st)) (small_at b st d ag sb) j))
        ∙ (λ j. on (value program a d) (λ x. on (value program b d) (λ y. subtract_is x (mul32 y (scale t)) (λ v. κ v st) j)));
  }

  shared_on : (s : ℕ) (c : Bool) → (s == 1) ≡ c → (a b : Tree) (d : Desk) (κ : Rest) (st : State)
      → on (value program (if c then Bin ariths.Subtract a b else Bin ariths.Divide (Bin ariths.Subtract a b) (Num s)) d) (λ v. κ v st)
      ≡ on (value program a d) (λ x. on (value program b d) (λ y. or_trap (div32 (sub32 x y) s) κ st))
  shared_on s true e a b d κ st = bin_on ariths.Subtract a b d (λ v. κ v st)
      ∙ (λ j. on (value program a d) (λ x. on (value program b d) (λ y. (subtract_is x y (λ v. κ v st) ∙ ap (λ o. or_trap o κ st) (sym (div_one (sub32 x y) s (eqb-true s 1 e) (omega arith)))) j)))
  shared_on s false e a b d κ st =
      bin_on ariths.Divide (Bin ariths.Subtract a b) (Num s) d (λ v. κ v st)
      ∙ bin_on ariths.Subtract a b d (λ z. on (or_zero (apply ariths.Divide z s)) (λ v. κ v st))
      ∙ (λ j. on (value program a d) (λ x. on (value program b d) (λ y.
      (subtract_is x y (λ z. on (or_zero (apply ariths.Divide z s)) (λ v. κ v st)) ∙ divide_is (sub32 x y) s (λ v. κ v st) ∙ trap_on (div32 (sub32 x y) s) κ st) j)))

  shared_small : (s : ℕ) (c : Bool) → s < 2 ^ 32 → (w : Tree) → SmallTree w → SmallTree (if c then w else Bin ariths.Divide w (Num s))
  shared_small s true lt w h = h
  shared_small s false lt w h = (h, lt)

  shared_below : (s : ℕ) (c : Bool) (u : ℕ) (w : Tree) → Below u w → Below u (if c then w else Bin ariths.Divide w (Num s))
  shared_below s true u w h = h
  shared_below s false u w h = (h, tt)

  apart_makes : (t : CType) → MakesOf (apart t) (λ x y. or_trap (distance t x y))
  unfolding distance
  apart_makes t = record {
    below = λ u a b h g. shared_below (scale t) (scale t == 1) u (Bin ariths.Subtract a b) (h, g);
    small = λ a b h g. shared_small (scale t) (scale t == 1) (scale_small t) (Bin ariths.Subtract a b) (h, g);
    makes = λ a b st d κ sa sb ag. shared_on (scale t) (scale t == 1) refl a b d κ st;
  }

  -- `++` and `--`
  abbrev pub stepping : Direction → ℕ → ℕ → ℕ
  stepping directions.Up x y = add32 x y
  stepping directions.Down x y = sub32 x y

  step_makes : (by : Direction) → MakesOf (step by) (λ x y κ. κ (stepping by x y))
  step_makes directions.Up = record {
    below = λ u a b h g. (h, g);
    small = λ a b h g. (h, g);
    makes = λ a b st d κ sa sb ag. bin_on ariths.Add a b d (λ v. κ v st)
        ∙ (λ j. on (value program a d) (λ x. on (value program b d) (λ y. add_is x y (λ v. κ v st) j)));
  }
  step_makes directions.Down = record {
    below = λ u a b h g. (h, g);
    small = λ a b h g. (h, g);
    makes = λ a b st d κ sa sb ag. bin_on ariths.Subtract a b d (λ v. κ v st)
        ∙ (λ j. on (value program a d) (λ x. on (value program b d) (λ y. subtract_is x y (λ v. κ v st) j)));
  }

  stepped_is : (by : Direction) (t : CType) (x : ℕ) → stepped by t x ≡ stepping by x (scale t)
  unfolding advanced retreated
  stepped_is directions.Up t x = ap (add32 x) (one_times (scale t) (scale_small t))
  stepped_is directions.Down t x = ap (sub32 x) (one_times (scale t) (scale_small t))

  step_maps : (by : Direction) (t : CType) → MapsOf (step_tree size count by t) (stepped by t)
  step_maps directions.Up t = record {
    below = λ u a h. (h, tt);
    small = λ a h. (h, scale_small t);
    maps = λ a d κ. bin_on ariths.Add a (Num (scale t)) d κ
        ∙ (λ j. on (value program a d) (λ x. (add_is x (scale t) κ ∙ ap κ (sym (stepped_is directions.Up t x))) j));
  }
  step_maps directions.Down t = record {
    below = λ u a h. (h, tt);
    small = λ a h. (h, scale_small t);
    maps = λ a d κ. bin_on ariths.Subtract a (Num (scale t)) d κ
        ∙ (λ j. on (value program a d) (λ x. (subtract_is x (scale t) κ ∙ ap κ (sym (stepped_is directions.Down t x))) j));
  }

  plus_maps : MapsOf (λ w. w) (apply_unary unaries.Plus)
  unfolding apply_unary
  plus_maps = record { below = λ u a h. h; small = λ a h. h; maps = λ a d κ. refl }

  minus_maps : MapsOf Neg (apply_unary unaries.Minus)
  unfolding apply_unary
  minus_maps = record { below = λ u a h. h; small = λ a h. h; maps = λ a d κ. on_bind (value program a d) (λ x. Number (neg32 x)) κ }

  complement_maps : MapsOf Com (apply_unary unaries.Complement)
  unfolding apply_unary
  complement_maps = record { below = λ u a h. h; small = λ a h. h; maps = λ a d κ. on_bind (value program a d) (λ x. Number (com32 x)) κ }

-- what follows an address
abbrev at_address : Option ℕ → (ℕ → Runs) → Runs
at_address None f = stop ends.Wild
at_address (Some a) f = f a

gaddr_by : (o : Option Object) → ((x : Object) → o ≡ Some x → x.address < 2 ^ 32) → (f : ℕ → Runs) → on (object_address o 0) f ≡ at_address (option_map (λ (o : Object). o.address) o) f
gaddr_by None h f = refl
gaddr_by (Some x) h f = let lt = h x refl in let e : add32 x.address 0 ≡ x.address = omega arith in ap f e

wild_at : (o : Option ℕ) (κ : Rest) (st : State) → at_address o (λ v. κ v st) ≡ or_wild o κ st
wild_at None κ st = refl
wild_at (Some a) κ st = refl

located_at : (o : Option ℕ) (f : Spot → State → Runs) (st : State) → at_address o (λ a. f (Memory a) st) ≡ located (option_map Memory o) f st
located_at None f st = refl
located_at (Some a) f st = refl

module _ (program : TreeProgram) (code : List TreeItem) (callers : List Activation) (size count first : ℕ) (scope : ℕ → Type 0) (level : Depth) (within : (x : ℕ) → scope x → x < size)
    (own : size ≤ first) (p : AProgram)
    (next : Next) (counts_all : length program.functions ≡ count)
    (lowers : (f : ℕ) (g : ARoutine) → slice_get p.routines f ≡ Some g → (tf : TreeFn) × (slice_get program.functions f ≡ Some tf) × CodeOf (pointer_number p.objects) count g tf.items)
    (calls : Calls program count p next level) (objects_are : program.objects ≡ p.objects) (addresses : (n : ℕ) (o : Object) → slice_get p.objects n ≡ Some o → o.address < 2 ^ 32)
    (there : Variable → Type 0) (takes : Callee → ℕ → Type 0) (literals : ℕ) (lies : (o : ℕ) → there (variables.InBlock o) → (size < first) × (o < 262144)) where
  abbrev pub WayOf : Lowering → (Rest → State → Runs) → Type 0
  WayOf w m = DoesWay program code callers size count first scope level w m

  abbrev LowOf : Lowered → ℕ → (Rest → State → Runs) → Type 0
  LowOf q t m = Does program code callers size count first scope level q t m

  abbrev PlaceOf : Located → ℕ → (RestAt → State → Runs) → Type 0
  PlaceOf q t m = DoesPlace program code callers size count first scope level q t m

  abbrev there_is : List Item → Desk → Runs
  there_is is d = here program code callers size count first scope level is d

  gaddr : (n : ℕ) (d : Desk) (f : ℕ → Runs) → on (value program (Gaddr n) d) f ≡ at_address (address p.objects n) f
  gaddr n d f = ap (λ (os : List Object). on (object_address (slice_get os n) 0) f) objects_are ∙ gaddr_by (slice_get p.objects n) (λ x e. addresses n x e) f

  literal_does : (n t l : ℕ) → LowOf (due (Gaddr n) t l) t (λ κ. or_wild (address p.objects n) κ)
  literal_does n t l = due_does program code callers size count first scope level within own (Gaddr n) t l (λ κ. or_wild (address p.objects n) κ) tt tt
      (λ k is κ st d ag h. subst (λ r. Leads k r (there_is is d)) (gaddr n d (λ v. κ v st) ∙ wild_at (address p.objects n) κ st) h)

  object_does : (n t l : ℕ) → LowOf (due (Gaddr n) t l) t (λ κ. located (option_map Memory (address p.objects n)) (λ s. address_of s κ))
  object_does n t l = due_does program code callers size count first scope level within own (Gaddr n) t l (λ κ. located (option_map Memory (address p.objects n)) (λ s. address_of s κ)) tt tt
      (λ k is κ st d ag h. subst (λ r. Leads k r (there_is is d)) (gaddr n d (λ v. κ v st) ∙ located_at (address p.objects n) (λ s. address_of s κ) st) h)

  -- a place in the block
  held_does : (o t l : ℕ) → there (variables.InBlock o) → first ≤ t → LowOf (due (in_block size o) t l) t (λ κ st. or_wild (block_address st.call o) κ st)
  held_does o t l std sz =
      let inside = lies o std in
      due_does program code callers size count first scope level within own (in_block size o) t l (λ κ st. or_wild (block_address st.call o) κ st)
      (held_below program size o t (omega (arith, inside.0))) (held_small program size o (omega (arith, inside.1)))
      (λ k is κ st d ag h.
      let block = ag.pointer inside.0 in
      subst (λ (a : Option ℕ). Leads k (or_wild (option_map (λ x. add32 x o) a) κ st) (there_is is d)) (sym block.1)
      (subst (λ v. Leads k (on v (λ x. κ x st)) (there_is is d)) (held_value program size o block.0 d block.2 (ag.ranged.local size block.0 block.2)) h))

  array_does : (v : Variable) (t l : ℕ) → there v → first ≤ t → LowOf (due (address_tree (where_of size v)) t l) t (array_address p v)
  array_does (variables.Automatic n) t l std sz = due_does program code callers size count first scope level within own (Num 0) t l _ tt (omega arith)
      (λ k is κ st d ag h. leads_wild k _)
  array_does (variables.Parameter n) t l std sz = due_does program code callers size count first scope level within own (Num 0) t l _ tt (omega arith)
      (λ k is κ st d ag h. leads_wild k _)
  array_does (variables.Global n) t l std sz = object_does n t l
  array_does (variables.Static n) t l std sz = object_does n t l
  array_does (variables.InBlock o) t l std sz = held_does o t l std sz

  variable_does : (ty : CType) (v : Variable) (t l : ℕ) → StandsIn scope v → there v → first ≤ t → PlaceOf (found ty (where_of size v) t l) t (place_as p next (VariableAt ty v))
  variable_does ty (variables.Automatic n) t l fit std sz = record { grows = omega arith; fits = fit; small = tt; runs = λ k le is κ res st d ag h. h st d ag (since_start size t t [] st d) }
  variable_does ty (variables.Parameter n) t l fit std sz = record { grows = omega arith; fits = tt; small = tt; runs = λ k le is κ res st d ag h. h st d ag (since_start size t t [] st d) }
  variable_does ty (variables.Global n) t l fit std sz = record {
    grows = omega arith;
    fits = tt;
    small = tt;
    runs = λ k le is κ res st d ag h.
        subst (λ r. Leads k r (there_is is d)) (gaddr n d (λ x. κ ty (Memory x) st) ∙ located_at (address p.objects n) (κ ty) st) (h st d ag (since_start size t t [] st d));
  }
  variable_does ty (variables.Static n) t l fit std sz = record {
    grows = omega arith;
    fits = tt;
    small = tt;
    runs = λ k le is κ res st d ag h.
        subst (λ r. Leads k r (there_is is d)) (gaddr n d (λ x. κ ty (Memory x) st) ∙ located_at (address p.objects n) (κ ty) st) (h st d ag (since_start size t t [] st d));
  }
  variable_does ty (variables.InBlock o) t l fit std sz =
      let does = held_does o t l std sz in
      record { grows = does.grows; fits = does.below; small = does.small; runs = λ k le is κ res st d ag h. does.runs k le is (λ x. κ ty (Memory x)) res st d ag h }

  -- and what is known of it
  known_by : (a : APlace) → StandsAt there takes literals a → (st : State) (d : Desk) → Agrees program code callers size count first scope level st d → Known a st
  known_by (VariableAt t (variables.Automatic n)) std st d ag = tt
  known_by (VariableAt t (variables.Parameter n)) std st d ag = tt
  known_by (VariableAt t (variables.Global n)) std st d ag = tt
  known_by (VariableAt t (variables.Static n)) std st d ag = tt
  known_by (VariableAt t (variables.InBlock o)) std st d ag = let block = ag.pointer (lies o std).0 in (block.0, block.1)
  known_by (PointedBy t e) std st d ag = tt
  known_by (ElementBy t e) std st d ag = tt

  -- what is done with a place that may lie in the block
  as_place : (a : APlace) (w : Lowering) (f : Rest → RestAt) → StandsAt there takes literals a → ((κ : Rest) (st : State) → Blind p next (f κ) st) → WayOf w (λ κ. place_as p next a (f κ))
      → WayOf w (λ κ. place p next a (f κ))
  as_place a w f std blind does = way_same program code callers size count first scope level w (λ κ. place_as p next a (f κ)) (λ κ. place p next a (f κ))
      (λ κ st d ag. as_memory p next a (f κ) st (known_by a std st d ag) (blind κ st)) does

  pointed_does : (ty : CType) (q : Lowered) (t : ℕ) (m : Rest → State → Runs) → LowOf q t m → PlaceOf (pointed ty q) t (λ κ. m (λ a. κ ty (Memory a)))
  pointed_does ty q t m does = record { grows = does.grows; fits = does.below; small = does.small; runs = λ k le is κ res st d ag h. does.runs k le is (λ a. κ ty (Memory a)) res st d ag h }

  number_does : (n : ℕ) → n < 2 ^ 32 → (t l : ℕ) → LowOf (due (Num n) t l) t (λ κ. κ n)
  number_does n lt t l = due_does program code callers size count first scope level within own (Num n) t l (λ κ. κ n) tt lt (λ k is κ st d ag h. h)

  unary_does : (op : UnaryOperator) (e : Lowering) (m : Rest → State → Runs) → WayOf e m → WayOf (unary size count op e) (λ κ. m (λ v. κ (apply_unary op v)))
  unary_does unaries.Plus e m does = mapped_does program code callers size count first scope level within own (λ w. w) (apply_unary unaries.Plus) e m
      (plus_maps program code callers size count first scope level within own) does
  unary_does unaries.Minus e m does = mapped_does program code callers size count first scope level within own Neg (apply_unary unaries.Minus) e m
      (minus_maps program code callers size count first scope level within own) does
  unary_does unaries.Complement e m does = mapped_does program code callers size count first scope level within own Com (apply_unary unaries.Complement) e m
      (complement_maps program code callers size count first scope level within own) does
  unary_does unaries.Not e m does = not_does program code callers size count first scope level within own e m does

  -- `++` and `--`, whose other side is the size
  step_ready_does : (by : Direction) (q : Located) (t : ℕ) (m : RestAt → State → Runs) → first ≤ t → PlaceOf q t m
      → DoesReady program code callers size count first scope level (step_ready size count by q) t
      (λ κ. m (λ ty s. read_at ty s (λ x. κ ty s (stepping program code callers size count first scope level within own by x (scale ty)))))
  step_ready_does by q t m sz does = update_does program code callers size count first scope level within own (step by)
      (λ ty x y κ. κ (stepping program code callers size count first scope level within own by x y)) q (due (Num (scale q.type)) q.temps q.labels) t m (λ ty κ. κ (scale ty)) sz
      (step_makes program code callers size count first scope level within own by) does (number_does (scale q.type) (scale_small q.type) q.temps q.labels)

  step_does : (moment : Moment) (by : Direction) (a : APlace) (m : RestAt → State → Runs) → ((t l : ℕ) → first ≤ t → PlaceOf (seek size count a t l) t m)
      → WayOf (way size count (StepOf moment by a)) (λ κ. m (λ ty s. step_at moment by ty s κ))
  step_does moment by a m does = effective_does program code callers size count first scope level within own _ _ (λ κ. m (λ ty s. step_at moment by ty s κ))
      (λ t l sz. low_of moment t l sz) (λ t l sz. drop_of moment t l sz)
    where
      stepped_path : (moment : Moment) (κ : Rest) → ◌≡◌ {A = RestAt} (λ ty s.
          read_at ty s (λ x. store_at ty s (stepping program code callers size count first scope level within own by x (scale ty)) (λ y. κ (of_moment moment x y))))
          (λ ty s. step_at moment by ty s κ)
      stepped_path moment κ = λ j ty s. read_at ty s (λ x. store_at ty s (sym (stepped_is program code callers size count first scope level within own by ty x) j) (λ y. κ (of_moment moment x y)))

      low_of : (moment : Moment) (t l : ℕ) → first ≤ t → LowOf (step_low size count moment by (seek size count a t l)) t (λ κ. m (λ ty s. step_at moment by ty s κ))
      low_of moments.Before t l sz = let f = does t l sz in let q = seek size count a t l in
          post_does program code callers size count first scope level within own q t (step_tree size count by q.type) (stepped by) m sz
          (step_maps program code callers size count first scope level within own by q.type) f
      low_of moments.After t l sz = let q = seek size count a t l in
          let r = step_ready_does by q t m sz (does t l sz) in
          let low = store_low_does program code callers size count first scope level within own (step_ready size count by q) t
          (λ κ. m (λ ty s. read_at ty s (λ x. κ ty s (stepping program code callers size count first scope level within own by x (scale ty))))) sz
          (update_pure program code callers size count first scope level within own (step by) q (due (Num (scale q.type)) q.temps q.labels)) r in
          record {
            grows = low.grows;
            below = low.below;
            small = low.small;
            runs = λ k le is κ res st d ag h.
                subst (λ K. Leads k (m K st) (there_is ((store_low (step_ready size count by q)).items ++ is) d)) (stepped_path moments.After κ) (low.runs k le is κ res st d ag h);
          }

      drop_of : (moment : Moment) (t l : ℕ) → first ≤ t → Drops program code callers size count first scope level (store_drop (step_ready size count by (seek size count a t l))) t
          (λ κ. m (λ ty s. step_at moment by ty s κ))
      drop_of moment t l sz = let q = seek size count a t l in
          let r = step_ready_does by q t m sz (does t l sz) in
          let drops = store_drop_does program code callers size count first scope level within own (step_ready size count by q) t
          (λ κ. m (λ ty s. read_at ty s (λ x. κ ty s (stepping program code callers size count first scope level within own by x (scale ty))))) sz r in
          record {
            grows = drops.grows;
            runs = λ k le is κ res st d ag h.
                subst (λ K. Leads k (m K st) (there_is ((store_drop (step_ready size count by q)).items ++ is) d)) (any_moment moment κ) (drops.runs k le is κ res st d ag h);
          }
        where
          any_moment : (moment : Moment) (κ : State → Runs) → ◌≡◌ {A = RestAt}
              (λ ty s. read_at ty s (λ x. store_at ty s (stepping program code callers size count first scope level within own by x (scale ty)) (λ v. κ))) (λ ty s. step_at moment by ty s (λ v. κ))
          any_moment moment κ = λ j ty s. read_at ty s (λ x. store_at ty s (sym (stepped_is program code callers size count first scope level within own by ty x) j) (λ v. κ))

  -- assignments, also to a local that the value is delivered to
  assign_low_does : (o : Option ℕ) (q : Located) (e : Lowering) (t : ℕ) (m : RestAt → State → Runs) (n : Rest → State → Runs) → local_of size count q ≡ o → first ≤ t → PlaceOf q t m → WayOf e n
      → LowOf (assign_low size count o q e) t (λ κ. m (λ ty s. n (λ v. store_at ty s v κ)))
  assign_low_does None q e t m n is sz f does =
      let v = e.low q.temps q.labels in
      let r = assign_does program code callers size count first scope level within own true q v t m n sz f (does.low q.temps q.labels (omega (arith, f.grows))) in
      let low = store_low_does program code callers size count first scope level within own (assign_ready size count true q v) t (λ κ. m (λ ty s. n (λ v. κ ty s v))) sz
      (assign_pure program code callers size count first scope level within own q v) r in
      record { grows = low.grows; below = low.below; small = low.small; runs = λ k le is κ res st d ag h. low.runs k le is κ res st d ag h }
  assign_low_does (Some x) q e t m n is sz f does =
      let whole = local_is (integer_of q.type) q.place x is in
      fill_low_does program code callers size count first scope level within own x q (e.deliver (InLocal x) q.temps q.labels) t m n sz whole.0 whole.1 f
      (does.deliver (InLocal x) q.temps q.labels (omega (arith, f.grows)))

  assign_drop_does : (o : Option ℕ) (q : Located) (e : Lowering) (t : ℕ) (m : RestAt → State → Runs) (n : Rest → State → Runs) → local_of size count q ≡ o → first ≤ t → PlaceOf q t m → WayOf e n
      → Drops program code callers size count first scope level (assign_drop size count o q e) t (λ κ. m (λ ty s. n (λ v. store_at ty s v κ)))
  assign_drop_does None q e t m n is sz f does =
      let v = e.low q.temps q.labels in
      let r = assign_does program code callers size count first scope level within own false q v t m n sz f (does.low q.temps q.labels (omega (arith, f.grows))) in
      let drops = store_drop_does program code callers size count first scope level within own (assign_ready size count false q v) t (λ κ. m (λ ty s. n (λ v. κ ty s v))) sz r in
      record { grows = drops.grows; runs = λ k le is κ res st d ag h. drops.runs k le is κ res st d ag h }
  assign_drop_does (Some x) q e t m n is sz f does =
      let whole = local_is (integer_of q.type) q.place x is in
      fill_drop_does program code callers size count first scope level within own x q (e.deliver (InLocal x) q.temps q.labels) t m n whole.0 whole.1 f
      (does.deliver (InLocal x) q.temps q.labels (omega (arith, f.grows)))

  assign_way : (a : APlace) (e : AnExpression) (m : RestAt → State → Runs) (n : Rest → State → Runs) → ((t l : ℕ) → first ≤ t → PlaceOf (seek size count a t l) t m)
      → WayOf (way size count e) n → WayOf (way size count (AssignTo a e)) (λ κ. m (λ ty s. n (λ v. store_at ty s v κ)))
  assign_way a e m n does does' = effective_does program code callers size count first scope level within own _ _ (λ κ. m (λ ty s. n (λ v. store_at ty s v κ)))
      (λ t l sz. let q = seek size count a t l in assign_low_does (local_of size count q) q (way size count e) t m n refl sz (does t l sz) does')
      (λ t l sz. let q = seek size count a t l in assign_drop_does (local_of size count q) q (way size count e) t m n refl sz (does t l sz) does')

  -- conversions
  conv_does : (i : Integer) (ty : CType) (e : Lowering) (m : Rest → State → Runs) → integer_of ty ≡ i → WayOf e m → (t l : ℕ) → first ≤ t
      → LowOf (over (conv i) (e.low t l)) t (λ κ. m (λ v. κ (converted ty v)))
  conv_does i ty e m is does t l sz = subst (λ i. LowOf (over (conv i) (e.low t l)) t (λ κ. m (λ v. κ (converted ty v)))) is
      (over_does program code callers size count first scope level within own (fitted ty) (converted ty) (e.low t l) t m
      (fitted_maps program code callers size count first scope level within own ty) (does.low t l sz))

  deliver_as_does : (i : Integer) (ty : CType) (e : Lowering) (m : Rest → State → Runs) → integer_of ty ≡ i → WayOf e m → (to : Destination) (t l : ℕ) → first ≤ t
      → Delivers program code callers size count first scope level to (deliver_as i e to t l) t (λ κ. m (λ v. κ (converted ty v)))
  deliver_as_does ints.Int ty e m is does to t l sz = let done = does.deliver to t l sz in record {
    grows = done.grows;
    some = done.some;
    runs = λ k le js κ res st d ag h. subst (λ κ. Leads k (m κ st) (there_is ((e.deliver to t l).items ++ js) d)) (λ j v. κ (sym (whole_value ty v is) j)) (done.runs k le js κ res st d ag h);
  }
  deliver_as_does ints.Char ty e m is does to t l sz = delivered_does program code callers size count first scope level within own to (over (conv ints.Char) (e.low t l)) t _ sz
      (conv_does ints.Char ty e m is does t l sz)
  deliver_as_does ints.UnsignedChar ty e m is does to t l sz = delivered_does program code callers size count first scope level within own to (over (conv ints.UnsignedChar) (e.low t l)) t _ sz
      (conv_does ints.UnsignedChar ty e m is does t l sz)
  deliver_as_does ints.Short ty e m is does to t l sz = delivered_does program code callers size count first scope level within own to (over (conv ints.Short) (e.low t l)) t _ sz
      (conv_does ints.Short ty e m is does t l sz)
  deliver_as_does ints.UnsignedShort ty e m is does to t l sz = delivered_does program code callers size count first scope level within own to (over (conv ints.UnsignedShort) (e.low t l)) t _ sz
      (conv_does ints.UnsignedShort ty e m is does t l sz)

  converting_does : (ty : CType) (e : Lowering) (m : Rest → State → Runs) → WayOf e m → WayOf (converting ty e) (λ κ. m (λ v. κ (converted ty v)))
  converting_does ty e m does =
      let w : WayOf (mapped (fitted ty) e) (λ κ. m (λ v. κ (converted ty v))) =
      mapped_does program code callers size count first scope level within own (fitted ty) (converted ty) e m (fitted_maps program code callers size count first scope level within own ty) does in
      record { low = w.low; branch = w.branch; drop = w.drop; deliver = deliver_as_does (integer_of ty) ty e m refl does }

  update_way : (f : CType → Tree → Tree → Tree) (g : CType → ℕ → ℕ → Rest → State → Runs) (a : APlace) (e : AnExpression) (m : RestAt → State → Runs) (n : Rest → State → Runs)
      → ((ty : CType) → MakesOf program code callers size count first scope level within own (f ty) (g ty)) → ((t l : ℕ) → first ≤ t → PlaceOf (seek size count a t l) t m)
      → WayOf (way size count e) n → WayOf (update_by size count f (seek size count a) (way size count e)) (λ κ. m (λ ty s. read_at ty s (λ x. n (λ y. g ty x y (λ v. store_at ty s v κ)))))
  update_way f g a e m n made does does' =
      effective_does program code callers size count first scope level within own _ _ (λ κ. m (λ ty s. read_at ty s (λ x. n (λ y. g ty x y (λ v. store_at ty s v κ)))))
      (λ t l sz.
      let q = seek size count a t l in
      let h = does t l sz in
      let v = (way size count e).low q.temps q.labels in
      let r = update_does program code callers size count first scope level within own (f q.type) g q v t m (λ ty. n) sz (made q.type) h (does'.low q.temps q.labels (omega (arith, h.grows))) in
      let low = store_low_does program code callers size count first scope level within own (update_ready size count (f q.type) q v) t
      (λ κ. m (λ ty s. read_at ty s (λ x. n (λ y. g ty x y (κ ty s))))) sz (update_pure program code callers size count first scope level within own (f q.type) q v) r in
      record { grows = low.grows; below = low.below; small = low.small; runs = λ k le is κ res st d ag h. low.runs k le is κ res st d ag h })
      (λ t l sz.
      let q = seek size count a t l in
      let h = does t l sz in
      let v = (way size count e).low q.temps q.labels in
      let r = update_does program code callers size count first scope level within own (f q.type) g q v t m (λ ty. n) sz (made q.type) h (does'.low q.temps q.labels (omega (arith, h.grows))) in
      let drops = store_drop_does program code callers size count first scope level within own (update_ready size count (f q.type) q v) t
      (λ κ. m (λ ty s. read_at ty s (λ x. n (λ y. g ty x y (κ ty s))))) sz r in
      record { grows = drops.grows; runs = λ k le is κ res st d ag h. drops.runs k le is κ res st d ag h })

  call_way : (ty : CType) (f : Callee) (to : List CType) (es : SomeExpressions)
      → ((t l : ℕ) → first ≤ t → DoesAll program code callers size count first scope level within own (pass size count es to t l) t (arguments p next es to))
      → WayOf (way size count (CallOf ty f to es)) (expr p next (CallOf ty f to es))
  call_way ty f to es does =
      let number : ℕ = callee_number count f in
      let m = arguments p next es to in
      record {
        low = λ t l sz. called_low_does program code callers size count first scope level within own p next counts_all lowers calls f (pass size count es to t l) t m sz (does t l sz);
        branch =
            λ sense at t l sz. test_asks program code callers size count first scope level within own sense at (called_low number (pass size count es to t l)) t (expr p next (CallOf ty f to es))
            (called_low_does program code callers size count first scope level within own p next counts_all lowers calls f (pass size count es to t l) t m sz (does t l sz));
        drop = λ t l sz. called_drop_does program code callers size count first scope level within own p next counts_all lowers calls f (pass size count es to t l) t m sz (does t l sz);
        deliver = λ at t l sz. called_deliver_does program code callers size count first scope level within own p next counts_all lowers calls at f (pass size count es to t l) t m sz (does t l sz);
      }

  mutual
    pub seek_does : (a : APlace) → FitsAt scope a → StandsAt there takes literals a → (t l : ℕ) → first ≤ t → PlaceOf (seek size count a t l) t (place_as p next a)
    seek_does (VariableAt ty v) fit std t l sz = variable_does ty v t l fit std sz
    seek_does (PointedBy ty e) fit std t l sz = pointed_does ty ((way size count e).low t l) t (expr p next e) ((way_does e fit std).low t l sz)
    seek_does (ElementBy ty e) fit std t l sz = pointed_does ty ((way size count e).low t l) t (expr p next e) ((way_does e fit std.1).low t l sz)

    pub way_does : (e : AnExpression) → Fits scope e → Stands there takes literals e → WayOf (way size count e) (expr p next e)
    way_does (Constant n) fit std = valued_does program code callers size count first scope level within own (due (Num n)) (λ κ. κ n) (λ t l sz. number_does n fit t l)
    way_does (LiteralAt n bytes) fit std =
        valued_does program code callers size count first scope level within own (due (Gaddr n)) (λ κ. or_wild (address p.objects n) κ) (λ t l sz. literal_does n t l)
    way_does (ArrayAt ty v bytes) fit std =
        valued_does program code callers size count first scope level within own (due (address_tree (where_of size v))) (array_address p v) (λ t l sz. array_does v t l std sz)
    way_does (ReadOf a) fit std = as_place a (way size count (ReadOf a)) (λ κ ty s. read_at ty s κ) std (read_blind p next)
        (valued_does program code callers size count first scope level within own (λ t l. read_low (seek size count a t l)) (λ κ. place_as p next a (λ ty s. read_at ty s κ))
        (λ t l sz. read_does program code callers size count first scope level within own (seek size count a t l) t (place_as p next a) sz (seek_does a fit std t l sz)))
    way_does (SizeOfExpression n e) fit std = valued_does program code callers size count first scope level within own (due (Num n)) (λ κ. κ n) (λ t l sz. number_does n fit t l)
    way_does (SizeOf n) fit std = valued_does program code callers size count first scope level within own (due (Num n)) (λ κ. κ n) (λ t l sz. number_does n fit t l)
    way_does (AddressOf ty a) fit std = as_place a (way size count (AddressOf ty a)) (λ κ ty s. address_of s κ) std (address_blind p next)
        (valued_does program code callers size count first scope level within own (λ t l. address_low (seek size count a t l)) (λ κ. place_as p next a (λ ty s. address_of s κ))
        (λ t l sz. address_does program code callers size count first scope level within own (seek size count a t l) t (place_as p next a) (seek_does a fit std t l sz)))
    way_does (CallOf ty f to es) fit std = call_way ty f to es (λ t l sz. all_do es to fit std.1 t l sz)
    way_does (StepOf moment by a) fit std = as_place a (way size count (StepOf moment by a)) (λ κ ty s. step_at moment by ty s κ) std (step_blind p next moment by)
        (step_does moment by a (place_as p next a) (λ t l sz. seek_does a fit std t l sz))
    way_does (UnaryOf op e) fit std = unary_does op (way size count e) (expr p next e) (way_does e fit std)
    way_does (CastTo ty e) fit std = converting_does ty (way size count e) (expr p next e) (way_does e fit std)
    way_does (ConvertTo ty e) fit std = converting_does ty (way size count e) (expr p next e) (way_does e fit std)
    way_does (ArithmeticOf op a b) fit std = binary_does program code callers size count first scope level within own (Bin op) (λ x y. or_trap (apply op x y)) (way size count a) (way size count b)
        (expr p next a) (expr p next b) (bin_makes program code callers size count first scope level within own op) (way_does a fit.0 std.0) (way_does b fit.1 std.1)
    way_does (CompareOf r a b) fit std = relation_does program code callers size count first scope level within own r (way size count a) (way size count b) (expr p next a) (expr p next b)
        (way_does a fit.0 std.0) (way_does b fit.1 std.1)
    way_does (BothOf a b) fit std =
        chain_does program code callers size count first scope level within own false (way size count a) (way size count b) (expr p next a) (expr p next b) (way_does a fit.0 std.0)
        (way_does b fit.1 std.1)
    way_does (EitherOf a b) fit std = chain_does program code callers size count first scope level within own true (way size count a) (way size count b) (expr p next a) (expr p next b)
        (way_does a fit.0 std.0) (way_does b fit.1 std.1)
    way_does (AdvanceOf ty a b) fit std = binary_does program code callers size count first scope level within own (advance ty) (λ x y κ. κ (advanced ty x y)) (way size count a) (way size count b)
        (expr p next a) (expr p next b) (advance_makes program code callers size count first scope level within own ty) (way_does a fit.0 std.0) (way_does b fit.1 std.1)
    way_does (AdvanceByOf ty a b) fit std =
        binary_does program code callers size count first scope level within own (advance_by ty) (λ i x κ. κ (advanced ty x i)) (way size count a) (way size count b)
        (expr p next a) (expr p next b) (advance_by_makes program code callers size count first scope level within own ty) (way_does a fit.0 std.0) (way_does b fit.1 std.1)
    way_does (RetreatOf ty a b) fit std = binary_does program code callers size count first scope level within own (retreat ty) (λ x y κ. κ (retreated ty x y)) (way size count a) (way size count b)
        (expr p next a) (expr p next b) (retreat_makes program code callers size count first scope level within own ty) (way_does a fit.0 std.0) (way_does b fit.1 std.1)
    way_does (DistanceOf ty a b) fit std =
        binary_does program code callers size count first scope level within own (apart ty) (λ x y. or_trap (distance ty x y)) (way size count a) (way size count b)
        (expr p next a) (expr p next b) (apart_makes program code callers size count first scope level within own ty) (way_does a fit.0 std.0) (way_does b fit.1 std.1)
    way_does (ChoiceOf ty c a b) fit std = choose_does program code callers size count first scope level within own (way size count c) (way size count a) (way size count b) (expr p next c)
        (expr p next a) (expr p next b) (way_does c fit.0 std.0) (way_does a fit.1 std.1) (way_does b fit.2 std.2)
    way_does (AssignTo a e) fit std = as_place a (way size count (AssignTo a e)) (λ κ ty s. expr p next e (λ v. store_at ty s v κ)) std.0 (assign_blind p next e)
        (assign_way a e (place_as p next a) (expr p next e) (λ t l sz. seek_does a fit.0 std.0 t l sz) (way_does e fit.1 std.1))
    way_does (ArithmeticAssignTo op a e) fit std =
        as_place a (way size count (ArithmeticAssignTo op a e)) (λ κ ty s. read_at ty s (λ x. expr p next e (λ y. or_trap (apply op x y) (λ v. store_at ty s v κ)))) std.0
        (update_blind p next (λ ty x y. or_trap (apply op x y)) (λ ty x y κ μ st h. trap_same (apply op x y) κ μ st h) e)
        (update_way (λ ty. Bin op) (λ ty x y. or_trap (apply op x y)) a e (place_as p next a) (expr p next e)
        (λ ty. bin_makes program code callers size count first scope level within own op) (λ t l sz. seek_does a fit.0 std.0 t l sz) (way_does e fit.1 std.1))
    way_does (AdvanceAssignTo a e) fit std = as_place a (way size count (AdvanceAssignTo a e)) (λ κ ty s. read_at ty s (λ x. expr p next e (λ y. store_at ty s (advanced ty x y) κ))) std.0
        (update_blind p next (λ ty x y κ. κ (advanced ty x y)) (λ ty x y κ μ st h. h (advanced ty x y)) e)
        (update_way advance (λ ty x y κ. κ (advanced ty x y)) a e (place_as p next a) (expr p next e)
        (λ ty. advance_makes program code callers size count first scope level within own ty) (λ t l sz. seek_does a fit.0 std.0 t l sz) (way_does e fit.1 std.1))
    way_does (RetreatAssignTo a e) fit std = as_place a (way size count (RetreatAssignTo a e)) (λ κ ty s. read_at ty s (λ x. expr p next e (λ y. store_at ty s (retreated ty x y) κ))) std.0
        (update_blind p next (λ ty x y κ. κ (retreated ty x y)) (λ ty x y κ μ st h. h (retreated ty x y)) e)
        (update_way retreat (λ ty x y κ. κ (retreated ty x y)) a e (place_as p next a) (expr p next e)
        (λ ty. retreat_makes program code callers size count first scope level within own ty) (λ t l sz. seek_does a fit.0 std.0 t l sz) (way_does e fit.1 std.1))
    way_does (CommaOf ty a b) fit std =
        comma_does program code callers size count first scope level within own (way size count a) (way size count b) (expr p next a) (expr p next b) (way_does a fit.0 std.0)
        (way_does b fit.1 std.1)

    pub all_do : (es : SomeExpressions) (to : List CType) → FitsAll scope es to → StandAll there takes literals es → (t l : ℕ) → first ≤ t
        → DoesAll program code callers size count first scope level within own (pass size count es to t l) t (arguments p next es to)
    all_do NoExpressions to fit std t l sz = none_does program code callers size count first scope level within own t l
    all_do (MoreExpressions e es) [] fit std t l sz = absurd fit
    all_do (MoreExpressions e es) (ty ∷ to) fit std t l sz =
        let q : Lowered = over (fitted ty) ((way size count e).low t l) in
        let f = over_does program code callers size count first scope level within own (fitted ty) (converted ty) ((way size count e).low t l) t (expr p next e)
        (fitted_maps program code callers size count first scope level within own ty) ((way_does e fit.0 std.0).low t l sz) in
        pass_does program code callers size count first scope level within own q (pass size count es to q.temps q.labels) t (λ κ. expr p next e (λ v. κ (converted ty v))) (arguments p next es to) sz
        f (all_do es to fit.1 std.1 q.temps q.labels (omega (arith, f.grows)))
