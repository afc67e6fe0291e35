-- How many temporaries and forks each expression has, by its nodes.
use Rattle.std.proofs.Common.{ℕ, suc, ◌+◌, ◌*◌, ◌≤◌, List, refl, arith}
use Rattle.std.specs.Prelude.{Bool, true, false, not, ◌==◌, if◌then◌else◌, Option, Some, None}
use Rattle.c_types.specs.declared.types.CType.{CType}
use Rattle.c_types.specs.declared.typed.Callee.{Callee}
use Rattle.c_types.specs.declared.typed.Variable.{Variable}
use Rattle.c_types.specs.declared.typed.UnaryOperator.{UnaryOperator}
use Rattle.c_types.specs.declared.typed.UnaryOperator.TheVariants as unaries
use Rattle.c_types.specs.declared.typed.ArithmeticOperator.TheVariants as ariths
use Rattle.c_types.specs.Constants.{scale}
use Rattle.c_types.specs.Typed.{APlace, VariableAt, PointedBy, ElementBy, AnExpression, Constant, LiteralAt, ArrayAt, ReadOf, SizeOfExpression, SizeOf, AddressOf, CallOf, StepOf}
use Rattle.c_types.specs.Typed.{UnaryOf, CastTo, ConvertTo, ArithmeticOf, CompareOf, BothOf, EitherOf, AdvanceOf, AdvanceByOf, RetreatOf, DistanceOf, ChoiceOf, AssignTo}
use Rattle.c_types.specs.Typed.{ArithmeticAssignTo, AdvanceAssignTo, RetreatAssignTo, CommaOf, SomeExpressions, NoExpressions, MoreExpressions}
use Rattle.c_program.specs.Need.{place_nodes, nodes, all_nodes}
use Rattle.c_sound.specs.Stands.{IsAddition, StandsAt, Stands, StandAll}
use Rattle.c_lower_scheme.specs.Trees.{Tree, Num, Gaddr, Neg, Com, Bin}
use Rattle.c_lower_scheme.specs.Parts.{Lowered, Lowering, Located, Passing, InLocal, due, is_nil, over}
use Rattle.c_lower_scheme.specs.Places.{where_of, address_tree}
use Rattle.c_lower_scheme.specs.Conditions.{valued}
use Rattle.c_lower_scheme.specs.Values.{scaled_by, shared_by, advance, advance_by, retreat, apart}
use Rattle.c_lower_scheme.specs.Calls.{callee_number, passed_as, others, must_pass}
use Rattle.c_lower_scheme.specs.Assignments.{must_hold, assigned, assign_low, assign_drop, local_of, updated, update_by}
use Rattle.c_lower_scheme.specs.Expressions.{unary, seek, way, pass}
use Rattle.c_lower_bounds.proofs.Trees.{tree_forks, behind}
use Rattle.c_lower_bounds.proofs.Values.{Within, Ends, AddsTwo, Bounded, bounded_more, test_ends, converting_bounded, due_within, valued_bounded, effective_bounded, mapped_bounded}
use Rattle.c_lower_bounds.proofs.Values.{binary_bounded, binary_spares, relation_bounded}
use Rattle.c_lower_bounds.proofs.Conditions.{not_bounded, chain_bounded, choose_bounded, comma_bounded}
use Rattle.c_lower_bounds.proofs.Places.{WithinFound, WithinReady, place_forks, found_within, pointed_within, read_within, address_within, ready_within, update_within, step_within}
use Rattle.c_lower_bounds.proofs.Places.{step_low_within, store_drop_ends, store_low_within}
use Rattle.c_lower_bounds.proofs.Calls.{WithinPassing, none_within, pass_within, passed_within, called_low_within, called_drop_ends, called_deliver_ends}

-- scaling is one fork, or none
scaled_forks : (s : ℕ) (w : Tree) → tree_forks (scaled_by s w) ≤ suc (tree_forks w)
scaled_forks s w = by (s == 1)
  where
    by : (b : Bool) → tree_forks (if b then w else Bin ariths.Multiply (Num s) w) ≤ suc (tree_forks w)
    by true = omega arith
    by false = omega arith

shared_forks : (s : ℕ) (w : Tree) → tree_forks (shared_by s w) ≤ suc (tree_forks w)
shared_forks s w = by (s == 1)
  where
    by : (b : Bool) → tree_forks (if b then w else Bin ariths.Divide w (Num s)) ≤ suc (tree_forks w)
    by true = omega arith
    by false = omega arith

advance_forks : (ty : CType) → AddsTwo (advance ty)
advance_forks ty v w = let h = scaled_forks (scale ty) w in omega (arith, h)

advance_by_forks : (ty : CType) → AddsTwo (advance_by ty)
advance_by_forks ty v w = let h = scaled_forks (scale ty) v in omega (arith, h)

retreat_forks : (ty : CType) → AddsTwo (retreat ty)
retreat_forks ty v w = let h = scaled_forks (scale ty) w in omega (arith, h)

apart_forks : (ty : CType) → AddsTwo (apart ty)
apart_forks ty v w = let h = shared_forks (scale ty) (Bin ariths.Subtract v w) in omega (arith, h)

-- A bound of the forks by nodes: it grows with them, an operator over two parts may have one fork more than both, and one node has one.
pub record Widens (β : ℕ → ℕ) : Type 0 where
  pub one : 1 ≤ β 1
  pub grows : (m n : ℕ) → m ≤ n → β m ≤ β n
  pub next : (n : ℕ) → 1 + β n ≤ β (1 + n)
  pub joins : (m n : ℕ) → 1 + β m + β n ≤ β (1 + m + n)

module _ (size count : ℕ) where
  assigned_within : (between : Bool) {t m n f g : ℕ} {p : Located} {e : Lowering} → WithinFound t m f p → Bounded n g e
      → WithinReady t (1 + m + n) (1 + f + g) (assigned size count between p e.low)
  assigned_within between {p = p} {e = e} h d =
      let q : Lowered = e.low p.temps p.labels in
      ready_within (must_hold size count between q.items q.tree p.place) h (d.low p.temps p.labels)

  -- an assignment, also to a local that the value is delivered to
  assign_low_within : (o : Option ℕ) {t m n f g : ℕ} {p : Located} {e : Lowering} → WithinFound t m f p → Bounded n g e
      → Within t (1 + m + n) (1 + f + g) (assign_low size count o p e)
  assign_low_within None h d = store_low_within (assigned_within true h d)
  assign_low_within (Some x) {p = p} h d =
      let s = d.deliver (InLocal x) p.temps p.labels in
      record { temps = omega (arith, h.temps, s.temps); tree = omega arith; items = λ k le. behind (h.items k (omega arith)) (s.items k (omega arith)) }

  assign_drop_ends : (o : Option ℕ) {t m n f g : ℕ} {p : Located} {e : Lowering} → WithinFound t m f p → Bounded n g e
      → Ends 0 t (1 + m + n) (1 + f + g) (assign_drop size count o p e)
  assign_drop_ends None h d = store_drop_ends (assigned_within false h d)
  assign_drop_ends (Some x) {p = p} h d =
      let s = d.deliver (InLocal x) p.temps p.labels in
      record { temps = omega (arith, h.temps, s.temps); items = λ k le. behind (h.items k (omega arith)) (s.items k (omega arith)) }

  updated_within : (o : CType → Tree → Tree → Tree) → ((ty : CType) → AddsTwo (o ty)) → {t m n f g : ℕ} {p : Located} {e : Lowering}
      → WithinFound t m f p → Bounded n g e → WithinReady t (1 + m + n) (1 + f + g) (updated size count o p e.low)
  updated_within o two {p = p} {e = e} h d =
      let q : Lowered = e.low p.temps p.labels in
      update_within size count (not (is_nil q.items)) (o p.type) (two p.type) h (d.low p.temps p.labels)

  update_bounded : (o : CType → Tree → Tree → Tree) → ((ty : CType) → AddsTwo (o ty)) → {m n f g : ℕ} {p : ℕ → ℕ → Located} {e : Lowering}
      → ((t l : ℕ) → WithinFound t m f (p t l)) → Bounded n g e → Bounded (1 + m + n) (1 + f + g) (update_by size count o p e)
  update_bounded o two h d = effective_bounded
      (λ t l. store_low_within (updated_within o two (h t l) d))
      (λ t l. store_drop_ends (updated_within o two (h t l) d))

  unary_bounded : (op : UnaryOperator) {n f : ℕ} {e : Lowering} → 1 ≤ f → Bounded n f e → Bounded (1 + n) f (unary size count op e)
  unary_bounded unaries.Plus {n = n} {f = f} one h = mapped_bounded (λ w. w) (λ w. refl) (1 + n) f (omega arith) (omega arith) h
  unary_bounded unaries.Minus {n = n} {f = f} one h = mapped_bounded Neg (λ w. refl) (1 + n) f (omega arith) (omega arith) h
  unary_bounded unaries.Complement {n = n} {f = f} one h = mapped_bounded Com (λ w. refl) (1 + n) f (omega arith) (omega arith) h
  unary_bounded unaries.Not one h = not_bounded one h

  leaf_bounded : (w : Tree) (n f : ℕ) → 1 ≤ n → suc (tree_forks w) ≤ f → Bounded n f (valued (due w))
  leaf_bounded w n f one few = valued_bounded (due_within w n f one few)

-- where each name that stands has fewer forks than the bound for one node
module _ (size count : ℕ) (there : Variable → Type 0) (takes : Callee → ℕ → Type 0) (literals : ℕ) (β : ℕ → ℕ) (wider : Widens β)
    (names : (v : Variable) → there v → suc (place_forks (where_of size v)) ≤ β 1) where
  has_one : (n : ℕ) → 1 ≤ n → 1 ≤ β n
  has_one n le = let h = wider.one in let g = wider.grows 1 n le in omega (arith, h, g)

  grown : (n : ℕ) → β n ≤ β (1 + n)
  grown n = wider.grows n (1 + n) (omega arith)

  -- two parts below one operator
  pair_bounded : {e : Lowering} (m n : ℕ) → Bounded (1 + m + n) (1 + β m + β n) e → Bounded (1 + m + n) (β (1 + m + n)) e
  pair_bounded m n h = bounded_more (β (1 + m + n)) (wider.joins m n) h

  mutual
    pub place_within : (p : APlace) → StandsAt there takes literals p → (t l : ℕ) → WithinFound t (place_nodes p) (β (place_nodes p)) (seek size count p t l)
    place_within (VariableAt ty v) s t l = found_within ty size (β 1) v (names v s) t l
    place_within (PointedBy ty e) s t l =
        let h = (way_bounded e s).low t l in
        pointed_within ty (1 + nodes e) (β (1 + nodes e)) (omega (arith, h.temps)) (grown (nodes e)) h
    place_within (ElementBy ty e) s t l =
        pointed_within ty (nodes e) (β (nodes e)) (sum_spares e s.0 s.1 t l) (omega arith) ((way_bounded e s.1).low t l)

    -- an element's address is a sum, which leaves three halves of a temporary
    pub sum_spares : (e : AnExpression) → IsAddition e → Stands there takes literals e → (t l : ℕ)
        → 3 + 2 * ((way size count e).low t l).temps ≤ 2 * t + 3 * nodes e
    sum_spares (ArithmeticOf op x y) h s t l = binary_spares size count (Bin op) (way_bounded x s.0) (way_bounded y s.1) t l
    sum_spares (AdvanceOf ty x y) h s t l = binary_spares size count (advance ty) (way_bounded x s.0) (way_bounded y s.1) t l
    sum_spares (AdvanceByOf ty x y) h s t l = binary_spares size count (advance_by ty) (way_bounded x s.0) (way_bounded y s.1) t l
    sum_spares _ h s t l = absurd h

    pub way_bounded : (e : AnExpression) → Stands there takes literals e → Bounded (nodes e) (β (nodes e)) (way size count e)
    way_bounded (Constant n) s = leaf_bounded size count (Num n) 1 (β 1) (omega arith) wider.one
    way_bounded (LiteralAt n bytes) s = leaf_bounded size count (Gaddr n) 1 (β 1) (omega arith) wider.one
    way_bounded (ArrayAt ty v bytes) s = leaf_bounded size count (address_tree (where_of size v)) 1 (β 1) (omega arith) (names v s)
    way_bounded (ReadOf p) s = valued_bounded (λ t l. read_within (place_within p s t l))
    way_bounded (SizeOfExpression n e) s =
        leaf_bounded size count (Num n) (1 + nodes e) (β (1 + nodes e)) (omega arith) (has_one (1 + nodes e) (omega arith))
    way_bounded (SizeOf n) s = leaf_bounded size count (Num n) 1 (β 1) (omega arith) wider.one
    way_bounded (AddressOf ty p) s = valued_bounded (λ t l. address_within (β (1 + place_nodes p)) (grown (place_nodes p)) (place_within p s t l))
    way_bounded (CallOf ty f to es) s =
        let number : ℕ = callee_number count f in
        let h : ℕ = β (2 + all_nodes es) in
        let one : 1 ≤ h = has_one (2 + all_nodes es) (omega arith) in
        let less : β (all_nodes es) ≤ h = wider.grows (all_nodes es) (2 + all_nodes es) (omega arith) in
        record {
          low = λ t l. called_low_within number h one less (passing_within es s.1 to t l);
          branch = λ sense at t l. test_ends sense at (called_low_within number h one less (passing_within es s.1 to t l));
          drop = λ t l. called_drop_ends number h less (passing_within es s.1 to t l);
          deliver = λ at t l. called_deliver_ends at number h one less (passing_within es s.1 to t l);
        }
    way_bounded (StepOf m by p) s = bounded_more (β (1 + place_nodes p)) (wider.next (place_nodes p)) (effective_bounded
        (λ t l. step_low_within size count m by (place_within p s t l))
        (λ t l. store_drop_ends (step_within size count by (place_within p s t l))))
    way_bounded (UnaryOf op e) s =
        let g : ℕ = β (1 + nodes e) in
        unary_bounded size count op (has_one (1 + nodes e) (omega arith)) (bounded_more g (grown (nodes e)) (way_bounded e s))
    way_bounded (CastTo ty e) s = converting_bounded ty (1 + nodes e) (β (1 + nodes e)) (omega arith) (grown (nodes e)) (way_bounded e s)
    way_bounded (ConvertTo ty e) s = converting_bounded ty (nodes e) (β (nodes e)) (omega arith) (omega arith) (way_bounded e s)
    way_bounded (ArithmeticOf op x y) s =
        pair_bounded (nodes x) (nodes y) (binary_bounded size count (Bin op) (λ v w. omega arith) (way_bounded x s.0) (way_bounded y s.1))
    way_bounded (CompareOf r x y) s = pair_bounded (nodes x) (nodes y) (relation_bounded size count r (way_bounded x s.0) (way_bounded y s.1))
    way_bounded (BothOf x y) s = pair_bounded (nodes x) (nodes y) (chain_bounded false (way_bounded x s.0) (way_bounded y s.1))
    way_bounded (EitherOf x y) s = pair_bounded (nodes x) (nodes y) (chain_bounded true (way_bounded x s.0) (way_bounded y s.1))
    way_bounded (AdvanceOf ty x y) s =
        pair_bounded (nodes x) (nodes y) (binary_bounded size count (advance ty) (advance_forks ty) (way_bounded x s.0) (way_bounded y s.1))
    way_bounded (AdvanceByOf ty x y) s =
        pair_bounded (nodes x) (nodes y) (binary_bounded size count (advance_by ty) (advance_by_forks ty) (way_bounded x s.0) (way_bounded y s.1))
    way_bounded (RetreatOf ty x y) s =
        pair_bounded (nodes x) (nodes y) (binary_bounded size count (retreat ty) (retreat_forks ty) (way_bounded x s.0) (way_bounded y s.1))
    way_bounded (DistanceOf ty x y) s =
        pair_bounded (nodes x) (nodes y) (binary_bounded size count (apart ty) (apart_forks ty) (way_bounded x s.0) (way_bounded y s.1))
    way_bounded (ChoiceOf ty c x y) s =
        let n : ℕ = 1 + nodes c + nodes x + nodes y in
        choose_bounded (β n) (has_one n (omega arith)) (bounded_more (β n) (wider.grows (nodes c) n (omega arith)) (way_bounded c s.0))
        (bounded_more (β n) (wider.grows (nodes x) n (omega arith)) (way_bounded x s.1))
        (bounded_more (β n) (wider.grows (nodes y) n (omega arith)) (way_bounded y s.2))
    way_bounded (AssignTo p e) s = pair_bounded (place_nodes p) (nodes e) (effective_bounded
        (λ t l. assign_low_within size count (local_of size count (seek size count p t l)) (place_within p s.0 t l) (way_bounded e s.1))
        (λ t l. assign_drop_ends size count (local_of size count (seek size count p t l)) (place_within p s.0 t l) (way_bounded e s.1)))
    way_bounded (ArithmeticAssignTo op p e) s = pair_bounded (place_nodes p) (nodes e)
        (update_bounded size count (λ ty. Bin op) (λ ty v w. omega arith) (place_within p s.0) (way_bounded e s.1))
    way_bounded (AdvanceAssignTo p e) s = pair_bounded (place_nodes p) (nodes e)
        (update_bounded size count advance advance_forks (place_within p s.0) (way_bounded e s.1))
    way_bounded (RetreatAssignTo p e) s = pair_bounded (place_nodes p) (nodes e)
        (update_bounded size count retreat retreat_forks (place_within p s.0) (way_bounded e s.1))
    way_bounded (CommaOf ty x y) s = pair_bounded (nodes x) (nodes y) (comma_bounded (way_bounded x s.0) (way_bounded y s.1))

    pub passing_within : (es : SomeExpressions) → StandAll there takes literals es → (to : List CType) (t l : ℕ)
        → WithinPassing t (all_nodes es) (β (all_nodes es)) (pass size count es to t l)
    passing_within NoExpressions s to t l = none_within (β 0) t l
    passing_within (MoreExpressions e es) s to t l =
        let p : Lowered = over (passed_as to) ((way size count e).low t l) in
        let q : Passing = pass size count es (others to) p.temps p.labels in
        let n : ℕ = nodes e + all_nodes es in
        let first = passed_within to ((way_bounded e s.0).low t l) in
        pass_within (must_pass size count p.tree q) (β n) (wider.grows (nodes e) n (omega arith)) (wider.grows (all_nodes es) n (omega arith)) first
        (passing_within es s.1 (others to) p.temps p.labels)
