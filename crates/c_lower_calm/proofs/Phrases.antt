-- That each expression is lowered to calm items and trees.
use Rattle.std.proofs.Common.{ℕ, List}
use Rattle.std.specs.Prelude.{Bool, true, false, not, Option, Some, None}
use Rattle.c_types.specs.declared.types.CType.{CType}
use Rattle.c_types.specs.declared.typed.UnaryOperator.{UnaryOperator}
use Rattle.c_types.specs.declared.typed.UnaryOperator.TheVariants as unaries
use Rattle.c_types.specs.Typed.{APlace, VariableAt, PointedBy, ElementBy, AnExpression, Constant, LiteralAt, ArrayAt, ReadOf, SizeOfExpression, SizeOf, AddressOf, CallOf, StepOf}
use Rattle.c_types.specs.Typed.{UnaryOf, CastTo, ConvertTo, ArithmeticOf, CompareOf, BothOf, EitherOf, AdvanceOf, AdvanceByOf, RetreatOf, DistanceOf, ChoiceOf, AssignTo}
use Rattle.c_types.specs.Typed.{ArithmeticAssignTo, AdvanceAssignTo, RetreatAssignTo, CommaOf, SomeExpressions, NoExpressions, MoreExpressions}
use Rattle.c_lower_scheme.specs.Trees.{Tree, Num, Gaddr, Neg, Com, Bin}
use Rattle.c_lower_scheme.specs.Parts.{Lowered, Lowering, Located, Passing, is_nil, over, InLocal}
use Rattle.c_lower_scheme.specs.Places.{where_of, address_tree}
use Rattle.c_lower_scheme.specs.Values.{advance, advance_by, retreat, apart}
use Rattle.c_lower_scheme.specs.Calls.{callee_number, passed_as, others, must_pass}
use Rattle.c_lower_scheme.specs.Assignments.{assigned, updated, update_by, assign_low, assign_drop, local_of}
use Rattle.c_lower_scheme.specs.Expressions.{unary, seek, way, pass}
use Rattle.c_lower_calm.proofs.Trees.{Apart, IsCalm, AreCalm, none, behind}
use Rattle.c_lower_calm.proofs.Parts.{CalmWay, CalmFound, CalmReady, due_calm, valued_calm, effective_calm, mapped_calm, not_calm, chain_calm, choose_calm, comma_calm, binary_calm}
use Rattle.c_lower_calm.proofs.Parts.{relation_calm, converting_calm, test_calm, CalmLow}
use Rattle.c_lower_calm.proofs.Places.{found_calm, pointed_calm, read_calm, address_calm, store_drop_calm, store_low_calm, assigned_calm, update_calm, step_ready_calm, calm_where}
use Rattle.c_lower_calm.proofs.Places.{step_low_calm, advance_calm, advance_by_calm, retreat_calm, apart_calm, CalmPassing, no_trees, pass_calm, passed_calm, called_low_calm}
use Rattle.c_lower_calm.proofs.Places.{called_drop_calm, called_deliver_calm}

module _ (size count : ℕ) where
  stored_calm : (between : Bool) {p : Located} {e : Lowering} → CalmFound p → CalmWay e → CalmReady (assigned size count between p e.low)
  stored_calm between {p = p} h g = assigned_calm size count between h (g.low p.temps p.labels)

  assign_low_calm : (o : Option ℕ) {p : Located} {e : Lowering} → CalmFound p → CalmWay e → CalmLow (assign_low size count o p e)
  assign_low_calm None h g = store_low_calm (stored_calm true h g)
  assign_low_calm (Some n) {p = p} h g = record { tree = tt; items = behind h.items (g.deliver (InLocal n) p.temps p.labels) }

  assign_drop_calm : (o : Option ℕ) {p : Located} {e : Lowering} → CalmFound p → CalmWay e → AreCalm (assign_drop size count o p e).items
  assign_drop_calm None h g = store_drop_calm (stored_calm false h g)
  assign_drop_calm (Some n) {p = p} h g = behind h.items (g.deliver (InLocal n) p.temps p.labels)

  updated_calm : (f : CType → Tree → Tree → Tree) → ((ty : CType) (v w : Tree) → IsCalm v → IsCalm w → Apart v w → IsCalm (f ty v w)) → {p : Located} {e : Lowering}
      → CalmFound p → CalmWay e → CalmReady (updated size count f p e.low)
  updated_calm f keeps {p = p} {e = e} h g =
      let q : Lowered = e.low p.temps p.labels in
      update_calm size count (not (is_nil q.items)) (f p.type) (keeps p.type) h (g.low p.temps p.labels)

  update_by_calm : (f : CType → Tree → Tree → Tree) → ((ty : CType) (v w : Tree) → IsCalm v → IsCalm w → Apart v w → IsCalm (f ty v w)) → {p : ℕ → ℕ → Located} {e : Lowering}
      → ((t l : ℕ) → CalmFound (p t l)) → CalmWay e → CalmWay (update_by size count f p e)
  update_by_calm f keeps h g = effective_calm
      (λ t l. store_low_calm (updated_calm f keeps (h t l) g))
      (λ t l. store_drop_calm (updated_calm f keeps (h t l) g))

  unary_calm : (op : UnaryOperator) {e : Lowering} → CalmWay e → CalmWay (unary size count op e)
  unary_calm unaries.Plus h = mapped_calm (λ w. w) (λ w c. c) h
  unary_calm unaries.Minus h = mapped_calm Neg (λ w c. c) h
  unary_calm unaries.Complement h = mapped_calm Com (λ w c. c) h
  unary_calm unaries.Not h = not_calm h

  mutual
    place_calm : (p : APlace) (t l : ℕ) → CalmFound (seek size count p t l)
    place_calm (VariableAt ty v) t l = found_calm size ty v t l
    place_calm (PointedBy ty e) t l = pointed_calm ty ((way_calm e).low t l)
    place_calm (ElementBy ty e) t l = pointed_calm ty ((way_calm e).low t l)

    pub way_calm : (e : AnExpression) → CalmWay (way size count e)
    way_calm (Constant n) = valued_calm (due_calm (Num n) tt)
    way_calm (LiteralAt n bytes) = valued_calm (due_calm (Gaddr n) tt)
    way_calm (ArrayAt ty v bytes) = valued_calm (due_calm (address_tree (where_of size v)) (calm_where size v))
    way_calm (ReadOf p) = valued_calm (λ t l. read_calm (place_calm p t l))
    way_calm (SizeOfExpression n e) = valued_calm (due_calm (Num n) tt)
    way_calm (SizeOf n) = valued_calm (due_calm (Num n) tt)
    way_calm (AddressOf ty p) = valued_calm (λ t l. address_calm (place_calm p t l))
    way_calm (CallOf ty f to es) = record {
      low = λ t l. called_low_calm (callee_number count f) (passing_calm es to t l);
      branch = λ sense at t l. test_calm sense at (called_low_calm (callee_number count f) (passing_calm es to t l));
      drop = λ t l. called_drop_calm (callee_number count f) (passing_calm es to t l);
      deliver = λ at t l. called_deliver_calm at (callee_number count f) (passing_calm es to t l);
    }
    way_calm (StepOf m by p) = effective_calm (λ t l. step_low_calm size count m by (place_calm p t l)) (λ t l. store_drop_calm (step_ready_calm size count by (place_calm p t l)))
    way_calm (UnaryOf op e) = unary_calm op (way_calm e)
    way_calm (CastTo ty e) = converting_calm ty (way_calm e)
    way_calm (ConvertTo ty e) = converting_calm ty (way_calm e)
    way_calm (ArithmeticOf op a b) = binary_calm size count (Bin op) (λ v w h g apart. (h, g, apart)) (way_calm a) (way_calm b)
    way_calm (CompareOf r a b) = relation_calm size count r (way_calm a) (way_calm b)
    way_calm (BothOf a b) = chain_calm false (way_calm a) (way_calm b)
    way_calm (EitherOf a b) = chain_calm true (way_calm a) (way_calm b)
    way_calm (AdvanceOf ty a b) = binary_calm size count (advance ty) (advance_calm ty) (way_calm a) (way_calm b)
    way_calm (AdvanceByOf ty a b) = binary_calm size count (advance_by ty) (advance_by_calm ty) (way_calm a) (way_calm b)
    way_calm (RetreatOf ty a b) = binary_calm size count (retreat ty) (retreat_calm ty) (way_calm a) (way_calm b)
    way_calm (DistanceOf ty a b) = binary_calm size count (apart ty) (apart_calm ty) (way_calm a) (way_calm b)
    way_calm (ChoiceOf ty c a b) = choose_calm (way_calm c) (way_calm a) (way_calm b)
    way_calm (AssignTo p e) = effective_calm
        (λ t l. assign_low_calm (local_of size count (seek size count p t l)) (place_calm p t l) (way_calm e))
        (λ t l. assign_drop_calm (local_of size count (seek size count p t l)) (place_calm p t l) (way_calm e))
    way_calm (ArithmeticAssignTo op p e) = update_by_calm (λ ty. Bin op) (λ ty v w h g apart. (h, g, apart)) (place_calm p) (way_calm e)
    way_calm (AdvanceAssignTo p e) = update_by_calm advance advance_calm (place_calm p) (way_calm e)
    way_calm (RetreatAssignTo p e) = update_by_calm retreat retreat_calm (place_calm p) (way_calm e)
    way_calm (CommaOf ty a b) = comma_calm (way_calm a) (way_calm b)

    passing_calm : (es : SomeExpressions) (to : List CType) (t l : ℕ) → CalmPassing (pass size count es to t l)
    passing_calm NoExpressions to t l = record { trees = no_trees; items = none }
    passing_calm (MoreExpressions e es) to t l =
        let p : Lowered = over (passed_as to) ((way size count e).low t l) in
        let q : Passing = pass size count es (others to) p.temps p.labels in
        pass_calm (must_pass size count p.tree q) (passed_calm to ((way_calm e).low t l)) (passing_calm es (others to) p.temps p.labels)
