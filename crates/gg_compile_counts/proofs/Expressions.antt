-- An expression takes at most two labels for each of its nodes but one.
use Rattle.std.proofs.Common.{ℕ, ◌+◌, ◌*◌, ◌≤◌, List, arith, ◌-◌}
use Rattle.std.specs.Prelude.{true, false, Option, Some, None}
use Rattle.c_types.specs.declared.types.CType.{CType}
use Rattle.c_types.specs.declared.typed.UnaryOperator.{UnaryOperator}
use Rattle.c_types.specs.declared.typed.UnaryOperator.TheVariants as unaries
use Rattle.c_types.specs.declared.typed.Moment.{Moment}
use Rattle.c_types.specs.declared.typed.Moment.TheVariants as moments
use Rattle.c_types.specs.declared.typed.Direction.{Direction}
use Rattle.c_types.specs.Typed.{APlace, VariableAt, PointedBy, ElementBy, AnExpression, Constant, LiteralAt, ArrayAt, ReadOf, SizeOfExpression, SizeOf, AddressOf, CallOf, StepOf}
use Rattle.c_types.specs.Typed.{UnaryOf, CastTo, ConvertTo, ArithmeticOf, CompareOf, BothOf, EitherOf, AdvanceOf, AdvanceByOf, RetreatOf, DistanceOf, ChoiceOf, AssignTo}
use Rattle.c_types.specs.Typed.{ArithmeticAssignTo, AdvanceAssignTo, RetreatAssignTo, CommaOf, SomeExpressions, NoExpressions, MoreExpressions}
use Rattle.c_program.specs.Need.{place_nodes, nodes, all_nodes}
use Rattle.c_lower_scheme.specs.Trees.{Tree, Neg, Com, Bin}
use Rattle.c_lower_scheme.specs.Parts.{Lowered, Lowering, Located, Assignable, InLocal}
use Rattle.c_lower_scheme.specs.Conditions.{effective}
use Rattle.c_lower_scheme.specs.Values.{advance, advance_by, retreat, apart}
use Rattle.c_lower_scheme.specs.Calls.{callee_number, others}
use Rattle.c_lower_scheme.specs.Assignments.{assigned, assign_low, assign_drop, local_of, updated, update_by, step_low, step_ready}
use Rattle.c_lower_scheme.specs.Expressions.{unary, seek, way, pass}
use Rattle.gg_compile_counts.proofs.Lowerings.{Takes, valued_takes, effective_takes, mapped_takes, not_takes, chain_takes, choose_takes, comma_takes, store_labels, converting_takes, called_labels}
use Rattle.gg_compile_counts.proofs.Lowerings.{binary_takes, relation_takes}

-- each expression has a node
mutual
  place_has_nodes : (p : APlace) → 1 ≤ place_nodes p
  place_has_nodes (VariableAt t v) = omega arith
  place_has_nodes (PointedBy t e) = omega arith
  place_has_nodes (ElementBy t sum) = has_nodes sum

  pub has_nodes : (e : AnExpression) → 1 ≤ nodes e
  has_nodes (Constant n) = omega arith
  has_nodes (LiteralAt object size) = omega arith
  has_nodes (ArrayAt t v size) = omega arith
  has_nodes (ReadOf p) = place_has_nodes p
  has_nodes (SizeOfExpression n e) = omega arith
  has_nodes (SizeOf n) = omega arith
  has_nodes (AddressOf t p) = omega arith
  has_nodes (CallOf t f to es) = omega arith
  has_nodes (StepOf m op p) = omega arith
  has_nodes (UnaryOf op e) = omega arith
  has_nodes (CastTo t e) = omega arith
  has_nodes (ConvertTo t e) = has_nodes e
  has_nodes (ArithmeticOf op l r) = omega arith
  has_nodes (CompareOf rel l r) = omega arith
  has_nodes (BothOf l r) = omega arith
  has_nodes (EitherOf l r) = omega arith
  has_nodes (AdvanceOf t l r) = omega arith
  has_nodes (AdvanceByOf t l r) = omega arith
  has_nodes (RetreatOf t l r) = omega arith
  has_nodes (DistanceOf t l r) = omega arith
  has_nodes (ChoiceOf t c l r) = omega arith
  has_nodes (AssignTo p e) = omega arith
  has_nodes (ArithmeticAssignTo op p e) = omega arith
  has_nodes (AdvanceAssignTo p e) = omega arith
  has_nodes (RetreatAssignTo p e) = omega arith
  has_nodes (CommaOf t l r) = omega arith

module _ (size count : ℕ) where
  unary_takes : (n most : ℕ) (op : UnaryOperator) (e : Lowering) → Takes n e → n + 1 ≤ most → Takes most (unary size count op e)
  unary_takes n most unaries.Plus e h le = mapped_takes n most (λ w. w) e h (omega arith)
  unary_takes n most unaries.Minus e h le = mapped_takes n most Neg e h (omega arith)
  unary_takes n most unaries.Complement e h le = mapped_takes n most Com e h (omega arith)
  unary_takes n most unaries.Not e h le = not_takes n most e h le

  step_takes : (most l : ℕ) (m : Moment) (by : Direction) (p : Located) → p.labels ≤ l + most → (step_low size count m by p).labels ≤ l + most
  step_takes most l moments.Before by p h = h
  step_takes most l moments.After by p h =
      let r : Assignable = step_ready size count by p in
      let is = store_labels r.place r in
      omega arith

  assign_low_takes : (o : Option ℕ) (n m most l : ℕ) (q : Located) (e : Lowering) → q.labels ≤ l + n → Takes m e → n + m ≤ most → (assign_low size count o q e).labels ≤ l + most
  assign_low_takes None n m most l q e h g le =
      let r : Assignable = assigned size count true q e.low in
      let y = g.low q.temps q.labels in
      let is = store_labels r.place r in
      omega arith
  assign_low_takes (Some x) n m most l q e h g le = let y = g.deliver (InLocal x) q.temps q.labels in omega arith

  assign_drop_takes : (o : Option ℕ) (n m most l : ℕ) (q : Located) (e : Lowering) → q.labels ≤ l + n → Takes m e → n + m ≤ most → (assign_drop size count o q e).labels ≤ l + most
  assign_drop_takes None n m most l q e h g le = let y = g.low q.temps q.labels in omega arith
  assign_drop_takes (Some x) n m most l q e h g le = let y = g.deliver (InLocal x) q.temps q.labels in omega arith

  assign_takes : (n m most : ℕ) (p : ℕ → ℕ → Located) (e : Lowering) → ((t l : ℕ) → (p t l).labels ≤ l + n) → Takes m e → n + m ≤ most
      → Takes most (effective (λ t l. assign_low size count (local_of size count (p t l)) (p t l) e) (λ t l. assign_drop size count (local_of size count (p t l)) (p t l) e))
  assign_takes n m most p e h g le = effective_takes most _ _
      (λ t l. assign_low_takes (local_of size count (p t l)) n m most l (p t l) e (h t l) g le)
      (λ t l. assign_drop_takes (local_of size count (p t l)) n m most l (p t l) e (h t l) g le)

  update_takes : (n m most : ℕ) (f : CType → Tree → Tree → Tree) (p : ℕ → ℕ → Located) (e : Lowering)
      → ((t l : ℕ) → (p t l).labels ≤ l + n) → Takes m e → n + m ≤ most → Takes most (update_by size count f p e)
  update_takes n m most f p e h g le = effective_takes most _ _
      (λ t l.
      let q : Located = p t l in
      let r : Assignable = updated size count f q e.low in
      let x = h t l in
      let y = g.low q.temps q.labels in
      let is = store_labels r.place r in
      omega arith)
      (λ t l.
      let q : Located = p t l in
      let x = h t l in
      let y = g.low q.temps q.labels in
      omega arith)

  mutual
    place_takes : (p : APlace) (t l : ℕ) → (seek size count p t l).labels ≤ l + (2 * place_nodes p - 2)
    place_takes (VariableAt ty v) t l = omega arith
    place_takes (PointedBy ty e) t l = let x = (way_takes e).low t l in omega arith
    place_takes (ElementBy ty e) t l = (way_takes e).low t l

    pub way_takes : (e : AnExpression) → Takes (2 * nodes e - 2) (way size count e)
    way_takes (Constant n) = valued_takes _ _ (λ t l. omega arith)
    way_takes (LiteralAt n bytes) = valued_takes _ _ (λ t l. omega arith)
    way_takes (ArrayAt ty v bytes) = valued_takes _ _ (λ t l. omega arith)
    way_takes (ReadOf p) = valued_takes _ _ (λ t l. place_takes p t l)
    way_takes (SizeOfExpression n e) = valued_takes _ _ (λ t l. omega arith)
    way_takes (SizeOf n) = valued_takes _ _ (λ t l. omega arith)
    way_takes (AddressOf ty p) = valued_takes _ _ (λ t l. let x = place_takes p t l in omega arith)
    way_takes (CallOf ty f to es) = record {
      low = λ t l. let x = pass_takes es to t l in omega arith;
      branch = λ sense at t l. let x = pass_takes es to t l in omega arith;
      drop = λ t l. let x = pass_takes es to t l in omega arith;
      deliver = λ at t l.
          let x = pass_takes es to t l in
          let is = called_labels at (callee_number count f) (pass size count es to t l) in
          omega arith;
    }
    way_takes (StepOf m by p) = effective_takes _ _ _
        (λ t l. let x = place_takes p t l in step_takes _ l m by (seek size count p t l) (omega arith))
        (λ t l. let x = place_takes p t l in omega arith)
    way_takes (UnaryOf op e) = let one = has_nodes e in unary_takes _ _ op _ (way_takes e) (omega arith)
    way_takes (CastTo ty e) = converting_takes _ _ ty _ (way_takes e) (omega arith)
    way_takes (ConvertTo ty e) = converting_takes _ _ ty _ (way_takes e) (omega arith)
    way_takes (ArithmeticOf op a b) = binary_takes size count _ _ _ (Bin op) _ _ (way_takes a) (way_takes b) (omega arith)
    way_takes (CompareOf r a b) = let one = has_nodes a in relation_takes size count _ _ _ r _ _ (way_takes a) (way_takes b) (omega arith)
    way_takes (BothOf a b) = let one = has_nodes a in chain_takes _ _ _ false _ _ (way_takes a) (way_takes b) (omega arith)
    way_takes (EitherOf a b) = let one = has_nodes a in chain_takes _ _ _ true _ _ (way_takes a) (way_takes b) (omega arith)
    way_takes (AdvanceOf ty a b) = binary_takes size count _ _ _ (advance ty) _ _ (way_takes a) (way_takes b) (omega arith)
    way_takes (AdvanceByOf ty a b) = binary_takes size count _ _ _ (advance_by ty) _ _ (way_takes a) (way_takes b) (omega arith)
    way_takes (RetreatOf ty a b) = binary_takes size count _ _ _ (retreat ty) _ _ (way_takes a) (way_takes b) (omega arith)
    way_takes (DistanceOf ty a b) = binary_takes size count _ _ _ (apart ty) _ _ (way_takes a) (way_takes b) (omega arith)
    way_takes (ChoiceOf ty c a b) =
        let one = has_nodes c in choose_takes _ _ _ _ _ _ _ (way_takes c) (way_takes a) (way_takes b) (omega arith)
    way_takes (AssignTo p e) = assign_takes _ _ _ (seek size count p) _ (place_takes p) (way_takes e) (omega arith)
    way_takes (ArithmeticAssignTo op p e) = update_takes _ _ _ (λ ty. Bin op) (seek size count p) _ (place_takes p) (way_takes e) (omega arith)
    way_takes (AdvanceAssignTo p e) = update_takes _ _ _ advance (seek size count p) _ (place_takes p) (way_takes e) (omega arith)
    way_takes (RetreatAssignTo p e) = update_takes _ _ _ retreat (seek size count p) _ (place_takes p) (way_takes e) (omega arith)
    way_takes (CommaOf ty a b) = comma_takes _ _ _ _ _ (way_takes a) (way_takes b) (omega arith)

    pass_takes : (es : SomeExpressions) (to : List CType) (t l : ℕ) → (pass size count es to t l).labels ≤ l + 2 * all_nodes es
    pass_takes NoExpressions to t l = omega arith
    pass_takes (MoreExpressions e es) to t l =
        let p : Lowered = (way size count e).low t l in
        let x = (way_takes e).low t l in
        let y = pass_takes es (others to) p.temps p.labels in
        omega arith
