-- How expressions are lowered: for their value, as a condition, and for their effect alone.
use Rattle.std.specs.Prelude.{ℕ, List, true, false, not}
use Rattle.c_types.specs.declared.types.CType.{CType}
use Rattle.c_types.specs.declared.typed.UnaryOperator.{UnaryOperator}
use Rattle.c_types.specs.declared.typed.UnaryOperator.TheVariants as unaries
use Rattle.c_types.specs.Typed.{APlace, VariableAt, PointedBy, ElementBy, AnExpression, Constant, LiteralAt, ArrayAt}
use Rattle.c_types.specs.Typed.{ReadOf, SizeOfExpression, SizeOf, AddressOf, CallOf, StepOf, UnaryOf, CastTo, ConvertTo}
use Rattle.c_types.specs.Typed.{ArithmeticOf, CompareOf, BothOf, EitherOf, AdvanceOf, AdvanceByOf, RetreatOf}
use Rattle.c_types.specs.Typed.{DistanceOf, ChoiceOf, AssignTo, ArithmeticAssignTo, AdvanceAssignTo, RetreatAssignTo}
use Rattle.c_types.specs.Typed.{CommaOf, SomeExpressions, NoExpressions, MoreExpressions}
use Rattle.c_lower_scheme.specs.Trees.{Num, Gaddr, Neg, Com, Bin}
use Rattle.c_lower_scheme.specs.Parts.{Located, Passing, Lowering, due, over}
use Rattle.c_lower_scheme.specs.Places.{address_tree, where_of, found, pointed, read_low, address_low}
use Rattle.c_lower_scheme.specs.Conditions.{test, valued, conditional, effective, mapped, converting, chain, chain_drop, choose, comma}
use Rattle.c_lower_scheme.specs.Values.{advance, advance_by, retreat, apart, binary, relation}
use Rattle.c_lower_scheme.specs.Calls.{callee_number, called_drop, called_low, called_deliver, passed_as, others, no_arguments}
use Rattle.c_lower_scheme.specs.Calls.{pass_behind}
use Rattle.c_lower_scheme.specs.Assignments.{store_drop, assign_low, assign_drop, local_of, update_by, step_ready, step_low}

-- the number of automatic locals, behind which the temporaries stand, and the number of functions
module _ (size count : ℕ) where
  abbrev pub unary : UnaryOperator → Lowering → Lowering
  unary unaries.Plus e = mapped (λ w. w) e
  unary unaries.Minus e = mapped Neg e
  unary unaries.Complement e = mapped Com e
  unary unaries.Not e = conditional (λ sense to t l. e.branch (not sense) to t l) e.drop

  abbrev mutual
    pub seek : APlace → ℕ → ℕ → Located
    seek (VariableAt t v) u l = found t (where_of size v) u l
    seek (PointedBy t e) u l = pointed t ((way e).low u l)
    seek (ElementBy t e) u l = pointed t ((way e).low u l)

    pub way : AnExpression → Lowering
    way (Constant n) = valued (due (Num n))
    way (LiteralAt n bytes) = valued (due (Gaddr n))
    way (ArrayAt t v bytes) = valued (due (address_tree (where_of size v)))
    way (ReadOf p) = valued (λ t l. read_low (seek p t l))
    way (SizeOfExpression n e) = valued (due (Num n))
    way (SizeOf n) = valued (due (Num n))
    way (AddressOf ty p) = valued (λ t l. address_low (seek p t l))
    way (CallOf ty f to es) = record {
      low = λ t l. called_low (callee_number count f) (pass es to t l);
      branch = λ sense at t l. test sense at (called_low (callee_number count f) (pass es to t l));
      drop = λ t l. called_drop (callee_number count f) (pass es to t l);
      deliver = λ at t l. called_deliver at (callee_number count f) (pass es to t l);
    }
    way (StepOf m by p) = effective (λ t l. step_low size count m by (seek p t l))
        (λ t l. store_drop (step_ready size count by (seek p t l)))
    way (UnaryOf op e) = unary op (way e)
    way (CastTo ty e) = converting ty (way e)
    way (ConvertTo ty e) = converting ty (way e)
    way (ArithmeticOf op a b) = binary size count (Bin op) (way a) (way b)
    way (CompareOf r a b) = relation size count r (way a) (way b)
    way (BothOf a b) = conditional (chain false (way a) (way b)) (chain_drop (way a) false (way b))
    way (EitherOf a b) = conditional (chain true (way a) (way b)) (chain_drop (way a) true (way b))
    way (AdvanceOf ty a b) = binary size count (advance ty) (way a) (way b)
    way (AdvanceByOf ty a b) = binary size count (advance_by ty) (way a) (way b)
    way (RetreatOf ty a b) = binary size count (retreat ty) (way a) (way b)
    way (DistanceOf ty a b) = binary size count (apart ty) (way a) (way b)
    way (ChoiceOf ty c a b) = choose (way c) (way a) (way b)
    way (AssignTo p e) = effective (λ t l. assign_low size count (local_of size count (seek p t l)) (seek p t l) (way e))
        (λ t l. assign_drop size count (local_of size count (seek p t l)) (seek p t l) (way e))
    way (ArithmeticAssignTo op p e) = update_by size count (λ ty. Bin op) (seek p) (way e)
    way (AdvanceAssignTo p e) = update_by size count advance (seek p) (way e)
    way (RetreatAssignTo p e) = update_by size count retreat (seek p) (way e)
    way (CommaOf ty a b) = comma (way a) (way b)

    -- the arguments of a call, whose parameters have these types
    pub pass : SomeExpressions → List CType → ℕ → ℕ → Passing
    pass NoExpressions to t l = no_arguments t l
    pass (MoreExpressions e es) to t l = pass_behind size count (over (passed_as to) ((way e).low t l)) (pass es (others to))
