-- Plain expressions, and the tree that follows each part for part.
use Rattle.std.specs.Prelude.{ℕ}
use Rattle.c_types.specs.declared.typed.UnaryOperator.{UnaryOperator}
use Rattle.c_types.specs.declared.typed.UnaryOperator.TheVariants as unaries
use Rattle.c_types.specs.Typed.{APlace, VariableAt, PointedBy, ElementBy, AnExpression, Constant, LiteralAt, ArrayAt}
use Rattle.c_types.specs.Typed.{ReadOf, SizeOfExpression, SizeOf, AddressOf, CallOf, StepOf}
use Rattle.c_types.specs.Typed.{UnaryOf, CastTo, ConvertTo, ArithmeticOf, CompareOf, BothOf, EitherOf, AdvanceOf}
use Rattle.c_types.specs.Typed.{AdvanceByOf, RetreatOf, DistanceOf, ChoiceOf, AssignTo}
use Rattle.c_types.specs.Typed.{ArithmeticAssignTo, AdvanceAssignTo, RetreatAssignTo, CommaOf, place_type}
use Rattle.c_lower_scheme.specs.Trees.{Tree, Num, Gaddr, Neg, Com, Bin}
use Rattle.c_lower_scheme.specs.Parts.{Where, InMem}
use Rattle.c_lower_scheme.specs.Places.{where_of, address_tree, read_from, fitted}
use Rattle.c_lower_scheme.specs.Values.{advance, advance_by, retreat, apart}

-- every unary operator but `!`
abbrev pub PlainUnary : UnaryOperator → Type 0
PlainUnary unaries.Plus = Unit {0}
PlainUnary unaries.Minus = Unit {0}
PlainUnary unaries.Complement = Unit {0}
PlainUnary unaries.Not = ⊥

-- built of numbers, literals, `sizeof`, names of variables, indexes, `*`, unary and binary operators, casts and conversions
abbrev mutual
  pub PlainPlace : APlace → Type 0
  PlainPlace (VariableAt t v) = Unit {0}
  PlainPlace (PointedBy t e) = Plain e
  PlainPlace (ElementBy t e) = Plain e

  pub Plain : AnExpression → Type 0
  Plain (Constant n) = Unit {0}
  Plain (LiteralAt object size) = Unit {0}
  Plain (ArrayAt t v size) = Unit {0}
  Plain (ReadOf p) = PlainPlace p
  Plain (SizeOfExpression n e) = Unit {0}
  Plain (SizeOf n) = Unit {0}
  Plain (AddressOf t p) = ⊥
  Plain (CallOf t f to es) = ⊥
  Plain (StepOf m by p) = ⊥
  Plain (UnaryOf op e) = PlainUnary op × Plain e
  Plain (CastTo t e) = Plain e
  Plain (ConvertTo t e) = Plain e
  Plain (ArithmeticOf op l r) = Plain l × Plain r
  Plain (CompareOf rel l r) = ⊥
  Plain (BothOf l r) = ⊥
  Plain (EitherOf l r) = ⊥
  Plain (AdvanceOf t l r) = Plain l × Plain r
  Plain (AdvanceByOf t l r) = Plain l × Plain r
  Plain (RetreatOf t l r) = Plain l × Plain r
  Plain (DistanceOf t l r) = Plain l × Plain r
  Plain (ChoiceOf t c l r) = ⊥
  Plain (AssignTo p e) = ⊥
  Plain (ArithmeticAssignTo op p e) = ⊥
  Plain (AdvanceAssignTo p e) = ⊥
  Plain (RetreatAssignTo p e) = ⊥
  Plain (CommaOf t l r) = ⊥

-- the tree of a unary operator over its operand's
abbrev pub unary_tree : UnaryOperator → Tree → Tree
unary_tree unaries.Plus w = w
unary_tree unaries.Minus w = Neg w
unary_tree unaries.Complement w = Com w
unary_tree unaries.Not w = w

-- A number is its constant, a local or parameter its slot, memory is read at its address, and an operator stands over
-- its parts, in a function with so many automatic locals. Phrases that are not plain have no tree of their own, and stand here as 0.
module _ (size : ℕ) where
  abbrev mutual
    pub place_at : APlace → Where
    place_at (VariableAt t v) = where_of size v
    place_at (PointedBy t e) = InMem (plain_tree e)
    place_at (ElementBy t e) = InMem (plain_tree e)

    pub plain_tree : AnExpression → Tree
    plain_tree (Constant n) = Num n
    plain_tree (LiteralAt object size) = Gaddr object
    plain_tree (ArrayAt t v bytes) = address_tree (where_of size v)
    plain_tree (ReadOf p) = read_from (place_type p) (place_at p)
    plain_tree (SizeOfExpression n e) = Num n
    plain_tree (SizeOf n) = Num n
    plain_tree (AddressOf t p) = Num 0
    plain_tree (CallOf t f to es) = Num 0
    plain_tree (StepOf m by p) = Num 0
    plain_tree (UnaryOf op e) = unary_tree op (plain_tree e)
    plain_tree (CastTo t e) = fitted t (plain_tree e)
    plain_tree (ConvertTo t e) = fitted t (plain_tree e)
    plain_tree (ArithmeticOf op l r) = Bin op (plain_tree l) (plain_tree r)
    plain_tree (CompareOf rel l r) = Num 0
    plain_tree (BothOf l r) = Num 0
    plain_tree (EitherOf l r) = Num 0
    plain_tree (AdvanceOf t l r) = advance t (plain_tree l) (plain_tree r)
    plain_tree (AdvanceByOf t l r) = advance_by t (plain_tree l) (plain_tree r)
    plain_tree (RetreatOf t l r) = retreat t (plain_tree l) (plain_tree r)
    plain_tree (DistanceOf t l r) = apart t (plain_tree l) (plain_tree r)
    plain_tree (ChoiceOf t c l r) = Num 0
    plain_tree (AssignTo p e) = Num 0
    plain_tree (ArithmeticAssignTo op p e) = Num 0
    plain_tree (AdvanceAssignTo p e) = Num 0
    plain_tree (RetreatAssignTo p e) = Num 0
    plain_tree (CommaOf t l r) = Num 0
