-- An operator on typed operands is one node more than they have.
use Rattle.std.proofs.Common.{◌≡◌, ℕ, ◌+◌, ◌≤◌, Bool, true, false, Option, Some, None, Result, Ok, Err, refl, ap, subst, arith}
use Rattle.std.specs.Prelude.{◌&&◌, if◌then◌else◌, List, slice_get}
use Rattle.gg_base.specs.declared.relation.Rel.{Rel}
use Rattle.gg_base.specs.declared.relation.Rel.TheVariants as relations
use Rattle.c_phrases.specs.declared.operator.BinaryOperator.{BinaryOperator}
use Rattle.c_phrases.specs.declared.operator.BinaryOperator.TheVariants as binaries
use Rattle.c_phrases.specs.declared.operator.PrefixOperator.{PrefixOperator}
use Rattle.c_phrases.specs.declared.operator.PrefixOperator.TheVariants as prefixes
use Rattle.c_phrases.specs.declared.operator.StepOperator.{StepOperator}
use Rattle.c_phrases.specs.declared.operator.AssignOperator.{AssignOperator}
use Rattle.c_phrases.specs.declared.operator.AssignOperator.TheVariants as assigns
use Rattle.c_phrases.specs.Phrases.{SomeExps}
use Rattle.c_types.specs.declared.types.CType.{CType}
use Rattle.c_types.specs.declared.types.CType.TheVariants.{Void, Integer, Pointer}
use Rattle.c_types.specs.declared.typed.Variable.TheVariants as variables
use Rattle.c_types.specs.declared.typed.UnaryOperator.{UnaryOperator}
use Rattle.c_types.specs.declared.typed.UnaryOperator.TheVariants as unaries
use Rattle.c_types.specs.declared.typed.ArithmeticOperator.{ArithmeticOperator}
use Rattle.c_types.specs.declared.typed.ArithmeticOperator.TheVariants as ariths
use Rattle.c_types.specs.declared.typed.Moment.{Moment}
use Rattle.c_types.specs.Answers.{Fault, ◌>>=◌}
use Rattle.c_types.specs.Types.{is_integer, is_scalar, pointer_to, size_of}
use Rattle.c_types.specs.Typed.{APlace, VariableAt, PointedBy, ElementBy, AnExpression, ReadOf, SizeOfExpression, SizeOf, UnaryOf, CastTo}
use Rattle.c_types.specs.Typed.{ArithmeticAssignTo, AssignTo, place_type, type_of, operand_size}
use Rattle.c_types.specs.Typed.{SomeExpressions}
use Rattle.c_program.specs.Need.{place_nodes, nodes, all_nodes}
use Rattle.c_typed_scope.specs.declared.entry.Signature.{Signature}
use Rattle.c_typed_operators.specs.Rules.{fits, plus_at, plus}
use Rattle.c_typed_operators.specs.Prefixes.{unary, negation, indirection_at, indirection, element_at, element}
use Rattle.c_typed_operators.specs.Prefixes.{index_of, address_by, address_of, address, prefix_of, step_at, step}
use Rattle.c_typed_operators.specs.Prefixes.{cast_of, sizeof_of, sizeof_type_of}
use Rattle.c_typed_operators.specs.Choices.{arms, choice_by, choice_of, comma_of}
use Rattle.c_typed_operators.specs.Stores.{store, arithmetic_store, plus_store_at, minus_store_at, plus_store}
use Rattle.c_typed_operators.specs.Stores.{minus_store, store_by, assign_of}
use Rattle.c_typed_operators.specs.Table.{IsSum, SumOfIntegers, PointerPlus, PlusPointer, IsDifference, DifferenceOfIntegers, PointerMinus, DifferenceOfPointers, IsOrdered}
use Rattle.c_typed_operators.specs.Table.{OrderOfIntegers, OrderOfPointers, IsBinary}
use Rattle.c_typed_expressions.specs.Calls.{unfit, call_unless, called_by, called}

-- what is answered has at most so many nodes
abbrev pub Within : ℕ → Result AnExpression Fault → Type 0
Within most (Ok t) = nodes t ≤ most
Within most (Err f) = Unit {0}

pub answered : (most : ℕ) (m : Result AnExpression Fault) (u : AnExpression) → Within most m → m ≡ Ok u → nodes u ≤ most
answered most m u h e = subst (Within most) e h

tested : (most : ℕ) (test : Bool) (t : AnExpression) (f : Fault) → nodes t ≤ most → Within most (if test then Ok t else Err f)
tested most true t f h = h
tested most false t f h = tt

-- ---- two operands

-- what is made of two operands has one node more
abbrev Two : AnExpression → AnExpression → AnExpression → Type 0
Two x y t = nodes t ≡ 1 + nodes x + nodes y

sum_nodes : (x y t : AnExpression) → IsSum x y t → Two x y t
sum_nodes x y t (SumOfIntegers row) = ap nodes row.is
sum_nodes x y t (PointerPlus left right is) = ap nodes is
sum_nodes x y t (PlusPointer left right is) = ap nodes is

difference_nodes : (x y t : AnExpression) → IsDifference x y t → Two x y t
difference_nodes x y t (DifferenceOfIntegers row) = ap nodes row.is
difference_nodes x y t (PointerMinus left right is) = ap nodes is
difference_nodes x y t (DifferenceOfPointers both is) = ap nodes is

order_nodes : (signed unsigned : Rel) (x y t : AnExpression) → IsOrdered signed unsigned x y t → Two x y t
order_nodes signed unsigned x y t (OrderOfIntegers left right is) = ap nodes is
order_nodes signed unsigned x y t (OrderOfPointers both is) = ap nodes is

pub binary_nodes : (op : BinaryOperator) (x y t : AnExpression) → IsBinary op x y t → nodes t ≡ 1 + nodes x + nodes y
binary_nodes binaries.OrOr x y t row = ap nodes row.is
binary_nodes binaries.AndAnd x y t row = ap nodes row.is
binary_nodes binaries.Or x y t row = ap nodes row.is
binary_nodes binaries.Xor x y t row = ap nodes row.is
binary_nodes binaries.And x y t row = ap nodes row.is
binary_nodes binaries.Equal x y t row = ap nodes row.is
binary_nodes binaries.NotEqual x y t row = ap nodes row.is
binary_nodes binaries.Less x y t row = order_nodes relations.Lt relations.Ltu x y t row
binary_nodes binaries.LessEqual x y t row = order_nodes relations.Le relations.Leu x y t row
binary_nodes binaries.Greater x y t row = order_nodes relations.Gt relations.Gtu x y t row
binary_nodes binaries.GreaterEqual x y t row = order_nodes relations.Ge relations.Geu x y t row
binary_nodes binaries.ShiftLeft x y t row = ap nodes row.is
binary_nodes binaries.ShiftRight x y t row = ap nodes row.is
binary_nodes binaries.Add x y t row = sum_nodes x y t row
binary_nodes binaries.Subtract x y t row = difference_nodes x y t row
binary_nodes binaries.Multiply x y t row = ap nodes row.is
binary_nodes binaries.Divide x y t row = ap nodes row.is
binary_nodes binaries.Remainder x y t row = ap nodes row.is

pub comma_nodes : (x y : AnExpression) → nodes (comma_of x y) ≡ 1 + nodes x + nodes y
unfolding comma_of
comma_nodes x y = refl

-- ---- an index: a sum that is read

plus_by : (s t : CType) (at : ℕ) (x y : AnExpression) → Within (1 + nodes x + nodes y) (plus_at s t at x y)
plus_by Void Void at x y = tt
plus_by Void (Integer c) at x y = tt
plus_by Void (Pointer c n) at x y = tt
plus_by (Integer b) Void at x y = tt
plus_by (Integer b) (Integer c) at x y = omega arith
plus_by (Integer b) (Pointer c n) at x y = omega arith
plus_by (Pointer b m) Void at x y = tt
plus_by (Pointer b m) (Integer c) at x y = omega arith
plus_by (Pointer b m) (Pointer c n) at x y = tt

plus_nodes : (at : ℕ) (x y : AnExpression) → Within (1 + nodes x + nodes y) (plus at x y)
unfolding plus
plus_nodes at x y = plus_by (type_of x) (type_of y) at x y

element_by : (t : CType) (at : ℕ) (x : AnExpression) → Within (nodes x) (element_at t at x)
element_by Void at x = tt
element_by (Integer b) at x = tt
element_by (Pointer b n) at x = omega arith

element_nodes : (at : ℕ) (x : AnExpression) → Within (nodes x) (element at x)
unfolding element
element_nodes at x = element_by (type_of x) at x

more : (n most : ℕ) (m : Result AnExpression Fault) → n ≤ most → Within n m → Within most m
more n most (Ok t) le h = omega arith
more n most (Err f) le h = tt

index_by : (most : ℕ) (m : Result AnExpression Fault) (at : ℕ) → Within most m → Within most (m >>= λ sum. element at sum)
index_by most (Ok s) at h = more (nodes s) most (element at s) h (element_nodes at s)
index_by most (Err f) at h = tt

pub index_nodes : (at : ℕ) (x y : AnExpression) → Within (1 + nodes x + nodes y) (index_of at x y)
unfolding index_of
index_nodes at x y = index_by (1 + nodes x + nodes y) (plus at x y) at (plus_nodes at x y)

-- ---- one operand

unary_nodes : (op : UnaryOperator) (at : ℕ) (x : AnExpression) → Within (1 + nodes x) (unary op at x)
unfolding unary
unary_nodes op at x = tested _ (is_integer (type_of x)) (UnaryOf op x) _ (omega arith)

negation_nodes : (at : ℕ) (x : AnExpression) → Within (1 + nodes x) (negation at x)
unfolding negation
negation_nodes at x = tested _ (is_scalar (type_of x)) (UnaryOf unaries.Not x) _ (omega arith)

indirection_by : (t : CType) (at : ℕ) (x : AnExpression) → Within (1 + nodes x) (indirection_at t at x)
indirection_by Void at x = tt
indirection_by (Integer b) at x = tt
indirection_by (Pointer b n) at x = omega arith

indirection_nodes : (at : ℕ) (x : AnExpression) → Within (1 + nodes x) (indirection at x)
unfolding indirection
indirection_nodes at x = indirection_by (type_of x) at x

address_by_nodes : (o : Option CType) (at : ℕ) (p : APlace) → Within (1 + place_nodes p) (address_by o at p)
address_by_nodes None at p = tt
address_by_nodes (Some t) at p = omega arith

address_of_nodes : (at : ℕ) (p : APlace) → Within (1 + place_nodes p) (address_of at p)
unfolding address_of
address_of_nodes at (VariableAt t (variables.Automatic n)) = tt
address_of_nodes at (VariableAt t (variables.Parameter n)) = tt
address_of_nodes at (VariableAt t (variables.Global n)) =
    address_by_nodes (pointer_to (place_type (VariableAt t (variables.Global n)))) at (VariableAt t (variables.Global n))
address_of_nodes at (VariableAt t (variables.Static n)) =
    address_by_nodes (pointer_to (place_type (VariableAt t (variables.Static n)))) at (VariableAt t (variables.Static n))
address_of_nodes at (VariableAt t (variables.InBlock o)) =
    address_by_nodes (pointer_to (place_type (VariableAt t (variables.InBlock o)))) at (VariableAt t (variables.InBlock o))
address_of_nodes at (PointedBy t x) = address_by_nodes (pointer_to (place_type (PointedBy t x))) at (PointedBy t x)
address_of_nodes at (ElementBy t x) = address_by_nodes (pointer_to (place_type (ElementBy t x))) at (ElementBy t x)

address_nodes : (at : ℕ) (x : AnExpression) → Within (1 + nodes x) (address at x)
unfolding address
address_nodes at (ReadOf p) = address_of_nodes at p
address_nodes at x = tt

pub prefix_nodes : (op : PrefixOperator) (at : ℕ) (x : AnExpression) → Within (1 + nodes x) (prefix_of op at x)
unfolding prefix_of
prefix_nodes prefixes.Plus at x = unary_nodes unaries.Plus at x
prefix_nodes prefixes.Minus at x = unary_nodes unaries.Minus at x
prefix_nodes prefixes.Complement at x = unary_nodes unaries.Complement at x
prefix_nodes prefixes.Not at x = negation_nodes at x
prefix_nodes prefixes.Indirection at x = indirection_nodes at x
prefix_nodes prefixes.Address at x = address_nodes at x

step_by : (scalar : Bool) (moment : Moment) (op : StepOperator) (at : ℕ) (p : APlace) → Within (1 + place_nodes p) (step_at scalar moment op at p)
step_by true moment op at p = omega arith
step_by false moment op at p = tt

pub step_nodes : (moment : Moment) (op : StepOperator) (at : ℕ) (x : AnExpression) → Within (1 + nodes x) (step moment op at x)
unfolding step
step_nodes moment op at (ReadOf p) = step_by (is_scalar (place_type p)) moment op at p
step_nodes moment op at x = tt

pub cast_nodes : (at : ℕ) (t : CType) (x : AnExpression) → Within (1 + nodes x) (cast_of at t x)
unfolding cast_of
cast_nodes at t x = tested _ (is_scalar t && is_scalar (type_of x)) (CastTo t x) _ (omega arith)

pub sizeof_nodes : (at : ℕ) (x : AnExpression) → Within (1 + nodes x) (sizeof_of at x)
unfolding sizeof_of
sizeof_nodes at x = tested _ (is_scalar (type_of x)) (SizeOfExpression (operand_size x) x) _ (omega arith)

pub sizeof_type_nodes : (at : ℕ) (t : CType) → Within 1 (sizeof_type_of at t)
unfolding sizeof_type_of
sizeof_type_nodes at t = tested _ (is_scalar t) (SizeOf (size_of t)) _ (omega arith)

-- ---- a choice

choice_by_nodes : (o : Option CType) (at : ℕ) (z x y : AnExpression) → Within (1 + nodes z + nodes x + nodes y) (choice_by o at z x y)
choice_by_nodes None at z x y = tt
choice_by_nodes (Some t) at z x y = omega arith

choice_if : (test : Bool) (most : ℕ) (m : Result AnExpression Fault) (f : Fault) → Within most m → Within most (if test then m else Err f)
choice_if true most m f h = h
choice_if false most m f h = tt

pub choice_nodes : (at : ℕ) (z x y : AnExpression) → Within (1 + nodes z + nodes x + nodes y) (choice_of at z x y)
unfolding choice_of
choice_nodes at z x y = choice_if (is_scalar (type_of z)) _ _ _ (choice_by_nodes (arms x y) at z x y)

-- ---- assignments

-- a place and a value
abbrev Both : APlace → AnExpression → ℕ
Both p y = 1 + place_nodes p + nodes y

store_nodes : (at : ℕ) (p : APlace) (y : AnExpression) → Within (Both p y) (store at p y)
unfolding store
store_nodes at p y = tested _ (fits (place_type p) y) (AssignTo p y) _ (omega arith)

arithmetic_store_nodes : (op : ArithmeticOperator) (at : ℕ) (p : APlace) (y : AnExpression) → Within (Both p y) (arithmetic_store op at p y)
unfolding arithmetic_store
arithmetic_store_nodes op at p y = tested _ (is_integer (place_type p) && is_integer (type_of y)) (ArithmeticAssignTo op p y) _ (omega arith)

plus_store_by : (s t : CType) (at : ℕ) (p : APlace) (y : AnExpression) → Within (Both p y) (plus_store_at s t at p y)
plus_store_by Void Void at p y = tt
plus_store_by Void (Integer d) at p y = tt
plus_store_by Void (Pointer d n) at p y = tt
plus_store_by (Integer b) Void at p y = tt
plus_store_by (Integer b) (Integer d) at p y = omega arith
plus_store_by (Integer b) (Pointer d n) at p y = tt
plus_store_by (Pointer b m) Void at p y = tt
plus_store_by (Pointer b m) (Integer d) at p y = omega arith
plus_store_by (Pointer b m) (Pointer d n) at p y = tt

minus_store_by : (s t : CType) (at : ℕ) (p : APlace) (y : AnExpression) → Within (Both p y) (minus_store_at s t at p y)
minus_store_by Void Void at p y = tt
minus_store_by Void (Integer d) at p y = tt
minus_store_by Void (Pointer d n) at p y = tt
minus_store_by (Integer b) Void at p y = tt
minus_store_by (Integer b) (Integer d) at p y = omega arith
minus_store_by (Integer b) (Pointer d n) at p y = tt
minus_store_by (Pointer b m) Void at p y = tt
minus_store_by (Pointer b m) (Integer d) at p y = omega arith
minus_store_by (Pointer b m) (Pointer d n) at p y = tt

plus_store_nodes : (at : ℕ) (p : APlace) (y : AnExpression) → Within (Both p y) (plus_store at p y)
unfolding plus_store
plus_store_nodes at p y = plus_store_by (place_type p) (type_of y) at p y

minus_store_nodes : (at : ℕ) (p : APlace) (y : AnExpression) → Within (Both p y) (minus_store at p y)
unfolding minus_store
minus_store_nodes at p y = minus_store_by (place_type p) (type_of y) at p y

store_by_nodes : (op : AssignOperator) (at : ℕ) (p : APlace) (y : AnExpression) → Within (Both p y) (store_by op at p y)
unfolding store_by
store_by_nodes assigns.Assign at p y = store_nodes at p y
store_by_nodes assigns.Add at p y = plus_store_nodes at p y
store_by_nodes assigns.Subtract at p y = minus_store_nodes at p y
store_by_nodes assigns.Multiply at p y = arithmetic_store_nodes ariths.Multiply at p y
store_by_nodes assigns.Divide at p y = arithmetic_store_nodes ariths.Divide at p y
store_by_nodes assigns.Remainder at p y = arithmetic_store_nodes ariths.Remainder at p y
store_by_nodes assigns.And at p y = arithmetic_store_nodes ariths.And at p y
store_by_nodes assigns.Xor at p y = arithmetic_store_nodes ariths.Xor at p y
store_by_nodes assigns.Or at p y = arithmetic_store_nodes ariths.Or at p y
store_by_nodes assigns.ShiftLeft at p y = arithmetic_store_nodes ariths.ShiftLeft at p y
store_by_nodes assigns.ShiftRight at p y = arithmetic_store_nodes ariths.ShiftRight at p y

pub assign_nodes : (op : AssignOperator) (at : ℕ) (x y : AnExpression) → Within (1 + nodes x + nodes y) (assign_of op at x y)
unfolding assign_of
assign_nodes op at (ReadOf p) y = store_by_nodes op at p y
assign_nodes op at x y = tt

-- ---- a call: a name, and its arguments

call_unless_nodes : (o : Option ℕ) (s : Signature) (n : ℕ) (xs : SomeExpressions) → Within (2 + all_nodes xs) (call_unless o s n xs)
call_unless_nodes None s n xs = omega arith
call_unless_nodes (Some at) s n xs = tt

called_by_nodes : (o : Option Signature) (n opened : ℕ) (es : SomeExps) (xs : SomeExpressions) → Within (2 + all_nodes xs) (called_by o n opened es xs)
called_by_nodes None n opened es xs = tt
called_by_nodes (Some s) n opened es xs = choice_if _ _ _ _ (call_unless_nodes (unfit s.parameters es xs) s n xs)

pub called_nodes : (signatures : List Signature) (o : Option ℕ) (opened : ℕ) (es : SomeExps) (xs : SomeExpressions)
    → Within (2 + all_nodes xs) (called signatures o opened es xs)
called_nodes signatures None opened es xs = tt
called_nodes signatures (Some n) opened es xs = called_by_nodes (slice_get signatures n) n opened es xs
